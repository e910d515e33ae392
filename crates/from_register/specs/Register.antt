-- Locating by a register: what it asks, and what a job holds afterwards.
use Rattle.std.specs.Prelude.{◌≡◌, Bool, true, List, ◌++◌, ℕ, suc, ◌-◌, ◌≤◌, ◌<◌, length, get_or, take, replicate, Result, Ok, Err}
use Rattle.columns.specs.Columns.{members}
use Rattle.columns.specs.declared.Columns.{Columns}
use Rattle.decoding.specs.Remaining.{left_reach}
use Rattle.frame.specs.DeclaredCells.{declared_by, nothing_declared, declarable}
use Rattle.frame.specs.Frame.{held_sequences}
use Rattle.frame.specs.Shape.{is_shape}
use Rattle.frame.specs.declared.Shape.{Shape}
use Rattle.job.specs.Calls.{Outcome, refusing, by_register_tests, by_register_gives}
use Rattle.job.specs.Job.{Arrays, shaped_job}
use Rattle.job.specs.declared.Progress.{Progress}
use Rattle.refusal.specs.Order.{first_of}
use Rattle.refusal.specs.declared.Refusal.{Refusal}
use Rattle.register.specs.Register.{Register}

-- a shape, and the flag that tells whether the words declare nothing
pub record Reachable (s : Shape) (none : Bool) (declared : List ℕ) : Type 0 where
  pub shape : is_shape s ≡ true
  pub flag : none ≡ nothing_declared declared

-- sums to locate from, with cells that can be declared
pub record Locatable (s : Shape) (none : Bool) (declared sums : List ℕ) : Type 0 where
  pub shape : is_shape s ≡ true
  pub flag : none ≡ nothing_declared declared
  pub declarable : declarable s (declared_by declared) ≡ true
  pub small : (k : ℕ) → get_or sums k 0 < 257

-- the same, and each row reaches as many columns as are named
pub record Completable (s : Shape) (none : Bool) (declared : List ℕ) (named : Columns) (sums : List ℕ) : Type 0 where
  pub locatable : Locatable s none declared sums
  pub reach : left_reach s (declared_by declared) (length (members named)) ≡ true

-- the same, and a register of length c, 64 at most, with zeros up to 65 entries
pub record Held (s : Shape) (none : Bool) (declared sums : List ℕ) (c : ℕ) (buffer : List ℕ) : Type 0 where
  pub locatable : Locatable s none declared sums
  pub short : c ≤ 64
  pub register : Register 257 c (take (suc c) buffer)
  pub zeros : buffer ≡ take (suc c) buffer ++ replicate (65 - length (take (suc c) buffer)) 0

-- what is given beside the arrays a, by the register of length c with the taps σ and its alone mark; f is the frame that the call was lent
abbrev pub by_register : Shape → Arrays → (words sums : List ℕ) (c : ℕ) (σ : List ℕ) (alone : Bool) (f : List ℕ) → Outcome
by_register s a words sums c σ alone f =
    first_of (refusing (shaped_job s a) f) (by_register_tests s (declared_by words) (held_sequences s sums) c σ alone)
    (by_register_gives s a words sums c σ f)

-- what a job holds in an array afterwards: the new content where columns are answered, and the old one where it is refused
abbrev pub after : Result Progress Refusal → (old new : List ℕ) → List ℕ
after (Ok (Progress.Columns c)) old new = new
after (Ok Progress.Unfinished) old new = old
after (Err why) old new = old
