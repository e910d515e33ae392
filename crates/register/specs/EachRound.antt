-- Demand 2 of Algorithm 4: what it has found after every finished round n of N. The finder is the case n = N. Proved in proofs/EachRound.antt.
use Rattle.std.specs.Prelude.{◌≡◌, Bool, true, List, ℕ, ◌-◌, ◌≤◌}
use Rattle.field.specs.Prime.{Prime}
use Rattle.register.specs.Algorithm4.{found, found_alone}
use Rattle.register.specs.Register.{Shortest, Alone}
use Rattle.register.specs.Sequences.{longest, shortened}

-- l and σ are a shortest register of the sequences, and the mark says whether it is alone
pub record IsShortest (p l : ℕ) (ss : List (List ℕ)) (σ : List ℕ) (mark : Bool) : Type 0 where
  pub shortest : Shortest p l ss σ
  pub alone : mark ≡ true → Alone p l ss σ
  pub marked : Alone p l ss σ → mark ≡ true

-- It is a shortest register of the sequences without their last N − n symbols, whatever numbers the symbols are: sums are taken modulo p.
abbrev pub EachRound : Type 0
EachRound =
    (p : ℕ) (ss : List (List ℕ)) (n : ℕ) → Prime p → n ≤ longest ss →
    IsShortest p (found p ss n).size (shortened (longest ss - n) ss) (found p ss n).taps (found_alone p ss n)
