-- The register of what is left of held check sums: what its search asks, and what it answers and leaves.
use Rattle.std.specs.Prelude.{◌≡◌, Bool, true, List, ◌++◌, ℕ, ◌-◌, ◌≤◌, ◌<◌, length, get_or, take, replicate}
use Rattle.decoding.specs.Locating.{size_of, taps_of, alone_of}
use Rattle.decoding.specs.Remaining.{all_remaining}
use Rattle.finder.specs.declared.Register.{Register}
use Rattle.frame.specs.DeclaredCells.{Declared, declared_by, nothing_declared, declarable}
use Rattle.frame.specs.Frame.{held_sequences}
use Rattle.frame.specs.Shape.{is_shape}
use Rattle.frame.specs.declared.Shape.{Shape}
use Rattle.refusal.specs.Outcome.{outcome, passed}
use Rattle.remaining.specs.declared.rows.Left.{Left}
use Rattle.sequences.specs.Tests.{tests}

-- sequences that pass the finder's tests: the first lengths, and the first symbols
pub record Findable (rows : ℕ) (lengths : List ℕ) (all : ℕ) (symbols taps : List ℕ) : Type 0 where
  pub few : rows ≤ 8
  pub room : all ≤ length symbols
  pub accepted : outcome (tests 257 (take rows lengths) (take all symbols) (length taps)) ≡ passed

-- the same of what is left of sums
abbrev pub LeftLent : Shape → Left → (taps : List ℕ) → Type 0
LeftLent s left taps = Findable s.rows left.lengths left.count left.symbols taps

-- Held sums of which a register can be sought: the cells can be declared, `none` tells whether there are any, and the buffer holds 65 zeros.
pub record Registrable (s : Shape) (none : Bool) (declared sums taps : List ℕ) : Type 0 where
  pub shape : is_shape s ≡ true
  pub flag : none ≡ nothing_declared declared
  pub declarable : declarable s (declared_by declared) ≡ true
  pub small : (k : ℕ) → get_or sums k 0 < 257
  pub zeros : taps ≡ replicate 65 0

-- the length and the alone mark are answered, and the taps are left, then zeros up to 65 entries
pub record RegisterOf (s : Shape) (D : Declared) (sums left : List ℕ) (r : Register) : Type 0 where
  pub size : r.length ≡ size_of (all_remaining s D (held_sequences s sums))
  pub alone : r.alone ≡ alone_of (all_remaining s D (held_sequences s sums))
  pub leaves :
      left ≡ taps_of (all_remaining s D (held_sequences s sums)) ++
      replicate (65 - length (taps_of (all_remaining s D (held_sequences s sums)))) 0
