-- Which columns a register names depends on the number of columns of the shape alone, and so not on the exponent at which the check sums begin
-- (SPECIFICATION.md, "Frames"). Proved in proofs/NamedColumns.antt.
use Rattle.std.specs.Prelude.{◌≡◌, List, ℕ}
use Rattle.frame.specs.declared.Shape.{Shape}
use Rattle.decoding.specs.Locating.{named_columns}

abbrev pub NamedAlike : Type 0
NamedAlike = (s t : Shape) → s.columns ≡ t.columns → (σ : List ℕ) → named_columns s σ ≡ named_columns t σ
