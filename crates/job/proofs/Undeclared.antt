-- Where nothing is declared the frame is tested, summed and mended as it stands; and where every row has c checks, a locate can have left a job of length c.
use mathlib.Core.Path.{◌≡◌, sym, ap, ap₂, ◌∙◌}
use mathlib.Core.Bool.{true, ◌&&◌}
use mathlib.Core.List.{List}
use Prim.Native.Nat.{ℕ, ◌*◌}
use lib.ListN.{length}
use Rattle.columns.specs.Columns.{Sound}
use Rattle.columns.specs.declared.Columns.{Columns}
use Rattle.decoding.specs.Locating.{rows_reach}
use Rattle.decoding.specs.Remaining.{mended}
use Rattle.decoding.proofs.NothingDeclared.{reach-none, mended-none}
use Rattle.frame.specs.Completion.{completed}
use Rattle.frame.specs.DeclaredCells.{Declared, declared_by, nothing_declared, as_read, read_tests}
use Rattle.frame.specs.Encode.{each_row}
use Rattle.frame.specs.Frame.{held_sums, frame_tests}
use Rattle.frame.specs.Shape.{is_shape}
use Rattle.frame.specs.declared.Shape.{Shape}
use Rattle.frame.proofs.NothingDeclared.{rows-unmarked, read_as_it_stands, nothing-declarable, tests-none}
use Rattle.job.specs.Job.{declared_sound}
use Rattle.refusal.specs.Outcome.{outcome, passed, refused}

module _ (s : Shape) (shape : is_shape s ≡ true) (words : List ℕ) (nothing : nothing_declared words ≡ true) where
  abbrev D : Declared
  D = declared_by words

  pub whole-tests : (f : List ℕ) → outcome (frame_tests s f) ≡ outcome (read_tests s (declared_by words) f)
  whole-tests f = tests-none s shape words nothing refused passed f

  pub whole-sums : (f : List ℕ) → length f ≡ s.rows * s.columns → held_sums s f ≡ held_sums s (as_read s (declared_by words) f)
  whole-sums f whole = ap (held_sums s) (sym (read_as_it_stands s shape words nothing f whole))

  pub whole-sound : (c : ℕ) → rows_reach s c ≡ true → declared_sound s (declared_by words) c ≡ true
  unfolding declared_sound
  whole-sound c reach =
      ap₂ ◌&&◌ (nothing-declarable s shape words nothing) (reach-none s shape D (rows-unmarked s shape words nothing) c ∙ reach)

  pub whole-mended : (M : Columns) (f : List ℕ) → Sound M
      → each_row s.columns (λ h. completed s.exponent s.columns M) s.rows f ≡ mended s (declared_by words) M f
  whole-mended M f four = sym (mended-none s shape D (rows-unmarked s shape words nothing) M f four)
