-- What the definitions give where the literal is part of what is promised: the words of a set of columns, the number of each refusal, and after which of them
-- the job is shaped (SPECIFICATION.md, "Jobs" and "Refusals"). Proved in proofs/Examples.antt.
use Rattle.std.specs.Prelude.{◌≡◌, true, false, cond, ◌||◌, List, [], ◌∷◌, map, ◌/◌, ◌%◌, ◌^◌, eqb}
use Rattle.columns.specs.Columns.{columns_of, members}
use Rattle.columns.specs.declared.Columns.{Columns}
use Rattle.job.specs.Calls.{late}
use Rattle.job.specs.Job.{no_columns}
use Rattle.lists.specs.Tabulate.{tabulate}
use Rattle.refusal.specs.Number.{number}
use Rattle.refusal.specs.declared.Refusal.{Refusal}
use Rattle.refusal.specs.declared.Refusal.TheVariants as refusal

-- the set of columns 0, 64 and 255
unfoldable pub marked : Columns
marked = columns_of (λ i. eqb i 0 || (eqb i 64 || eqb i 255))

-- all refusals: of the input, and of the state
unfoldable pub refusals : List Refusal
refusals =
    refusal.Modulus ∷ refusal.Count ∷ refusal.Lengths ∷ refusal.Symbol ∷ refusal.Columns ∷ refusal.Checks ∷ refusal.FrameSize ∷ refusal.TapBuffer ∷
    refusal.BadRecord ∷
    refusal.Empty ∷ refusal.NotLocated ∷ refusal.SumsDiffer ∷ refusal.NotAlone ∷ refusal.ShortRow ∷ refusal.NoFrame ∷ refusal.BadCells ∷
    refusal.Exponent ∷ refusal.NotUnfinished ∷ refusal.UniformFrame ∷ []

pub record Literals : Type 0 where
  -- the lowest bits of words 0 and 1 and the highest bit of word 3
  pub words : marked.words ≡ 1 ∷ 1 ∷ 0 ∷ 9223372036854775808 ∷ []
  pub columns : members marked ≡ 0 ∷ 64 ∷ 255 ∷ []
  pub all : members (columns_of (λ i. true)) ≡ tabulate 256 (λ i. i)
  -- of each column alone: bit i mod 64 of word i / 64
  pub each : tabulate 256 (λ i. (columns_of (eqb i)).words) ≡ tabulate 256 (λ i. tabulate 4 (λ w. cond (eqb w (i / 64)) (2 ^ (i % 64)) 0))
  pub none : no_columns.words ≡ 0 ∷ 0 ∷ 0 ∷ 0 ∷ []
  pub numbers : map number refusals ≡ 1 ∷ 2 ∷ 3 ∷ 4 ∷ 5 ∷ 6 ∷ 7 ∷ 8 ∷ 9 ∷ 21 ∷ 22 ∷ 23 ∷ 24 ∷ 25 ∷ 26 ∷ 31 ∷ 32 ∷ 33 ∷ 34 ∷ []
  -- the job is shaped after 24, 25, 26 and after no other
  pub shaping :
      map late (map number refusals) ≡
      false ∷ false ∷ false ∷ false ∷ false ∷ false ∷ false ∷ false ∷ false ∷ false ∷ false ∷ false ∷ true ∷ true ∷ true ∷ false ∷ false ∷ false ∷ false ∷ []
