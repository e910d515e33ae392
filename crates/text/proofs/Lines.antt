-- A line written piece by piece: a letter, numbers, more numbers, and the newline.
use mathlib.Core.Path.{sym, ap}
use mathlib.Core.List.{List, [], ◌∷◌, ◌++◌}
use Prim.Native.Nat.{ℕ, ◌^◌, ◌≤◌, ◌<◌}
use native.Mathlib.Omega.{arith}
use lib.ListN.{length}
use Rattle.refusal.specs.Number.{number}
use Rattle.refusal.specs.declared.Refusal.{Refusal}
use Rattle.refusal.specs.declared.Refusal.TheVariants.{Modulus, Count, Lengths, Symbol, Columns, Checks, FrameSize, TapBuffer, BadRecord}
use Rattle.refusal.specs.declared.Refusal.TheVariants.{Empty, NotLocated, SumsDiffer, NotAlone, ShortRow, NoFrame, BadCells}
use Rattle.refusal.specs.declared.Refusal.TheVariants.{Exponent, NotUnfinished, UniformFrame}
use Rattle.text.specs.Text.{spaced, line}
use Rattle.text.specs.Written.{Written}
use Rattle.text.proofs.Digits.{spaced-append}
use Rattle.text.proofs.Writing.{written_as, written_then}

-- the number of a refusal fits 16 bits
pub number_small : (k : Refusal) → number k < 2 ^ 16
number_small Modulus = omega arith
number_small Count = omega arith
number_small Lengths = omega arith
number_small Symbol = omega arith
number_small Columns = omega arith
number_small Checks = omega arith
number_small FrameSize = omega arith
number_small TapBuffer = omega arith
number_small BadRecord = omega arith
number_small Empty = omega arith
number_small NotLocated = omega arith
number_small SumsDiffer = omega arith
number_small NotAlone = omega arith
number_small ShortRow = omega arith
number_small NoFrame = omega arith
number_small BadCells = omega arith
number_small Exponent = omega arith
number_small NotUnfinished = omega arith
number_small UniformFrame = omega arith

module _ (l : List ℕ) (at letter : ℕ) (xs m : List ℕ) (e : ℕ) (fits : e ≤ length l) (w : Written l at (letter ∷ spaced xs) m e) where
  pub line-more : (ys q : List ℕ) (f : ℕ) → Written m e (spaced ys) q f → Written l at (letter ∷ spaced (xs ++ ys)) q f
  line-more ys q f v =
      written_as l at (letter ∷ (spaced xs ++ spaced ys)) (letter ∷ spaced (xs ++ ys)) q f (ap (λ (t : List ℕ). letter ∷ t) (sym (spaced-append xs ys)))
      (written_then l at (letter ∷ spaced xs) m e w fits (spaced ys) q f v)

  pub line-end : (q : List ℕ) (f : ℕ) → Written m e (10 ∷ []) q f → Written l at (line letter xs) q f
  unfolding line
  line-end q f v = written_then l at (letter ∷ spaced xs) m e w fits (10 ∷ []) q f v
