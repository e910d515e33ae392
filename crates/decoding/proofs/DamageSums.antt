-- The check sums of a frame f are the power sums of its difference from a codeword g.
use mathlib.Core.Path.{◌≡◌, sym, ap, ◌∙◌}
use mathlib.Core.List.{List}
use Prim.Native.Nat.{ℕ, ◌≤◌, ◌<◌}
use Rattle.algebra.proofs.RingLaws.{neg-zero}
use Rattle.decoding.proofs.FrameSums.{sums, error, error-sums, codeword-sums}
use Rattle.decoding.proofs.Recurrence.{power_sum}
use Rattle.frame.specs.Frame.{Codeword}
use Rattle.frame.specs.Shape.{checks_of}
use Rattle.frame.specs.declared.Shape.{Shape}
use Rattle.field257.proofs.Field257.{R257, locator_at}
open R257 use {add as ◌⊕◌, neg, add-zero}

infixl 60 ◌⊕◌
module _ (s : Shape) (g f : List ℕ) (code : Codeword s g) where
  abbrev b : ℕ
  b = s.exponent

  abbrev n : ℕ
  n = s.columns

  pub damage-sums : (h j : ℕ) → h < s.rows → 1 ≤ j → j ≤ checks_of s h → sums b n f h j ≡ power_sum R257 n locator_at (error b n f g h) j
  damage-sums h j below one within =
      sym (add-zero _) ∙ ap (λ x. sums b n f h j ⊕ x) (sym (ap neg (codeword-sums s g code h j below one within) ∙ neg-zero R257))
      ∙ error-sums b n f g h j
