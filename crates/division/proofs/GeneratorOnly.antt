-- The contract of the generator polynomial leaves one list of each length: two that meet it have the same leading coefficient and the same m check sums, so
-- that their difference, a row that is 0 outside m columns, is 0.
use mathlib.Core.Path.{◌≡◌, sym, ap, ap₂, ◌∙◌}
use mathlib.Core.Bool.{false, false≢true}
use mathlib.Core.List.{List}
use Prim.Native.Nat.{ℕ, suc, ◌≤◌, ◌<◌}
use native.Mathlib.Decide.{dec_lt, ℕ_discrete}
use native.Mathlib.Omega.{arith}
use borrow.Author.Tests.{lt-ltb}
use lib.Dec.{ltb}
use lib.ListN.{length, get_or}
use lib.Seq.{ext_get_or}
use Rattle.algebra.proofs.RingLaws.{eq_of_sub-zero}
use Rattle.columns.specs.Columns.{has}
use Rattle.columns.proofs.Marks.{has-columns_of}
use Rattle.field257.proofs.Field257.{R257, res257, res-tells, symbols}
use Rattle.frame.proofs.CheckSums.{row_sum-sub, supported_zero, zero_in_field}
use Rattle.frame.proofs.Encoding.{first_columns, size-first, has_first}
use Rattle.division.specs.GeneratorPolynomial.{GeneratorPolynomial}
open R257 use {zero as 𝟘, add as ◌⊕◌, neg, add-neg}

infixl 60 ◌⊕◌
module _ (b m : ℕ) (g h : List ℕ) (few : m ≤ 64) (one : GeneratorPolynomial b m g) (other : GeneratorPolynomial b m h) where
  -- the entries that are not among the roots' unknowns are given
  same-outside : (i : ℕ) → m ≤ i → get_or g i 0 ≡ get_or h i 0
  same-outside i le = pick (ℕ_discrete i m)
    where
      pick : Dec (i ≡ m) → get_or g i 0 ≡ get_or h i 0
      pick (yes e) = ap (λ (k : ℕ). get_or g k 0) e ∙ one.divisor.leading ∙ sym (ap (λ (k : ℕ). get_or h k 0) e ∙ other.divisor.leading)
      pick (no e) = one.divisor.past i (omega (arith, e)) ∙ sym (other.divisor.past i (omega (arith, e)))

  outside : (i : ℕ) → has (first_columns m) i ≡ false → symbols g i ⊕ neg (symbols h i) ≡ 𝟘
  outside i none = ap (λ (x : ℕ). res257 x ⊕ neg (symbols h i)) (pick (dec_lt i m)) ∙ add-neg (symbols h i)
    where
      pick : Dec (i < m) → get_or g i 0 ≡ get_or h i 0
      pick (yes l) = absurd (false≢true (sym none ∙ has-columns_of (λ k. ltb k m) i (omega arith) ∙ lt-ltb i m l))
      pick (no l) = same-outside i (omega arith)

  same-entry : (i : ℕ) → get_or g i 0 ≡ get_or h i 0
  same-entry i =
      res-tells (get_or g i 0) (get_or h i 0) (one.divisor.below i) (other.divisor.below i) (eq_of_sub-zero R257 _ _
      (supported_zero b (suc m) (first_columns m) (omega arith) (λ k e. let l = has_first m k e in omega arith) (λ k. symbols g k ⊕ neg (symbols h k)) outside
      (λ j l.
      let short : j < m = let s = size-first m (omega arith) in omega arith in
      row_sum-sub b (suc m) (symbols g) (symbols h) j
      ∙ ap₂ (λ x y. x ⊕ neg y) (zero_in_field b (suc m) g j (one.sums j short)) (zero_in_field b (suc m) h j (other.sums j short)) ∙ add-neg 𝟘) i))

  pub generator-only : length g ≡ length h → g ≡ h
  generator-only e = ext_get_or 0 g h e (λ i l. same-entry i)
