-- The symbols at a set of columns in closed form, for any check sums: put into the columns, they take these sums away. Neither the start of the exponents
-- nor `weight` plays a part: see `Weights.res-weight`.
use mathlib.Core.Path.{◌≡◌, sym, ap, ap₂, fun_ext, ◌∙◌}
use mathlib.Core.Bool.{true, false}
use mathlib.Core.List.{List, map}
use Prim.Native.Nat.{ℕ, suc, ◌-◌, ◌*◌, ◌%◌, ◌≤◌, ◌<◌}
use native.Mathlib.Nat.{mod-lt, le_of_lt}
use native.Mathlib.Omega.{arith}
use lib.Dec.{lit<}
use lib.ListN.{get_or}
use Rattle.algebra.specs.Locator.{locator}
use Rattle.algebra.specs.Polynomial.{conv, eval}
use Rattle.algebra.specs.Sum.{sum}
use Rattle.algebra.proofs.Completion.{scale, weight_of, completion_solves}
use Rattle.algebra.proofs.Convolution.{conv-sum}
use Rattle.algebra.proofs.RingLaws.{zero-add, neg-mul}
use Rattle.algebra.proofs.Sums.{sum_ext, sum-neg}
use Rattle.columns.specs.Columns.{has, members}
use Rattle.columns.specs.declared.Columns.{Columns}
use Rattle.field.specs.Coefficients.{value}
use Rattle.field.specs.Residue.{minus, times, inverse, quotient}
use Rattle.lists.specs.Total.{total}
use Rattle.field.proofs.Bridge.{res-zero, res-mod, res-mul, res-total, res-minus, res-times, res-inverse, res-quotient}
use Rattle.field.proofs.Prime257.{prime_257}
use Rattle.frame.proofs.Weights.{weight_at, res-weight}
use Rattle.frame.proofs.CheckSums.{row_sum, row_sum-members}
use Rattle.field257.proofs.Field257.{F257, R257, res257, locator_at, res-locator}
use Rattle.field257.proofs.LocatorPolynomial.{length-locator_polynomial, locator-coefficients, res-value}
use Rattle.field257.proofs.Members.{size, member, Below, member-has, member-locators_distinct, member-locators-nonzero}
use Rattle.frame.proofs.Others.{others, others-size, members-others}
use Rattle.field257.specs.LocatorPolynomial.{locator_polynomial}
use Rattle.frame.specs.Completion.{without}
use Rattle.field257.specs.Powers.{locator_of}
use Rattle.frame.specs.Frame.{weight}
open F257 use {inv}
open R257 use {car, zero as 𝟘, add as ◌⊕◌, mul as ◌⊗◌, neg}

infixl 60 ◌⊕◌
infixl 70 ◌⊗◌
module _ (b : ℕ) (J : Columns) (s : ℕ → ℕ) where
  abbrev pub other_columns : ℕ → List ℕ
  other_columns i = locator_polynomial (without i (members J))

  -- the symbol at column i of the set of m columns, for the check sums s 1 .. s m
  abbrev pub symbol_for : (m i : ℕ) → ℕ
  symbol_for m i =
      minus 257 0 (quotient 257 (total m (λ t. get_or (other_columns i) t 0 * s (m - t)) % 257)
      (times 257 (weight b i m % 257) (value 257 (other_columns i) (inverse 257 (locator_of i)))))

  module _ (d : ℕ) (sized : size J ≡ suc d) where
    -- the sums in the field
    abbrev given : ℕ → car
    given j = res257 (s (suc j))

    module _ (k : ℕ) (h : k < suc d) where
      abbrev i : ℕ
      i = member J k

      abbrev rest : List ℕ
      rest = locator_polynomial (others J k)

      abbrev Λ : ℕ → car
      Λ = locator R257 (map locator_at (others J k))

      res-part : res257 (total (suc d) (λ t. get_or rest t 0 * s (suc d - t)) % 257) ≡ conv R257 Λ given d
      res-part =
          res-mod 257 prime_257 _ ∙ res-total 257 prime_257 (suc d) (λ t. get_or rest t 0 * s (suc d - t))
          ∙ sum_ext R257 (suc d) _ _ (λ t l.
          let q : suc d - t ≡ suc (d - t) = omega arith in
          res-mul 257 prime_257 (get_or rest t 0) (s (suc d - t))
          ∙ ap₂ ◌⊗◌ (locator-coefficients (others J k) t) (ap (λ (j : ℕ). res257 (s j)) q))
          ∙ sym (conv-sum R257 Λ given d)

      res-scale : res257 (times 257 (weight b i (suc d) % 257) (value 257 rest (inverse 257 (locator_of i))))
          ≡ scale F257 d b (locator_at i) (map locator_at (others J k))
      res-scale =
          res-times 257 prime_257 (weight b i (suc d) % 257) (value 257 rest (inverse 257 (locator_of i)))
          ∙ ap₂ ◌⊗◌ (res-mod 257 prime_257 (weight b i (suc d)) ∙ res-weight b i d)
          (res-value d rest (inverse 257 (locator_of i)) (length-locator_polynomial (others J k) ∙ ap suc (others-size J d sized k h))
          ∙ ap₂ (λ f y. eval R257 d f y) (fun_ext (locator-coefficients (others J k)))
          (res-inverse 257 prime_257 (locator_of i) ∙ ap inv (res-locator i)))

      res-symbol : res257 (symbol_for (size J) i) ≡ neg (weight_of F257 d b (locator_at i) (map locator_at (others J k)) given)
      res-symbol =
          ap (λ (m : ℕ). res257 (symbol_for m i)) sized
          ∙ res-minus 257 prime_257 0 _ (le_of_lt (mod-lt _ (lit< tt)))
          ∙ ap₂ (λ a c. a ⊕ neg c) (res-zero 257 prime_257)
          (res-quotient 257 prime_257 _ _ ∙ ap₂ (λ a c. a ⊗ inv c) res-part res-scale)
          ∙ zero-add R257 _

    -- the check sums of the symbols put into the columns
    pub symbols-sum : (n : ℕ) → n ≤ 256 → Below n J → (put : ℕ → car) → ((i : ℕ) → has J i ≡ false → put i ≡ 𝟘)
        → ((i : ℕ) → has J i ≡ true → put i ≡ res257 (symbol_for (size J) i)) → (j : ℕ) → j < suc d → row_sum b n put j ≡ neg (given j)
    symbols-sum n narrow below put outside inside j h =
        row_sum-members b n J narrow below put outside j
        ∙ ap (λ m. sum R257 m (λ k. put (member J k) ⊗ weight_at b (member J k) j)) sized
        ∙ sum_ext R257 (suc d) _ (λ k. neg (w k ⊗ weight_at b (member J k) j)) (λ k l.
        ap (λ a. a ⊗ weight_at b (member J k) j) (inside (member J k) (member-has J k (rw sized l)) ∙ res-symbol k l)
        ∙ neg-mul R257 (w k) (weight_at b (member J k) j))
        ∙ sum-neg R257 (suc d) (λ k. w k ⊗ weight_at b (member J k) j)
        ∙ ap neg (completion_solves F257 d (λ k. locator_at (member J k)) (rw sized at (member-locators_distinct J)) (rw sized at (member-locators-nonzero J))
        (λ k. map locator_at (others J k)) (members-others J d sized) b given j h)
      where
        w : ℕ → car
        w k = weight_of F257 d b (locator_at (member J k)) (map locator_at (others J k)) given
