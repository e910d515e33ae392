-- The quotient divided once more by the factor of its column is evaluated: what is carried last, times the weight of the column in the first check sum, is the
-- weight in the last one times the value at the inverse of the locator.
use mathlib.Core.Path.{◌≡◌, sym, ap, ap₂, ◌∙◌}
use mathlib.Core.List.{List}
use Prim.Native.Nat.{ℕ, suc, ◌+◌, ◌%◌}
use native.Mathlib.Nat.{mod-lt}
use native.Mathlib.Omega.{arith}
use lib.Dec.{lit<}
use lib.ListN.{length}
use Rattle.algebra.specs.Polynomial.{eval}
use Rattle.algebra.specs.Sum.{pow}
use Rattle.algebra.proofs.HornerRule.{horner}
use Rattle.algebra.proofs.Powers.{pow-add}
use Rattle.algebra.proofs.RingLaws.{mul-zero}
use Rattle.field.specs.Coefficients.{value}
use Rattle.field.specs.Residue.{times, inverse}
use Rattle.field.proofs.Bridge.{res-zero, res-mod, res-add, res-mul, res-times, res-inverse}
use Rattle.field.proofs.Prime257.{prime_257}
use Rattle.field257.specs.Powers.{locator_of}
use Rattle.field257.proofs.Field257.{F257, R257, res257, res-tells, symbols, locator_at, res-locator}
use Rattle.field257.proofs.LocatorPolynomial.{res-value}
use Rattle.field257.proofs.Locators.{locator-nonzero}
use Rattle.frame.specs.Frame.{weight}
use Rattle.frame.proofs.Weights.{weight_at, res-weight}
use Rattle.weights.specs.Weights.{carried}
use Rattle.weights.proofs.Division.{carried-zero, carried-suc}
open F257 use {inv, mul-inv}
open R257 use {car, add as ◌⊕◌, mul as ◌⊗◌, add-zero, mul_assoc}

infixl 60 ◌⊕◌
infixl 70 ◌⊗◌
module _ (i : ℕ) (f : List ℕ) where
  res-carried : (k : ℕ) → res257 (carried f (locator_of i) (suc k)) ≡ symbols f k ⊕ locator_at i ⊗ res257 (carried f (locator_of i) k)
  res-carried k =
      ap res257 (carried-suc f (locator_of i) k) ∙ res-mod 257 prime_257 _ ∙ res-add 257 prime_257 _ _
      ∙ ap (λ z. symbols f k ⊕ z) (res-mul 257 prime_257 _ _ ∙ ap (λ x. x ⊗ res257 (carried f (locator_of i) k)) (res-locator i))

  pub carried-value : (k : ℕ) → res257 (carried f (locator_of i) (suc k)) ≡ pow R257 (locator_at i) k ⊗ eval R257 k (symbols f) (inv (locator_at i))
  carried-value =
      horner R257 (symbols f) (λ k. res257 (carried f (locator_of i) (suc k))) (locator_at i) (inv (locator_at i)) (mul-inv (locator_at i) (locator-nonzero i))
      (res-carried 0 ∙ ap (λ z. symbols f 0 ⊕ z) (ap (λ x. locator_at i ⊗ x) (ap res257 (carried-zero f (locator_of i)) ∙ res-zero 257 prime_257)
      ∙ mul-zero R257 (locator_at i)) ∙ add-zero (symbols f 0))
      (λ k. res-carried (suc k))

  -- the value at the inverse of the locator
  pub value_there : (d : ℕ) → length f ≡ suc d → res257 (value 257 f (inverse 257 (locator_of i))) ≡ eval R257 d (symbols f) (inv (locator_at i))
  value_there d sized =
      res-value d f (inverse 257 (locator_of i)) sized
      ∙ ap (eval R257 d (symbols f)) (res-inverse 257 prime_257 (locator_of i) ∙ ap inv (res-locator i))

  pub carried-scale : (b d : ℕ) → length f ≡ suc d
      → times 257 (weight b i 1 % 257) (carried f (locator_of i) (suc d)) ≡ times 257 (weight b i (suc d) % 257) (value 257 f (inverse 257 (locator_of i)))
  carried-scale b d sized =
      res-tells _ _ (mod-lt _ (lit< tt)) (mod-lt _ (lit< tt))
      (res-times 257 prime_257 _ _ ∙ ap₂ ◌⊗◌ (res-mod 257 prime_257 (weight b i 1) ∙ res-weight b i 0) (carried-value d)
      ∙ sym (mul_assoc (weight_at b i 0) (pow R257 (locator_at i) d) there)
      ∙ ap (λ w. w ⊗ there) (sym (pow-add R257 (locator_at i) (b + 0) d)
      ∙ ap (pow R257 (locator_at i)) (let q : b + 0 + d ≡ b + d = omega arith in q))
      ∙ sym (res-times 257 prime_257 _ _ ∙ ap₂ ◌⊗◌ (res-mod 257 prime_257 (weight b i (suc d)) ∙ res-weight b i d)
      (value_there d sized)))
    where
      there : car
      there = eval R257 d (symbols f) (inv (locator_at i))
