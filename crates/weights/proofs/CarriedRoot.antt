-- Horner's rule at the locator of a column, from the constant coefficient on, is the value there of the polynomial in reverse. It is 0 exactly where the value
-- of the polynomial at the inverse of the locator is: one is the other times a power of the locator.
use mathlib.Core.Path.{◌≡◌, refl, sym, ap, ◌∙◌}
use mathlib.Core.Logic.{◌↔◌}
use mathlib.Core.List.{List}
use Prim.Native.Nat.{ℕ, zero, suc, ◌*◌, ◌%◌, ◌^◌}
use native.Mathlib.Nat.{mod-lt}
use lib.Dec.{lit<}
use lib.ListN.{length, get_or}
use Rattle.algebra.specs.Sum.{pow}
use Rattle.algebra.proofs.FieldLaws.{no-zero_divisors, power-nonzero}
use Rattle.algebra.proofs.RingLaws.{mul-zero}
use Rattle.field.specs.Coefficients.{value}
use Rattle.field.specs.Residue.{inverse}
use Rattle.field.proofs.Bridge.{res-zero}
use Rattle.field.proofs.Prime257.{prime_257}
use Rattle.field257.specs.Powers.{locator_of}
use Rattle.field257.proofs.Field257.{F257, R257, res257, res-tells-zero, locator_at}
use Rattle.field257.proofs.Locators.{locator-nonzero}
use Rattle.lists.specs.Total.{total}
use Rattle.lists.proofs.Totals.{total-zero}
use Rattle.weights.specs.Weights.{carried}
use Rattle.weights.proofs.CarriedValue.{carried-value, value_there}
use Rattle.weights.proofs.Division.{carried-zero, carried-below}
open R257 use {mul as ◌⊗◌}

infixl 70 ◌⊗◌
module _ (i : ℕ) (f : List ℕ) where
  pub carried-root : (carried f (locator_of i) (length f) ≡ 0) ↔ (value 257 f (inverse 257 (locator_of i)) ≡ 0)
  unfolding value
  carried-root = step (length f) refl
    where
      step : (n : ℕ) → length f ≡ n → (carried f (locator_of i) n ≡ 0) ↔ (value 257 f (inverse 257 (locator_of i)) ≡ 0)
      step zero e = (
        λ _. ap (λ (n : ℕ). total n (λ k. get_or f k 0 * inverse 257 (locator_of i) ^ k) % 257) e ∙ ap (λ (t : ℕ). t % 257) (total-zero _),
        λ _. carried-zero f (locator_of i),
      )
      step (suc d) e = (
        λ z.
            res-tells-zero _ (mod-lt _ (lit< tt))
            (value_there i f d e
            ∙ no-zero_divisors F257 (pow R257 (locator_at i) d) _ (power-nonzero F257 (locator_at i) (locator-nonzero i) d)
            (sym (carried-value i f d) ∙ ap res257 z ∙ res-zero 257 prime_257)),
        λ z.
            res-tells-zero _ (carried-below f (locator_of i) (suc d))
            (carried-value i f d
            ∙ ap (λ v. pow R257 (locator_at i) d ⊗ v) (sym (value_there i f d e) ∙ ap res257 z ∙ res-zero 257 prime_257) ∙ mul-zero R257 _),
      )
