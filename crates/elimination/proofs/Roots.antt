-- The equation of the powers of y, where y is the inverse of 3^i as the power 255 of it: a register solves it exactly where it is 0 at y.
use mathlib.Core.Path.{◌≡◌, sym, ◌∙◌}
use mathlib.Core.Logic.{◌↔◌}
use Prim.Native.Nat.{ℕ, ◌*◌, ◌%◌, ◌^◌, ◌<◌}
use native.Mathlib.Nat.{mul_comm}
use Rattle.field.proofs.Remainders.{pow-mod}
use Rattle.plain.proofs.Congruences.{equal, same-product}
use Rattle.plain.proofs.Powers.{mod-is-rem, power_of_power}
use Rattle.plain.proofs.Remainders.{rem-rem}
use Rattle.plain.proofs.Terms.{sum_same}
use Rattle.plain.specs.Plain.{rem, sum}
use Rattle.elimination.specs.Equations.{Solves}

pub root_solves : (n i y : ℕ) (e t : ℕ → ℕ) → y ≡ (3 ^ i % 257) ^ 255 % 257 → ((k : ℕ) → k < n → e k ≡ y ^ k % 257) →
    Solves 257 n e t ↔ (rem (sum n (λ k. t k * (3 ^ i) ^ (255 * k))) 257 ≡ 0)
root_solves n i y e t at powers = (λ s. sym sums ∙ s, λ s. sums ∙ s)
  where
    power : (k : ℕ) → k < n → rem (e k) 257 ≡ rem ((3 ^ i) ^ (255 * k)) 257
    power k h =
        equal 257 (powers k h ∙ power_of_power (3 ^ i % 257) 255 k at ∙ pow-mod (3 ^ i) (255 * k) 257 ∙ mod-is-rem ((3 ^ i) ^ (255 * k)))
        ∙ rem-rem ((3 ^ i) ^ (255 * k)) 257

    sums : rem (sum n (λ k. e k * t k)) 257 ≡ rem (sum n (λ k. t k * (3 ^ i) ^ (255 * k))) 257
    sums =
        sum_same 257 n (λ k. e k * t k) (λ k. t k * (3 ^ i) ^ (255 * k))
        (λ k h. same-product 257 (e k) ((3 ^ i) ^ (255 * k)) (t k) (power k h) ∙ equal 257 (mul_comm ((3 ^ i) ^ (255 * k)) (t k)))
