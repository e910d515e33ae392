-- Montgomery's product is the product modulo 257, since 2^16 is 1 there, and what the code computes for it.
use mathlib.Core.Path.{◌≡◌, refl, sym, ap, ap₂, ◌∙◌}
use Prim.Native.Nat.{ℕ, ◌+◌, ◌-◌, ◌*◌, ◌/◌, ◌%◌}
use native.Mathlib.Nat.{mod-lt, mul_comm}
use native.Mathlib.Omega.{arith}
use Rattle.field.proofs.MontgomeryProducts.{companion-is, montgomery-is as over-65536, top_below}
use Rattle.field.proofs.Remainders.{mod-mul-mod}
use Rattle.field257.specs.Montgomery.{companion, montgomery}

module _ (a y : ℕ) where
  pub montgomery-is : montgomery a y % 257 ≡ (a * y) % 257
  unfolding montgomery
  montgomery-is =
      let low : ℕ = (a * companion y) % 65536 in
      let below = top_below {x = low} {y = 257} {p = 257} (mod-lt (a * companion y) (omega arith)) (omega arith) (omega arith) in
      omega (arith, over-65536 a y (companion y) 257 refl (companion-is 257 65281 refl y refl) refl refl (omega (arith, below)))

  -- the same where a stands for a residue
  pub montgomery-residue : (r : ℕ) → a % 257 ≡ r → montgomery a y % 257 ≡ (y * r) % 257
  montgomery-residue r e =
      montgomery-is ∙ sym (mod-mul-mod a 257 y) ∙ ap (λ (v : ℕ). (v * y) % 257) e ∙ ap (λ (v : ℕ). v % 257) (mul_comm r y)

  -- from the halves of products that the code computes
  pub product_is : {z upper low taken : ℕ} → z ≡ companion y → upper ≡ a * y / 65536 → low ≡ (a * z) % 65536 → taken ≡ low * 257 / 65536
      → upper + 257 - taken ≡ montgomery a y
  unfolding montgomery
  product_is ez eu el et =
      ap₂ (λ (u t : ℕ). u + 257 - t) eu (et ∙ ap (λ (l : ℕ). l * 257 / 65536) (el ∙ ap (λ (v : ℕ). (a * v) % 65536) ez))
