-- Montgomery's product: y·u over 2^16 modulo p, from the tops, the upper 16 bits, of two products. v is the companion of u: v·p is u modulo 2^16.
use mathlib.Core.Path.{◌≡◌, sym, ap, ap₂, ◌∙◌}
use Prim.Native.Nat.{ℕ, ◌+◌, ◌-◌, ◌*◌, ◌/◌, ◌%◌, ◌≤◌, ◌<◌}
use native.Mathlib.Nat.{add-mod-mod, add-mul-mod_self_right, div-add-mod', mod-add-mod, mod-eq_of_lt, mod-lt, mul_assoc, mul-le-mul, mul-le-mul_right, mul-one}
use native.Mathlib.Omega.{arith}
use Rattle.field.proofs.Remainders.{mod-mul-mod, mul-mod-mod, same_remainder}
use Rattle.field.specs.Residue.{minus, times}

pub top_below : {x y p : ℕ} → x < 65536 → y ≤ p → 0 < p → x * y / 65536 < p
top_below {x} {y} {p} hx hy pos = omega (arith, mul-le-mul (let e : x ≤ 65535 = omega arith in e) hy)

module _ (y u v p : ℕ) {m : ℕ} (low : m ≡ (y * v) % 65536) (companion : (v * p) % 65536 ≡ u % 65536) where
  -- m·p and y·u have the same lower 16 bits
  same_bottom : (m * p) % 65536 ≡ (y * u) % 65536
  same_bottom =
      ap (λ (x : ℕ). (x * p) % 65536) low
      ∙ mod-mul-mod (y * v) 65536 p
      ∙ ap (λ (x : ℕ). x % 65536) (mul_assoc y v p)
      ∙ sym (mul-mod-mod y (v * p) 65536)
      ∙ ap (λ (x : ℕ). (y * x) % 65536) companion
      ∙ mul-mod-mod y u 65536

  -- so that they differ by 2^16 times the difference of their tops
  tops : y * u + 65536 * (m * p / 65536) ≡ m * p + 65536 * (y * u / 65536)
  tops = omega (arith, same_bottom)

  -- the difference of the tops, with p added, is y·u over 2^16 modulo p
  pub montgomery-is : {a b : ℕ} → a ≡ y * u / 65536 → b ≡ m * p / 65536 → b ≤ p → (65536 * (a + (p - b))) % p ≡ (y * u) % p
  montgomery-is {a} {b} ea eb below = same_remainder p m 65536 (65536 * (a + (p - b))) (y * u) (omega (arith, tops, ea, eb))

  -- x less y·u over 2^16: the top a of y·u is taken off x, and then p less the top b of m·p
  pub less-product-is : (x : ℕ) {a b rest r : ℕ} → a ≡ y * u / 65536 → b ≡ m * p / 65536 → a ≤ p → b ≤ p → rest ≡ minus p x a → r ≡ minus p rest (p - b)
      → (65536 * r + y * u) % p ≡ (65536 * x) % p
  less-product-is x {a} {b} {rest} {r} ea eb first second er e =
      ap (λ (z : ℕ). (65536 * z + y * u) % p)
      (e ∙ ap₂ (λ (z w : ℕ). (z + w) % p) er (let back : p - (p - b) ≡ b = omega arith in back) ∙ mod-add-mod (x + (p - a)) p b)
      ∙ sym (mod-add-mod (65536 * ((x + (p - a) + b) % p)) p (y * u)) ∙ ap (λ (z : ℕ). (z + y * u) % p) (mul-mod-mod 65536 (x + (p - a) + b) p)
      ∙ mod-add-mod (65536 * (x + (p - a) + b)) p (y * u)
      ∙ same_remainder p 0 (65536 + m) (65536 * (x + (p - a) + b) + y * u) (65536 * x) (omega (arith, tops, ea, eb))

-- ---- an inverse i of p modulo 2^16

module _ (p i : ℕ) (inverse : (p * i) % 65536 ≡ 1) where
  -- it gives the companions
  pub companion-is : (u : ℕ) {v : ℕ} → v ≡ (u * i) % 65536 → (v * p) % 65536 ≡ u % 65536
  companion-is u {v} e =
      ap (λ (x : ℕ). (x * p) % 65536) e
      ∙ mod-mul-mod (u * i) 65536 p
      ∙ ap (λ (x : ℕ). x % 65536) (let e : u * i * p ≡ u * (p * i) = omega arith in e)
      ∙ sym (mul-mod-mod u (p * i) 65536)
      ∙ ap (λ (x : ℕ). (u * x) % 65536) inverse
      ∙ ap (λ (x : ℕ). x % 65536) (mul-one u)

  -- 2^16 can be cancelled modulo p: it has the inverse c there
  pub cancel : (r s : ℕ) → (65536 * r) % p ≡ (65536 * s) % p → r % p ≡ s % p
  cancel r s e = sym (back r) ∙ ap (λ (x : ℕ). (x * c) % p) e ∙ back s
    where
      w : ℕ
      w = i % 65536

      one : (p * w) % 65536 ≡ 1
      one = mul-mod-mod p i 65536 ∙ inverse

      less : w < 65536
      less = mod-lt i (omega arith)

      c : ℕ
      c = p - p * w / 65536

      t : ℕ
      t = 65536 - w

      rest : (t + w) * p ≡ 65536 * p
      rest = ap (λ (x : ℕ). x * p) (let e : t + w ≡ 65536 = omega (arith, less) in e)

      unit : 65536 * c ≡ 1 + t * p
      unit = omega (arith, rest, one, mul-le-mul_right p (let b : w ≤ 65535 = omega (arith, less) in b), div-add-mod' (p * w) 65536)

      back : (x : ℕ) → ((65536 * x) % p * c) % p ≡ x % p
      back x =
          mod-mul-mod (65536 * x) p c
          ∙ same_remainder p 0 (t * x) (65536 * x * c) x (omega (arith, ap (λ (z : ℕ). z * x) unit))

  -- where u is q·2^16 modulo p, x less y·u over 2^16 is x less q·y
  pub product-taken : (q y : ℕ) {u x r : ℕ} → u ≡ (q * 65536) % p → (65536 * r + y * u) % p ≡ (65536 * x) % p → x < p → r < p
      → r ≡ minus p x (times p q y)
  product-taken q y {u} {x} {r} factor taken less below =
      sym (ap (λ (z : ℕ). (z + (p - times p q y)) % p) (sym summed) ∙ mod-add-mod (r + times p q y) p (p - times p q y)
      ∙ ap (λ (z : ℕ). z % p) (let e : r + times p q y + (p - times p q y) ≡ r + 1 * p = omega (arith, mod-lt (q * y) positive) in e)
      ∙ add-mul-mod_self_right r 1 p ∙ mod-eq_of_lt below)
    where
      positive : 0 < p
      positive = omega arith

      scaled : (65536 * (r + q * y)) % p ≡ (65536 * x) % p
      scaled =
          ap (λ (z : ℕ). z % p) (let e : 65536 * (r + q * y) ≡ 65536 * r + y * (q * 65536) = omega arith in e)
          ∙ sym (add-mod-mod (65536 * r) (y * (q * 65536)) p) ∙ ap (λ (z : ℕ). (65536 * r + z) % p) (sym (mul-mod-mod y (q * 65536) p))
          ∙ add-mod-mod (65536 * r) (y * ((q * 65536) % p)) p ∙ ap (λ (z : ℕ). (65536 * r + y * z) % p) (sym factor) ∙ taken

      summed : (r + times p q y) % p ≡ x
      summed = add-mod-mod r (q * y) p ∙ cancel (r + q * y) x scaled ∙ mod-eq_of_lt less
