-- The inverse of an odd p modulo 2^16, found by Newton's method: each step squares the modulus for which it is right.
use mathlib.Core.Path.{◌≡◌, refl, sym, ap, ◌∙◌}
use Prim.Native.Nat.{ℕ, ◌+◌, ◌-◌, ◌*◌, ◌/◌, ◌%◌, ◌<◌}
use native.Mathlib.Nat.{div-add-mod', mod-eq_of_lt, mul_assoc}
use native.Mathlib.Omega.{arith}
use Rattle.field.proofs.Remainders.{mod-mul-mod, mul-mod-mod, same_remainder}

-- what a step makes of w, which is p times the inverse so far, modulo 2^16
abbrev improved : ℕ → ℕ
improved w = (w * (65538 - w)) % 65536

-- a step multiplies the inverse so far, v, by 2 − p·v
pub better_is : (p v : ℕ) → (p * ((v * ((65538 - (p * v) % 65536) % 65536)) % 65536)) % 65536 ≡ improved ((p * v) % 65536)
better_is p v =
    mul-mod-mod p (v * z) 65536
    ∙ ap (λ (x : ℕ). x % 65536) (sym (mul_assoc p v z))
    ∙ sym (mod-mul-mod (p * v) 65536 z)
    ∙ mul-mod-mod ((p * v) % 65536) (65538 - (p * v) % 65536) 65536
  where
    z : ℕ
    z = (65538 - (p * v) % 65536) % 65536

-- a w that is 1 modulo m becomes one that is 1 modulo m², which is n: with w = c·m + 1, w·(2 − w) is 1 − c²·n
squared : (m n k w : ℕ) {x : ℕ} → m * m ≡ n → n * k ≡ 65536 → 1 < n → w < 65536 → w % m ≡ 1 → x ≡ improved w → x % n ≡ 1
squared m n k w square whole more less one eq =
    ap (λ (x : ℕ). x % n) eq
    ∙ same_remainder n ((w * d) / 65536 * k) 0 ((w * d) % 65536) (w * d) lower
    ∙ same_remainder n (c * c) (k * w) (w * d) 1 step
    ∙ mod-eq_of_lt more
  where
    c : ℕ
    c = w / m

    d : ℕ
    d = 65538 - w

    parts : c * m + 1 ≡ w
    parts = ap (λ (x : ℕ). w / m * m + x) (sym one) ∙ div-add-mod' w m

    sum : w + d ≡ 65538
    sum = omega arith

    lower : (w * d) % 65536 + (w * d) / 65536 * k * n ≡ w * d + 0 * n
    lower = omega (arith, div-add-mod' (w * d) 65536, ap (λ (x : ℕ). (w * d) / 65536 * x) whole)

    squares : (c * m + 1) * (c * m + 1) ≡ w * w
    squares = ap (λ (x : ℕ). x * x) parts

    step : w * d + c * c * n ≡ 1 + k * w * n
    step = omega (arith, parts, squares, ap (λ (x : ℕ). c * c * x) square, ap (λ (x : ℕ). x * w) sum, ap (λ (x : ℕ). x * w) whole)

-- four steps from 1, which is right modulo 2
pub inverse-is : (p a b c d : ℕ) → p < 65536 → p % 2 ≡ 1
    → (p * a) % 65536 ≡ improved ((p * 1) % 65536)
    → (p * b) % 65536 ≡ improved ((p * a) % 65536)
    → (p * c) % 65536 ≡ improved ((p * b) % 65536)
    → (p * d) % 65536 ≡ improved ((p * c) % 65536)
    → (p * d) % 65536 ≡ 1
inverse-is p a b c d less odd ea eb ec ed =
    let one : (p * a) % 65536 % 4 ≡ 1 = squared 2 4 16384 ((p * 1) % 65536) refl refl (omega arith) (omega arith) (omega arith) ea in
    let two : (p * b) % 65536 % 16 ≡ 1 = squared 4 16 4096 ((p * a) % 65536) refl refl (omega arith) (omega arith) one eb in
    let three : (p * c) % 65536 % 256 ≡ 1 = squared 16 256 256 ((p * b) % 65536) refl refl (omega arith) (omega arith) two ec in
    let four : (p * d) % 65536 % 65536 ≡ 1 = squared 256 65536 1 ((p * c) % 65536) refl refl (omega arith) (omega arith) three ed in
    omega (arith, four)
