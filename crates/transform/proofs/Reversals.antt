-- Numbers with their digits to base 4 in the other order.
use mathlib.Core.Path.{◌≡◌, ap, ap₂, ◌∙◌}
use Prim.Native.Nat.{ℕ, ◌+◌, ◌*◌, ◌/◌, ◌%◌, ◌<◌}
use native.Mathlib.Omega.{arith}
use Rattle.transform.specs.Stages.{reversal}

reversal-digits : (a b c : ℕ) → a < 4 → b < 4 → reversal (a + 4 * b + 16 * c) ≡ c + 4 * b + 16 * a
reversal-digits a b c ha hb =
    ap (λ (u : ℕ). u + 4 * ((a + 4 * b + 16 * c) / 4 % 4) + 16 * ((a + 4 * b + 16 * c) % 4)) (let e : (a + 4 * b + 16 * c) / 16 ≡ c = omega arith in e)
    ∙ ap₂ (λ (u v : ℕ). c + 4 * u + 16 * v) (let e : (a + 4 * b + 16 * c) / 4 % 4 ≡ b = omega arith in e)
    (let e : (a + 4 * b + 16 * c) % 4 ≡ a = omega arith in e)

pub reversal-twice : (k : ℕ) → k < 64 → reversal (reversal k) ≡ k
reversal-twice k less =
    reversal-digits (k / 16) (k / 4 % 4) (k % 4) (omega arith) (omega arith)
    ∙ (let e : k % 4 + 4 * (k / 4 % 4) + 16 * (k / 16) ≡ k = omega arith in e)

-- of fewer digits
pub reversal-two : (a b : ℕ) → a < 4 → b < 4 → reversal (4 * a + b) ≡ 4 * a + 16 * b
reversal-two a b ha hb =
    ap reversal (let e : 4 * a + b ≡ b + 4 * a + 16 * 0 = omega arith in e) ∙ reversal-digits b a 0 hb ha
    ∙ (let e : 0 + 4 * a + 16 * b ≡ 4 * a + 16 * b = omega arith in e)

pub reversal-one : (a : ℕ) → a < 4 → reversal a ≡ 16 * a
reversal-one a h =
    ap reversal (let e : a ≡ 4 * 0 + a = omega arith in e) ∙ reversal-two 0 a (omega arith) h ∙ (let e : 4 * 0 + 16 * a ≡ 16 * a = omega arith in e)
