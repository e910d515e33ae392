-- Remainders of products and powers: a factor or a base may be reduced first (the same for sums is in `native.Mathlib.Nat`). What has
-- remainder 0 adds nothing to a remainder, and the other way round.
use mathlib.Core.Path.{◌≡◌, sym, ap, ap₂, ◌∙◌}
use Prim.Native.Nat.{ℕ, zero, suc, ◌+◌, ◌-◌, ◌*◌, ◌/◌, ◌%◌, ◌^◌, ◌<◌, ◌≤◌}
use native.Mathlib.Nat.{
  mod-add-div',
  add-mul,
  mul_right_comm,
  add-mul-mod_self_right,
  mul_comm,
  pow-zero,
  pow-suc,
  add-mod,
  add-mod-mod,
  mod-eq_of_lt,
  mod-lt,
  mod-eq-sub-mod,
  add-zero,
  mul-zero,
  zero-mod,
}
use native.Mathlib.Decide.{dec_lt}
use native.Mathlib.Omega.{arith}

-- numbers that differ by a multiple of n have the same remainder
pub same_remainder : (n j k x y : ℕ) → x + j * n ≡ y + k * n → x % n ≡ y % n
same_remainder n j k x y e = sym (add-mul-mod_self_right x j n) ∙ ap (λ (z : ℕ). z % n) e ∙ add-mul-mod_self_right y k n

pub mod-mul-mod : (n m k : ℕ) → (n % m * k) % m ≡ (n * k) % m
mod-mul-mod n m k =
    sym (add-mul-mod_self_right (n % m * k) (n / m * k) m)
    ∙ ap (λ (x : ℕ). x % m) (ap (λ (x : ℕ). n % m * k + x) (mul_right_comm (n / m) k m) ∙ sym (add-mul (n % m) (n / m * m) k))
    ∙ ap (λ (x : ℕ). (x * k) % m) (mod-add-div' n m)

pub mul-mod-mod : (n m k : ℕ) → (n * (m % k)) % k ≡ (n * m) % k
mul-mod-mod n m k = rw (mul_comm n (m % k), mul_comm n m) (mod-mul-mod m k n)

pub pow-mod : (n e m : ℕ) → ((n % m) ^ e) % m ≡ (n ^ e) % m
pow-mod n zero m = rw (pow-zero (n % m), pow-zero n)
pow-mod n (suc e) m =
    rw (pow-suc (n % m) e, pow-suc n e)
    (sym (mod-mul-mod ((n % m) ^ e) m (n % m))
    ∙ ap (λ (x : ℕ). (x * (n % m)) % m) (pow-mod n e m)
    ∙ mod-mul-mod (n ^ e) m (n % m)
    ∙ mul-mod-mod (n ^ e) n m)

pub mod-add-cancel : (x y m : ℕ) → 0 < m → (x + y) % m ≡ x % m → y % m ≡ 0
mod-add-cancel x y m pos e = pick (dec_lt (x % m + y % m) m)
  where
    same : (x % m + y % m) % m ≡ x % m
    same = sym (add-mod x y m) ∙ e

    pick : Dec (x % m + y % m < m) → y % m ≡ 0
    pick (yes small) = let s = sym (mod-eq_of_lt small) ∙ same in omega arith
    pick (no large) =
        let big : m ≤ x % m + y % m = omega arith in
        let below : x % m + y % m - m < m = omega (arith, mod-lt x pos, mod-lt y pos) in
        let s = sym (mod-eq_of_lt below) ∙ sym (mod-eq-sub-mod big) ∙ same in
        omega (arith, mod-lt y pos)

pub mod-add-zero : (x y m : ℕ) → y % m ≡ 0 → (x + y) % m ≡ x % m
mod-add-zero x y m e = sym (add-mod-mod x y m) ∙ rw (e, add-zero)

pub mod-mul-zero : (x y m : ℕ) → y % m ≡ 0 → (x * y) % m ≡ 0
mod-mul-zero x y m e = sym (mul-mod-mod x y m) ∙ rw (e, mul-zero, zero-mod)

-- numbers with the same remainders have sums with the same remainder
pub same-sums : (a b c d m : ℕ) → a % m ≡ c % m → b % m ≡ d % m → (a + b) % m ≡ (c + d) % m
same-sums a b c d m e h = add-mod a b m ∙ ap₂ (λ (u v : ℕ). (u + v) % m) e h ∙ sym (add-mod c d m)
