-- The test `is_prime` decides `Prime`, and trial division may stop at the square root.
use mathlib.Core.Path.{◌≡◌, refl, sym, ap, ◌∙◌}
use mathlib.Core.Logic.{◌↔◌, ◌⊎◌, inl, inr, ⊎_elim}
use mathlib.Core.Bool.{true, not, and-eq-true_iff}
use Prim.Native.Nat.{ℕ, zero, suc, ◌+◌, ◌-◌, ◌*◌, ◌/◌, ◌%◌, ◌≤◌, ◌<◌}
use native.Mathlib.Nat.{
  eq-or-lt_of_le,
  le_of_suc-le-suc,
  mul-mod_right,
  div-add-mod',
  mul-le-mul,
  mul-le-mul_right,
  mul-suc,
  mul-zero,
  mul_comm,
  zero-mul,
  suc-add,
  sub-add_cancel,
  one-mul,
}
use native.Mathlib.Decide.{dec_lt}
use native.Mathlib.Omega.{arith}
use lib.Dec.{leb, eqb}
use borrow.Author.Tests.{leb-true, le-leb, eqb-false, ne_eqb, not-true}
use Rattle.field.specs.Prime.{Prime, no_divisor, is_prime}

-- no number from 2 to d − 1 divides p
abbrev pub Undivided : ℕ → ℕ → Type 0
Undivided p d = (e : ℕ) → 2 ≤ e → e < d → p % e ≡ 0 → ⊥

pub undivided-more : (p d : ℕ) → Undivided p d → (p % d ≡ 0 → ⊥) → Undivided p (suc d)
undivided-more p d h here e low high =
    ⊎_elim (λ same z. here (rw same at z)) (λ less. h e low less) (eq-or-lt_of_le (le_of_suc-le-suc high))

-- ---- the test of a range

undivided : (p n : ℕ) → no_divisor p n ≡ true → Undivided p (n + 2)
unfolding no_divisor
undivided p zero t = λ e low high. absurd (let z : ⊥ = omega arith in z)
undivided p (suc n) t =
    let both = (and-eq-true_iff (not (eqb (p % (n + 2)) 0)) (no_divisor p n)).0 t in
    rw (suc-add n 2)
    (undivided-more p (n + 2) (undivided p n both.1) (eqb-false (p % (n + 2)) 0 (not-true (eqb (p % (n + 2)) 0) both.0)))

undivided-test : (p n : ℕ) → Undivided p (n + 2) → no_divisor p n ≡ true
unfolding no_divisor
undivided-test p zero h = refl
undivided-test p (suc n) h =
    (and-eq-true_iff (not (eqb (p % (n + 2)) 0)) (no_divisor p n)).1
    (ap not (ne_eqb (p % (n + 2)) 0 (h (n + 2) (omega arith) (omega arith))), undivided-test p n (λ e low high. h e low (omega arith)))

-- ---- divisors

divisor-le : (p d k : ℕ) → 2 ≤ p → d * k ≡ p → d ≤ p
divisor-le p d zero two e = absurd (let z : ⊥ = omega (arith, mul-zero d) in z)
divisor-le p d (suc k) two e = omega (arith, mul-suc d k)

undivided-prime : (p : ℕ) → 2 ≤ p → Undivided p p → Prime p
undivided-prime p two h = record { two_or_more = two; divisor = λ d k e. known d k e }
  where
    known : (d k : ℕ) → d * k ≡ p → (d ≡ 1) ⊎ (d ≡ p)
    known zero k e = absurd (let z : ⊥ = omega (arith, zero-mul k) in z)
    known (suc zero) k e = inl refl
    known (suc (suc d)) k e =
        ⊎_elim (λ same. inr same)
        (λ less. absurd (h (suc (suc d)) (omega arith) less (ap (λ (x : ℕ). x % suc (suc d)) (sym e) ∙ mul-mod_right (suc (suc d)) k)))
        (eq-or-lt_of_le (divisor-le p (suc (suc d)) k two e))

exact : (p e : ℕ) → p % e ≡ 0 → p / e * e ≡ p
exact p e z = let whole = div-add-mod' p e in omega arith

pub prime-undivided : (p : ℕ) → Prime p → Undivided p p
prime-undivided p prime e low high z =
    ⊎_elim (λ is_one. omega arith) (λ is-p. omega arith) (prime.divisor e (p / e) (mul_comm e (p / e) ∙ exact p e z))

-- an odd number has no even divisor
odd-undivided : (p e : ℕ) → (p % 2 ≡ 0 → ⊥) → e % 2 ≡ 0 → p % e ≡ 0 → ⊥
odd-undivided p e odd even z =
    let half : e ≡ e / 2 * 2 = omega arith in
    let twice : p / e * (e / 2 * 2) ≡ p = ap (λ (x : ℕ). p / e * x) (sym half) ∙ exact p e z in
    odd (omega arith)

-- for an odd p, past an odd d comes the next odd one
pub undivided-two-more : (p d : ℕ) → (p % 2 ≡ 0 → ⊥) → d % 2 ≡ 1 → Undivided p d → (p % d ≡ 0 → ⊥) → Undivided p (d + 2)
undivided-two-more p d odd d-odd h here =
    let next = undivided-more p (suc d) (undivided-more p d h here) (odd-undivided p (suc d) odd (omega arith)) in
    λ e low high. next e low (omega arith)

-- a divisor up to the square root is neither 1 nor p
pub divided_below-root : (p d : ℕ) → 2 ≤ d → d * d ≤ p → p % d ≡ 0 → Prime p → ⊥
divided_below-root p d low root z prime =
    prime-undivided p prime d low (let less : d < p = omega (arith, mul-le-mul_right d low) in less) z

-- of two factors of p the smaller is below any d with p < d · d
pub undivided-to-root : (p d : ℕ) → 2 ≤ p → p < d * d → Undivided p d → Prime p
undivided-to-root p d two root h = undivided-prime p two λ e low high z. other e low high z (p / e) (exact p e z)
  where
    other : (e : ℕ) → 2 ≤ e → e < p → p % e ≡ 0 → (f : ℕ) → f * e ≡ p → ⊥
    other e low high z zero w = omega (arith, zero-mul e)
    other e low high z (suc zero) w = omega (arith, one-mul e)
    other e low high z (suc (suc f)) w = pick (dec_lt e d) (dec_lt (suc (suc f)) d)
      where
        pick : Dec (e < d) → Dec (suc (suc f) < d) → ⊥
        pick (yes small) b = h e low small z
        pick (no large) (yes small) =
            h (suc (suc f)) (omega arith) small (ap (λ (x : ℕ). x % suc (suc f)) (sym w) ∙ mul-mod_right (suc (suc f)) e)
        pick (no large) (no large-too) =
            let f-large : d ≤ suc (suc f) = omega arith in
            let e-large : d ≤ e = omega arith in
            omega (arith, mul-le-mul f-large e-large)

-- ---- the test

pub prime_of_test : (p : ℕ) → is_prime p ≡ true → Prime p
unfolding is_prime
prime_of_test p t =
    let both = (and-eq-true_iff (leb 2 p) (no_divisor p (p - 2))).0 t in
    let two = leb-true 2 p both.0 in
    undivided-prime p two (rw (sub-add_cancel two) at (undivided p (p - 2) both.1))

pub test_of_prime : (p : ℕ) → Prime p → is_prime p ≡ true
unfolding is_prime
test_of_prime p prime =
    (and-eq-true_iff (leb 2 p) (no_divisor p (p - 2))).1
    (le-leb 2 p prime.two_or_more, undivided-test p (p - 2) (rw (sub-add_cancel prime.two_or_more) (prime-undivided p prime)))

pub is_prime_decides : (p : ℕ) → (is_prime p ≡ true) ↔ Prime p
is_prime_decides p = (prime_of_test p, test_of_prime p)
