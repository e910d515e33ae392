-- Fermat's little theorem for every prime p: a^p and a have the same remainder. So a^(p − 2) is the inverse of a number a that p does
-- not divide. By induction on a: of the terms of (a + 1)^p only the first and the last are not divided by p.
use mathlib.Core.Path.{◌≡◌, sym, ap, ◌∙◌}
use Prim.Native.Nat.{ℕ, zero, suc, pred, ◌+◌, ◌-◌, ◌*◌, ◌%◌, ◌^◌, ◌<◌}
use native.Mathlib.Nat.{
  pow-zero,
  pow-suc,
  pow-succ',
  mod-eq_of_lt,
  mod-add-mod,
  mul-zero,
  mul-one,
  one-mul,
  mul_comm,
  suc-pred-eq_of_pos,
  le_step,
  lt-suc_self,
  zero-mod,
}
use native.Mathlib.Numerals.{add-one}
use native.Mathlib.Omega.{arith}
use Rattle.field.specs.Prime.{Prime}
use Rattle.field.specs.Residue.{inverse, times}
use Rattle.lists.specs.Total.{total}
use Rattle.field.proofs.Binomial.{choose, choose-none, choose-all, binomial, coefficient_divided}
use Rattle.field.proofs.Euclid.{cancel}
use Rattle.field.proofs.Remainders.{mod-mul-zero, mod-add-zero, mul-mod-mod}
use Rattle.lists.proofs.Totals.{total-zero, total-suc, total_head}

zero-power : (n : ℕ) → 0 < n → 0 ^ n ≡ 0
zero-power zero h = absurd (let z : ⊥ = omega arith in z)
zero-power (suc n) h = rw (pow-suc, mul-zero)

total_divided : (n p : ℕ) (f : ℕ → ℕ) → ((k : ℕ) → k < n → f k % p ≡ 0) → total n f % p ≡ 0
total_divided zero p f d = rw (total-zero f, zero-mod)
total_divided (suc n) p f d =
    rw (total-suc n f) (mod-add-zero (total n f) (f n) p (d n (lt-suc_self n)) ∙ total_divided n p f (λ k h. d k (le_step h)))

module _ (p : ℕ) (prime : Prime p) where
  -- of the terms of (a + 1)^p, those between the first and the last add up to a multiple of p
  middle : (a n : ℕ) → suc n ≡ p → total n (λ k. choose p (suc k) * a ^ suc k) % p ≡ 0
  middle a n e =
      total_divided n p (λ k. choose p (suc k) * a ^ suc k)
      (λ k h. rw mul_comm (mod-mul-zero (a ^ suc k) (choose p (suc k)) p (coefficient_divided p prime n k e h)))

  power_of_next : (a : ℕ) → (suc a ^ p) % p ≡ (a ^ p + 1) % p
  power_of_next a =
      let positive : 0 < p = omega (arith, prime.two_or_more) in
      let e : suc (pred p) ≡ p = suc-pred-eq_of_pos positive in
      let between : ℕ = total (pred p) (λ k. choose p (suc k) * a ^ suc k) in
      let below_last = ap (λ (x : ℕ). total x (λ k. choose p k * a ^ k)) (sym e) ∙ total_head (pred p) (λ k. choose p k * a ^ k) in
      let first : choose p 0 * a ^ 0 ≡ 1 = rw (choose-none p, pow-zero) in
      let last : choose p p * a ^ p ≡ a ^ p = rw (choose-all p, one-mul) in
      let parts : suc a ^ p ≡ a ^ p + 1 + between = rw (binomial a p, total-suc p (λ k. choose p k * a ^ k)) (omega arith) in
      ap (λ (x : ℕ). x % p) parts ∙ mod-add-zero (a ^ p + 1) between p (middle a (pred p) e)

  fermat : (a : ℕ) → (a ^ p) % p ≡ a % p
  fermat zero = rw (zero-power p (omega (arith, prime.two_or_more)))
  fermat (suc a) =
      power_of_next a ∙ sym (mod-add-mod (a ^ p) p 1) ∙ ap (λ (x : ℕ). (x + 1) % p) (fermat a) ∙ mod-add-mod a p 1 ∙ rw (add-one a)

  factor_out_two : (a : ℕ) → a * (a * a ^ (p - 2)) ≡ a ^ p
  factor_out_two a =
      let e : suc (suc (p - 2)) ≡ p = omega (arith, prime.two_or_more) in
      rw (← pow-succ' a (p - 2), ← pow-succ' a (suc (p - 2)), e)

  pub times-inverse : (a : ℕ) → (a % p ≡ 0 → ⊥) → times p a (inverse p a) ≡ 1
  times-inverse a some =
      let same = ap (λ (x : ℕ). x % p) (factor_out_two a) ∙ fermat a ∙ ap (λ (x : ℕ). x % p) (sym (mul-one a)) in
      mul-mod-mod a (a ^ (p - 2)) p ∙ cancel p prime a (a * a ^ (p - 2)) 1 some same ∙ mod-eq_of_lt prime.two_or_more
