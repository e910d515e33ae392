-- The powers of 3 modulo 257: 3^0 .. 3^255 are pairwise different, and 3^256 is 1. So the locators of the columns are distinct and nonzero, and the inverse
-- of a locator is one of them.
use mathlib.Core.Path.{◌≡◌, refl, sym, ap, ◌∙◌}
use mathlib.Core.Logic.{◌≢◌}
use mathlib.Core.Bool.{true, not}
use Prim.Native.Nat.{ℕ, zero, suc, ◌+◌, ◌-◌, ◌*◌, ◌/◌, ◌%◌, ◌^◌, ◌≤◌, ◌<◌}
use native.Mathlib.Nat.{mod-add-div, mod-lt, mod-mod}
use native.Mathlib.Decide.{dec_lt}
use native.Mathlib.Omega.{arith}
use lib.Dec.{eqb}
use borrow.Author.Tests.{eqb-false, not-true}
use Rattle.algebra.specs.Locator.{Distinct}
use Rattle.algebra.specs.Sum.{pow}
use Rattle.algebra.proofs.FieldLaws.{mul-cancel, power-nonzero, inverse_unique}
use Rattle.algebra.proofs.Powers.{pow-add, pow-one, pow-pow}
use Rattle.field.proofs.Bridge.{res_same, res-is-zero, res_one, res-mod, res-mul, res-pow, res-inverse}
use Rattle.field.proofs.Prime257.{prime_257}
use Rattle.field.specs.Residue.{inverse}
use Rattle.lists.specs.Tabulate.{every}
use Rattle.lists.proofs.Tabulated.{every-at}
use Rattle.field257.proofs.Field257.{F257, R257, res257, res-tells, locator_at, res-locator}
use Rattle.field257.specs.Powers.{power_of3, locator_of}
open R257 use {car, zero as 𝟘, one as 𝟙, mul as ◌⊗◌, mul-one}
open F257 use {inv}

infixl 70 ◌⊗◌
-- ---- the computed tests

-- 3^1 .. 3^255 are not 1
never-one : every 255 (λ i. not (eqb (power_of3 (suc i)) 1)) ≡ true
unfolding every
never-one = refl

full-round : power_of3 256 ≡ 1
full-round = refl

-- ---- what they say

locator-round : locator_at 256 ≡ 𝟙
locator-round = sym (res-pow 257 prime_257 3 256) ∙ (res_same 257 prime_257 (3 ^ 256) 1).1 full-round ∙ res_one 257 prime_257

pub locator-nonzero : (i : ℕ) → locator_at i ≢ 𝟘
locator-nonzero =
    power-nonzero F257 (res257 3) (λ e. let z : 3 % 257 ≡ 0 = (res-is-zero 257 prime_257 3).0 e in omega arith)

locator-not-one : (k : ℕ) → k < 255 → locator_at (suc k) ≢ 𝟙
locator-not-one k h e =
    eqb-false (power_of3 (suc k)) 1 (not-true _ (every-at 255 (λ i. not (eqb (power_of3 (suc i)) 1)) never-one k h))
    ((res_same 257 prime_257 (3 ^ suc k) 1).0 (res-pow 257 prime_257 3 (suc k) ∙ e ∙ sym (res_one 257 prime_257)))

-- the quotient of two equal powers is 1
same_power : (i k : ℕ) → k < 256 → locator_at i ≡ locator_at (i + k) → k ≡ 0
same_power i zero h e = refl
same_power i (suc k) h e =
    absurd (locator-not-one k (omega arith) (mul-cancel F257 (locator_at i) (locator_at (suc k)) 𝟙 (locator-nonzero i)
    (sym (pow-add R257 (res257 3) i (suc k)) ∙ sym e ∙ sym (mul-one (locator_at i)))))

pub locators_distinct : Distinct R257 256 locator_at
locators_distinct i j hi hj e = pick (dec_lt i j)
  where
    pick : Dec (i < j) → i ≡ j
    pick (yes l) =
        let q : j ≡ i + (j - i) = omega arith in
        let z = same_power i (j - i) (omega arith) (e ∙ ap locator_at q) in
        omega arith
    pick (no l) =
        let q : i ≡ j + (i - j) = omega arith in
        let z = same_power j (i - j) (omega arith) (sym e ∙ ap locator_at q) in
        omega arith

-- exponents may be taken modulo 256
locator-mod : (e : ℕ) → locator_at e ≡ locator_at (e % 256)
locator-mod e =
    ap locator_at (sym (mod-add-div e 256)) ∙ pow-add R257 (res257 3) (e % 256) (256 * (e / 256))
    ∙ ap (λ x. locator_at (e % 256) ⊗ x) (pow-pow R257 (res257 3) 256 (e / 256) ∙ ap (λ x. pow R257 x (e / 256)) locator-round ∙ pow-one R257 (e / 256))
    ∙ mul-one (locator_at (e % 256))

pub power-mod : (e : ℕ) → power_of3 e ≡ power_of3 (e % 256)
power-mod e =
    (res_same 257 prime_257 (3 ^ e) (3 ^ (e % 256))).0
    (res-pow 257 prime_257 3 e ∙ locator-mod e ∙ sym (res-pow 257 prime_257 3 (e % 256)))

-- the inverse of a locator is a power of 3
locator-inverse : (i : ℕ) → i ≤ 256 → inv (locator_at i) ≡ locator_at (256 - i)
locator-inverse i h =
    sym (inverse_unique F257 (locator_at i) (locator_at (256 - i))
    (sym (pow-add R257 (res257 3) i (256 - i)) ∙ ap locator_at (let q : i + (256 - i) ≡ 256 = omega arith in q) ∙ locator-round))

pub inverse-power : (i : ℕ) → i ≤ 256 → inverse 257 (locator_of i) ≡ power_of3 (256 - i)
inverse-power i h =
    sym (mod-mod (locator_of i ^ 255) 257)
    ∙ (res_same 257 prime_257 (inverse 257 (locator_of i)) (power_of3 (256 - i))).0
    (res-inverse 257 prime_257 (locator_of i) ∙ ap inv (res-locator i) ∙ locator-inverse i h ∙ sym (res-locator (256 - i)))
    ∙ mod-mod (3 ^ (256 - i)) 257

-- and is told by its product with the locator
pub inverse-is : (i y : ℕ) → y < 257 → (3 ^ i * y) % 257 ≡ 1 → inverse 257 (locator_of i) ≡ y
inverse-is i y small e =
    res-tells (inverse 257 (locator_of i)) y (mod-lt _ (omega arith)) small
    (res-inverse 257 prime_257 (locator_of i) ∙ ap inv (res-locator i) ∙ sym (inverse_unique F257 (locator_at i) (res257 y) product))
  where
    product : locator_at i ⊗ res257 y ≡ 𝟙
    product =
        ap (λ x. x ⊗ res257 y) (sym (res-pow 257 prime_257 3 i)) ∙ sym (res-mul 257 prime_257 (3 ^ i) y) ∙ sym (res-mod 257 prime_257 (3 ^ i * y))
        ∙ ap res257 e ∙ res_one 257 prime_257
