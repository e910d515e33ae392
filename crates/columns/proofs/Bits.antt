-- Laws of a number's bits: `number` makes the only number of n bits that has given bits; a count of ones counts the set bits, trailing zeros
-- find the lowest, and a shift, a single bit and an `or` do to the bits what they should.
use mathlib.Core.Path.{◌≡◌, refl, sym, ap, ap₂, ◌∙◌}
use mathlib.Core.Bool.{Bool, true, false, cond, ◌||◌}
use Prim.Native.Nat.{ℕ, zero, suc, ◌+◌, ◌*◌, ◌/◌, ◌%◌, ◌^◌, ◌≤◌, ◌<◌}
use native.Mathlib.Nat.{div-one, zero-div, pow-suc, lt_of_not-le, not-suc-le-zero}
use native.Mathlib.Numerals.{one-add}
use lib.Arith.{lt-one}
use native.Mathlib.Omega.{arith}
use lib.Dec.{eqb, eqb-suc-zero, eqb-zero-suc, eqb-suc-suc}
use lib.Pow.{shr-shr, pow_pos}
use lib.Bits.{bit_or, or_shr, or_mod}
use lib.Count.{ones, ones_step, count_trailing_zeros, under}
use Rattle.columns.specs.Listed.{count, least}
use Rattle.columns.specs.Columns.{bit, number}
use Rattle.columns.proofs.Listing.{count_ext, count_head}
use Rattle.columns.proofs.Least.{least_ext, least-is}

-- ---- one bit

pub bit_shr : (x a k : ℕ) → bit (x / 2 ^ a) k ≡ bit x (a + k)
bit_shr x a k = ap (λ (y : ℕ). eqb (y % 2) 1) (shr-shr x a k)

bit-low : (x : ℕ) → bit x 0 ≡ eqb (x % 2) 1
bit-low x = ap (λ (y : ℕ). eqb (y % 2) 1) (div-one x)

bit_half : (x k : ℕ) → bit (x / 2) k ≡ bit x (suc k)
bit_half x k = bit_shr x 1 k ∙ ap (bit x) (one-add k)

pub bit_of_zero : (k : ℕ) → bit 0 k ≡ false
bit_of_zero k = ap (λ (y : ℕ). eqb (y % 2) 1) (zero-div (2 ^ k))

-- what is told of a digit, 0 or 1, by the test that it is 1
digit : (d : ℕ) → d < 2 → cond (eqb d 1) 1 0 ≡ d
digit zero h = refl
digit (suc zero) h = refl
digit (suc (suc d)) h = absurd (let z : ⊥ = omega arith in z)

digit-under : (d t : ℕ) → d < 2 → under d t ≡ cond (eqb d 1) 0 (suc t)
digit-under zero t h = refl
digit-under (suc zero) t h = refl
digit-under (suc (suc d)) t h = absurd (let z : ⊥ = omega arith in z)

digit_or : (d e : ℕ) → d < 2 → e < 2 → eqb (bit_or d e) 1 ≡ (eqb d 1 || eqb e 1)
digit_or zero e h l = refl
digit_or (suc zero) zero h l = refl
digit_or (suc zero) (suc zero) h l = refl
digit_or (suc zero) (suc (suc e)) h l = absurd (let z : ⊥ = omega arith in z)
digit_or (suc (suc d)) e h l = absurd (let z : ⊥ = omega arith in z)

low_value : (x : ℕ) → cond (bit x 0) 1 0 ≡ x % 2
low_value x = ap (λ (b : Bool). cond b 1 0) (bit-low x) ∙ digit (x % 2) (omega arith)

-- ---- the number that has given bits

cond-le : (b : Bool) → cond b 1 0 ≤ 1
cond-le true = omega arith
cond-le false = omega arith

odd_number : (n : ℕ) (P : ℕ → Bool) → number (suc n) P % 2 ≡ cond (P 0) 1 0
unfolding number
odd_number n P = omega (arith, cond-le (P 0))

half_number : (n : ℕ) (P : ℕ → Bool) → number (suc n) P / 2 ≡ number n (λ k. P (suc k))
unfolding number
half_number n P = omega (arith, cond-le (P 0))

pub number_lt : (n : ℕ) (P : ℕ → Bool) → number n P < 2 ^ n
unfolding number
number_lt zero P = pow_pos 0
number_lt (suc n) P = omega (arith, cond-le (P 0), number_lt n (λ k. P (suc k)), pow-suc 2 n)

-- bits that agree below n make the same number
pub number_ext : (n : ℕ) (P Q : ℕ → Bool) → ((k : ℕ) → k < n → P k ≡ Q k) → number n P ≡ number n Q
unfolding number
number_ext zero P Q h = refl
number_ext (suc n) P Q h =
    ap₂ (λ (b : Bool) (m : ℕ). cond b 1 0 + 2 * m) (h 0 (omega arith))
    (number_ext n (λ k. P (suc k)) (λ k. Q (suc k)) (λ k l. h (suc k) (omega arith)))

is_one : (b : Bool) → eqb (cond b 1 0) 1 ≡ b
is_one true = refl
is_one false = refl

pub bit-number : (n : ℕ) (P : ℕ → Bool) (k : ℕ) → k < n → bit (number n P) k ≡ P k
bit-number zero P k h = absurd (not-suc-le-zero h)
bit-number (suc n) P zero h = bit-low (number (suc n) P) ∙ ap (λ (y : ℕ). eqb y 1) (odd_number n P) ∙ is_one (P 0)
bit-number (suc n) P (suc k) h =
    sym (bit_half (number (suc n) P) k) ∙ ap (λ (x : ℕ). bit x k) (half_number n P)
    ∙ bit-number n (λ k. P (suc k)) k (omega arith)

-- a number of n bits is made by its bits
pub number_bit : (n x : ℕ) → x < 2 ^ n → number n (bit x) ≡ x
unfolding number
number_bit zero x h = sym (lt-one h)
number_bit (suc n) x h =
    let rest : number n (λ k. bit x (suc k)) ≡ x / 2
    = number_ext n (λ k. bit x (suc k)) (bit (x / 2)) (λ k l. sym (bit_half x k))
    ∙ number_bit n (x / 2) (omega (arith, pow-suc 2 n)) in
    omega (arith, low_value x)

-- ---- counting and finding set bits

pub ones-count : (n x : ℕ) → x < 2 ^ n → ones x ≡ count n (bit x)
unfolding ones count
ones-count zero x h = ap ones (lt-one h)
ones-count (suc n) x h =
    let rest : ones (x / 2) ≡ count n (λ k. bit x (suc k))
    = ones-count n (x / 2) (omega (arith, pow-suc 2 n))
    ∙ count_ext n (bit (x / 2)) (λ k. bit x (suc k)) (λ k l. bit_half x k) in
    ones_step x ∙ ap₂ (λ (a b : ℕ). a + b) (sym (low_value x)) rest ∙ sym (count_head n (bit x))

pub trailing_least : (n x : ℕ) → count_trailing_zeros n x ≡ least n (bit x)
unfolding count_trailing_zeros least
trailing_least zero x = refl
trailing_least (suc n) x =
    let rest : count_trailing_zeros n (x / 2) ≡ least n (λ k. bit x (suc k))
    = trailing_least n (x / 2) ∙ least_ext n (bit (x / 2)) (λ k. bit x (suc k)) (λ k l. bit_half x k) in
    digit-under (x % 2) (count_trailing_zeros n (x / 2)) (omega arith)
    ∙ ap₂ (λ (b : Bool) (t : ℕ). cond b 0 (suc t)) (sym (bit-low x)) rest

-- a number of n bits that is not 0 has a bit set
pub least_lt : (n x : ℕ) → x < 2 ^ n → 0 < x → least n (bit x) < n
least_lt n x h p =
    lt_of_not-le (λ g.
    let all-clear : number n (bit x) ≡ number n (bit 0)
    = number_ext n (bit x) (bit 0) (λ k l. (least-is n (bit x)).before k (omega arith) ∙ sym (bit_of_zero k)) in
    let z : ⊥ = omega (arith, number_bit n x h, number_bit n 0 (pow_pos n)) in
    z)

-- ---- setting a bit

pub bit-or : (x y k : ℕ) → bit (bit_or x y) k ≡ (bit x k || bit y k)
bit-or x y k =
    ap (λ (z : ℕ). eqb (z % 2) 1) (or_shr x y k) ∙ ap (λ (z : ℕ). eqb z 1) (or_mod (x / 2 ^ k) (y / 2 ^ k) 1)
    ∙ digit_or (x / 2 ^ k % 2) (y / 2 ^ k % 2) (omega arith) (omega arith)

pub bit-power : (i k : ℕ) → bit (2 ^ i) k ≡ eqb k i
bit-power zero zero = refl
bit-power zero (suc k) = sym (bit_half 1 k) ∙ bit_of_zero k ∙ sym (eqb-suc-zero k)
bit-power (suc i) zero =
    bit-low (2 ^ suc i) ∙ ap (λ (y : ℕ). eqb y 1) (let e : 2 ^ suc i % 2 ≡ 0 = omega (arith, pow-suc 2 i) in e) ∙ sym (eqb-zero-suc i)
bit-power (suc i) (suc k) =
    sym (bit_half (2 ^ suc i) k) ∙ ap (λ (y : ℕ). bit y k) (let e : 2 ^ suc i / 2 ≡ 2 ^ i = omega (arith, pow-suc 2 i) in e)
    ∙ bit-power i k ∙ sym (eqb-suc-suc k i)
