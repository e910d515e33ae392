-- The value of a polynomial at 3^j, as it is accumulated: coefficients times powers of 3, whose exponents are the multiples of j. The exponents fit 32 bits,
-- the sum fits 64, and its remainder is the value.
use mathlib.Core.Path.{◌≡◌, sym, ap, ap₂, ◌∙◌}
use mathlib.Core.List.{List}
use Prim.Native.Nat.{ℕ, zero, suc, ◌+◌, ◌*◌, ◌%◌, ◌^◌, ◌≤◌, ◌<◌}
use native.Mathlib.Nat.{add-mod, le_antisymm, mul-le-mul, pow-suc, pow-zero, suc-mul, zero-mul}
use native.Mathlib.Numerals.{add-one}
use native.Mathlib.Omega.{arith}
use mir.Syntax.{w16}
use mir.Val.{Fits}
use lib.Pow.{pow-add}
use lib.ListN.{length, get_or}
use Rattle.field.specs.Coefficients.{value}
use Rattle.lists.specs.Total.{total}
use Rattle.field.proofs.Remainders.{mod-mul-mod, mul-mod-mod}
use Rattle.lists.proofs.Totals.{total-suc}
use Rattle.field257.specs.Powers.{power_of3}

-- a power of a power
pub power_of_power : (j k : ℕ) → power_of3 (k * j) ≡ (power_of3 j ^ k) % 257
power_of_power j zero = rw (zero-mul, pow-zero)
power_of_power j (suc k) =
    rw (suc-mul k j, pow-add 3 (k * j) j, pow-suc (power_of3 j) k)
    (sym (mod-mul-mod (3 ^ (k * j)) 257 (3 ^ j)) ∙ sym (mul-mod-mod (power_of3 (k * j)) (3 ^ j) 257)
    ∙ ap (λ (p : ℕ). (p * power_of3 j) % 257) (power_of_power j k) ∙ mod-mul-mod (power_of3 j ^ k) 257 (power_of3 j))

-- w is the power at the exponent of the i-th term
pub power_of_point : (j i : ℕ) {e w : ℕ} → e ≡ i * j → w ≡ power_of3 e → (v : ℕ) → (v * w) % 257 ≡ (v * power_of3 j ^ i) % 257
power_of_point j i at is v = ap (λ (n : ℕ). (v * n) % 257) (is ∙ ap power_of3 at ∙ power_of_power j i) ∙ mul-mod-mod v (power_of3 j ^ i) 257

module _ (x : List ℕ) (j : ℕ) where
  -- what coefficient k adds to the value at 3^j
  abbrev pub term : ℕ → ℕ
  term k = get_or x k 0 * power_of3 j ^ k

  -- after i coefficients the sum is t, and e is the exponent of the next power
  pub record Accumulated (i e t : ℕ) : Type 0 where
    pub within : i ≤ length x
    pub exponent : e ≡ i * j
    pub terms : t % 257 ≡ total i term % 257
    pub bounded : t ≤ i * 562949953421312

  -- w is the next power
  module _ (i e t : ℕ) (a : Accumulated i e t) (w : ℕ) (is : w ≡ power_of3 e) where
    small : w ≤ 256
    small = omega arith

    pub more : (r : ℕ) → i < length x → Fits w16 (get_or x i 0) → r ≡ get_or x i 0 * w → Accumulated (i + 1) (e + j) (t + r)
    more r h known q = record {
      within = omega arith;
      exponent = omega (arith, a.exponent);
      terms =
          add-mod t r 257
          ∙ ap₂ (λ (m n : ℕ). (m + n) % 257) a.terms (ap (λ (k : ℕ). k % 257) q ∙ power_of_point j i a.exponent is (get_or x i 0))
          ∙ sym (add-mod (total i term) (term i) 257)
          ∙ ap (λ (k : ℕ). k % 257) (sym (ap (λ (k : ℕ). total k term) (add-one i) ∙ total-suc i term));
      bounded =
          (let b = a.bounded in
          let s = mul-le-mul (let z : get_or x i 0 ≤ 65535 = omega arith in z) small in
          omega arith);
    }

  module _ (i e t : ℕ) (a : Accumulated i e t) where
    pub finished : length x ≤ i → t % 257 ≡ value 257 x (power_of3 j)
    unfolding value
    finished le = a.terms ∙ ap (λ (k : ℕ). total k term % 257) (le_antisymm a.within le)
