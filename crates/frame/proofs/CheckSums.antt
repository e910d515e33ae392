-- Check sums in the field: a check sum is the sum of a row's symbols, each times a power of its column's locator. It is linear in the row, and for a row
-- that is 0 outside a set of columns it is a sum over the set. So a row that is 0 outside a set and whose first check sums, as many as the set has columns,
-- are 0 is 0 (Vandermonde): two rows that agree outside the set and in these sums are equal.
use mathlib.Core.Path.{◌≡◌, sym, ap, ◌∙◌}
use mathlib.Core.Logic.{◌⊎◌, inl, inr}
use mathlib.Core.Bool.{true, false}
use mathlib.Core.List.{List}
use Prim.Native.Nat.{ℕ, suc, ◌+◌, ◌*◌, ◌%◌, ◌^◌, ◌≤◌, ◌<◌}
use native.Mathlib.Nat.{mod-lt}
use native.Mathlib.Decide.{dec_lt}
use native.Mathlib.Omega.{arith}
use lib.Dec.{lit<}
use lib.ListN.{length, get_or, get_or-eq_default}
use lib.Seq.{ext_get_or}
use Rattle.algebra.specs.Sum.{sum}
use Rattle.algebra.proofs.RingLaws.{add-mul, neg-mul, zero-mul, eq_of_sub-zero}
use Rattle.algebra.proofs.Sums.{sum_ext, sum-add, sum-neg}
use Rattle.columns.specs.Columns.{has}
use Rattle.columns.specs.declared.Columns.{Columns}
use Rattle.columns.proofs.Listing.{by-test, length-listed}
use Rattle.field.specs.Coefficients.{value}
use Rattle.field.proofs.Bridge.{res-zero, res-mod, res-mul, res-total}
use Rattle.field.proofs.Remainders.{mul-mod-mod}
use Rattle.lists.specs.Total.{total}
use Rattle.lists.proofs.Totals.{total-bound, total_ext, total-mod}
use Rattle.lists.proofs.Zeros.{zeros, zeros-entry}
use Rattle.field.proofs.Prime257.{prime_257}
use Rattle.field257.specs.Powers.{power_of3}
use Rattle.field257.proofs.Accumulation.{power_of_power}
use Rattle.field257.proofs.Field257.{F257, R257, res257, res-tells, res-tells-zero, symbols, locator_at}
use Rattle.field257.proofs.Locators.{locators_distinct, locator-nonzero}
use Rattle.frame.proofs.Weights.{weight_at, res-weight, weight-power}
use Rattle.field257.proofs.Members.{size, member, Below, sum-members}
use Rattle.field257.proofs.Words.{word-zero}
use Rattle.frame.specs.Frame.{check_sum, weight}
open R257 use {car, zero as 𝟘, add as ◌⊕◌, mul as ◌⊗◌, neg, add-neg}

infixl 60 ◌⊕◌
infixl 70 ◌⊗◌
-- check sum j + 1 of a row of field elements
abbrev pub row_sum : (b n : ℕ) (d : ℕ → R257.car) (j : ℕ) → R257.car
row_sum b n d j = sum R257 n (λ i. d i ⊗ weight_at b i j)

pub check_sum-below : (b n : ℕ) (x : List ℕ) (j : ℕ) → check_sum b n x j < 257
unfolding check_sum
check_sum-below b n x j = mod-lt _ (lit< tt)

-- the check sums of zeros
pub zeros-sum : (b n j : ℕ) → check_sum b n (zeros n) j ≡ 0
unfolding check_sum
zeros-sum b n j =
    let none : total n (λ i. get_or (zeros n) i 0 * weight b i j) ≤ n * 0 = total-bound n 0 _ (λ i _. rw (zeros-entry n i) (omega arith)) in
    omega arith

pub res-check_sum : (b n : ℕ) (x : List ℕ) (j : ℕ) → res257 (check_sum b n x (suc j)) ≡ row_sum b n (symbols x) j
unfolding check_sum
res-check_sum b n x j =
    res-mod 257 prime_257 _ ∙ res-total 257 prime_257 n (λ i. get_or x i 0 * weight b i (suc j))
    ∙ sum_ext R257 n _ _ (λ i _. res-mul 257 prime_257 (get_or x i 0) (weight b i (suc j)) ∙ ap (λ w. symbols x i ⊗ w) (res-weight b i j))

pub row_sum-sub : (b n : ℕ) (c d : ℕ → car) (j : ℕ) → row_sum b n (λ i. c i ⊕ neg (d i)) j ≡ row_sum b n c j ⊕ neg (row_sum b n d j)
row_sum-sub b n c d j =
    sum_ext R257 n _ (λ i. c i ⊗ weight_at b i j ⊕ neg (d i ⊗ weight_at b i j)) (λ i _.
    add-mul R257 (c i) (neg (d i)) (weight_at b i j) ∙ ap (λ x. c i ⊗ weight_at b i j ⊕ x) (neg-mul R257 (d i) (weight_at b i j)))
    ∙ sum-add R257 n (λ i. c i ⊗ weight_at b i j) (λ i. neg (d i ⊗ weight_at b i j))
    ∙ ap (λ x. row_sum b n c j ⊕ x) (sum-neg R257 n (λ i. d i ⊗ weight_at b i j))

-- the check sums of a row that is 0 outside the set
pub row_sum-members : (b n : ℕ) (J : Columns) → n ≤ 256 → Below n J → (d : ℕ → car) → ((i : ℕ) → has J i ≡ false → d i ≡ 𝟘) → (j : ℕ)
    → row_sum b n d j ≡ sum R257 (size J) (λ k. d (member J k) ⊗ weight_at b (member J k) j)
row_sum-members b n J narrow below d z j =
    sum-members R257 n J (λ i. d i ⊗ weight_at b i j) narrow below (λ i f. ap (λ x. x ⊗ weight_at b i j) (z i f) ∙ zero-mul R257 (weight_at b i j))

module _ (b n : ℕ) (J : Columns) (narrow : n ≤ 256) (below : Below n J) where
  pub supported_zero : (d : ℕ → car) → ((i : ℕ) → has J i ≡ false → d i ≡ 𝟘) → ((j : ℕ) → j < size J → row_sum b n d j ≡ 𝟘) → (i : ℕ) → d i ≡ 𝟘
  supported_zero d z sums i = pick (by-test (has J i))
    where
      pick : (has J i ≡ true) ⊎ (has J i ≡ false) → d i ≡ 𝟘
      pick (inl t) =
          word-zero F257 256 locator_at locators_distinct (λ k _. locator-nonzero k) (has J) d (λ k _. z k) b
          (λ j h.
          row_sum-members b 256 J (omega arith) (λ k e. let l = below k e in omega arith) d z j ∙ sym (row_sum-members b n J narrow below d z j)
          ∙ sums j (let c = length-listed 256 (has J) in omega arith))
          i (let l = below i t in omega arith)
      pick (inr f) = z i f

  pub same_row : (x y : List ℕ) → length x ≡ n → length y ≡ n → ((i : ℕ) → i < n → get_or x i 0 < 257) → ((i : ℕ) → i < n → get_or y i 0 < 257)
      → ((i : ℕ) → i < n → has J i ≡ false → get_or x i 0 ≡ get_or y i 0)
      → ((j : ℕ) → j < size J → check_sum b n x (suc j) ≡ check_sum b n y (suc j)) → x ≡ y
  same_row x y lx ly sx sy outside sums =
      ext_get_or 0 x y (lx ∙ sym ly) (λ i h.
      let l : i < n = omega arith in
      res-tells (get_or x i 0) (get_or y i 0) (sx i l) (sy i l) (eq_of_sub-zero R257 _ _ (supported_zero (λ i. symbols x i ⊕ neg (symbols y i))
      (λ i f. ap (λ s. res257 s ⊕ neg (symbols y i)) (kept i f (dec_lt i n)) ∙ add-neg (symbols y i))
      (λ j l.
      row_sum-sub b n (symbols x) (symbols y) j
      ∙ ap (λ s. s ⊕ neg (row_sum b n (symbols y) j)) (sym (res-check_sum b n x j) ∙ ap res257 (sums j l) ∙ res-check_sum b n y j)
      ∙ add-neg (row_sum b n (symbols y) j)) i)))
    where
      kept : (i : ℕ) → has J i ≡ false → Dec (i < n) → get_or x i 0 ≡ get_or y i 0
      kept i f (yes h) = outside i h f
      kept i f (no past) = get_or-eq_default x 0 (omega arith) ∙ sym (get_or-eq_default y 0 (omega arith))

-- ---- single sums

-- a check sum is 0 where it is in the field
pub sum-is-zero : (b n : ℕ) (x : List ℕ) (j : ℕ) → row_sum b n (symbols x) j ≡ 𝟘 → check_sum b n x (suc j) ≡ 0
sum-is-zero b n x j e = res-tells-zero (check_sum b n x (suc j)) (check_sum-below b n x (suc j)) (res-check_sum b n x j ∙ e)

pub zero_in_field : (b n : ℕ) (x : List ℕ) (j : ℕ) → check_sum b n x (suc j) ≡ 0 → row_sum b n (symbols x) j ≡ 𝟘
zero_in_field b n x j e = sym (res-check_sum b n x j) ∙ ap res257 e ∙ res-zero 257 prime_257

-- a check sum is the row's value, as a polynomial, at a power of 3
pub check_sum-value : (b : ℕ) (x : List ℕ) (j : ℕ) → value 257 x (power_of3 (b + j)) ≡ check_sum b (length x) x (suc j)
unfolding value check_sum
check_sum-value b x j =
    sym (total-mod (length x) 257 (λ k. get_or x k 0 * power_of3 (b + j) ^ k))
    ∙ ap (λ (k : ℕ). k % 257)
    (total_ext (length x) (λ k. (get_or x k 0 * power_of3 (b + j) ^ k) % 257) (λ k. (get_or x k 0 * weight b k (suc j)) % 257) (λ k h. same k))
    ∙ total-mod (length x) 257 (λ k. get_or x k 0 * weight b k (suc j))
  where
    same : (k : ℕ) → (get_or x k 0 * power_of3 (b + j) ^ k) % 257 ≡ (get_or x k 0 * weight b k (suc j)) % 257
    same k =
        sym (mul-mod-mod (get_or x k 0) (power_of3 (b + j) ^ k) 257)
        ∙ ap (λ (w : ℕ). (get_or x k 0 * w) % 257) (sym (power_of_power (b + j) k) ∙ sym (weight-power b k j))
        ∙ mul-mod-mod (get_or x k 0) (weight b k (suc j)) 257
