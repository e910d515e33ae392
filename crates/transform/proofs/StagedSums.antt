-- What the last stage has for a class of exponents is the value at its exponent k of the row that was weighed: each stage keeps the sum over the columns of
-- the class that k is of, each times its power of 3^k.
use mathlib.Core.Path.{◌≡◌, refl, sym, ap, ap₂, ◌∙◌}
use mathlib.Core.List.{List}
use Prim.Native.Nat.{ℕ, ◌+◌, ◌*◌, ◌/◌, ◌%◌, ◌^◌, ◌<◌}
use native.Mathlib.Nat.{add-mul-mod_self_right, add-zero, mul_assoc, mul-zero, one-mul}
use native.Mathlib.Omega.{arith}
use lib.ListN.{get_or}
use lib.Pow.{pow-add}
use Rattle.field.proofs.Remainders.{mod-mul-mod}
use Rattle.field257.specs.Powers.{power_of3}
use Rattle.field257.proofs.Locators.{power-mod}
use Rattle.lists.specs.Tabulate.{tabulate}
use Rattle.lists.specs.Total.{total}
use Rattle.lists.proofs.Tabulated.{get_d_tabulate}
use Rattle.lists.proofs.Totals.{total_ext}
use Rattle.butterflies.specs.Butterflies.{Butterflies, butterfly}
use Rattle.transform.specs.Stages.{reversal, factor_of, weighed_sum}
use Rattle.transform.proofs.Reversals.{reversal-twice, reversal-two, reversal-one}
use Rattle.butterflies.proofs.StageSums.{total-same, same-times, lane, class_of, stage_sum}

-- ---- the factors

pub power-product : (a b : ℕ) → (power_of3 a * 3 ^ b) % 257 ≡ power_of3 (a + b)
power-product a b = mod-mul-mod (3 ^ a) 257 (3 ^ b) ∙ ap (λ (r : ℕ). r % 257) (sym (pow-add 3 a b))

power-round : (e q : ℕ) → power_of3 (e + q * 256) ≡ power_of3 e
power-round e q = power-mod (e + q * 256) ∙ ap power_of3 (add-mul-mod_self_right e q 256) ∙ sym (power-mod e)

-- 3^(w k) is told by r and a digit m of k
factor-round : (w k r m q j i : ℕ) → w * k ≡ r + 64 * m + 256 * q
    → (power_of3 (j * r) * power_of3 (64 * j * m) * 3 ^ (i * k)) % 257 ≡ 3 ^ ((w * j + i) * k) % 257
factor-round w k r m q j i e =
    ap (λ (s : ℕ). s % 257) (mul_assoc (power_of3 (j * r)) (power_of3 (64 * j * m)) (3 ^ (i * k)))
    ∙ same-times (power_of3 (j * r)) (power_of3 (64 * j * m) * 3 ^ (i * k)) (3 ^ (64 * j * m + i * k)) (power-product (64 * j * m) (i * k))
    ∙ power-product (j * r) (64 * j * m + i * k)
    ∙ sym (power-round (j * r + (64 * j * m + i * k)) (j * q))
    ∙ ap power_of3 exponents
  where
    exponents : j * r + (64 * j * m + i * k) + j * q * 256 ≡ (w * j + i) * k
    exponents =
        (let s : j * r + (64 * j * m + i * k) + j * q * 256 ≡ j * (r + 64 * m + 256 * q) + i * k = omega arith in s)
        ∙ ap (λ (s : ℕ). j * s + i * k) (sym e) ∙ (let s : j * (w * k) + i * k ≡ (w * j + i) * k = omega arith in s)

-- the factor of entry k of a table, where it is in the part j and of the class c
factor-at : (n c j k : ℕ) (t : List ℕ) → ((k : ℕ) → k < 256 → get_or t k 0 ≡ factor_of n k) → k < 256 → k / 64 ≡ j → k % n ≡ c
    → get_or t k 0 ≡ power_of3 (j * reversal c)
unfolding factor_of
factor-at n c j k t known less part class = known k less ∙ ap₂ (λ (a b : ℕ). power_of3 (a * reversal b)) part class

-- ---- the stages for one exponent k

module _ (k : ℕ) where
  -- the sum over `count` columns of class c of n, each times its power of 3^k
  abbrev class_sum : (count : ℕ) (y : List ℕ) (n c : ℕ) → ℕ
  class_sum count y n c = total count (λ i. get_or y (n * i + c) 0 * 3 ^ (i * k)) % 257

  -- the columns times their factors count the same
  first_stage : (t x y : List ℕ) → Butterflies t x y → class_sum 64 y 4 (k % 4) ≡ weighed_sum t x k
  unfolding weighed_sum
  first_stage t x y stage =
      ap (λ (s : ℕ). s % 257)
      (total_ext 64 (λ i. get_or y (4 * i + k % 4) 0 * 3 ^ (i * k)) (λ i. get_or y (4 * (1 * i + 0) + k % 4) 0 * 3 ^ (i * k))
      (λ i h. ap (λ (m : ℕ). get_or y m 0 * 3 ^ (i * k)) (let e : 4 * i + k % 4 ≡ 4 * (1 * i + 0) + k % 4 = omega arith in e)))
      ∙ stage_sum 1 64 refl 0 (k % 4) (omega arith) (omega arith) t x y (λ i. get_or t i 0 * 3 ^ (i * k)) (λ i. 3 ^ (i * k)) stage factors
      ∙ ap (λ (s : ℕ). s % 257)
      (total_ext 256 (λ i. get_or x (1 * i + 0) 0 * (get_or t i 0 * 3 ^ (i * k))) (λ i. get_or x i 0 * (get_or t i 0 * 3 ^ (i * k)))
      (λ i h. ap (λ (m : ℕ). get_or x m 0 * (get_or t i 0 * 3 ^ (i * k))) (let e : 1 * i + 0 ≡ i = omega arith in e)))
    where
      factors : (j i : ℕ) → j < 4 → i < 64
          → (get_or t (64 * j + (1 * i + 0)) 0 * power_of3 (64 * j * (k % 4)) * 3 ^ (i * k)) % 257
          ≡ (get_or t (64 * j + i) 0 * 3 ^ ((64 * j + i) * k)) % 257
      factors j i lj li =
          ap (λ (m : ℕ). (get_or t m 0 * power_of3 (64 * j * (k % 4)) * 3 ^ (i * k)) % 257) (let e : 64 * j + (1 * i + 0) ≡ 64 * j + i = omega arith in e)
          ∙ ap (λ (s : ℕ). s % 257) (mul_assoc (get_or t (64 * j + i) 0) (power_of3 (64 * j * (k % 4))) (3 ^ (i * k)))
          ∙ same-times (get_or t (64 * j + i) 0) (power_of3 (64 * j * (k % 4)) * 3 ^ (i * k)) (3 ^ ((64 * j + i) * k))
          (ap (λ (u : ℕ). (u * 3 ^ (i * k)) % 257) (sym (one-mul (power_of3 (64 * j * (k % 4)))))
          ∙ ap (λ (u : ℕ). (power_of3 u * power_of3 (64 * j * (k % 4)) * 3 ^ (i * k)) % 257) (sym (mul-zero j))
          ∙ factor-round 64 k 0 (k % 4) (k / 4) j i (let e : 64 * k ≡ 0 + 64 * (k % 4) + 256 * (k / 4) = omega arith in e))

  later_stage : (n w : ℕ) (whole : n * w ≡ 64) (c m q : ℕ) → c < n → m < 4 → w * k ≡ reversal c + 64 * m + 256 * q → (t x y : List ℕ) → Butterflies t x y
      → ((k : ℕ) → k < 256 → get_or t k 0 ≡ factor_of n k) → class_sum w y (4 * n) (4 * c + m) ≡ class_sum (w * 4) x n c
  later_stage n w whole c m q class digit exponent t x y stage known =
      ap (λ (s : ℕ). s % 257)
      (total_ext w (λ i. get_or y (4 * n * i + (4 * c + m)) 0 * 3 ^ (i * k)) (λ i. get_or y (4 * (n * i + c) + m) 0 * 3 ^ (i * k))
      (λ i h. ap (λ (r : ℕ). get_or y r 0 * 3 ^ (i * k)) (let e : 4 * n * i + (4 * c + m) ≡ 4 * (n * i + c) + m = omega arith in e)))
      ∙ stage_sum n w whole c m class digit t x y (λ i. 3 ^ (i * k)) (λ i. 3 ^ (i * k)) stage factors
    where
      factors : (j i : ℕ) → j < 4 → i < w
          → (get_or t (64 * j + (n * i + c)) 0 * power_of3 (64 * j * m) * 3 ^ (i * k)) % 257 ≡ 3 ^ ((w * j + i) * k) % 257
      factors j i lj li =
          let l = lane n w whole c class i li in
          ap (λ (u : ℕ). (u * power_of3 (64 * j * m) * 3 ^ (i * k)) % 257)
          (factor-at n c j (64 * j + (n * i + c)) t known (omega arith) (omega arith) (class_of n w whole c class j i))
          ∙ factor-round w k (reversal c) m q j i exponent

  last_stage : k < 64 → (t x : List ℕ) → ((k : ℕ) → k < 256 → get_or t k 0 ≡ factor_of 64 k)
      → butterfly t x (reversal k) 0 % 257 ≡ class_sum 4 x 64 (reversal k)
  unfolding butterfly
  last_stage less t x known =
      total-same 4 (λ j. get_or x (64 * j + reversal k) 0 * (get_or t (64 * j + reversal k) 0 * power_of3 (64 * j * 0)))
      (λ j. get_or x (64 * j + reversal k) 0 * 3 ^ (j * k))
      (λ j h. same-times (get_or x (64 * j + reversal k) 0) (get_or t (64 * j + reversal k) 0 * power_of3 (64 * j * 0)) (3 ^ (j * k))
      (factors (reversal k) below (reversal-twice k less) j h))
    where
      below : reversal k < 64
      below = omega arith

      factors : (c : ℕ) → c < 64 → reversal c ≡ k → (j : ℕ) → j < 4 → (get_or t (64 * j + c) 0 * power_of3 (64 * j * 0)) % 257 ≡ 3 ^ (j * k) % 257
      factors c small e j h =
          ap₂ (λ (u v : ℕ). (u * power_of3 v) % 257)
          (factor-at 64 c j (64 * j + c) t known (omega arith) (omega arith) (omega arith) ∙ ap (λ (r : ℕ). power_of3 (j * r)) e) (mul-zero (64 * j))
          ∙ power-product (j * k) 0 ∙ ap power_of3 (add-zero (j * k))

  -- the four parts of the table, and what the stages read, the row first
  module _ (less : k < 64) (t₀ t₁ t₂ t₃ y₀ y₁ y₂ y₃ : List ℕ) (first : Butterflies t₀ y₀ y₁) (second : Butterflies t₁ y₁ y₂) (third : Butterflies t₂ y₂ y₃)
      (fours : (k : ℕ) → k < 256 → get_or t₁ k 0 ≡ factor_of 4 k) (sixteens : (k : ℕ) → k < 256 → get_or t₂ k 0 ≡ factor_of 16 k)
      (all : (k : ℕ) → k < 256 → get_or t₃ k 0 ≡ factor_of 64 k) where
    all_stages : butterfly t₃ y₃ (reversal k) 0 % 257 ≡ weighed_sum t₀ y₀ k
    all_stages =
        let c : ℕ = 4 * (k % 4) + k / 4 % 4 in
        last_stage less t₃ y₃ all
        ∙ ap (class_sum 4 y₃ 64) (let e : reversal k ≡ 4 * c + k / 16 = omega arith in e)
        ∙ later_stage 16 4 refl c (k / 16) 0 (omega arith) (omega arith)
        ((let e : 4 * k ≡ 4 * (k % 4) + 16 * (k / 4 % 4) + 64 * (k / 16) + 256 * 0 = omega arith in e)
        ∙ ap (λ (r : ℕ). r + 64 * (k / 16) + 256 * 0) (sym (reversal-two (k % 4) (k / 4 % 4) (omega arith) (omega arith)))) t₂ y₂ y₃ third sixteens
        ∙ later_stage 4 16 refl (k % 4) (k / 4 % 4) (k / 16) (omega arith) (omega arith)
        ((let e : 16 * k ≡ 16 * (k % 4) + 64 * (k / 4 % 4) + 256 * (k / 16) = omega arith in e)
        ∙ ap (λ (r : ℕ). r + 64 * (k / 4 % 4) + 256 * (k / 16)) (sym (reversal-one (k % 4) (omega arith)))) t₁ y₁ y₂ second fours
        ∙ first_stage t₀ y₀ y₁ first

    -- the entry r of what the last stage has
    pub staged_sum : (v : List ℕ) (r : ℕ) → v ≡ tabulate 64 (λ l. butterfly t₃ y₃ l 0 % 257) → r ≡ reversal k → r < 64
        → get_or v r 0 ≡ weighed_sum t₀ y₀ k
    staged_sum v r fourth place below =
        ap (λ (l : List ℕ). get_or l r 0) fourth ∙ get_d_tabulate 64 (λ l. butterfly t₃ y₃ l 0 % 257) r 0 below
        ∙ ap (λ (l : ℕ). butterfly t₃ y₃ l 0 % 257) place ∙ all_stages
