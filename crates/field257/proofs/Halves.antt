-- The value of a polynomial at 3^j, the second half of its terms summed beside the first: two sums in one number, the one in its lower 32 bits.
use mathlib.Core.Path.{◌≡◌, sym, ap, ap₂, ◌∙◌}
use mathlib.Core.List.{List}
use Prim.Native.Nat.{ℕ, suc, ◌+◌, ◌*◌, ◌/◌, ◌%◌, ◌^◌, ◌≤◌, ◌<◌, zero-le}
use native.Mathlib.Nat.{add-mod, mul_comm, mul-le-mul, pow-suc}
use native.Mathlib.Omega.{arith}
use mir.Syntax.{w64}
use mir.Val.{Fits}
use lib.Pow.{pow-add}
use lib.ListN.{get_or}
use Rattle.lists.specs.Total.{total}
use Rattle.field.proofs.Remainders.{mod-mul-mod}
use Rattle.lists.proofs.Totals.{total-zero, total-suc, total_ext, total-mul, total-split}
use Rattle.field257.specs.Powers.{power_of3}
use Rattle.field257.proofs.Accumulation.{term, power_of_point}

module _ (c : ℕ → ℕ) (j : ℕ) where
  -- what coefficient k adds
  abbrev part : ℕ → ℕ
  part k = c k * power_of3 j ^ k

  -- after i coefficients the sum is t, and e is the exponent of the next power
  pub record Gathered (i e t : ℕ) : Type 0 where
    pub exponent : e ≡ i * j
    pub terms : t % 257 ≡ total i part % 257
    pub bounded : t ≤ i * 8421376

  gathered_none : Gathered 0 0 0
  gathered_none = record { exponent = omega arith; terms = ap (λ (k : ℕ). k % 257) (sym (total-zero part)); bounded = zero-le }

  two-terms : (i : ℕ) → total (i + 2) part ≡ total i part + part i + part (i + 1)
  two-terms i = next (i + 2) (i + 1) (omega arith) ∙ ap (λ (k : ℕ). k + part (i + 1)) (next (i + 1) i (omega arith))
    where
      next : (n k : ℕ) → n ≡ suc k → total n part ≡ total k part + part k
      next n k e = ap (λ (m : ℕ). total m part) e ∙ total-suc k part

  -- two coefficients more; w is the next power
  gathered-more : (i e t w : ℕ) → Gathered i e t → w ≡ power_of3 e → c i < 257 → c (i + 1) < 257
      → Gathered (i + 2) (e + 2 * j) (t + (c i + power_of3 j * c (i + 1)) * w)
  gathered-more i e t w a is first second = record {
    exponent = omega (arith, a.exponent);
    terms =
        add-mod t (v * w) 257
        ∙ ap₂ (λ (m n : ℕ). (m + n) % 257) a.terms (power_of_point j i a.exponent is v)
        ∙ sym (add-mod (total i part) (v * y ^ i) 257)
        ∙ ap (λ (k : ℕ). k % 257) joined;
    bounded =
        (let most = mul-le-mul (let z : y ≤ 256 = omega arith in z) (let z : c (i + 1) ≤ 256 = omega arith in z) in
        let b = mul-le-mul (let z : v ≤ 65792 = omega arith in z) (let z : w ≤ 256 = omega arith in z) in
        omega (arith, a.bounded));
  }
    where
      y : ℕ
      y = power_of3 j

      v : ℕ
      v = c i + y * c (i + 1)

      spread : (t a b y w : ℕ) → t + (a + y * b) * w ≡ t + a * w + b * (y * w)
      spread t a b y w = omega arith

      joined : total i part + v * y ^ i ≡ total (i + 2) part
      joined =
          spread (total i part) (c i) (c (i + 1)) y (y ^ i)
          ∙ ap (λ (k : ℕ). total i part + part i + c (i + 1) * k)
          (mul_comm y (y ^ i) ∙ sym (pow-suc y i) ∙ ap (λ (k : ℕ). y ^ k) (let e : suc i ≡ i + 1 = omega arith in e))
          ∙ sym (two-terms i)

module _ (c d : ℕ → ℕ) (j : ℕ) where
  -- the sums of i terms of each, in the halves of t
  pub record Beside (i e t : ℕ) : Type 0 where
    pub low : Gathered c j i e (t % 4294967296)
    pub high : Gathered d j i e (t / 4294967296)

  pub beside_none : Beside 0 0 0
  beside_none = record { low = gathered_none c j; high = gathered_none d j }

  -- w is the next power, and v the next two coefficients of each
  pub beside-more : (b e t w v : ℕ) → Beside (2 * b) e t → w ≡ power_of3 e → b < 64 → ((k : ℕ) → c k < 257) → ((k : ℕ) → d k < 257)
      → v ≡ c (2 * b) + power_of3 j * c (2 * b + 1) + 4294967296 * (d (2 * b) + power_of3 j * d (2 * b + 1)) → Beside (2 * (b + 1)) (e + 2 * j) (t + v * w)
  beside-more b e t w v a is few below-c below-d made =
      rw (let s : 2 * (b + 1) ≡ 2 * b + 2 = omega arith in s) record {
        low = rw (lower) one;
        high = rw (upper) other;
      }
    where
      i : ℕ
      i = 2 * b

      x : ℕ
      x = c i + power_of3 j * c (i + 1)

      z : ℕ
      z = d i + power_of3 j * d (i + 1)

      one : Gathered c j (i + 2) (e + 2 * j) (t % 4294967296 + x * w)
      one = gathered-more c j i e (t % 4294967296) w a.low is (below-c i) (below-c (i + 1))

      other : Gathered d j (i + 2) (e + 2 * j) (t / 4294967296 + z * w)
      other = gathered-more d j i e (t / 4294967296) w a.high is (below-d i) (below-d (i + 1))

      apart : (x z w : ℕ) → (x + 4294967296 * z) * w ≡ x * w + 4294967296 * (z * w)
      apart x z w = omega arith

      product : v * w ≡ x * w + 4294967296 * (z * w)
      product = ap (λ (n : ℕ). n * w) made ∙ apart x z w

      lower : (t + v * w) % 4294967296 ≡ t % 4294967296 + x * w
      lower = omega (arith, product, one.bounded)

      upper : (t + v * w) / 4294967296 ≡ t / 4294967296 + z * w
      upper = omega (arith, product, one.bounded)

  pub beside-fits : (i e t : ℕ) → Beside i e t → i ≤ 128 → Fits w64 t
  beside-fits i e t a few = omega (arith, a.high.bounded)

-- the halves of a list joined: h terms of each are summed, and w is the power that comes next
pub halves_joined : (x : List ℕ) (j h e t w : ℕ) → Beside (λ k. get_or x k 0) (λ k. get_or x (h + k) 0) j h e t → w ≡ power_of3 e →
    ((t % 4294967296 + t / 4294967296 * w) % 257 ≡ total (h + h) (term x j) % 257) × (t % 4294967296 + t / 4294967296 * w ≤ (h + h) * 562949953421312)
halves_joined x j h e t w a is = (
  add-mod low (high * w) 257
      ∙ ap₂ (λ (m n : ℕ). (m + n) % 257) a.low.terms
      (power_of_point j h a.high.exponent is high ∙ scaled)
      ∙ sym (add-mod (total h (term x j)) (total h above) 257)
      ∙ ap (λ (k : ℕ). k % 257) (sym (total-split h h (term x j))),
  (let m = mul-le-mul (let z : high ≤ h * 8421376 = a.high.bounded in z) (let z : w ≤ 256 = omega arith in z) in
      omega (arith, a.low.bounded)),
)
  where
    low : ℕ
    low = t % 4294967296

    high : ℕ
    high = t / 4294967296

    y : ℕ
    y = power_of3 j

    above : ℕ → ℕ
    above k = term x j (h + k)

    -- what coefficient h + k adds, over the power of the first half
    lowered : ℕ → ℕ
    lowered k = get_or x (h + k) 0 * y ^ k

    moved : (a p q : ℕ) → a * p * q ≡ a * (q * p)
    moved a p q = omega arith

    scaled : (high * y ^ h) % 257 ≡ total h above % 257
    scaled =
        sym (mod-mul-mod high 257 (y ^ h))
        ∙ ap (λ (m : ℕ). (m * y ^ h) % 257) a.high.terms
        ∙ mod-mul-mod (total h lowered) 257 (y ^ h)
        ∙ ap (λ (k : ℕ). k % 257)
        (sym (total-mul h (y ^ h) lowered)
        ∙ total_ext h (λ k. lowered k * y ^ h) above
        (λ k _. moved (get_or x (h + k) 0) (y ^ k) (y ^ h) ∙ ap (λ (n : ℕ). get_or x (h + k) 0 * n) (sym (pow-add y h k))))
