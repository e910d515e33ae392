-- A stage keeps the sums of the classes: a sum over four times w columns is a sum over w columns of sums over four.
use mathlib.Core.Path.{◌≡◌, sym, ap, ◌∙◌}
use mathlib.Core.List.{List}
use Prim.Native.Nat.{ℕ, ◌+◌, ◌*◌, ◌%◌, ◌≤◌, ◌<◌}
use native.Mathlib.Nat.{add-mul-mod_self_right, mod-eq_of_lt, mul_assoc, mul-le-mul}
use native.Mathlib.Omega.{arith}
use lib.ListN.{get_or}
use Rattle.field.proofs.Remainders.{mod-mul-mod, mul-mod-mod}
use Rattle.field257.specs.Powers.{power_of3}
use Rattle.lists.specs.Total.{total}
use Rattle.lists.proofs.BlockSums.{total_swap, total_blocks}
use Rattle.lists.proofs.Totals.{total_ext, total-mul, total-mod}
use Rattle.butterflies.specs.Butterflies.{Butterflies, butterfly}

-- terms with the same remainders
pub total-same : (n : ℕ) (f g : ℕ → ℕ) → ((k : ℕ) → k < n → f k % 257 ≡ g k % 257) → total n f % 257 ≡ total n g % 257
total-same n f g e =
    sym (total-mod n 257 f) ∙ ap (λ (t : ℕ). t % 257) (total_ext n (λ k. f k % 257) (λ k. g k % 257) e) ∙ total-mod n 257 g

-- factors with the same remainders
pub same-times : (u v w : ℕ) → v % 257 ≡ w % 257 → (u * v) % 257 ≡ (u * w) % 257
same-times u v w e = sym (mul-mod-mod u v 257) ∙ ap (λ (r : ℕ). (u * r) % 257) e ∙ mul-mod-mod u w 257

-- ---- places: column i of class c of n, in part j of 64 entries

module _ (n w : ℕ) (whole : n * w ≡ 64) (c : ℕ) (class : c < n) where
  pub lane : (i : ℕ) → i < w → n * i + c < 64
  lane i h =
      let most : n * (i + 1) ≤ n * w = mul-le-mul (let e : n ≤ n = omega arith in e) (let e : i + 1 ≤ w = omega arith in e) in
      let e : n * (i + 1) ≡ n * i + n = omega arith in
      omega arith

  place : (j i : ℕ) → 64 * j + (n * i + c) ≡ n * (w * j + i) + c
  place j i =
      ap (λ (k : ℕ). k * j + (n * i + c)) (sym whole)
      ∙ (let e : n * w * j + (n * i + c) ≡ n * (w * j + i) + c = omega arith in e)

  pub class_of : (j i : ℕ) → (64 * j + (n * i + c)) % n ≡ c
  class_of j i =
      ap (λ (k : ℕ). k % n) (place j i ∙ (let e : n * (w * j + i) + c ≡ c + (w * j + i) * n = omega arith in e))
      ∙ add-mul-mod_self_right c (w * j + i) n ∙ mod-eq_of_lt class

-- One stage, for n classes of 4 w columns each: column i of class c counts P i, column i of class 4 c + m counts Q i.
module _ (n w : ℕ) (whole : n * w ≡ 64) (c m : ℕ) (class : c < n) (digit : m < 4) (t x y : List ℕ) (P Q : ℕ → ℕ) where
  pub stage_sum : Butterflies t x y
      → ((j i : ℕ) → j < 4 → i < w → (get_or t (64 * j + (n * i + c)) 0 * power_of3 (64 * j * m) * Q i) % 257 ≡ P (w * j + i) % 257)
      → total w (λ i. get_or y (4 * (n * i + c) + m) 0 * Q i) % 257 ≡ total (w * 4) (λ i. get_or x (n * i + c) 0 * P i) % 257
  unfolding butterfly
  stage_sum stage factors =
      total-same w (λ i. get_or y (4 * (n * i + c) + m) 0 * Q i) (λ i. total 4 (λ j. get_or x (n * (w * j + i) + c) 0 * P (w * j + i))) column
      ∙ ap (λ (s : ℕ). s % 257)
      (sym (total_swap 4 w (λ j i. get_or x (n * (w * j + i) + c) 0 * P (w * j + i))) ∙ sym (total_blocks w 4 (λ i. get_or x (n * i + c) 0 * P i)))
    where
      term : ℕ → ℕ → ℕ
      term i j = get_or x (64 * j + (n * i + c)) 0 * (get_or t (64 * j + (n * i + c)) 0 * power_of3 (64 * j * m))

      counted : (i j : ℕ) → i < w → j < 4 → (term i j * Q i) % 257 ≡ (get_or x (n * (w * j + i) + c) 0 * P (w * j + i)) % 257
      counted i j h l =
          let u = get_or x (64 * j + (n * i + c)) 0 in
          let v = get_or t (64 * j + (n * i + c)) 0 * power_of3 (64 * j * m) in
          ap (λ (s : ℕ). s % 257) (mul_assoc u v (Q i)) ∙ same-times u (v * Q i) (P (w * j + i)) (factors j i l h)
          ∙ ap (λ (k : ℕ). (get_or x k 0 * P (w * j + i)) % 257) (place n w whole c class j i)

      column : (i : ℕ) → i < w
          → (get_or y (4 * (n * i + c) + m) 0 * Q i) % 257 ≡ total 4 (λ j. get_or x (n * (w * j + i) + c) 0 * P (w * j + i)) % 257
      column i h =
          sym (mod-mul-mod (get_or y (4 * (n * i + c) + m) 0) 257 (Q i))
          ∙ ap (λ (r : ℕ). (r * Q i) % 257) (stage.entries (n * i + c) m (lane n w whole c class i h) digit)
          ∙ mod-mul-mod (total 4 (term i)) 257 (Q i)
          ∙ ap (λ (s : ℕ). s % 257) (sym (total-mul 4 (Q i) (term i)))
          ∙ total-same 4 (λ j. term i j * Q i) (λ j. get_or x (n * (w * j + i) + c) 0 * P (w * j + i)) (λ j l. counted i j h l)
