-- What the code works out for four columns is their butterfly, and the entries of a stage are written one after the other.
use mathlib.Core.Path.{◌≡◌, sym, ap, ap₂, subst, ◌∙◌}
use mathlib.Core.List.{List}
use Prim.Native.Nat.{ℕ, ◌+◌, ◌*◌, ◌%◌, ◌<◌}
use native.Mathlib.Nat.{mul_assoc, zero-add}
use native.Mathlib.Decide.{ℕ_discrete}
use native.Mathlib.Omega.{arith}
use lib.ListN.{length, get_or, set, length-set}
use lib.Seq.{get_or-set_same, get_or-set_other}
use Rattle.lists.specs.Total.{total}
use Rattle.lists.proofs.Totals.{total-zero, total-suc}
use Rattle.field.proofs.Remainders.{mod-mul-mod, same-sums}
use Rattle.field257.specs.Powers.{power_of3}
use Rattle.butterflies.specs.Butterflies.{Weighed, butterfly}

four : (f : ℕ → ℕ) → total 4 f ≡ f 0 + f 1 + f 2 + f 3
four f =
    rw (total-suc 3 f, total-suc 2 f, total-suc 1 f, total-suc 0 f, total-zero f, zero-add (f 0))

-- a stands for the product of u and v
same-product : (a u v p : ℕ) → a % 257 ≡ (u * v) % 257 → (a * p) % 257 ≡ (u * (v * p)) % 257
same-product a u v p e =
    sym (mod-mul-mod a 257 p) ∙ ap (λ (r : ℕ). (r * p) % 257) e ∙ mod-mul-mod (u * v) 257 p ∙ ap (λ (r : ℕ). r % 257) (mul_assoc u v p)

module _ (t x : List ℕ) where
  module _ (l a b c d : ℕ) (ea : Weighed t x l a) (eb : Weighed t x (64 + l) b) (ec : Weighed t x (128 + l) c) (ed : Weighed t x (192 + l) d) where
    -- the four with their powers of 3^(64 m)
    pub butterfly-four : (m v : ℕ)
        → v % 257 ≡ (a * power_of3 (64 * 0 * m) + b * power_of3 (64 * 1 * m) + c * power_of3 (64 * 2 * m) + d * power_of3 (64 * 3 * m)) % 257
        → v % 257 ≡ butterfly t x l m % 257
    unfolding butterfly
    butterfly-four m v e =
        e
        ∙ same-sums _ _ _ _ 257
        (same-sums _ _ _ _ 257
        (same-sums _ _ _ _ 257 (same-product a (get_or x l 0) (get_or t l 0) (power_of3 (64 * 0 * m)) ea.same ∙ first)
        (same-product b (get_or x (64 + l) 0) (get_or t (64 + l) 0) (power_of3 (64 * 1 * m)) eb.same))
        (same-product c (get_or x (128 + l) 0) (get_or t (128 + l) 0) (power_of3 (64 * 2 * m)) ec.same))
        (same-product d (get_or x (192 + l) 0) (get_or t (192 + l) 0) (power_of3 (64 * 3 * m)) ed.same)
        ∙ ap (λ (r : ℕ). r % 257) (sym (four (λ j. get_or x (64 * j + l) 0 * (get_or t (64 * j + l) 0 * power_of3 (64 * j * m)))))
      where
        first : (get_or x l 0 * (get_or t l 0 * power_of3 (64 * 0 * m))) % 257
            ≡ (get_or x (64 * 0 + l) 0 * (get_or t (64 * 0 + l) 0 * power_of3 (64 * 0 * m))) % 257
        first = ap (λ (i : ℕ). (get_or x i 0 * (get_or t i 0 * power_of3 (64 * 0 * m))) % 257) (sym (zero-add l))

    -- the last of them, in which b and d change places: 3^192 is 3^(-64)
    pub butterfly-back : (v : ℕ) → v % 257 ≡ (a * 1 + d * 241 + c * 256 + b * 16) % 257 → v % 257 ≡ butterfly t x l 3 % 257
    butterfly-back v e =
        butterfly-four 3 v
        (e ∙ ap (λ (r : ℕ). r % 257) (let q : a * 1 + d * 241 + c * 256 + b * 16 ≡ a * 1 + b * 16 + c * 256 + d * 241 = omega arith in q))

  -- the first n entries are written
  pub record Written (n : ℕ) (y : List ℕ) : Type 0 where
    pub size : length y ≡ 256
    pub ready : (l m : ℕ) → m < 4 → 4 * l + m < n → get_or y (4 * l + m) 0 % 257 ≡ butterfly t x l m % 257

  written-more : (n l m v : ℕ) (y : List ℕ) → Written n y → n ≡ 4 * l + m → m < 4 → l < 64 → v % 257 ≡ butterfly t x l m % 257
      → Written (n + 1) (set y n v)
  written-more n l m v y a place digit less e = record {
    size = length-set y n v ∙ a.size;
    ready = λ k q h below. at k q h below (ℕ_discrete (4 * k + q) n);
  }
    where
      at : (k q : ℕ) → q < 4 → 4 * k + q < n + 1 → Dec (4 * k + q ≡ n) → get_or (set y n v) (4 * k + q) 0 % 257 ≡ butterfly t x k q % 257
      at k q h below (yes same) =
          ap (λ (i : ℕ). get_or (set y n v) i 0 % 257) same
          ∙ ap (λ (i : ℕ). i % 257) (get_or-set_same y n v 0 (let s = a.size in omega arith)) ∙ e
          ∙ ap₂ (λ (i j : ℕ). butterfly t x i j % 257) (let z : l ≡ k = omega arith in z) (let z : m ≡ q = omega arith in z)
      at k q h below (no other) =
          ap (λ (i : ℕ). i % 257) (get_or-set_other y n (4 * k + q) v 0 other) ∙ a.ready k q h (omega arith)

  pub written-four : (l p q r s : ℕ) (y : List ℕ) → Written (4 * l) y → l < 64
      → p % 257 ≡ butterfly t x l 0 % 257 → q % 257 ≡ butterfly t x l 1 % 257 → r % 257 ≡ butterfly t x l 2 % 257 → s % 257 ≡ butterfly t x l 3 % 257
      → Written (4 * (l + 1)) (set (set (set (set y (4 * l) p) (4 * l + 1) q) (4 * l + 2) r) (4 * l + 3) s)
  written-four l p q r s y a less e0 e1 e2 e3 =
      subst (λ (n : ℕ). Written n y4) (let z : 4 * l + 3 + 1 ≡ 4 * (l + 1) = omega arith in z)
      (written-more (4 * l + 3) l 3 s _
      (next (4 * l + 2) (4 * l + 3) (omega arith) (written-more (4 * l + 2) l 2 r _
      (next (4 * l + 1) (4 * l + 2) (omega arith) (written-more (4 * l + 1) l 1 q _
      (written-more (4 * l) l 0 p y a (omega arith) (omega arith) less e0) (omega arith) (omega arith) less e1))
      (omega arith) (omega arith) less e2)) (omega arith) (omega arith) less e3)
    where
      y4 : List ℕ
      y4 = set (set (set (set y (4 * l) p) (4 * l + 1) q) (4 * l + 2) r) (4 * l + 3) s

      next : (n k : ℕ) {z : List ℕ} → n + 1 ≡ k → Written (n + 1) z → Written k z
      next n k {z} same c = subst (λ (i : ℕ). Written i z) same c
