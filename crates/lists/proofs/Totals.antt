-- Laws of finite sums of numbers: their clauses as equations, equal terms, a bound, sums and multiples, the first term, two parts, remainders, and that
-- the first terms are at most all.
use mathlib.Core.Path.{◌≡◌, refl, sym, ap₂, ◌∙◌}
use Prim.Native.Nat.{ℕ, zero, suc, ◌+◌, ◌*◌, ◌%◌, ◌≤◌, ◌<◌, zero-le}
use native.Mathlib.Nat.{add-zero, add-suc, add_assoc, add-mod, suc-mul, le_step, lt-suc_self, add-le-add, mod-mod, zero-add, zero-mul, add-mul}
use native.Mathlib.Decide.{ℕ_discrete}
use native.Mathlib.Omega.{arith}
use Rattle.lists.specs.Total.{total}

pub total-zero : (f : ℕ → ℕ) → total 0 f ≡ 0
unfolding total
total-zero f = refl

pub total-suc : (n : ℕ) (f : ℕ → ℕ) → total (suc n) f ≡ total n f + f n
unfolding total
total-suc n f = refl

pub total_ext : (n : ℕ) (f g : ℕ → ℕ) → ((k : ℕ) → k < n → f k ≡ g k) → total n f ≡ total n g
total_ext zero f g e = total-zero f ∙ sym (total-zero g)
total_ext (suc n) f g e =
    rw (total-suc n f, total-suc n g) (ap₂ ◌+◌ (total_ext n f g (λ k h. e k (le_step h))) (e n (lt-suc_self n)))

pub total-bound : (n B : ℕ) (f : ℕ → ℕ) → ((k : ℕ) → k < n → f k ≤ B) → total n f ≤ n * B
total-bound zero B f b = rw (total-zero f) zero-le
total-bound (suc n) B f b =
    rw (total-suc n f, suc-mul n B) (add-le-add (total-bound n B f (λ k h. b k (le_step h))) (b n (lt-suc_self n)))

pub total-add : (n : ℕ) (f g : ℕ → ℕ) → total n (λ k. f k + g k) ≡ total n f + total n g
total-add zero f g = rw (total-zero f, total-zero g, total-zero (λ k. f k + g k))
total-add (suc n) f g =
    rw (total-suc n f, total-suc n g, total-suc n (λ k. f k + g k), total-add n f g)
    (let e : total n f + total n g + (f n + g n) ≡ total n f + f n + (total n g + g n) = omega arith in e)

pub total-mul : (n c : ℕ) (f : ℕ → ℕ) → total n (λ k. f k * c) ≡ total n f * c
total-mul zero c f = rw (total-zero f, total-zero (λ k. f k * c), zero-mul)
total-mul (suc n) c f = rw (total-suc n f, total-suc n (λ k. f k * c), total-mul n c f) (sym (add-mul (total n f) (f n) c))

pub total_head : (n : ℕ) (f : ℕ → ℕ) → total (suc n) f ≡ f 0 + total n (λ k. f (suc k))
total_head zero f = rw (total-suc 0 f, total-zero f, total-zero (λ k. f (suc k)), zero-add, add-zero)
total_head (suc n) f =
    rw (total-suc (suc n) f, total_head n f, total-suc n (λ k. f (suc k))) (add_assoc (f 0) (total n (λ k. f (suc k))) (f (suc n)))

pub total-split : (m n : ℕ) (f : ℕ → ℕ) → total (m + n) f ≡ total m f + total n (λ k. f (m + k))
total-split m zero f = rw (add-zero, total-zero (λ k. f (m + k)), add-zero)
total-split m (suc n) f =
    rw (add-suc, total-suc (m + n) f, total-split m n f, total-suc n (λ k. f (m + k)))
    (add_assoc (total m f) (total n (λ k. f (m + k))) (f (m + n)))

-- terms may be reduced first
pub total-mod : (n p : ℕ) (f : ℕ → ℕ) → total n (λ k. f k % p) % p ≡ total n f % p
total-mod zero p f = rw (total-zero f, total-zero (λ k. f k % p))
total-mod (suc n) p f =
    rw (total-suc n f, total-suc n (λ k. f k % p), add-mod (total n f) (f n) p, add-mod (total n (λ k. f k % p)) (f n % p) p)
    (ap₂ (λ (x y : ℕ). (x + y) % p) (total-mod n p f) (mod-mod (f n) p))

-- one term more is at most all terms
pub total-within : (f : ℕ → ℕ) (h n : ℕ) → h < n → total h f + f h ≤ total n f
total-within f h zero l = absurd (let z : ⊥ = omega arith in z)
total-within f h (suc n) l = pick (ℕ_discrete h n) (total-within f h n)
  where
    pick : Dec (h ≡ n) → (h < n → total h f + f h ≤ total n f) → total h f + f h ≤ total (suc n) f
    pick (yes e) before = rw (e, total-suc n f) (omega arith)
    pick (no e) before = let b = before (omega arith) in omega (arith, total-suc n f)
