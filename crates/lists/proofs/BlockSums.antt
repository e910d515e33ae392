-- Sums of numbers taken in blocks: block after block, in the other order, and with terms that are 0 after the last.
use mathlib.Core.Path.{◌≡◌, sym, ap, ◌∙◌}
use Prim.Native.Nat.{ℕ, zero, suc, ◌+◌, ◌-◌, ◌*◌, ◌≤◌, ◌<◌}
use native.Mathlib.Nat.{add-zero, mul-zero}
use native.Mathlib.Omega.{arith}
use Rattle.lists.specs.Total.{total}
use Rattle.lists.proofs.Totals.{total-zero, total-suc, total_ext, total-bound, total-add, total-split}

-- terms that are 0
total-none : (n : ℕ) (f : ℕ → ℕ) → ((k : ℕ) → k < n → f k ≡ 0) → total n f ≡ 0
total-none n f none = omega (arith, total-bound n 0 f (λ k h. let e = none k h in omega arith), mul-zero n)

pub total_swap : (m n : ℕ) (f : ℕ → ℕ → ℕ) → total m (λ b. total n (f b)) ≡ total n (λ a. total m (λ b. f b a))
total_swap zero n f =
    total-zero (λ b. total n (f b)) ∙ sym (total-none n (λ a. total 0 (λ b. f b a)) (λ a h. total-zero (λ b. f b a)))
total_swap (suc m) n f =
    total-suc m (λ b. total n (f b)) ∙ ap (λ (t : ℕ). t + total n (f m)) (total_swap m n f)
    ∙ sym (total-add n (λ a. total m (λ b. f b a)) (f m))
    ∙ total_ext n (λ a. total m (λ b. f b a) + f m a) (λ a. total (suc m) (λ b. f b a)) (λ a h. sym (total-suc m (λ b. f b a)))

pub total_blocks : (n blocks : ℕ) (f : ℕ → ℕ) → total (n * blocks) f ≡ total blocks (λ b. total n (λ a. f (n * b + a)))
total_blocks n zero f =
    ap (λ (k : ℕ). total k f) (mul-zero n) ∙ total-zero f ∙ sym (total-zero (λ b. total n (λ a. f (n * b + a))))
total_blocks n (suc blocks) f =
    ap (λ (k : ℕ). total k f) (let e : n * suc blocks ≡ n * blocks + n = omega arith in e)
    ∙ total-split (n * blocks) n f ∙ ap (λ (t : ℕ). t + total n (λ a. f (n * blocks + a))) (total_blocks n blocks f)
    ∙ sym (total-suc blocks (λ b. total n (λ a. f (n * b + a))))

-- terms from n on that are 0
pub total-rest : (n m : ℕ) (f : ℕ → ℕ) → n ≤ m → ((k : ℕ) → n ≤ k → f k ≡ 0) → total m f ≡ total n f
total-rest n m f le none =
    ap (λ (k : ℕ). total k f) (let e : m ≡ n + (m - n) = omega arith in e) ∙ total-split n (m - n) f
    ∙ ap (λ (t : ℕ). total n f + t) (total-none (m - n) (λ k. f (n + k)) (λ k h. none (n + k) (omega arith))) ∙ add-zero (total n f)
