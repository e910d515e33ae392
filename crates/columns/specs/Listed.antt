-- The numbers below a bound n that a test P passes: how many they are, their list, and the least of them.
use Rattle.std.specs.Prelude.{Bool, cond, List, [], ◌∷◌, ◌++◌, ℕ, zero, suc, ◌+◌}

-- how many k below n pass P
unfoldable pub count : ℕ → (ℕ → Bool) → ℕ
count zero P = 0
count (suc n) P = count n P + cond (P n) 1 0

-- the k below n that pass P, rising
unfoldable pub listed : ℕ → (ℕ → Bool) → List ℕ
listed zero P = []
listed (suc n) P = listed n P ++ cond (P n) (n ∷ []) []

-- the least k below n that passes P, or n where none does
unfoldable pub least : ℕ → (ℕ → Bool) → ℕ
least zero P = 0
least (suc n) P = cond (P 0) 0 (suc (least n (λ k. P (suc k))))
