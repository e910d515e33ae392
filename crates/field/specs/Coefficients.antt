-- Polynomials modulo p as lists of coefficients, the constant one first; coefficients past the list are 0.
use Rattle.std.specs.Prelude.{cond, List, ℕ, suc, ◌-◌, ◌*◌, ◌^◌, ◌%◌, ltb, length, get_or}
use Rattle.field.specs.Residue.{minus, times}
use Rattle.lists.specs.Total.{total}
use Rattle.lists.specs.Tabulate.{tabulate}

-- coefficient i of x^e·τ
unfoldable pub shifted : (e : ℕ) (τ : List ℕ) (i : ℕ) → ℕ
shifted e τ i = cond (ltb i e) 0 (get_or τ (i - e) 0)

-- coefficients 0 .. l of σ − q·x^e·τ
unfoldable pub reduced : (p l : ℕ) (σ : List ℕ) (q e : ℕ) (τ : List ℕ) → List ℕ
reduced p l σ q e τ = tabulate (suc l) (λ i. minus p (get_or σ i 0) (times p q (shifted e τ i)))

-- the value of σ at y
unfoldable pub value : (p : ℕ) (σ : List ℕ) (y : ℕ) → ℕ
value p σ y = total (length σ) (λ k. get_or σ k 0 * y ^ k) % p
