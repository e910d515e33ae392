-- A polynomial is the function of its coefficients; it has degree at most l where all coefficients above l are 0.
use Rattle.std.specs.Prelude.{◌≡◌, ℕ, suc, ◌-◌, ◌<◌}
use Rattle.std.proofs.Math.Logic.{ite}
use Rattle.std.proofs.Math.Decide.{dec_lt}
use Rattle.algebra.specs.Ring.{CRing}
use Rattle.algebra.specs.Sum.{sum, pow}

module _ (R : CRing) where
  open R use {car, zero as 𝟘, mul as ◌⊗◌}

  infixl 70 ◌⊗◌
  abbrev pub Degree : ℕ → (ℕ → car) → Type 0
  Degree l f = (i : ℕ) → l < i → f i ≡ 𝟘

  -- coefficient m of the product of f and g
  unfoldable pub conv : (ℕ → car) → (ℕ → car) → ℕ → car
  conv f g m = sum R (suc m) (λ i. f i ⊗ g (m - i))

  -- the value at x of a polynomial f of degree at most l
  unfoldable pub eval : ℕ → (ℕ → car) → car → car
  eval l f x = sum R (suc l) (λ i. f i ⊗ pow R x i)

  -- f times the power e of the variable: coefficient i is f (i − e), and 0 below e
  unfoldable pub shift : ℕ → (ℕ → car) → ℕ → car
  shift e f i = ite (dec_lt i e) 𝟘 (f (i - e))
