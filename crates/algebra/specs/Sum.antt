-- Finite sums and powers in a ring. A sequence of ring elements is a function of its index.
use Rattle.std.specs.Prelude.{ℕ, zero, suc}
use Rattle.algebra.specs.Ring.{CRing}

module _ (R : CRing) where
  open R use {car, zero as 𝟘, one as 𝟙, add as ◌⊕◌, mul as ◌⊗◌}

  infixl 60 ◌⊕◌
  infixl 70 ◌⊗◌
  -- f 0 + f 1 + .. + f (n − 1)
  unfoldable pub sum : ℕ → (ℕ → car) → car
  sum zero f = 𝟘
  sum (suc n) f = sum n f ⊕ f n

  -- a to the power n
  unfoldable pub pow : car → ℕ → car
  pow a zero = 𝟙
  pow a (suc n) = pow a n ⊗ a
