-- The jobs where one of them is replaced.
use mathlib.Core.Path.{◌≡◌, refl, ap}
use mathlib.Core.Bool.{Bool, cond}
use Prim.Native.Nat.{ℕ}
use borrow.Author.Tests.{eq-eqb, ne_eqb}
use Rattle.turns.specs.Dispatcher.{Kind, Jobs, put}

module _ (K : Kind) (d : Jobs K) (k : ℕ) (j : K.job) where
  pub put-there : put K d k j k ≡ j
  unfolding put
  put-there = ap (λ (t : Bool). cond t j (d.at k)) (eq-eqb k k refl)

  pub put_elsewhere : (i : ℕ) → (i ≡ k → ⊥) → put K d k j i ≡ d.at i
  unfolding put
  put_elsewhere i n = ap (λ (t : Bool). cond t j (d.at i)) (ne_eqb i k n)
