-- What is given by an order of refusals is read off the outcome of its tests.
use mathlib.Core.Path.{◌≡◌, sym, ap, ◌∙◌}
use mathlib.Core.List.{List}
use Prim.Native.Nat.{ℕ}
use Rattle.refusal.proofs.Orders.{first_of_map}
use Rattle.refusal.specs.Order.{Test, first_of}
use Rattle.refusal.specs.Outcome.{Outcome, passed, refused, outcome}

module _ {A : Type 0} (refuse : ℕ → A) (otherwise : A) where
  read : Outcome → A
  read passed = otherwise
  read (refused k) = refuse k

  given : (ts : List Test) → first_of refuse ts otherwise ≡ read (outcome ts)
  unfolding read
  given ts = sym (first_of_map read refused ts passed)

  pub given-passed : (ts : List Test) → outcome ts ≡ passed → first_of refuse ts otherwise ≡ otherwise
  unfolding read
  given-passed ts e = given ts ∙ ap read e

  pub given-refused : (ts : List Test) (k : ℕ) → outcome ts ≡ refused k → first_of refuse ts otherwise ≡ refuse k
  unfolding read
  given-refused ts k e = given ts ∙ ap read e
