-- An order of refusals: a list of numbers, each with its reason. The first whose reason holds is the one that is given.
-- `First` says so of reasons that are propositions, for the demands; `first_of` computes it from tests, for the definitions of the calls.
use Rattle.std.specs.Prelude.{◌≡◌, ◌⊎◌, Bool, cond, List, [], ◌∷◌, ℕ}

pub record Reason : Type 1 where
  pub number : ℕ
  pub holds : Type 0

-- k is the number of the first reason that holds
abbrev pub First : ℕ → List Reason → Type 0
First k [] = ⊥
First k (r ∷ rs) = (r.holds × (k ≡ r.number)) ⊎ ((r.holds → ⊥) × First k rs)

-- no reason holds
abbrev pub None : List Reason → Type 0
None [] = Unit {0}
None (r ∷ rs) = (r.holds → ⊥) × None rs

pub record Test : Type 0 where
  pub number : ℕ
  pub fails : Bool

-- the number of the first test that fails, as `refuse` makes a refusal of it, and `otherwise` where none fails
abbrev pub first_of : {A : Type 0} → (ℕ → A) → List Test → A → A
first_of refuse [] otherwise = otherwise
first_of refuse (t ∷ ts) otherwise = cond t.fails (refuse t.number) (first_of refuse ts otherwise)
