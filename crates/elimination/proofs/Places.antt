-- Where the values of a table of equations stand.
use mathlib.Core.Path.{◌≡◌, refl, ap, ap₂, ◌∙◌}
use mathlib.Core.Bool.{Bool, true, false, cond, ◌&&◌}
use mathlib.Core.Logic.{◌⊎◌, inl, inr}
use mathlib.Core.List.{List}
use Prim.Native.Nat.{ℕ, ◌+◌, ◌*◌, ◌≤◌, ◌<◌}
use native.Mathlib.Decide.{dec_lt}
use native.Mathlib.Omega.{arith}
use borrow.Author.Tests.{lt-ltb, le-ltb}
use lib.Dec.{ltb}
use lib.ListN.{get_or}
use Rattle.elimination.specs.Equations.{place_of, value_at}

pub place_in : (k j : ℕ) → k < 129 → j < 129 → place_of k j ≡ k * 129 + j
place_in k j h l = ap₂ (λ (a b : Bool). cond (a && b) (k * 129 + j) 16641) (lt-ltb k 129 h) (lt-ltb j 129 l)

pub place_out : (k j : ℕ) → (129 ≤ k) ⊎ (129 ≤ j) → place_of k j ≡ 16641
place_out k j (inl h) = ap (λ (a : Bool). cond (a && ltb j 129) (k * 129 + j) 16641) (le-ltb k 129 h)
place_out k j (inr l) = ap (λ (b : Bool). cond (ltb k 129 && b) (k * 129 + j) 16641) (le-ltb j 129 l) ∙ shut (ltb k 129)
  where
    shut : (a : Bool) → cond (a && false) (k * 129 + j) 16641 ≡ 16641
    shut true = refl
    shut false = refl

-- the rows from 1 on stand past the equation that is being added
pub row-past : (k j : ℕ) → 1 ≤ k → 129 ≤ place_of k j
row-past k j low = pick (dec_lt k 129) (dec_lt j 129)
  where
    pick : Dec (k < 129) → Dec (j < 129) → 129 ≤ place_of k j
    pick (yes h) (yes l) = let e = place_in k j h l in omega arith
    pick (yes h) (no l) = let e = place_out k j (inr (omega arith)) in omega arith
    pick (no h) d = let e = place_out k j (inl (omega arith)) in omega arith

pub row_within : (k j : ℕ) → k < 129 → j < 129 → place_of k j < 16641
row_within k j h l = let e = place_in k j h l in omega arith

-- two values stand at different places
pub places_differ : (k j g i : ℕ) → k < 129 → j < 129 → g < 129 → i < 129 → ((k ≡ g) × (j ≡ i) → ⊥) → place_of k j ≡ place_of g i → ⊥
places_differ k j g i hk hj hg hi other e =
    let a = place_in k j hk hj in let b = place_in g i hg hi in
    let s : k ≡ g = omega arith in
    other (s, omega arith)

-- where no place from n on is changed, no row is
pub rows-kept : (n : ℕ) (old new : List ℕ) → n ≤ 129 → ((m : ℕ) → n ≤ m → get_or new m 0 ≡ get_or old m 0) → (k j : ℕ) → 1 ≤ k →
    value_at new k j ≡ value_at old k j
rows-kept n old new most kept k j low = kept (place_of k j) (let l = row-past k j low in omega arith)
