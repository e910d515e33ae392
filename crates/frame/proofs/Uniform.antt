-- A frame is uniform exactly where no two of its symbols differ; the same of its cells.
use mathlib.Core.Path.{◌≡◌, sym, ◌∙◌}
use mathlib.Core.Bool.{true, false}
use mathlib.Core.List.{List}
use mathlib.Core.Logic.{◌⊎◌, inl, inr, ◌↔◌}
use Prim.Native.Nat.{ℕ, ◌+◌, ◌*◌, ◌<◌}
use native.Mathlib.Omega.{arith}
use lib.ListN.{length, get_or}
use borrow.Author.Tests.{eqb-true, eqb-false}
use Rattle.columns.proofs.Listing.{by-test}
use Rattle.lists.proofs.Tabulated.{every-at, every_witness}
use Rattle.frame.proofs.Rows.{cell-place}
use Rattle.frame.specs.Frame.{cell, uniform, Varied}

uniform-same : (f : List ℕ) → uniform f ≡ true → (j k : ℕ) → j < length f → k < length f → get_or f j 0 ≡ get_or f k 0
unfolding uniform
uniform-same f e j k bj bk = eqb-true _ _ (every-at (length f) _ e j bj) ∙ sym (eqb-true _ _ (every-at (length f) _ e k bk))

pub varied-says : (f : List ℕ) → Varied f ↔ (uniform f ≡ false)
unfolding uniform
varied-says f = (
  λ (j, k, bj, bk, apart). pick j k bj bk apart (by-test (uniform f)),
  λ e.
      let (k, b, apart) = every_witness (length f) _ e in
      (k, 0, b, omega arith, eqb-false _ _ apart),
)
  where
    pick : (j k : ℕ) → j < length f → k < length f → (get_or f j 0 ≡ get_or f k 0 → ⊥) → (uniform f ≡ true) ⊎ (uniform f ≡ false) → uniform f ≡ false
    pick j k bj bk apart (inl t) = absurd (apart (uniform-same f t j k bj bk))
    pick j k bj bk apart (inr n) = n

pub uniform-cells : (n rows : ℕ) (f : List ℕ) → length f ≡ rows * n → uniform f ≡ true → (h i k l : ℕ) → h < rows → i < n → k < rows → l < n
    → cell n f h i ≡ cell n f k l
uniform-cells n rows f whole e h i k l r c r' c' =
    uniform-same f e (h * n + i) (k * n + l) (let p = cell-place n rows h i r c in omega arith) (let p = cell-place n rows k l r' c' in omega arith)
