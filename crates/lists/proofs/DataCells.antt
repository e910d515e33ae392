-- The data of a row copied over zeros, from column m on: the cells before m and past the row are 0.
use mathlib.Core.Path.{◌≡◌, sym, ap, ◌∙◌}
use mathlib.Core.Bool.{Bool, cond}
use mathlib.Core.List.{List}
use Prim.Native.Nat.{ℕ, ◌≤◌}
use native.Mathlib.Omega.{arith}
use borrow.Author.Tests.{lt-ltb, le-ltb}
use lib.Dec.{ltb}
use lib.ListN.{length, get_or, get_or-eq_default}
use Rattle.lists.proofs.Filling.{Filled, filled-from, filled-zeros}
use Rattle.lists.proofs.Zeros.{zeros, zeros-entry}

module _ (row : List ℕ) (m : ℕ) where
  abbrev pub data_cell : ℕ → ℕ
  data_cell k = cond (ltb k m) 0 (get_or row k 0)

  pub data_cell_lem : (k : ℕ) → m ≤ k → get_or row k 0 ≡ data_cell k
  data_cell_lem k le = ap (λ (b : Bool). cond b 0 (get_or row k 0)) (sym (le-ltb k m le))

  pub data_none : m ≤ length (zeros 256) → Filled data_cell (zeros 256) m (zeros 256)
  data_none le =
      filled-from data_cell (zeros 256) m le (λ k l. ap (λ (b : Bool). cond b 0 (get_or row k 0)) (lt-ltb k m l) ∙ sym (zeros-entry 256 k))

  pub data_all : (i : ℕ) (cells : List ℕ) → Filled data_cell (zeros 256) i cells → m ≤ i → length row ≤ i → (k : ℕ) → get_or cells k 0 ≡ data_cell k
  data_all i cells a from le =
      filled-zeros data_cell 256 i cells a (λ k h. sym (data_cell_lem k (omega arith)) ∙ get_or-eq_default row 0 (omega arith))
