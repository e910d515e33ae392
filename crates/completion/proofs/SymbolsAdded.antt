-- The symbols at the columns of a set, added to the cells of a row one after the other: the row is completed in the end.
use mathlib.Core.Path.{◌≡◌, refl, ap, ◌∙◌}
use mathlib.Core.List.{List}
use Prim.Native.Nat.{ℕ, ◌+◌, ◌%◌, ◌≤◌, ◌<◌}
use native.Mathlib.Omega.{arith}
use lib.ListN.{length, get_or, set}
use Rattle.columns.specs.declared.Columns.{Columns}
use Rattle.columns.proofs.Walk.{Walk, next_at, walk_start, walk-next, walk-member}
use Rattle.completion.specs.Mendable.{MendableRow}
use Rattle.completion.specs.Mending.{mended_cell}
use Rattle.completion.proofs.MendedRow.{mended-completed, sums-below}
use Rattle.completion.proofs.RowMending.{cell-written, mended_before, mended-none, mended-more, mended-all}
use Rattle.frame.specs.Completion.{completed}
use Rattle.lanes.specs.Symbols.{ReadableSet, symbols_of}
use Rattle.lanes.proofs.SymbolsRead.{symbol-at}
use Rattle.lists.proofs.Tabulated.{length-tabulate}
use Rattle.weights.specs.Weights.{symbol_read}
use Rattle.weights.proofs.ColumnWeights.{coefficients_of}

module _ (b : ℕ) (J : Columns) (sums x : List ℕ) where
  abbrev n : ℕ
  n = length x

  pub readable-set : MendableRow b J sums x → ReadableSet b J sums
  readable-set asked = record {
    exponent = asked.exponent;
    few = (let r = asked.reach in let f = asked.few in omega arith);
    reach = asked.reach;
    sums-small = sums-below b n (length sums) sums x asked.held;
  }

  -- the symbols of the first k columns are added, and the walk stands at i
  pub record Adding (k i : ℕ) (y : List ℕ) : Type 0 where
    pub walk : Walk J k i
    pub row : y ≡ mended_before b J (length x) sums x i

  pub adding_none : (i : ℕ) → i ≡ next_at J 0 → Adding 0 i x
  adding_none i e = record { walk = walk_start J i e; row = mended-none b J n sums x i e refl }

  module _ (k i : ℕ) (y : List ℕ) (a : Adding k i y) where
    pub same_size : length y ≡ length x
    same_size = ap length a.row ∙ length-tabulate n _

    module _ (asked : MendableRow b J sums x) (inside : i < 256) where
      in_row : i < length y
      in_row = let l = asked.below i (a.walk.marked inside) in let s = same_size in omega arith

      pub adding_more : (symbols : List ℕ) → ((k : ℕ) → get_or symbols k 0 ≡ get_or (symbols_of b J sums) k 0) → (cell j : ℕ)
          → cell ≡ (get_or y i 0 + get_or symbols k 0) % 257 → j ≡ next_at J (i + 1) → Adding (k + 1) j (set y i cell)
      adding_more symbols read cell j e next = record {
        walk = walk-next J k i a.walk j inside next;
        row =
            cell-written (coefficients_of b J i) sums i y (get_or symbols k 0) cell in_row symbol e
            ∙ ap (λ (m : ℕ). mended_cell m (coefficients_of b J i) sums i y) same_size
            ∙ mended-more b J n sums x k i a.walk j (coefficients_of b J i) y inside next refl a.row;
      }
        where
          symbol : get_or symbols k 0 ≡ symbol_read (coefficients_of b J i) sums
          symbol =
              let (less, here) = walk-member J k i a.walk inside in
              read k ∙ symbol-at b J sums k less ∙ ap (λ (c : ℕ). symbol_read (coefficients_of b J c) sums) here

    pub adding_all : MendableRow b J sums x → 256 ≤ i → y ≡ completed b (length x) J x
    adding_all asked past =
        a.row ∙ mended-all b J n sums x i asked.narrow past
        ∙ mended-completed b J n (length sums) sums x asked.narrow refl asked.small asked.held asked.below asked.reach
