-- The cells of a row mended one after the other at the columns of a set: what the row holds after some of them.
use mathlib.Core.Path.{◌≡◌, refl, sym, ap, ap₂, ◌∙◌}
use mathlib.Core.Bool.{Bool, cond}
use mathlib.Core.List.{List}
use Prim.Native.Nat.{ℕ, ◌+◌, ◌%◌, ◌≤◌, ◌<◌}
use native.Mathlib.Decide.{ℕ_discrete}
use native.Mathlib.Omega.{arith}
use lib.Dec.{eqb}
use lib.ListN.{length, get_or, set}
use borrow.Author.Tests.{eq-eqb, ne_eqb}
use Rattle.columns.specs.Columns.{has}
use Rattle.columns.specs.declared.Columns.{Columns}
use Rattle.columns.proofs.Walk.{Walk, next_at}
use Rattle.lists.specs.Tabulate.{tabulate}
use Rattle.lists.proofs.Filling.{by_entries, set-tabulate}
use Rattle.lists.proofs.Tabulated.{get_d_tabulate, length-tabulate, tabulate_ext, tabulate-get_or}
use Rattle.completion.specs.Mending.{mended_cell}
use Rattle.weights.specs.Weights.{symbol_read}
use Rattle.weights.proofs.ColumnWeights.{coefficients_of}
use Rattle.columns.proofs.Passing.{passed, passed_none, not_yet, passed_here, passed-other, passed-all}

-- ---- one cell

pub length-mended_cell : (n : ℕ) (coefficients sums : List ℕ) (i : ℕ) (x : List ℕ) → length (mended_cell n coefficients sums i x) ≡ n
unfolding mended_cell
length-mended_cell n coefficients sums i x = length-tabulate n _

pub cell-written : (coefficients sums : List ℕ) (i : ℕ) (x : List ℕ) (symbol cell : ℕ) → i < length x → symbol ≡ symbol_read coefficients sums
    → cell ≡ (get_or x i 0 + symbol) % 257 → set x i cell ≡ mended_cell (length x) coefficients sums i x
unfolding mended_cell
cell-written coefficients sums i x symbol cell l read e =
    ap (λ (z : List ℕ). set z i cell) (sym (tabulate-get_or x 0))
    ∙ set-tabulate (length x) (λ k. get_or x k 0) (λ k. chosen k (eqb k i)) i cell l
    (e ∙ ap (λ (r : ℕ). (get_or x i 0 + r) % 257) read ∙ ap (chosen i) (sym (eq-eqb i i refl))) (λ k _ other. ap (chosen k) (sym (ne_eqb k i other)))
  where
    chosen : ℕ → Bool → ℕ
    chosen k b = cond b ((get_or x k 0 + symbol_read coefficients sums) % 257) (get_or x k 0)

-- ---- the cells of a set

module _ (b : ℕ) (J : Columns) (n : ℕ) (sums x : List ℕ) where
  -- cell k, mended or not
  abbrev chosen : ℕ → Bool → ℕ
  chosen k t = cond t ((get_or x k 0 + symbol_read (coefficients_of b J k) sums) % 257) (get_or x k 0)

  -- the row mended in the columns of the set before i
  abbrev pub mended_before : ℕ → List ℕ
  mended_before i = tabulate n (λ k. chosen k (passed J i k))

  -- the row mended in the columns of the set
  abbrev pub mended_row : List ℕ
  mended_row = tabulate n (λ k. chosen k (has J k))

  pub mended-none : (i : ℕ) → i ≡ next_at J 0 → length x ≡ n → x ≡ mended_before i
  mended-none i e whole = by_entries n (λ k. chosen k (passed J i k)) x whole (λ k _. ap (chosen k) (sym (passed_none J i e k)))

  pub mended-more : (d i : ℕ) → Walk J d i → (j : ℕ) (coefficients y : List ℕ) → i < 256 → j ≡ next_at J (i + 1) → coefficients ≡ coefficients_of b J i
      → y ≡ mended_before i → mended_cell n coefficients sums i y ≡ mended_before j
  unfolding mended_cell
  mended-more d i w j coefficients y inside next c e = tabulate_ext n (λ k. new k (eqb k i)) (λ k. chosen k (passed J j k)) (λ k l. at k l (ℕ_discrete k i))
    where
      entry : (k : ℕ) → k < n → get_or y k 0 ≡ chosen k (passed J i k)
      entry k l = ap (λ (z : List ℕ). get_or z k 0) e ∙ get_d_tabulate n (λ k. chosen k (passed J i k)) k 0 l

      new : (k : ℕ) → Bool → ℕ
      new k t = cond t ((get_or y k 0 + symbol_read coefficients sums) % 257) (get_or y k 0)

      at : (k : ℕ) → k < n → Dec (k ≡ i) → new k (eqb k i) ≡ chosen k (passed J j k)
      at k l (yes q) =
          ap (new k) (eq-eqb k i q)
          ∙ ap₂ (λ (v : ℕ) (z : List ℕ). (v + symbol_read z sums) % 257)
          (entry k l ∙ ap (chosen k) (ap (passed J i) q ∙ not_yet J d i w j inside next)) (c ∙ ap (coefficients_of b J) (sym q))
          ∙ ap (chosen k) (sym (ap (passed J j) q ∙ passed_here J d i w j inside next))
      at k l (no q) = ap (new k) (ne_eqb k i q) ∙ entry k l ∙ ap (chosen k) (passed-other J d i w j inside next k q)

  pub mended-all : (i : ℕ) → n ≤ 256 → 256 ≤ i → mended_before i ≡ mended_row
  mended-all i narrow past =
      tabulate_ext n (λ k. chosen k (passed J i k)) (λ k. chosen k (has J k)) (λ k l. ap (chosen k) (passed-all J i k (omega arith)))
