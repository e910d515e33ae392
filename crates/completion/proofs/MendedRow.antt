-- A row mended at a set of columns is completed there: what is added takes its first check sums away, and no other row with the same cells outside the set
-- has them 0.
use mathlib.Core.Path.{◌≡◌, ap, ap₂, ◌∙◌}
use mathlib.Core.Logic.{◌⊎◌, inl, inr}
use mathlib.Core.Bool.{Bool, true, false, cond}
use mathlib.Core.List.{List}
use Prim.Native.Nat.{ℕ, suc, ◌+◌, ◌-◌, ◌*◌, ◌%◌, ◌≤◌, ◌<◌}
use native.Mathlib.Nat.{mod-lt, mod-mod}
use native.Mathlib.Omega.{arith}
use lib.Dec.{lit<}
use lib.ListN.{length, get_or}
use Rattle.columns.specs.Columns.{has, members}
use Rattle.columns.specs.declared.Columns.{Columns}
use Rattle.columns.proofs.Listing.{by-test}
use Rattle.lists.specs.Total.{total}
use Rattle.lists.proofs.Totals.{total_ext}
use Rattle.frame.specs.Completion.{completed}
use Rattle.frame.specs.Frame.{check_sum, check_sums}
use Rattle.frame.proofs.CheckSums.{check_sum-below}
use Rattle.frame.proofs.ClosedForm.{symbol_for}
use Rattle.frame.proofs.SymbolsPut.{sums_gone}
use Rattle.frame.proofs.CompletionLaws.{completed-only}
use Rattle.field257.proofs.Members.{Below}
use Rattle.lists.proofs.Joined.{tabulate-each}
use Rattle.lists.proofs.Tabulated.{get_d_tabulate, length-tabulate}
use Rattle.weights.specs.Weights.{coefficient, symbol_read}
use Rattle.weights.proofs.ColumnWeights.{coefficients_of}
use Rattle.weights.proofs.ReadForm.{symbol_form}
use Rattle.completion.proofs.RowMending.{mended_row}

pub sums-below : (b n N : ℕ) (sums x : List ℕ) → sums ≡ check_sums b n N x → (k : ℕ) → get_or sums k 0 < 257
unfolding check_sums
sums-below b n N sums x e k = rw e (tabulate-each (λ v. v < 257) 0 (lit< tt) N _ (λ j. check_sum-below b n x (suc j)) k)

-- a row x of n columns with its first N check sums, at least as many as the set has columns
module _ (b : ℕ) (J : Columns) (n N : ℕ) (sums x : List ℕ) (narrow : n ≤ 256) (whole : length x ≡ n) (small : (k : ℕ) → k < n → get_or x k 0 < 257)
    (held : sums ≡ check_sums b n N x) (below : Below n J) (reach : length (members J) ≤ N) where
  abbrev m : ℕ
  m = length (members J)

  -- what is added in column i
  abbrev symbol : ℕ → ℕ
  symbol i = symbol_for b J (check_sum b n x) m i

  sum-held : (j : ℕ) → j < N → get_or sums j 0 ≡ check_sum b n x (suc j)
  unfolding check_sums
  sum-held j l = ap (λ (z : List ℕ). get_or z j 0) held ∙ get_d_tabulate N _ j 0 l

  read : (i : ℕ) → symbol_read (coefficients_of b J i) sums ≡ symbol i
  unfolding symbol_read
  read i =
      ap (λ (k : ℕ). total k (λ t. get_or (coefficients_of b J i) t 0 * get_or sums (k - suc t) 0) % 257) (length-tabulate m (coefficient b J i))
      ∙ ap (λ (t : ℕ). t % 257) (total_ext m _ _ (λ t l.
      ap₂ ◌*◌ (get_d_tabulate m (coefficient b J i) t 0 l)
      (sum-held (m - suc t) (omega arith) ∙ ap (check_sum b n x) (let q : suc (m - suc t) ≡ m - t = omega arith in q))))
      ∙ symbol_form b J (check_sum b n x) i

  abbrev y : List ℕ
  y = mended_row b J n sums x

  -- cell i, mended or not
  abbrev chosen : ℕ → Bool → ℕ
  chosen i t = cond t ((get_or x i 0 + symbol i) % 257) (get_or x i 0)

  cell-mended : (i : ℕ) → i < n → get_or y i 0 ≡ chosen i (has J i)
  cell-mended i l = get_d_tabulate n _ i 0 l ∙ ap (λ (v : ℕ). cond (has J i) ((get_or x i 0 + v) % 257) (get_or x i 0)) (read i)

  mended-kept : (i : ℕ) → i < n → has J i ≡ false → get_or y i 0 ≡ get_or x i 0
  mended-kept i l t = cell-mended i l ∙ ap (chosen i) t

  mended-below : (i : ℕ) → i < n → get_or y i 0 < 257
  mended-below i l = pick (by-test (has J i))
    where
      pick : (has J i ≡ true) ⊎ (has J i ≡ false) → get_or y i 0 < 257
      pick (inl t) = rw (cell-mended i l ∙ ap (chosen i) t) (mod-lt _ (lit< tt))
      pick (inr t) = rw (mended-kept i l t) (small i l)

  pub mended-completed : mended_row b J n sums x ≡ completed b n J x
  mended-completed = completed-only b n J x narrow below y (length-tabulate n _) mended-below mended-kept
      (sums_gone b n J narrow below x y whole (length-tabulate n _) mended-kept
      (λ i l t. ap (λ (c : ℕ). c % 257) (cell-mended i l ∙ ap (chosen i) t) ∙ mod-mod _ 257))
