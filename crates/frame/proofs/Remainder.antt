-- A row whose first m symbols are the negatives of the remainder of its data is the row completed at its first m columns: its first m check sums are 0.
use mathlib.Core.Path.{◌≡◌, sym, ap, ◌∙◌}
use mathlib.Core.Bool.{Bool, true, false, cond}
use mathlib.Core.List.{List}
use Prim.Native.Nat.{ℕ, suc, ◌+◌, ◌-◌, ◌%◌, ◌≤◌, ◌<◌}
use native.Mathlib.Decide.{dec_lt}
use native.Mathlib.Nat.{mod-lt, zero-add}
use native.Mathlib.Omega.{arith}
use borrow.Author.Tests.{ltb-false, lt-ltb, le-ltb}
use borrow.Rule.Slice.PartMut.{mid_of, put_mid, mid_len}
use mir.Syntax.{w16}
use mir.Val.{Fits}
use lib.Dec.{lit<, ltb}
use lib.ListN.{length, get_or, get_or-eq_default}
use Rattle.columns.proofs.Marks.{has-columns_of}
use Rattle.field.proofs.Bridge.{res-zero, res-mod}
use Rattle.field.proofs.Prime257.{prime_257}
use Rattle.frame.specs.Completion.{completed}
use Rattle.frame.specs.Frame.{check_sum}
use Rattle.frame.proofs.Weights.{weight_at}
use Rattle.frame.proofs.CheckSums.{row_sum, res-check_sum, sum-is-zero}
use Rattle.field257.proofs.Field257.{symbols, R257, res257, res-negative}
use Rattle.frame.proofs.CompletionLaws.{completed-only}
use Rattle.frame.proofs.Encoding.{first_columns, size-first, has_first}
use Rattle.lists.specs.Tabulate.{tabulate}
use Rattle.lists.proofs.Entries.{get_d_part}
use Rattle.lists.proofs.Parts.{replaced_in}
use Rattle.lists.proofs.Tabulated.{length-tabulate, get_d_tabulate}
use Rattle.algebra.proofs.WeighedSums.{remainder_put}
open R257 use {neg}

module _ (m : ℕ) (x cells : List ℕ) (fewer : m ≤ length x) (narrow : length x ≤ 256) (room : length cells ≡ 256)
    (filled : (k : ℕ) → get_or cells k 0 ≡ cond (ltb k m) 0 (get_or x k 0)) where
  -- the cells of the row
  abbrev part : List ℕ
  part = mid_of 0 (length x - 0) cells

  pub length_part : length part ≡ length x
  length_part = let l = mid_len 0 (length x) cells (omega arith) in omega arith

  part-entry : (k : ℕ) → k < length x → get_or part k 0 ≡ cond (ltb k m) 0 (get_or x k 0)
  part-entry k h = get_d_part 0 (length x - 0) cells k 0 (omega arith) ∙ ap (λ (i : ℕ). get_or cells i 0) (zero-add k) ∙ filled k

  pub part_small : ((k : ℕ) → Fits w16 (get_or x k 0)) → (k : ℕ) → get_or part k 0 < 65536
  part_small known k = pick (dec_lt k (length x))
    where
      choose : (t : Bool) → cond t 0 (get_or x k 0) < 65536
      choose true = omega arith
      choose false = let f = known k in omega arith

      pick : Dec (k < length x) → get_or part k 0 < 65536
      pick (yes h) = rw (part-entry k h) (choose (ltb k m))
      pick (no h) = let e = get_or-eq_default part 0 {n = k} (let l = length_part in omega arith) in omega arith

  module _ (b : ℕ) (left y : List ℕ) (same : length left ≡ length part)
      (e : y ≡ tabulate (length x) (λ k. cond (ltb k m) ((257 - get_or (put_mid 0 (length x - 0) cells left) k 0 % 257) % 257) (get_or x k 0))) where
    abbrev chosen : ℕ → Bool → ℕ
    chosen k t = cond t ((257 - get_or (put_mid 0 (length x - 0) cells left) k 0 % 257) % 257) (get_or x k 0)

    entry : (k : ℕ) → k < length x → get_or y k 0 ≡ chosen k (ltb k m)
    entry k h = ap (λ (l : List ℕ). get_or l k 0) e ∙ get_d_tabulate (length x) (λ k. chosen k (ltb k m)) k 0 h

    check_entry : (k : ℕ) → k < m → get_or y k 0 ≡ (257 - get_or left k 0 % 257) % 257
    check_entry k h =
        entry k (omega arith) ∙ ap (chosen k) (lt-ltb k m h)
        ∙ ap (λ (c : ℕ). (257 - c % 257) % 257)
        (ap (λ (i : ℕ). get_or (put_mid 0 (length x - 0) cells left) i 0) (sym (zero-add k))
        ∙ replaced_in 0 (length x - 0) cells left (omega arith) (let l = length_part in omega arith) 0 k (omega arith))

    data_entry : (k : ℕ) → m ≤ k → k < length x → get_or y k 0 ≡ get_or x k 0
    data_entry k le h = entry k h ∙ ap (chosen k) (le-ltb k m le)

    sum-zero : (j : ℕ) → check_sum b m left (suc j) ≡ check_sum b (length part) part (suc j) → check_sum b (length x) y (suc j) ≡ 0
    sum-zero j q =
        sum-is-zero b (length x) y j
        (ap (λ n. row_sum b n (symbols y) j) whole
        ∙ remainder_put R257 (λ k. weight_at b k j) m (length x - m) (symbols y) (symbols part) (symbols left) front
        (λ k h. ap res257 (part-entry k (omega arith) ∙ ap (λ (t : Bool). cond t 0 (get_or x k 0)) (lt-ltb k m h)) ∙ res-zero 257 prime_257)
        (λ k h. ap res257 (data_entry (m + k) (omega arith) (omega arith) ∙ sym (data_cell_lem (m + k) (omega arith) (omega arith))))
        (sym (res-check_sum b m left j) ∙ ap res257 q ∙ res-check_sum b (length part) part j ∙ ap (λ n. row_sum b n (symbols part) j) (length_part ∙ whole)))
      where
        whole : length x ≡ m + (length x - m)
        whole = omega arith

        data_cell_lem : (k : ℕ) → m ≤ k → k < length x → get_or part k 0 ≡ get_or x k 0
        data_cell_lem k le h = part-entry k h ∙ ap (λ (t : Bool). cond t 0 (get_or x k 0)) (le-ltb k m le)

        front : (k : ℕ) → k < m → symbols y k ≡ neg (symbols left k)
        front k h =
            ap res257 (check_entry k h) ∙ res-mod 257 prime_257 _
            ∙ res-negative (get_or left k 0 % 257) (omega arith)
            ∙ ap neg (res-mod 257 prime_257 (get_or left k 0))

    pub completed-by_remainder : ((k : ℕ) → m ≤ k → k < length x → get_or x k 0 < 257)
        → ((j : ℕ) → j < m → check_sum b m left (suc j) ≡ check_sum b (length part) part (suc j)) → y ≡ completed b (length x) (first_columns m) x
    completed-by_remainder small sums =
        completed-only b (length x) (first_columns m) x narrow (λ i t. let l = has_first m i t in omega arith) y
        (ap length e ∙ length-tabulate (length x) (λ k. chosen k (ltb k m)))
        (λ i h. below i h (dec_lt i m))
        (λ i h f. data_entry i (ltb-false i m (sym (has-columns_of (λ k. ltb k m) i (omega arith)) ∙ f)) h)
        (λ j h. sum-zero j (sums j (let s = size-first m (omega arith) in omega arith)))
      where
        below : (i : ℕ) → i < length x → Dec (i < m) → get_or y i 0 < 257
        below i h (yes l) = rw (check_entry i l) (mod-lt _ (lit< tt))
        below i h (no l) = rw (data_entry i (omega arith) h) (small i (omega arith) h)
