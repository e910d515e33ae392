-- Completing a row at a set of columns: the row keeps its length and its symbols outside the set, gets symbols below 257 in it, and its first check sums, as
-- many as the set has columns, are 0; no other row has all this.
use mathlib.Core.Path.{◌≡◌, sym, ap, ◌∙◌}
use mathlib.Core.Logic.{◌⊎◌, inl, inr}
use mathlib.Core.Bool.{true, false}
use mathlib.Core.List.{List}
use Prim.Native.Nat.{ℕ, suc, ◌+◌, ◌%◌, ◌≤◌, ◌<◌}
use native.Mathlib.Nat.{mod-lt, zero-add}
use lib.Dec.{lit<}
use lib.ListN.{length, get_or}
use Rattle.columns.specs.Columns.{has}
use Rattle.columns.specs.declared.Columns.{Columns}
use Rattle.columns.proofs.Listing.{by-test}
use Rattle.lists.proofs.Tabulated.{length-tabulate, get_d_tabulate}
use Rattle.frame.proofs.CheckSums.{same_row}
use Rattle.frame.proofs.SymbolsPut.{sums_gone}
use Rattle.field257.proofs.Members.{size, Below}
use Rattle.frame.specs.Completion.{cleared, completion, completed}
use Rattle.frame.specs.Frame.{check_sum}

module _ (n : ℕ) (J : Columns) (x : List ℕ) where
  pub cleared-kept : (i : ℕ) → i < n → has J i ≡ false → get_or (cleared n J x) i 0 ≡ get_or x i 0
  unfolding cleared
  cleared-kept i h f = get_d_tabulate n _ i 0 h ∙ rw f

  pub cleared-empty : (i : ℕ) → i < n → has J i ≡ true → get_or (cleared n J x) i 0 ≡ 0
  unfolding cleared
  cleared-empty i h t = get_d_tabulate n _ i 0 h ∙ rw t

module _ (b n : ℕ) (J : Columns) (x : List ℕ) where
  pub length-completed : length (completed b n J x) ≡ n
  unfolding completed
  length-completed = length-tabulate n _

  pub completed-kept : (i : ℕ) → i < n → has J i ≡ false → get_or (completed b n J x) i 0 ≡ get_or x i 0
  unfolding completed
  completed-kept i h f = get_d_tabulate n _ i 0 h ∙ rw f

  completed-filled : (i : ℕ) → i < n → has J i ≡ true → get_or (completed b n J x) i 0 ≡ completion b n J x i
  unfolding completed
  completed-filled i h t = get_d_tabulate n _ i 0 h ∙ rw t

  completion-below : (i : ℕ) → completion b n J x i < 257
  unfolding completion
  completion-below i = mod-lt _ (lit< tt)

  pub completed-below : ((i : ℕ) → i < n → has J i ≡ false → get_or x i 0 < 257) → (i : ℕ) → i < n → get_or (completed b n J x) i 0 < 257
  completed-below small i h = pick (by-test (has J i))
    where
      pick : (has J i ≡ true) ⊎ (has J i ≡ false) → get_or (completed b n J x) i 0 < 257
      pick (inl t) = rw (completed-filled i h t) (completion-below i)
      pick (inr f) = rw (completed-kept i h f) (small i h f)

  module _ (narrow : n ≤ 256) (below : Below n J) where
    pub completed-sums : (j : ℕ) → j < size J → check_sum b n (completed b n J x) (suc j) ≡ 0
    unfolding cleared completion
    completed-sums =
        sums_gone b n J narrow below (cleared n J x) (completed b n J x) (length-tabulate n _) length-completed
        (λ i h f. completed-kept i h f ∙ sym (cleared-kept n J x i h f))
        (λ i h t. ap (λ (c : ℕ). c % 257)
        (completed-filled i h t ∙ sym (ap (λ (a : ℕ). a + completion b n J x i) (cleared-empty n J x i h t) ∙ zero-add (completion b n J x i))))

    -- the only row with these symbols outside the set whose first check sums are 0
    pub completed-only : (y : List ℕ) → length y ≡ n → ((i : ℕ) → i < n → get_or y i 0 < 257) → ((i : ℕ) → i < n → has J i ≡ false → get_or y i 0 ≡ get_or x i 0)
        → ((j : ℕ) → j < size J → check_sum b n y (suc j) ≡ 0) → y ≡ completed b n J x
    completed-only y ly small same zeros =
        same_row b n J narrow below y (completed b n J x) ly length-completed small
        (completed-below (λ i h f. rw (← same i h f) (small i h)))
        (λ i h f. same i h f ∙ sym (completed-kept i h f)) (λ j h. zeros j h ∙ sym (completed-sums j h))
