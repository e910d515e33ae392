-- The check sums of a frame as they are held, entry by entry: S_j of row h stands at its place, and past the last one every entry is 0. So frames are held
-- with the same sums exactly where all their check sums are the same.
use mathlib.Core.Path.{◌≡◌, sym, ap, subst⁻¹, ◌∙◌}
use mathlib.Core.List.{List, ◌++◌}
use Prim.Native.Nat.{ℕ, suc, ◌+◌, ◌-◌, ◌≤◌, ◌<◌}
use lib.ListN.{length, get_or, drop, replicate, get_or-eq_default}
use lib.Seq.{get_or-take, get_or-drop}
use Rattle.lists.specs.Tabulate.{tabulate, joined}
use Rattle.lists.proofs.Tabulated.{get_d_tabulate, tabulate_ext}
use Rattle.frame.specs.Frame.{row, check_sum, check_sums, row_sums, sequences, held_sums, sums_before}
use Rattle.frame.specs.Shape.{checks_of}
use Rattle.frame.specs.declared.Shape.{Shape}
use Rattle.frame.proofs.HeldSums.{held-row, sums-before}
use Rattle.lists.proofs.Padded.{padded_entry}

pub held-entry : (s : Shape) (f : List ℕ) (h j : ℕ) → h < s.rows → j < checks_of s h
    → get_or (held_sums s f) (sums_before s h + j) 0 ≡ check_sum s.exponent s.columns (row s.columns f h) (suc j)
unfolding row_sums check_sums
held-entry s f h j inside short =
    sym (get_or-drop (sums_before s h) (held_sums s f) j 0) ∙ sym (get_or-take (checks_of s h) (drop (sums_before s h) (held_sums s f)) j 0 short)
    ∙ ap (λ (x : List ℕ). get_or x j 0) (held-row s f h inside) ∙ get_d_tabulate (checks_of s h) _ j 0 short

pub held-rest : (s : Shape) (f : List ℕ) (k : ℕ) → sums_before s s.rows ≤ k → get_or (held_sums s f) k 0 ≡ 0
unfolding held_sums sequences
held-rest s f k past =
    padded_entry (joined (tabulate s.rows (row_sums s f))) (512 - length (joined (tabulate s.rows (row_sums s f)))) k
    ∙ get_or-eq_default (joined (tabulate s.rows (row_sums s f))) 0 (subst⁻¹ (λ (m : ℕ). m ≤ k) (sums-before s f s.rows) past)

-- frames with the same check sums are held with the same sums
pub same-held : (s : Shape) (f g : List ℕ)
    → ((h j : ℕ) → h < s.rows → j < checks_of s h
    → check_sum s.exponent s.columns (row s.columns f h) (suc j) ≡ check_sum s.exponent s.columns (row s.columns g h) (suc j))
    → held_sums s f ≡ held_sums s g
unfolding held_sums sequences row_sums check_sums
same-held s f g same =
    ap (λ (ss : List (List ℕ)). joined ss ++ replicate (512 - length (joined ss)) 0)
    (tabulate_ext s.rows (row_sums s f) (row_sums s g) (λ h inside. tabulate_ext (checks_of s h) _ _ (λ j short. same h j inside short)))
