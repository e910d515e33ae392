-- Symbols lent one sequence after the other: each sequence stands at the sum of the lengths before it.
use mathlib.Core.Path.{◌≡◌, sym, ap, ap₂, ◌∙◌}
use mathlib.Core.List.{List, ◌∷◌}
use Prim.Native.Nat.{ℕ, zero, suc}
use lib.ListN.{take, drop}
use lib.Seq.{drop-drop}
use Rattle.lists.specs.Total.{total}
use Rattle.lists.proofs.Totals.{total-zero, total_head, total-within}
use Rattle.lists.specs.Tabulate.{tabulate}
use Rattle.lists.proofs.Entries.{part_of_first}
use Rattle.lists.proofs.Tabulated.{tabulate-zero, tabulate-suc, tabulate_ext}
use Rattle.register.specs.Sequences.{split}

split_parts : (n : ℕ) (size : ℕ → ℕ) (xs : List ℕ) → split (tabulate n size) xs ≡ tabulate n (λ h. take (size h) (drop (total h size) xs))
unfolding split
split_parts zero size xs = ap (λ l. split l xs) (tabulate-zero size) ∙ sym (tabulate-zero _)
split_parts (suc n) size xs =
    ap (λ l. split l xs) (tabulate-suc n size)
    ∙ ap₂ ◌∷◌ (ap (λ (a : ℕ). take (size 0) (drop a xs)) (sym (total-zero size)))
    (split_parts n (λ h. size (suc h)) (drop (size 0) xs)
    ∙ tabulate_ext n _ _ (λ h l.
    ap (take (size (suc h))) (drop-drop (total h (λ k. size (suc k))) (size 0) xs ∙ ap (λ (a : ℕ). drop a xs) (sym (total_head h size)))))
    ∙ sym (tabulate-suc n _)

-- what stands past the last sequence plays no part
pub split-first : (n : ℕ) (size : ℕ → ℕ) (xs : List ℕ)
    → split (tabulate n size) (take (total n size) xs) ≡ tabulate n (λ h. take (size h) (drop (total h size) xs))
split-first n size xs =
    split_parts n size (take (total n size) xs)
    ∙ tabulate_ext n _ _ (λ h l. part_of_first (size h) (total h size) (total n size) xs (total-within size h n l))
