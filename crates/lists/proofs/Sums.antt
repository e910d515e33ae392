-- The sum of the entries of a list, as the definitions say it and as std does.
use mathlib.Core.Path.{◌≡◌, sym, ap, ◌∙◌}
use mathlib.Core.List.{List, [], ◌∷◌}
use Prim.Native.Nat.{ℕ, ◌+◌}
use lib.ListN.{length, get_or}
use Rattle.std.specs.List.{sum}
use Rattle.std.proofs.lemmas.List.Sums.{sum_by-cons}
use Rattle.lists.proofs.Totals.{total-zero, total_head}
use Rattle.lists.specs.Total.{total}

pub total-sum : (l : List ℕ) → total (length l) (λ h. get_or l h 0) ≡ sum l
total-sum [] = total-zero (λ h. get_or [] h 0)
total-sum (x ∷ xs) = total_head (length xs) (λ h. get_or (x ∷ xs) h 0) ∙ ap (λ (n : ℕ). x + n) (total-sum xs) ∙ sym (sum_by-cons (λ n. n) x xs)
