-- The coefficients of a column, from what the code computes for them.
use mathlib.Core.Path.{◌≡◌, sym, ap, ap₂, ◌∙◌}
use mathlib.Core.List.{List}
use Prim.Native.Nat.{ℕ, ◌+◌, ◌-◌, ◌*◌, ◌≤◌}
use lib.ListN.{length, get_or}
use Rattle.field.specs.Coefficients.{value}
use Rattle.field.specs.Residue.{minus, times, inverse}
use Rattle.field257.specs.Powers.{power_of3}
use Rattle.field257.proofs.Locators.{inverse-power}
use Rattle.frame.proofs.Weights.{weight_is}
use Rattle.lists.specs.Tabulate.{tabulate}
use Rattle.weights.specs.Weights.{factor_of, read_off}

pub factor-is : (b m i : ℕ) (others : List ℕ) (there weight part unit factor : ℕ) → i ≤ 256 → there ≡ value 257 others (power_of3 (256 - i))
    → weight ≡ power_of3 (i * (b + m - 1)) → part ≡ times 257 weight there → unit ≡ inverse 257 part → factor ≡ minus 257 0 unit
    → factor ≡ factor_of b m i others
unfolding factor_of
factor-is b m i others there weight part unit factor h t w p u f =
    f ∙ ap (λ (x : ℕ). minus 257 0 x)
    (u ∙ ap (inverse 257) (p ∙ ap₂ (times 257) (w ∙ sym (weight_is b i m)) (t ∙ ap (value 257 others) (sym (inverse-power i h)))))

pub scaled-is : (b m i : ℕ) (others divided row : List ℕ) (factor : ℕ) → length others ≡ m → divided ≡ others
    → factor ≡ factor_of b (length divided) i divided
    → row ≡ tabulate (length divided) (λ k. times 257 (get_or divided k 0) factor) → row ≡ tabulate m (read_off b m i others)
unfolding read_off
scaled-is b m i others divided row factor l d f r =
    r ∙ ap (λ (c : ℕ). tabulate (length divided) (λ k. times 257 (get_or divided k 0) c)) f
    ∙ ap (λ (z : List ℕ). tabulate (length z) (λ k. times 257 (get_or z k 0) (factor_of b (length z) i z))) d
    ∙ ap (λ (n : ℕ). tabulate n (λ k. times 257 (get_or others k 0) (factor_of b n i others))) l
