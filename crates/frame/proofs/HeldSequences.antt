-- The sequences that held sums hold, whatever these are: one for each row of the shape, none longer than the row has checks, and with no other symbols.
use mathlib.Core.Path.{◌≡◌, ap, ◌∙◌}
use mathlib.Core.List.{List, []}
use Prim.Native.Nat.{ℕ, min, ◌≤◌, ◌<◌}
use native.Mathlib.Nat.{min-le_left}
use native.Mathlib.Omega.{arith}
use lib.ListN.{length, get_or, take, drop, length-take}
use Rattle.lists.proofs.Tabulated.{length-tabulate, get_d_tabulate}
use Rattle.frame.specs.Frame.{sums_before, held_sequences}
use Rattle.frame.specs.Shape.{checks_of}
use Rattle.frame.specs.declared.Shape.{Shape}

module _ (s : Shape) (sums : List ℕ) where
  pub length-held : length (held_sequences s sums) ≡ s.rows
  unfolding held_sequences
  length-held = length-tabulate s.rows _

  module _ (h : ℕ) (inside : h < length (held_sequences s sums)) where
    row_inside : h < s.rows
    row_inside = let e = length-held in omega arith

    held_at : get_or (held_sequences s sums) h [] ≡ take (checks_of s h) (drop (sums_before s h) sums)
    unfolding held_sequences
    held_at = get_d_tabulate s.rows _ h [] row_inside

    pub held-short : length (get_or (held_sequences s sums) h []) ≤ checks_of s h
    held-short =
        let m : min (checks_of s h) (length (drop (sums_before s h) sums)) ≤ checks_of s h = min-le_left _ _ in
        omega (arith, ap length held_at ∙ length-take (checks_of s h) (drop (sums_before s h) sums))
