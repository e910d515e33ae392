-- The shape of n columns with given check counts has these counts, row by row; the places of the rows that it does not have hold 0.
use mathlib.Core.Path.{◌≡◌, ◌∙◌}
use mathlib.Core.List.{List}
use Prim.Native.Nat.{ℕ, ◌-◌, ◌≤◌, ◌<◌}
use lib.ListN.{length, get_or, get_or-eq_default}
use Rattle.frame.specs.Shape.{checks_of, shape_of}
use Rattle.lists.proofs.Padded.{padded_entry, padded_length}

module _ (n : ℕ) (checks : List ℕ) (b : ℕ) where
  pub given-checks : (h : ℕ) → h < length checks → checks_of (shape_of n checks b) h ≡ get_or checks h 0
  unfolding shape_of
  given-checks h inside = padded_entry checks (8 - length checks) h

  pub no-checks : (h : ℕ) → length checks ≤ h → checks_of (shape_of n checks b) h ≡ 0
  unfolding shape_of
  no-checks h past = padded_entry checks (8 - length checks) h ∙ get_or-eq_default checks 0 past

  pub eight-places : length checks ≤ 8 → length (shape_of n checks b).checks ≡ 8
  unfolding shape_of
  eight-places fits = padded_length checks 8 fits
