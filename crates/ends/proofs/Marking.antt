-- What one sequence says of the alone mark, by the comparison that the code makes.
use mathlib.Core.Path.{◌≡◌, sym, ◌∙◌}
use mathlib.Core.Bool.{Bool}
use mathlib.Core.List.{List}
use Prim.Native.Nat.{ℕ, ◌+◌, ◌-◌, ◌≤◌, max, min}
use native.Mathlib.Decide.{dec_le}
use native.Mathlib.Omega.{arith}
use borrow.Author.Tests.{le-leb, lt-leb}
use lib.Dec.{leb}
use lib.ListN.{get_or}
use Rattle.ends.specs.Ends.{mark_test}

module _ (N : ℕ) (lengths : List ℕ) (l : ℕ) (places sizes : List ℕ) where
  -- what the code tests of sequence h
  abbrev pub compared : ℕ → Bool
  compared h = leb (get_or places h 0 + min l (get_or lengths h 0)) (get_or sizes h 0 + N)

  pub compared-marks : (h : ℕ) → get_or lengths h 0 ≤ N → compared h ≡ mark_test N lengths l places sizes h
  compared-marks h fits = pick (dec_le (get_or places h 0 + min l (get_or lengths h 0)) (get_or sizes h 0 + N))
    where
      pick : Dec (get_or places h 0 + min l (get_or lengths h 0) ≤ get_or sizes h 0 + N) → compared h ≡ mark_test N lengths l places sizes h
      pick (yes small) = le-leb _ _ small ∙ sym (le-leb (get_or places h 0) (get_or sizes h 0 + max (N - l) (N - get_or lengths h 0)) (omega arith))
      pick (no large) =
          lt-leb _ _ (omega (arith, large)) ∙ sym (lt-leb (get_or places h 0) (get_or sizes h 0 + max (N - l) (N - get_or lengths h 0)) (omega (arith, large)))
