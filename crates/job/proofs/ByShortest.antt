-- The refusals by the shortest register of the check sums are those of a locate by them: where as many columns are named as it is long, the rows in which no
-- named column is declared can be completed.
use mathlib.Core.Path.{◌≡◌, refl, ap}
use mathlib.Core.Bool.{Bool, true, false, ◌&&◌}
use mathlib.Core.Logic.{◌⊎◌, inl, inr}
use mathlib.Core.List.{List}
use Prim.Native.Nat.{ℕ}
use Rattle.columns.specs.declared.Columns.{Columns}
use Rattle.columns.proofs.Listing.{by-test}
use Rattle.decoding.specs.Locating.{size_of, taps_of, alone_of, named_columns, names_all}
use Rattle.decoding.specs.Remaining.{all_remaining, completable, meeting_completable}
use Rattle.decoding.proofs.RowsApart.{meeting_enough}
use Rattle.frame.specs.DeclaredCells.{Declared}
use Rattle.frame.specs.Shape.{is_shape}
use Rattle.frame.specs.declared.Shape.{Shape}
use Rattle.job.specs.Calls.{unseen, register_tests, by_register_tests}

module _ (s : Shape) (shape : is_shape s ≡ true) (D : Declared) (S : List (List ℕ)) where
  abbrev ss : List (List ℕ)
  ss = all_remaining s D S

  abbrev M : Columns
  M = named_columns s (taps_of ss)

  abbrev named : Bool
  named = names_all s (taps_of ss) (size_of ss)

  -- where fewer columns are named than the register is long, the rows are not looked at
  same_test : (named && meeting_completable s D M S) ≡ (named && completable s D M S)
  same_test = pick (by-test named)
    where
      pick : (named ≡ true) ⊎ (named ≡ false) → (named && meeting_completable s D M S) ≡ (named && completable s D M S)
      pick (inl enough) = ap (λ (b : Bool). named && b) (meeting_enough s shape D S enough)
      pick (inr few) = rw few refl

  pub same_tests : by_register_tests s D S (size_of (all_remaining s D S)) (taps_of (all_remaining s D S)) (alone_of (all_remaining s D S))
      ≡ register_tests s D S unseen
  unfolding by_register_tests register_tests
  same_tests = rw same_test refl
