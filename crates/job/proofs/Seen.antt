-- The refusals of a register where the cells of the frame are seen: those by its check sums alone, and after them 26 where the frame that would be mended to is
-- uniform.
use mathlib.Core.Path.{◌≡◌, refl, sym}
use mathlib.Core.Bool.{Bool, true, false, cond, not, ◌&&◌, ◌||◌, false≢true}
use mathlib.Core.List.{List, [], ◌∷◌}
use Prim.Native.Nat.{ℕ}
use Rattle.columns.specs.declared.Columns.{Columns}
use Rattle.decoding.specs.Locating.{size_of, taps_of, alone_of, names_all, named_columns}
use Rattle.decoding.specs.Remaining.{all_remaining, left_reach, completable}
use Rattle.frame.specs.DeclaredCells.{Declared}
use Rattle.frame.specs.declared.Shape.{Shape}
use Rattle.refusal.specs.Order.{first_of}
use Rattle.refusal.proofs.Orders.{Pass}
use Rattle.job.specs.Calls.{unseen, register_tests}

module _ (s : Shape) (D : Declared) (S : List (List ℕ)) (one : Columns → Bool) where
  abbrev ss : List (List ℕ)
  ss = all_remaining s D S

  abbrev M : Columns
  M = named_columns s (taps_of ss)

  pub seen-order : {A : Type 0} (refuse : ℕ → A) (given : A) → first_of refuse (register_tests s D S one) given
      ≡ first_of refuse (register_tests s D S unseen)
      (first_of refuse (record { number = 26; fails = one (named_columns s (taps_of (all_remaining s D S))) } ∷ []) given)
  unfolding register_tests
  seen-order refuse given =
      at_26 (not (alone_of ss)) (not (left_reach s D (size_of ss))) (not (names_all s (taps_of ss) (size_of ss) && completable s D M S)) (one M)
    where
      at_26 : (a b c d : Bool) → cond a (refuse 24) (cond b (refuse 25) (cond (d || c) (refuse 26) given))
          ≡ cond a (refuse 24) (cond b (refuse 25) (cond c (refuse 26) (cond d (refuse 26) given)))
      at_26 true b c d = refl
      at_26 false true c d = refl
      at_26 false false true true = refl
      at_26 false false true false = refl
      at_26 false false false true = refl
      at_26 false false false false = refl

  pub seen-passes : Pass (register_tests s D S one)
      → Pass (register_tests s D S unseen) × (one (named_columns s (taps_of (all_remaining s D S))) ≡ false)
  unfolding register_tests
  seen-passes (a, (r, (n, u))) = let (mixed, fits) = neither (one M) _ n in ((a, (r, (fits, u))), mixed)
    where
      neither : (b c : Bool) → (b || c) ≡ false → (b ≡ false) × (c ≡ false)
      neither true c e = absurd (false≢true (sym e))
      neither false c e = (refl, e)

  pub passes-seen : Pass (register_tests s D S unseen) → one (named_columns s (taps_of (all_remaining s D S))) ≡ false → Pass (register_tests s D S one)
  unfolding register_tests
  passes-seen (a, (r, (n, u))) mixed = (a, (r, (rw mixed n, u)))
