-- What the test of the rows for refusal 26 asks, and what it says where nothing is declared.
use mathlib.Core.Path.{◌≡◌, sym, ◌∙◌}
use mathlib.Core.Bool.{Bool, true, false}
use mathlib.Core.List.{List}
use Prim.Native.Nat.{ℕ, ◌+◌, ◌<◌, ◌≤◌}
use native.Mathlib.Omega.{arith}
use borrow.Author.Tests.{le-ltb}
use lib.ListN.{length}
use Rattle.columns.specs.Columns.{members, either}
use Rattle.columns.specs.declared.Columns.{Columns}
use Rattle.columns.proofs.Joined.{size-apart}
use Rattle.decoding.specs.Remaining.{meets, meeting_completable}
use Rattle.frame.specs.DeclaredCells.{Declared, declared_by}
use Rattle.frame.specs.Frame.{held_sequences}
use Rattle.frame.specs.declared.Shape.{Shape}
use Rattle.frame.proofs.NothingDeclared.{rows-unmarked}
use Rattle.lists.proofs.Tabulated.{every_of}
use Rattle.remaining.specs.Testable.{Testable}
use Rattle.from_register.specs.Register.{Completable}

module _ (s : Shape) (none : Bool) (words : List ℕ) (named : Columns) (sums : List ℕ) (asked : Completable s none words named sums) where
  abbrev D : Declared
  D = declared_by words

  pub testable : Testable s (declared_by words) named sums
  testable =
      record {
        shape = asked.locatable.shape;
        declared = asked.locatable.declarable;
        reach = asked.reach;
        sums-small = asked.locatable.small;
      }

  pub none_completes : none ≡ true → meeting_completable s (declared_by words) named (held_sequences s sums) ≡ true
  unfolding meeting_completable
  none_completes taken = every_of s.rows _ (λ h below. rw (apart h below))
    where
      apart : (h : ℕ) → h < s.rows → meets named (D h) ≡ false
      apart h below =
          let unmarked = rows-unmarked s asked.locatable.shape words (sym asked.locatable.flag ∙ taken) h in
          let all : length (members named) + length (members (D h)) ≤ length (members (either named (D h))) =
          omega (arith, size-apart named (D h) (λ i low _. unmarked i below low))
          in
          le-ltb _ _ all
