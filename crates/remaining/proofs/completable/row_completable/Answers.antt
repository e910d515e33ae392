-- `remaining::completable::row_completable` meets its contract.
use mathlib.Core.Path.{◌≡◌, refl, ap, subst⁻¹, ◌∙◌}
use mathlib.Core.Bool.{true, false}
use Prim.Native.Nat.{◌+◌, ◌≤◌, ◌<◌}
use native.Mathlib.Omega.{arith}
use lib.ListN.{length}
use borrow.Author.Tests.{lt-ltb, le-ltb}
use Rattle.columns.specs.Columns.{either, members}
use Rattle.columns.proofs.Marks.{size-most}
use Rattle.decoding.specs.Remaining.{meets}
use Rattle.remaining.specs.Testable.{completable_at, TestableAt}
use Rattle.remaining.proofs.completable.row_completable.Goals as goal
use Rattle.remaining.proofs.completable.row_completable.Goals.{After-size}

pub overflow_add-size : goal.overflow_add-size
overflow_add-size c = omega (arith, c.size-2.ensures, c.size-3.ensures, size-most c.args.marked, size-most c.args.cells)

-- what the sizes tell
joined-size : (c : After-size) → c.size.result ≡ length (members (either c.args.marked c.args.cells))
joined-size c = c.size.ensures ∙ ap (λ J. length (members J)) c.either-set.ensures

pub completable_at-requires : goal.completable_at-requires
completable_at-requires c = subst⁻¹ (λ J. TestableAt c.args.powers.now J c.args.sums.now) c.either-set.ensures c.requires

pub returns-then-size : goal.returns-then-size
returns-then-size c =
    let args = c.args in
    let fewer : length (members (either args.marked args.cells)) < length (members args.marked) + length (members args.cells) =
    omega (arith, c.if-size.true, joined-size (goal.at.returns-then-size c).After-size, c.size-2.ensures, c.size-3.ensures)
    in
    let met : meets args.marked args.cells ≡ true = lt-ltb _ _ fewer in
    c.completable_at.ensures ∙ ap (λ J. completable_at J args.sums.now) c.either-set.ensures ∙ rw met

pub returns : goal.returns
returns c =
    let args = c.args in
    let all : length (members args.marked) + length (members args.cells) ≤ length (members (either args.marked args.cells)) =
    omega (arith, c.if-size.false, joined-size (goal.at.returns c).After-size, c.size-2.ensures, c.size-3.ensures)
    in
    let apart : meets args.marked args.cells ≡ false = le-ltb _ _ all in
    rw apart refl
