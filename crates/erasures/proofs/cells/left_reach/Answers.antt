use mathlib.Core.Path.{◌≡◌, refl, sym, ap, ◌∙◌}
use mathlib.Core.Bool.{true}
use Prim.Native.Nat.{◌-◌}
use native.Mathlib.Omega.{arith}
use lib.Dec.{leb}
use lib.ListN.{length}
use borrow.Author.Tests.{le-leb, lt-leb}
use Rattle.columns.specs.Columns.{members}
use Rattle.columns.specs.declared.Columns.{Columns}
use Rattle.decoding.specs.Remaining.{left_reach}
use Rattle.frame.specs.DeclaredCells.{declared_by, checks_left}
use Rattle.frame.specs.Shape.{checks_of}
use Rattle.frame.proofs.Shapes.{shape-ranges}
use Rattle.lists.proofs.Testing.{tested-none, tested_out, tested-pass, tested-all}
use Rattle.erasures.proofs.cells.left_reach.Goals as goal
use Rattle.erasures.proofs.cells.left_reach.Goals.{After-checks_left}

-- what is left of the row's checks
left : (c : After-checks_left) →
    let args = c.args in
    c.checks_left.result ≡ checks_left args.s (declared_by args.declared.now) c.loop-h.h
left c =
    c.checks_left.ensures ∙ ap (λ (J : Columns). checks_of c.args.s c.loop-h.h - length (members J)) c.cells_of.ensures

pub loop-h-init : goal.loop-h-init
loop-h-init c = tested-none _ _

pub offset_bounds-s-h : goal.offset_bounds-s-h
offset_bounds-s-h c = let r = shape-ranges _ c.requires in omega arith

pub bounds-s-h : goal.bounds-s-h
bounds-s-h c = let r = shape-ranges _ c.requires in omega arith

pub cells_of-requires : goal.cells_of-requires
cells_of-requires c = let r = shape-ranges _ c.requires in omega arith

pub returns-then-checks_left-c : goal.returns-then-checks_left-c
unfolding left_reach
returns-then-checks_left-c c =
    tested_out _ _ c.loop-h.h c.loop-h-test.true
    (ap (leb c.args.c) (sym (left (goal.at.returns-then-checks_left-c c).After-checks_left)) ∙ lt-leb _ _ c.if-checks_left-c.true)

pub loop-h-preserved : goal.loop-h-preserved
loop-h-preserved c =
    let at = c.loop-h in
    tested-pass _ _ at.h true at.invariant c.loop-h-test.true true refl
    (ap (leb c.args.c) (sym (left (goal.at.loop-h-preserved c).After-checks_left)) ∙ le-leb _ _ c.if-checks_left-c.false)

pub returns : goal.returns
unfolding left_reach
returns c = tested-all _ _ _ _ c.loop-h.invariant c.loop-h-test.false
