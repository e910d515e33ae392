-- `erasures::cells::row_declarable` meets its contract.
use mathlib.Core.Path.{sym, ap, ap₂, ◌∙◌}
use mathlib.Core.Bool.{Bool, ◌&&◌}
use Prim.Native.Nat.{ℕ}
use native.Mathlib.Omega.{arith}
use lib.Dec.{eqb, leb}
use lib.ListN.{length}
use borrow.Author.Tests.{eq-eqb, ne_eqb}
use Rattle.columns.specs.Columns.{members}
use Rattle.frame.specs.Shape.{checks_of}
use Rattle.frame.proofs.Shapes.{shape-ranges}
use Rattle.erasures.proofs.RowsDeclarable.{past-rows, within-rows}
use Rattle.erasures.proofs.cells.row_declarable.Goals as goal

pub returns-then-h-s : goal.returns-then-h-s
returns-then-h-s c = ap (λ (k : ℕ). eqb k 256) c.next.ensures ∙ past-rows c.args.s c.args.set c.args.h c.if-h-s.true

pub offset_bounds-s-h : goal.offset_bounds-s-h
offset_bounds-s-h c =
    let r = shape-ranges _ c.requires in
    let l = c.if-h-s.false in
    omega arith

pub bounds-s-h : goal.bounds-s-h
bounds-s-h c =
    let r = shape-ranges _ c.requires in
    let l = c.if-h-s.false in
    omega arith

pub returns-then-next-eq256 : goal.returns-then-next-eq256
returns-then-next-eq256 c =
    let few = leb (length (members c.args.set)) (checks_of c.args.s c.args.h) in
    ap₂ leb c.size.ensures c.from.ensures
    ∙ ap (λ (b : Bool). b && few) (sym (eq-eqb _ 256 c.if-next-eq256.true) ∙ ap (λ (k : ℕ). eqb k 256) c.next-2.ensures)
    ∙ within-rows c.args.s c.args.set c.args.h c.if-h-s.false

pub returns-else-next-eq256 : goal.returns-else-next-eq256
returns-else-next-eq256 c =
    let few = leb (length (members c.args.set)) (checks_of c.args.s c.args.h) in
    ne_eqb _ 256 c.if-next-eq256.false
    ∙ ap (λ (b : Bool). b && few) (sym (ne_eqb _ 256 c.if-next-eq256.false) ∙ ap (λ (k : ℕ). eqb k 256) c.next-2.ensures)
    ∙ within-rows c.args.s c.args.set c.args.h c.if-h-s.false
