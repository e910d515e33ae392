use Prim.Native.Nat.{◌+◌, ◌-◌, ◌*◌}
use native.Mathlib.Omega.{arith}
use lib.ListN.{length, length-take}
use Rattle.frame.proofs.Held.{held_none, held_more, held_all, length-row}
use Rattle.frame.proofs.HeldParts.{part-below}
use Rattle.frame.proofs.RowPlace.{RowPlace, row-place}
use Rattle.frame.proofs.Shapes.{shape-ranges}
use Rattle.frame.proofs.Symbols.{symbols-below}
use Rattle.codec.proofs.sums.sum_rows.Goals as goal
use Rattle.codec.proofs.sums.sum_rows.Goals.{In-loop-h}

place : (c : In-loop-h) → RowPlace c.args.s (length c.args.frame.now) c.loop-h.h
place c =
    row-place c.args.s (length c.args.frame.now) c.loop-h.h c.requires.0 c.requires.1.size c.loop-h-test.true

pub loop-h-init : goal.loop-h-init
loop-h-init c = rw c.requires.3 (held_none _ _)

pub offset_bounds-s-h : goal.offset_bounds-s-h
offset_bounds-s-h c = let p = place c in omega arith

pub bounds-s-h : goal.bounds-s-h
bounds-s-h c = let p = place c in omega arith

pub slice_bounds-row_sums-end-in-loop-h : goal.slice_bounds-row_sums-end-in-loop-h
slice_bounds-row_sums-end-in-loop-h c = let p = place (goal.at.slice_bounds-row_sums-end-in-loop-h c).In-loop-h in omega arith

pub row_sums-requires : goal.row_sums-requires
row_sums-requires c =
    let p = place (goal.at.row_sums-requires c).In-loop-h in
    let s = c.args.s in
    let f = c.args.frame.now in
    let h = c.loop-h.h in (
      record {
        powers_known = c.powers-powers.ensures;
        exponent = omega (arith, (shape-ranges c.args.s c.requires.0).exponent-most);
        narrow = omega (arith, length-row _ _ _ _ _ c.loop-h.invariant p);
        symbols = part-below f (symbols-below s f c.requires.1) (h * s.columns) (h * s.columns + s.columns - h * s.columns);
        few = simp length-take (omega arith);
      },
      c.requires.2,
    )

pub loop-h-preserved : goal.loop-h-preserved
loop-h-preserved c =
    rw c.from.ensures (held_more _ _ _ _ _ c.loop-h.invariant (place (goal.at.loop-h-preserved c).In-loop-h) _ c.loop-h-test.true
    (rw c.from.ensures at c.row_sums.ensures))

pub returns : goal.returns
returns c = held_all _ _ _ _ _ c.loop-h.invariant (omega arith)
