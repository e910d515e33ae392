-- `shapes::symbols::data_cells` meets its contract.
use native.Mathlib.Omega.{arith}
use Rattle.frame.proofs.RowPlace.{row-place}
use Rattle.shapes.proofs.symbols.data_cells.Goals as goal

pub offset_bounds-s-h : goal.offset_bounds-s-h
offset_bounds-s-h c = let p = row-place _ _ c.args.h c.requires.0 c.requires.1 c.requires.2 in omega arith

pub bounds-s-h : goal.bounds-s-h
bounds-s-h c = let p = row-place _ _ c.args.h c.requires.0 c.requires.1 c.requires.2 in omega arith

pub slice_bounds-result-count : goal.slice_bounds-result-count
slice_bounds-result-count c = let p = row-place _ _ c.args.h c.requires.0 c.requires.1 c.requires.2 in omega arith

pub slice_bounds-result-start : goal.slice_bounds-result-start
slice_bounds-result-start c = let p = row-place _ _ c.args.h c.requires.0 c.requires.1 c.requires.2 in omega arith
