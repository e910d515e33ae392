-- `erasures::reading::clear_rows` meets its contract.
use Rattle.frame.specs.DeclaredCells.{declared_by}
use Rattle.frame.specs.Completion.{cleared}
use Rattle.frame.proofs.ReadFrames.{length-cleared}
use Rattle.frame.proofs.RowsAtSets.{RowsAtSets}
use Rattle.erasures.proofs.reading.clear_rows.Given as goal

abbrev pub invariant-loop-h : goal.invariant-loop-h
invariant-loop-h l = RowsAtSets cleared length-cleared l.s.columns l.s.rows (declared_by l.declared) l.initial.frame l.h l.frame
