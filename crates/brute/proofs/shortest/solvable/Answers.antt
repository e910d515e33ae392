use Rattle.std.proofs.Common.{refl, arith}
use Rattle.brute.proofs.AllSequences.{all_begin, all_more, all-fails, all_done}
use Rattle.brute.proofs.shortest.solvable.Goals as goal

pub loop-h-init : goal.loop-h-init
loop-h-init c = (refl, omega arith, all_begin _ _ _ _ _ _ _ refl c.clear.ensures)

pub returns-then-not-add_sequence : goal.returns-then-not-add_sequence
returns-then-not-add_sequence c =
    all-fails _ _ _ _ c.loop-h.h _ _ _ _ _ c.loop-h.invariant.2 c.sequence.ensures c.add_sequence.ensures
    _ c.clear.ensures.size (c.if-not-add_sequence.true) (omega arith)

pub loop-h-preserved : goal.loop-h-preserved
loop-h-preserved c = (
  refl,
  omega arith,
  all_more _ _ _ _ c.loop-h.h _ _ _ _ _ c.loop-h.invariant.2 c.sequence.ensures c.add_sequence.ensures
      (c.if-not-add_sequence.false),
)

pub returns : goal.returns
returns c = all_done _ _ _ _ c.loop-h.h _ _ _ c.loop-h.invariant.2 c.clear.ensures.size (omega arith) (omega arith)
