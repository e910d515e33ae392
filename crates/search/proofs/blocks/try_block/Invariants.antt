-- `search::blocks::try_block` meets its contract.
use Rattle.search.proofs.Trials.{InBlock}
use Rattle.search.proofs.blocks.try_block.Given as goal

abbrev pub invariant-loop-i : goal.invariant-loop-i
invariant-loop-i l = InBlock l.taps l.columns l.from l.to l.i l.left l.words
