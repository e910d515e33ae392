use native.Mathlib.Omega.{arith}
use Rattle.register.proofs.Largest.{largest-next, largest-all}
use Rattle.sequences.proofs.check.longest.Goals as goal

pub loop-n-preserved : goal.loop-n-preserved
loop-n-preserved c =
    let at = c.loop-n in
    largest-next c.args.lengths.now at.n-index at.most c.max-most.result c.loop-n-test.true at.invariant (omega (arith, c.max-most.ensures, c.from.ensures))

pub returns : goal.returns
returns c = largest-all c.args.lengths.now c.loop-n.n-index c.loop-n.most (omega arith) c.loop-n.invariant
