use native.Mathlib.Omega.{arith}
use Rattle.lists.proofs.Testing.{tested-none, tested-all}
use Rattle.lists.proofs.TestedMore.{tested-more}
use Rattle.sequences.proofs.every.every.Goals as goal

pub loop-v-init : goal.loop-v-init
loop-v-init g c test same = tested-none _ _

pub loop-v-preserved : goal.loop-v-preserved
loop-v-preserved g c test same =
    tested-more _ _ c.loop-v.v-index c.loop-v.all (c.loop-v.invariant test same) c.loop-v-test.true c.passes-all.result
    (same _ _ (omega (arith, c.type_inv.x c.loop-v.v-index)) c.passes-all.ensures)

pub returns : goal.returns
returns g c test same = tested-all _ _ _ _ (c.loop-v.invariant test same) (omega arith)
