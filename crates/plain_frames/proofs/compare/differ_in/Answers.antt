use native.Mathlib.Omega.{arith}
use Rattle.plain.proofs.Tests.{flags_agree, flags_differ, eqb-told, each_none, each_more, each-fails, each_holds}
use Rattle.plain_frames.proofs.compare.differ_in.Goals as goal

pub loop-i-init : goal.loop-i-init
loop-i-init c = (omega arith, each_none _ _)

pub returns-then-differs-get : goal.returns-then-differs-get
returns-then-differs-get c =
    each-fails _ _ _ c.loop-i.i (omega arith) (omega arith)
    (λ h. flags_differ _ _ c.differs.ensures (eqb-told _ _ 1 c.get.ensures) c.if-differs-get.true (h.1, h.0))

pub loop-i-preserved : goal.loop-i-preserved
loop-i-preserved c = (
  omega arith,
  each_more _ _ _ c.loop-i.invariant.1
      (let h = flags_agree _ _ c.differs.ensures (eqb-told _ _ 1 c.get.ensures) c.if-differs-get.false in (h.1, h.0)),
)

pub returns : goal.returns
returns c = each_holds _ _ _ _ (omega arith) c.loop-i.invariant.1
