use Rattle.std.proofs.Common.{◌≡◌, ℕ, ◌+◌, List, length, refl, subst, arith}
use Rattle.plain.proofs.Tests.{each_none, each_more, each-fails, each_holds}
use Rattle.plain.specs.Plain.{Tells, Each, discrepancy}
use Rattle.brute.proofs.shortest.generates.Goals as goal

pub loop-h-init : goal.loop-h-init
loop-h-init c = (refl, each_none _ _)

pub returns-then-not-generates_one : goal.returns-then-not-generates_one
returns-then-not-generates_one c =
    let told = subst (λ (s : List ℕ). Tells c.generates_one.result (Each c.args.l (length s)
    (λ j. discrepancy c.args.p s c.args.taps.now (c.args.l + 1) j ≡ 0)))
    c.sequence.ensures
    c.generates_one.ensures in
    each-fails _ _ _ c.loop-h.h (omega arith) (omega arith) (told.no c.if-not-generates_one.true)

pub loop-h-preserved : goal.loop-h-preserved
loop-h-preserved c =
    let told = subst (λ (s : List ℕ). Tells c.generates_one.result (Each c.args.l (length s)
    (λ j. discrepancy c.args.p s c.args.taps.now (c.args.l + 1) j ≡ 0)))
    c.sequence.ensures
    c.generates_one.ensures in
    (refl, each_more _ _ _ c.loop-h.invariant.1 (told.yes c.if-not-generates_one.false))

pub returns : goal.returns
returns c = each_holds _ _ _ _ (omega arith) c.loop-h.invariant.1
