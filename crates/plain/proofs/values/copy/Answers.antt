use Rattle.std.proofs.Common.{◌≡◌, ℕ, ◌+◌, ◌-◌, get_or, ap, sym, arith}
use Rattle.plain.proofs.Writing.{wrote_none, wrote-put, wrote-all}
use Rattle.plain.proofs.values.copy.Goals as goal

pub loop-i-init : goal.loop-i-init
loop-i-init c = wrote-all _ _ _ (wrote_none _ c.args.at _) (omega arith) (omega arith)

pub loop-i-preserved : goal.loop-i-preserved
loop-i-preserved c =
    let place = c.args.at in
    let inner : place + c.loop-i.i - place ≡ c.loop-i.i = omega arith in
    wrote-all
    _
    (place + c.loop-i.i + 1)
    _
    (wrote-put
    _
    (place + c.loop-i.i)
    _
    c.loop-i.invariant
    (omega arith)
    c.put_at.ensures
    (ap (λ (k : ℕ). get_or c.args.from.now k 0) (sym inner)))
    (omega arith)
    (omega arith)

pub returns : goal.returns
returns c = wrote-all _ _ _ c.loop-i.invariant (omega arith) (omega arith)
