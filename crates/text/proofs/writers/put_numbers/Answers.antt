use mathlib.Core.Path.{refl}
use native.Mathlib.Omega.{arith}
use Rattle.text.proofs.Spacing.{spaced-none, spaced-room, spaced-next, spaced-all}
use Rattle.text.proofs.writers.put_numbers.Goals as goal

pub loop-x-init : goal.loop-x-init
loop-x-init c = spaced-none _ _ _

pub put_number-end-requires : goal.put_number-end-requires
put_number-end-requires c = spaced-room _ _ _ c.requires _ _ _ c.loop-x.invariant (omega arith)

pub loop-x-preserved : goal.loop-x-preserved
loop-x-preserved c =
    spaced-next _ _ _ c.requires _ _ _ c.loop-x.invariant _ _ _ (omega arith) refl
    (omega arith) c.put_number-end.ensures.written

pub returns : goal.returns
returns c =
    let done = c.loop-x.invariant in
    record { written = spaced-all _ _ _ c.requires _ _ _ done (omega (arith, done.within)); upper_bound = omega (arith, done.near, done.within) }
