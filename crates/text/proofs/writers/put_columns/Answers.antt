use native.Mathlib.Omega.{arith}
use lib.ListN.{length-append}
use Rattle.columns.proofs.Coming.{split-next, next-place, next-member, next-below}
use Rattle.text.proofs.Spacing.{spaced-none, spaced-next}
use Rattle.text.proofs.writers.put_columns.Goals as goal

pub loop-i-init : goal.loop-i-init
loop-i-init c = (tt, tt, (cc), spaced-none _ _ _)

pub overflow_cast-i : goal.overflow_cast-i
overflow_cast-i c = omega (arith, next-below _ _ _ c.loop-i.invariant.2 _ _ c.in-Some.ensures.steps)

pub loop-i-preserved : goal.loop-i-preserved
loop-i-preserved c =
    let (can, ends, split, spaced) = c.loop-i.invariant in
    let next = c.in-Some.ensures.steps in (
      can,
      ends,
      split-next _ _ _ split _ _ next,
      rw length-append
          (spaced-next _ _ _ c.requires _ _ _ spaced _ _ _ (next-place _ _ _ split _ _ next) (next-member _ _ _ split _ _ next)
          (omega (arith, next-below _ _ _ split _ _ next)) c.put_number-end.ensures.written),
    )
