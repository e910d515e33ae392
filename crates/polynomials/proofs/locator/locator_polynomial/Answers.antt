use mathlib.Core.Path.{ap, ◌∙◌}
use Prim.Native.Nat.{ℕ, ◌+◌, ◌-◌}
use native.Mathlib.Omega.{arith}
use lib.ListN.{length, length-append}
use borrow.Rule.Slice.PartMut.{mid_of}
use Rattle.columns.proofs.Coming.{split-next, next-place, next-member, next-below, all-given}
use Rattle.field.proofs.Multiplication.{made}
use Rattle.lists.specs.Tabulate.{tabulate}
use Rattle.field257.proofs.LocatorBuilding.{building_none, building_more, building_all}
use Rattle.polynomials.proofs.locator.locator_polynomial.Goals as goal

pub loop-i-init : goal.loop-i-init
loop-i-init c = (tt, tt, (cc), omega arith, building_none _)

pub overflow_cast-i : goal.overflow_cast-i
overflow_cast-i c = omega (arith, next-below _ _ _ c.loop-i.invariant.2 _ _ c.in-Some.ensures.steps)

pub loop-i-preserved : goal.loop-i-preserved
loop-i-preserved c =
    let set = c.args.set in
    let (can, ends, split, counted, building) = c.loop-i.invariant in
    let next = c.in-Some.ensures.steps in
    let front = mid_of 0 (c.loop-i.e + 1 - 0) c.loop-i.f in (
      can,
      ends,
      split-next _ _ _ split _ _ next,
      rw length-append (omega arith),
      rw length-append
          (building_more set (length c.loop-i.yielded) c.loop-i.f building c.in-Some.i (c.loop-i.e + 1) c.multiply.new.f
          c.requires.1 (next-place _ _ _ split _ _ next) (next-member _ _ _ split _ _ next) (omega arith)
          (c.multiply.ensures
          ∙ ap (λ (x : ℕ). tabulate (length front) (made 257 (257 - x) 1 front)) (c.from.ensures ∙ c.entry.ensures.power c.requires.0))),
    )

pub returns : goal.returns
returns c =
    let (can, ends, split, counted, building) = c.loop-i.invariant in
    building_all _ _ _ building (all-given _ _ _ split c.in-None.ensures.steps.0)
