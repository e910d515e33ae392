-- `take_off` takes the products off. The invariant: those of the cells passed are taken off.
use Rattle.reduction.specs.Taking.{Less}
use Rattle.reduction.proofs.taking.take_off.Given as goal

abbrev pub invariant-loop-i : goal.invariant-loop-i
invariant-loop-i l = Less l.fn.f.p l.u l.numbers l.from l.e l.i l.initial.cells l.cells
