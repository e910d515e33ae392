use mathlib.Core.Path.{subst, ◌∙◌, ap}
use Prim.Native.Nat.{ℕ}
use native.Mathlib.Omega.{arith}
use Rattle.field257.specs.Powers.{power_of3}
use Rattle.division.specs.GeneratorPolynomial.{GeneratorPolynomial}
use Rattle.division.proofs.GeneratorBuilding.{generator-none, generator-more, next-root, same_length}
use Rattle.division.proofs.generator.generator.Goals as goal

pub loop-j-init : goal.loop-j-init
loop-j-init c =
    let power = c.from-root.ensures ∙ c.power_of_3.ensures in
    (omega arith, power ∙ ap power_of3 (omega arith), generator-none _)

pub loop-j-preserved : goal.loop-j-preserved
loop-j-preserved c =
    let at = c.loop-j in
    let made = c.multiply.ensures in
    let (size, power, polynomial) = at.invariant in (
      same_length _ _ _ at.f polynomial (omega arith) power _ made ∙ size,
      next-root _ _ _ at.f polynomial (omega arith) power,
      generator-more _ _ _ at.f polynomial (omega arith) power _ made,
    )

pub returns : goal.returns
returns c = subst (λ (m : ℕ). GeneratorPolynomial c.args.b m c.loop-j.f) (omega arith) c.loop-j.invariant.2
