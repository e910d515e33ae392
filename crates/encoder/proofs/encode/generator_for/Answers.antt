-- `encoder::encode::generator_for` meets its contract.
use mathlib.Core.Path.{sym, subst}
use Prim.Native.Nat.{ℕ}
use Rattle.division.specs.GeneratorPolynomial.{GeneratorPolynomial}
use Rattle.encoder.proofs.encode.generator_for.Goals as goal

pub returns-then-checks-count : goal.returns-then-checks-count
returns-then-checks-count c = subst (λ (m : ℕ). GeneratorPolynomial c.args.b m c.args.held) (sym c.if-checks-count.true) c.requires.0
