-- `search::values::values` meets its contract.
use Rattle.search.proofs.Valuing.{Valued}
use Rattle.search.proofs.values.values.Given as goal

abbrev pub invariant-loop-tap : goal.invariant-loop-tap
invariant-loop-tap l = Valued l.taps l.x l.tap-index l.v
