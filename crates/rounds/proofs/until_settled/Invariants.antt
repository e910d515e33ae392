-- `until_settled` makes the rounds that may change something. The invariant: n rounds are made, n being the number of rounds at the last look.
use mathlib.Core.Path.{◌≡◌}
use mathlib.Core.List.{[], ◌∷◌}
use lib.ListN.{get_or}
use Rattle.rounds.specs.Posed.{RoundsMade}
use Rattle.rounds.proofs.until_settled.Given as goal

abbrev pub invariant-loop-to : goal.invariant-loop-to
invariant-loop-to l = (l.n ≡ get_or (0 ∷ 9 ∷ 17 ∷ l.problem.longest ∷ []) l.to-index 0) × RoundsMade l.problem l.n l.state
