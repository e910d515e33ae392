-- `advance` makes the rounds asked for. The invariant: n rounds are made.
use Rattle.rounds.specs.Posed.{RoundsMade}
use Rattle.rounds.proofs.advance.Given as goal

abbrev pub invariant-loop-n : goal.invariant-loop-n
invariant-loop-n l = RoundsMade l.problem l.n l.state
