-- `round` makes a round of Algorithm 4. The invariant: the sequences passed have had their step.
use Prim.Native.Nat.{◌+◌}
use Rattle.register.specs.Algorithm4.{turn, rounds}
use Rattle.register_step.specs.Held.{parts_of}
use Rattle.rounds.specs.Rounds.{Reached, sequences_in}
use Rattle.rounds.proofs.round.Given as goal

abbrev pub invariant-loop-h : goal.invariant-loop-h
invariant-loop-h l =
    let x = l.problem in
    let ss = sequences_in x.lengths.now x.count x.symbols.now in
    Reached x.f.p x.count (turn x.f.p x.longest ss (l.n + 1) l.h (rounds x.f.p x.longest ss l.n)) (parts_of l.state)
