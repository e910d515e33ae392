-- What holds of the arrays that are lent to the rounds, and how far these have come.
use Rattle.std.specs.Prelude.{ℕ}
use Rattle.register.specs.Algorithm4.{rounds}
use Rattle.discrepancy.specs.Modulus.{WorkedOut, Moduli}
use Rattle.register_step.specs.Held.{parts_of}
use Rattle.register_step.specs.declared.Problem.{Problem}
use Rattle.register_step.specs.declared.State.{State}
use Rattle.rounds.specs.Rounds.{Running, Reached, sequences_in}

pub record Posed (x : Problem) : Type 0 where
  pub worked_out : WorkedOut x.f
  pub moduli : Moduli x.f.p x.moduli.now
  pub running : Running x.f.p x.longest x.lengths.now x.count x.symbols.now

-- n rounds are made
abbrev pub RoundsMade : Problem → (n : ℕ) → State → Type 0
RoundsMade x n s = Reached x.f.p x.count (rounds x.f.p x.longest (sequences_in x.lengths.now x.count x.symbols.now) n) (parts_of s)
