-- What a test of the input finds, in the numbers of the refusals.
use Rattle.std.specs.Prelude.{List, ℕ, Result, Ok, Err}
use Rattle.refusal.specs.Number.{number}
use Rattle.refusal.specs.Order.{Test, first_of}
use Rattle.refusal.specs.declared.Refusal.{Refusal}

pub data Outcome : Type 0 where
  passed : Outcome
  refused : ℕ → Outcome

abbrev pub outcome_of : Result (Unit {0}) Refusal → Outcome
outcome_of (Ok done) = passed
outcome_of (Err r) = refused (number r)

-- the refusal of the first test that fails
abbrev pub outcome : List Test → Outcome
outcome tests = first_of refused tests passed
