-- `plain::sequences::sequence` meets its contract.
use Rattle.std.proofs.Common.{ℕ, ◌∙◌, ap₂, arith}
use Rattle.plain.proofs.Choices.{part-capped}
use Rattle.plain.specs.Plain.{part}
use Rattle.plain.proofs.sequences.sequence.Goals as goal

pub returns : goal.returns
returns c =
    let args = c.args in
    c.part.ensures
    ∙ ap₂ (λ (s n : ℕ). part args.symbols.now s n) c.start.ensures (c.from.ensures ∙ c.get.ensures)
    ∙ part-capped args.symbols.now _ _ (omega arith)
