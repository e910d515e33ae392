-- `record::line::register_line` meets its contract.
use mathlib.Core.Path.{refl, ap, ◌∙◌}
use Prim.Native.Nat.{ℕ}
use native.Mathlib.Omega.{arith}
use borrow.Author.Rules.{rules}
use Rattle.record.specs.Line.{output_of}
use Rattle.record.specs.Record.{sequences}
use Rattle.record.proofs.Registers.{found-taps, found_output}
use Rattle.text.proofs.Writing.{written_as}
use Rattle.record.proofs.line.register_line.Goals as goal

pub found_line-requires : goal.found_line-requires
found_line-requires c =
    let found = c.find-found in
    record {
      room = search rules;
      few = omega (arith, found.auto.taps);
      held = found-taps _ _ _ _ _ refl found.auto.taps found.ensures.leaves found.result found.ensures.answers;
    }

pub returns-clause-written : goal.returns-clause-written
returns-clause-written c =
    let found = c.find-found in
    written_as _ _ _ _ _ _
    (found_output _ c.args.lengths.now c.args.symbols.now _ _ refl found.auto.taps found.ensures.leaves found.result found.ensures.answers
    ∙ ap (λ (p : ℕ). output_of (sequences p c.args.lengths.now c.args.symbols.now)) c.from.ensures) c.found_line.ensures.written
