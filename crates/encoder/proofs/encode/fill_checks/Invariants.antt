-- `encoder::encode::fill_checks` meets its contract.
use Rattle.frame.specs.Shape.{checks_of}
use Rattle.frame.proofs.Encoding.{first_columns}
use Rattle.division.specs.GeneratorPolynomial.{GeneratorPolynomial}
use Rattle.frame.specs.Completion.{completed}
use Rattle.frame.proofs.CompletionLaws.{length-completed}
use Rattle.frame.proofs.RowsAtSets.{RowsAtSets}
use Rattle.encoder.proofs.encode.fill_checks.Given as goal

abbrev pub invariant-loop-h : goal.invariant-loop-h
invariant-loop-h l =
    RowsAtSets (completed l.s.exponent) (length-completed l.s.exponent) l.s.columns l.s.rows (λ i. first_columns (checks_of l.s i)) l.initial.frame l.h l.frame
    × GeneratorPolynomial l.b l.count l.held
