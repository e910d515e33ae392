-- The table of inputs and texts is what the definitions compute.
use mathlib.Core.Path.{◌≡◌, refl}
use mathlib.Core.List.{map}
use Rattle.columns.specs.Columns.{columns_of, either, has, number}
use Rattle.columns.specs.Listed.{count, listed}
use Rattle.decoding.specs.Locating.{size_of, taps_of, alone_of, named, named_columns, names_all}
use Rattle.decoding.specs.Remaining.{remaining, all_remaining, left_reach, completable, mended}
use Rattle.field.specs.Coefficients.{shifted, reduced, value}
use Rattle.field.specs.Prime.{no_divisor, is_prime, is_modulus}
use Rattle.lists.specs.Total.{total}
use Rattle.finder.specs.Finder.{answer}
use Rattle.sequences.specs.Tests.{tests}
use Rattle.field257.specs.LocatorPolynomial.{locator_polynomial}
use Rattle.frame.specs.Completion.{without, cleared, completion, completed}
use Rattle.frame.specs.DeclaredCells.{as_read, marks_inside, declarable, undeclared_below, read_tests}
use Rattle.frame.specs.Encode.{each_row}
use Rattle.frame.specs.Frame.{check_sum, check_sums, row_sums, sequences, held_sums, held_sequences, weight, uniform}
use Rattle.frame.specs.Shape.{shape_of, rows_in_range, columns_in_range, checks_in_range, exponent_in_range, is_shape, shape_tests}
use Rattle.job.specs.Calls.{register_tests, step}
use Rattle.job.specs.Job.{no_columns, phase_sound, head_sound, counts_empty}
use Rattle.lists.specs.Tabulate.{tabulate, every, joined}
use Rattle.register.specs.Algorithm4.{start, with_saved, changed, turn, rounds, is_alone, found, found_alone}
use Rattle.register.specs.Algorithm4.{step as stepAt}
use Rattle.register.specs.Register.{discrepancy}
use Rattle.register.specs.Sequences.{largest, placed, ordered, split}
use Rattle.reader.specs.Fields.{field_of, fields_of}
use Rattle.text.specs.Line.{refusal_line, register_line, columns_line}
use Rattle.record.specs.Line.{frame_line, output_of, line_of}
use Rattle.record.specs.Record.{claimed_by, is_whole, counted_of, body_of, record_of}
use Rattle.text.specs.Text.{decimal_up_to, decimal, spaced, line}
use Rattle.lines.specs.Examples.{written, table}
use Rattle.lines.specs.Lines.{starts_whole, wholes_up_to, rest_up_to, wholes_of, rest_of, lines_of_all, whole_lines, lines_of}

pub examples : map written table ≡ table
unfolding table starts_whole wholes_up_to rest_up_to wholes_of rest_of lines_of_all whole_lines lines_of field_of fields_of refusal_line register_line columns_line
    frame_line output_of line_of claimed_by is_whole counted_of body_of record_of decimal_up_to decimal spaced line split ordered placed largest discrepancy stepAt
    start with_saved changed turn rounds is_alone found found_alone tabulate every joined no_columns phase_sound head_sound counts_empty step register_tests shape_of
    rows_in_range columns_in_range checks_in_range exponent_in_range is_shape shape_tests weight check_sum check_sums row_sums sequences held_sums held_sequences as_read
    marks_inside declarable undeclared_below read_tests each_row cleared locator_polynomial remaining all_remaining left_reach completable either
    mended uniform completed completion without tests answer
    total no_divisor is_prime is_modulus shifted reduced value size_of taps_of alone_of named named_columns names_all count listed columns_of has number
examples = refl
