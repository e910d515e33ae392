-- The marked examples and the literals are what the definitions compute.
use mathlib.Core.Path.{refl}
use Rattle.columns.specs.Columns.{columns_of, either, has, number}
use Rattle.columns.specs.Listed.{count, listed}
use Rattle.decoding.specs.Locating.{size_of, taps_of, alone_of, rows_reach, named, named_columns, names_all}
use Rattle.decoding.specs.Remaining.{remaining, all_remaining, left_reach, completable, mended}
use Rattle.field.specs.Coefficients.{shifted, reduced, value}
use Rattle.field.specs.Prime.{no_divisor, is_prime, is_modulus}
use Rattle.lists.specs.Total.{total}
use Rattle.sequences.specs.Tests.{tests}
use Rattle.finder.specs.Finder.{answer, taps_left}
use Rattle.frame.specs.Completion.{without, cleared, completion, completed}
use Rattle.field257.specs.LocatorPolynomial.{locator_polynomial}
use Rattle.frame.specs.DeclaredCells.{as_read, marks_inside, declarable, undeclared_below, read_tests, reread_tests}
use Rattle.frame.specs.Encode.{each_row, encoded, data_below, encode_tests}
use Rattle.frame.specs.Frame.{check_sum, check_sums, row_sums, sequences, held_sums, held_sequences, weight, uniform}
use Rattle.frame.specs.Shape.{shape_of, rows_in_range, columns_in_range, checks_in_range, exponent_in_range, is_shape, shape_tests}
use Rattle.job.specs.Calls.{register_tests, same_sums, step, late}
use Rattle.job.specs.Job.{no_columns, findings_sound, phase_sound, head_sound, declared_sound, counts_empty}
use Rattle.lists.specs.Tabulate.{tabulate, every, joined}
use Rattle.register.specs.Algorithm4.{start, with_saved, changed, turn, rounds, is_alone, found, found_alone, step as stepAt}
use Rattle.register.specs.Register.{discrepancy}
use Rattle.register.specs.Sequences.{largest, placed, ordered, split}
use Rattle.examples.specs.Enumeration.{residue_lists, does_generate, kept, registers}
use Rattle.examples.specs.Examples.{length_of, computed, table, Examples}
use Rattle.examples.specs.Literals.{marked, refusals, Literals}

pub examples : Examples
unfolding table computed length_of registers kept does_generate residue_lists split ordered placed largest discrepancy stepAt start with_saved changed turn
    rounds is_alone found found_alone tabulate every joined no_columns phase_sound head_sound counts_empty step register_tests shape_of rows_in_range
    columns_in_range checks_in_range exponent_in_range is_shape shape_tests weight check_sum check_sums row_sums sequences held_sums held_sequences as_read marks_inside
    declarable undeclared_below read_tests reread_tests remaining all_remaining left_reach completable mended same_sums findings_sound declared_sound either
    each_row uniform encoded
    data_below encode_tests without locator_polynomial cleared completion completed tests answer taps_left total no_divisor is_prime is_modulus shifted
    reduced value size_of taps_of alone_of rows_reach named named_columns names_all count listed columns_of has number
examples = refl

pub literals : Literals
unfolding marked refusals no_columns columns_of has number listed tabulate late
literals = record { words = refl; columns = refl; all = refl; each = refl; none = refl; numbers = refl; shaping = refl }
