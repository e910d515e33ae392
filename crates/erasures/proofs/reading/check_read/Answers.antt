-- `erasures::reading::check_read` meets its contract.
use Rattle.std.proofs.Common.{◌≡◌, ◌∙◌, ◌*◌, ap, sym, arith, rules, length}
use Rattle.std.proofs.lemmas.Grind.{common_steps}
use Rattle.frame.specs.DeclaredCells.{declared_by, read_tests}
use Rattle.frame.proofs.RowPlace.{frame_small}
use Rattle.frame.proofs.ReadCopy.{symbols_copied}
use Rattle.frame.proofs.ReadFrames.{length-read}
use Rattle.erasures.proofs.reading.check_read.Goals as goal
use Rattle.erasures.proofs.reading.check_read.Goals.{After-read_into}

pub overflow_mul-s : goal.overflow_mul-s
overflow_mul-s c = omega (arith, frame_small _ c.requires)

whole : (c : After-read_into) → length c.args.frame.now ≡ c.args.s.rows * c.args.s.columns
whole c = grind (arith, common_steps)

pub slice_bounds-read-end : goal.slice_bounds-read-end
slice_bounds-read-end c = omega (arith, frame_small _ c.requires, whole c)

pub slice_bounds-all_below-end : goal.slice_bounds-all_below-end
slice_bounds-all_below-end c =
    let whole = whole (goal.at.slice_bounds-all_below-end c).After-read_into in
    whole ∙ sym (ap length c.read_into.ensures ∙ length-read c.args.s (declared_by c.args.declared.now) c.args.frame.now whole)

pub returns : goal.returns
unfolding read_tests
returns c =
    let whole = whole (goal.at.returns c).After-read_into in
    rw (symbols_copied _ _ _ whole _ _ c.read_into.ensures c.all_below.ensures) (grind (arith, common_steps))
