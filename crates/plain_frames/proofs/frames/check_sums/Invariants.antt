-- `plain_frames::frames::check_sums` meets its contract.
use Rattle.plain_frames.specs.Frames.{Summed}
use Rattle.plain_frames.proofs.frames.check_sums.Given as goal

abbrev pub invariant-loop-h : goal.invariant-loop-h
invariant-loop-h l =
    Summed l.exponent l.columns l.checks l.frame l.h l.initial.sums l.sums
