-- `slicing::start::start_whole` meets its contract.
use mathlib.Core.Path.{◌≡◌, refl, sym, subst⁻¹, ◌∙◌}
use mathlib.Core.Bool.{true}
use mathlib.Core.List.{List}
use Prim.Native.Nat.{◌<◌}
use lib.ListN.{get_or}
use Rattle.frame.specs.DeclaredCells.{declared_by, read_tests}
use Rattle.frame.specs.Shape.{is_shape}
use Rattle.frame.proofs.HeldSums.{held_below}
use Rattle.job.proofs.Emptiness.{has-shape}
use Rattle.refusal.specs.Outcome.{outcome, passed}
use Rattle.locating.proofs.Steps.{refusal-outcome, passed-frame, passed-read}
use Rattle.searching.proofs.Calling.{start-refused, start-goes-on}
use Rattle.job.proofs.Undeclared.{whole-tests, whole-sums}
use Rattle.slicing.proofs.start.start_whole.Goals as goal
use Rattle.slicing.proofs.start.start_whole.Goals.{In_default, Start}

-- ---- the ways back

-- ---- the tests

shape : (c : Start) → is_shape c.args.j.shape ≡ true
shape c = has-shape _ c.requires.full

pub check_frame-requires : goal.check_frame-requires
check_frame-requires c = shape (goal.at.check_frame-requires c).Start

pub returns-in-Err : goal.returns-in-Err
returns-in-Err c =
    refusal-outcome _ _ _ c.refuse.ensures refl
    ∙ start-refused _ _ _ c.requires.full _
    (sym (whole-tests _ (shape (goal.at.returns-in-Err c).Start) _ c.requires.nothing _)
    ∙ sym c.in-Err.ensures)

-- the frame is well-formed
passes : (c : In_default) →
    let args = c.args in
    outcome (read_tests args.j.shape (declared_by args.declared.now) args.frame.now) ≡ passed
passes c =
    sym (whole-tests _ (has-shape _ c.requires.full) _ c.requires.nothing _) ∙ sym c.in_default.ensures

-- ---- the search from its sums

pub write_sums-requires : goal.write_sums-requires
write_sums-requires c =
    (shape (goal.at.write_sums-requires c).Start, passed-frame _ _ (sym c.in_default.ensures))

pub start_whole-requires : goal.start_whole-requires
start_whole-requires c =
    record {
      s_value = shape (goal.at.start_whole-requires c).Start;
      by_index = λ k. subst⁻¹ (λ (l : List _). get_or l k 0 < 257) c.write_sums.ensures (held_below _ _ k);
    }

pub returns : goal.returns
returns c =
    c.start_whole.ensures _ _ c.requires.nothing _
    ∙ start-goes-on _ _ _ _ _ _ _ c.requires.full (passes (goal.at.returns c).In_default)
    (c.write_sums.ensures ∙ whole-sums _ (shape (goal.at.returns c).Start) _ c.requires.nothing _ (passed-read _ _ _ (passes (goal.at.returns c).In_default)).size)
