-- `calls::locate::locate_whole` meets its contract.
use mathlib.Core.Path.{◌≡◌, refl, sym, subst⁻¹, ◌∙◌}
use mathlib.Core.Bool.{true}
use mathlib.Core.List.{List}
use Prim.Native.Nat.{◌<◌}
use lib.ListN.{get_or}
use Rattle.frame.specs.DeclaredCells.{declared_by, read_tests}
use Rattle.frame.specs.Shape.{is_shape}
use Rattle.frame.proofs.HeldSums.{held_below}
use Rattle.frame.proofs.NothingDeclared.{nothing-declarable}
use Rattle.job.proofs.Emptiness.{has-shape}
use Rattle.refusal.specs.Outcome.{outcome, passed}
use Rattle.locating.proofs.Locating.{from-frame}
use Rattle.locating.proofs.Steps.{refusal-outcome, passed-frame, passed-read, passed-undeclared, locate-refused, locate-goes-on}
use Rattle.job.proofs.Undeclared.{whole-tests, whole-sums}
use Rattle.calls.proofs.locate.locate_whole.Goals as goal
use Rattle.calls.proofs.locate.locate_whole.Goals.{In_default, Start}

-- ---- the ways back

-- ---- the tests

shape : (c : Start) → is_shape c.args.j.shape ≡ true
shape c = has-shape _ c.requires.full

pub check_frame-requires : goal.check_frame-requires
check_frame-requires c = shape (goal.at.check_frame-requires c).Start

pub returns-in-Err : goal.returns-in-Err
returns-in-Err c =
    λ a. refusal-outcome _ _ _ c.refuse.ensures refl
    ∙ locate-refused _ _ _ c.requires.full _
    (sym (whole-tests _ (shape (goal.at.returns-in-Err c).Start) _ c.requires.nothing _)
    ∙ sym c.in-Err.ensures)

-- the frame is well-formed
passes : (c : In_default) →
    let args = c.args in
    outcome (read_tests args.j.shape (declared_by args.declared.now) args.frame.now) ≡ passed
passes c =
    sym (whole-tests _ (has-shape _ c.requires.full) _ c.requires.nothing _) ∙ sym c.in_default.ensures

-- ---- locating from its sums

pub frame_sums-summed-requires : goal.frame_sums-summed-requires
frame_sums-summed-requires c =
    (shape (goal.at.frame_sums-summed-requires c).Start, passed-frame _ _ (sym c.in_default.ensures))

pub locate_frame-requires : goal.locate_frame-requires
locate_frame-requires c =
    record {
      locatable = record {
        shape = shape (goal.at.locate_frame-requires c).Start;
        flag = sym c.requires.nothing;
        declarable = nothing-declarable _ (shape (goal.at.locate_frame-requires c).Start) _ c.requires.nothing;
        small = λ k. subst⁻¹ (λ (l : List _). get_or l k 0 < 257) c.frame_sums-summed.ensures (held_below _ _ k);
      };
      whole = (passed-read _ _ _ (passes (goal.at.locate_frame-requires c).In_default)).size;
      small = passed-undeclared _ _ _ (passes (goal.at.locate_frame-requires c).In_default);
    }

pub returns : goal.returns
returns c =
    λ a. from-frame _ _ _ _ _ (c.locate_frame.ensures a)
    (c.frame_sums-summed.ensures ∙ whole-sums _ (shape (goal.at.returns c).Start) _ c.requires.nothing _ (passed-read _ _ _ (passes (goal.at.returns c).In_default)).size)
    ∙ locate-goes-on _ _ _ c.requires.full (passes (goal.at.returns c).In_default)
