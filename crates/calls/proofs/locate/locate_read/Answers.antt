-- `calls::locate::locate_read` meets its contract.
use mathlib.Core.Path.{◌≡◌, refl, sym, subst⁻¹, ◌∙◌}
use mathlib.Core.Bool.{true}
use mathlib.Core.List.{List}
use Prim.Native.Nat.{◌<◌}
use lib.ListN.{get_or}
use Rattle.frame.specs.DeclaredCells.{declared_by, read_tests}
use Rattle.frame.specs.Shape.{is_shape}
use Rattle.frame.proofs.Declarable.{well_formed_declarable}
use Rattle.frame.proofs.HeldSums.{held_below}
use Rattle.job.proofs.Emptiness.{has-shape}
use Rattle.refusal.specs.Outcome.{outcome, passed}
use Rattle.locating.proofs.Locating.{from-frame}
use Rattle.locating.proofs.Steps.{refusal-outcome, passed-read, passed-undeclared, locate-refused, locate-goes-on}
use Rattle.calls.proofs.locate.locate_read.Goals as goal
use Rattle.calls.proofs.locate.locate_read.Goals.{In_default, Start}

-- ---- the ways back

-- ---- the tests

shape : (c : Start) → is_shape c.args.j.shape ≡ true
shape c = has-shape _ c.requires.full

pub check_read-requires : goal.check_read-requires
check_read-requires c = shape (goal.at.check_read-requires c).Start

pub returns-in-Err : goal.returns-in-Err
returns-in-Err c =
    λ a. refusal-outcome _ _ _ c.refuse.ensures refl
    ∙ locate-refused _ _ _ c.requires.full _
    (sym c.in-Err.ensures)

-- the frame is well-formed
passes : (c : In_default) →
    let args = c.args in
    outcome (read_tests args.j.shape (declared_by args.declared.now) args.frame.now) ≡ passed
passes c = sym c.in_default.ensures

-- ---- locating from its sums

pub sums_read-read-requires : goal.sums_read-read-requires
sums_read-read-requires c =
    (shape (goal.at.sums_read-read-requires c).Start, passed-read _ _ _ (passes (goal.at.sums_read-read-requires c).In_default))

pub locate_frame-requires : goal.locate_frame-requires
locate_frame-requires c =
    record {
      locatable = record {
        shape = shape (goal.at.locate_frame-requires c).Start;
        flag = sym c.requires.some;
        declarable = well_formed_declarable _ _ _ (passed-read _ _ _ (passes (goal.at.locate_frame-requires c).In_default));
        small = λ k. subst⁻¹ (λ (l : List _). get_or l k 0 < 257) c.sums_read-read.ensures (held_below _ _ k);
      };
      whole = (passed-read _ _ _ (passes (goal.at.locate_frame-requires c).In_default)).size;
      small = passed-undeclared _ _ _ (passes (goal.at.locate_frame-requires c).In_default);
    }

pub returns : goal.returns
returns c =
    λ a. from-frame _ _ _ _ _ (c.locate_frame.ensures a) c.sums_read-read.ensures
    ∙ locate-goes-on _ _ _ c.requires.full (passes (goal.at.returns c).In_default)
