-- `slicing::start::start_read` meets its contract.
use mathlib.Core.Path.{◌≡◌, refl, sym, subst⁻¹, ◌∙◌}
use mathlib.Core.Bool.{true}
use mathlib.Core.List.{List}
use Prim.Native.Nat.{◌<◌}
use lib.ListN.{get_or}
use Rattle.frame.specs.DeclaredCells.{declared_by, read_tests}
use Rattle.frame.specs.Shape.{is_shape}
use Rattle.frame.proofs.Declarable.{well_formed_declarable}
use Rattle.frame.proofs.HeldSums.{held_below}
use Rattle.job.proofs.Emptiness.{has-shape}
use Rattle.refusal.specs.Outcome.{outcome, passed}
use Rattle.locating.proofs.Steps.{refusal-outcome, passed-read}
use Rattle.searching.proofs.Calling.{start-refused, start-goes-on}
use Rattle.slicing.proofs.start.start_read.Goals as goal
use Rattle.slicing.proofs.start.start_read.Goals.{In_default, Start}

-- ---- the ways back

-- ---- the tests

shape : (c : Start) → is_shape c.args.j.shape ≡ true
shape c = has-shape _ c.requires.full

pub check_read-requires : goal.check_read-requires
check_read-requires c = shape (goal.at.check_read-requires c).Start

pub returns-in-Err : goal.returns-in-Err
returns-in-Err c =
    refusal-outcome _ _ _ c.refuse.ensures refl
    ∙ start-refused _ _ _ c.requires.full _
    (sym c.in-Err.ensures)

-- the frame is well-formed
passes : (c : In_default) →
    let args = c.args in
    outcome (read_tests args.j.shape (declared_by args.declared.now) args.frame.now) ≡ passed
passes c = sym c.in_default.ensures

-- ---- the search from its sums

pub sums_read-requires : goal.sums_read-requires
sums_read-requires c =
    (shape (goal.at.sums_read-requires c).Start, passed-read _ _ _ (passes (goal.at.sums_read-requires c).In_default))

pub start_left-requires : goal.start_left-requires
start_left-requires c =
    record {
      shape = shape (goal.at.start_left-requires c).Start;
      declared = well_formed_declarable _ _ _ (passed-read _ _ _ (passes (goal.at.start_left-requires c).In_default));
      sums-small = λ k. subst⁻¹ (λ (l : List _). get_or l k 0 < 257) c.sums_read.ensures (held_below _ _ k);
    }

pub returns : goal.returns
returns c =
    c.start_left.ensures _
    ∙ start-goes-on _ _ _ _ _ _ _ c.requires.full (passes (goal.at.returns c).In_default) c.sums_read.ensures
