-- `calls::repair::repair_read` meets its contract.
use mathlib.Core.Path.{◌≡◌, refl, sym, ap, ap₂, subst, ◌∙◌}
use mathlib.Core.Bool.{true, ◌&&◌}
use mathlib.Core.List.{List}
use Prim.Native.Nat.{ℕ}
use Rattle.columns.specs.Columns.{Sound}
use Rattle.columns.proofs.Marks.{sound}
use Rattle.decoding.specs.Remaining.{left_reach}
use Rattle.frame.specs.DeclaredCells.{declared_by, as_read, read_tests}
use Rattle.frame.specs.Frame.{held_sums}
use Rattle.frame.specs.Shape.{is_shape}
use Rattle.job.specs.Calls.{same_sums}
use Rattle.job.specs.Job.{Arrays, beside, declared_sound, is_located, length_of, with_read}
use Rattle.job.proofs.Emptiness.{has-shape}
use Rattle.job.proofs.Marked.{located-marked, located-size}
use Rattle.refusal.specs.Outcome.{outcome, passed}
use Rattle.locating.proofs.Steps.{refusal-outcome, mended-outcome, passed-read, passed-undeclared, sound-cells}
use Rattle.locating.proofs.Steps.{repair-unlocated, repair-refused, repair-differs, repair-uniform, repair-mends}
use Rattle.uniform.specs.Mendable.{Mendable}
use borrow.Author.Rules.{rules}
use Rattle.calls.proofs.repair.repair_read.Goals as goal
use Rattle.calls.proofs.repair.repair_read.Goals.{After-cells_sound, After-same_sums, Else-not-cells_sound, In_default, Start}

-- ---- the ways back

-- ---- what is known of the job

shape : (c : Start) → is_shape c.args.j.shape ≡ true
shape c = has-shape _ c.requires.full

pub cells_sound-requires : goal.cells_sound-requires
cells_sound-requires c = shape (goal.at.cells_sound-requires c).Start

-- what the test of the held cells says
cells : (c : After-cells_sound) →
    let args = c.args in
    declared_sound args.j.shape (declared_by args.held.now) (length_of args.j.phase) ≡ c.cells_sound.result
cells c =
    let args = c.args in
    ap (declared_sound args.j.shape (declared_by args.held.now)) (sym c.length_of-c.ensures) ∙ sym c.cells_sound.ensures

located : (c : Else-not-cells_sound) (a : Arrays) → is_located (beside c.args.j (with_read a c.args.sums.now c.args.held.now)) ≡ true
located c a = ap₂ ◌&&◌ c.requires.located ((let args = c.args in ap (declared_sound args.j.shape (declared_by args.held.now)) (sym c.length_of-c.ensures) ∙ sym c.cells_sound.ensures) ∙ c.if-not-cells_sound.false)

pub returns-then-not-cells_sound : goal.returns-then-not-cells_sound
returns-then-not-cells_sound c =
    λ a. refusal-outcome _ _ _ c.refuse.ensures refl
    ∙ repair-unlocated _ _ c.requires.full (ap₂ ◌&&◌ c.requires.located (cells (goal.at.returns-then-not-cells_sound c).After-cells_sound ∙ c.if-not-cells_sound.true))

-- ---- the tests

pub check_read-requires : goal.check_read-requires
check_read-requires c = shape (goal.at.check_read-requires c).Start

pub returns-in-Err : goal.returns-in-Err
returns-in-Err c =
    λ a. refusal-outcome _ _ _ c.refuse-in-Err.ensures refl
    ∙ repair-refused _ _ c.requires.full (located (goal.at.returns-in-Err c).Else-not-cells_sound a) (sound-cells _ _ _ (cells (goal.at.returns-in-Err c).After-cells_sound ∙ c.if-not-cells_sound.false)).0 _
    (sym c.in-Err.ensures)

-- the frame is well-formed
passes : (c : In_default) →
    let args = c.args in
    outcome (read_tests args.j.shape (declared_by args.held.now) args.frame.now) ≡ passed
passes c = sym c.in_default.ensures

pub sums_read-summed-requires : goal.sums_read-summed-requires
sums_read-summed-requires c =
    (shape (goal.at.sums_read-summed-requires c).Start, passed-read _ _ _ (passes (goal.at.sums_read-summed-requires c).In_default))

-- the sums are compared
compared : (c : After-same_sums) →
    let args = c.args in
    same_sums (held_sums args.j.shape (as_read args.j.shape (declared_by args.held.now) args.frame.now)) args.sums.now ≡ c.same_sums.result
compared c =
    sym (c.same_sums.ensures
    ∙ ap (λ (l : List ℕ). same_sums l c.args.sums.now) c.sums_read-summed.ensures)

pub returns-then-not-same_sums : goal.returns-then-not-same_sums
returns-then-not-same_sums c =
    λ a. refusal-outcome _ _ _ c.refuse-then-not-same_sums.ensures refl
    ∙ repair-differs _ _ c.requires.full (located (goal.at.returns-then-not-same_sums c).Else-not-cells_sound a) (sound-cells _ _ _ (cells (goal.at.returns-then-not-same_sums c).After-cells_sound ∙ c.if-not-cells_sound.false)).0
    (passes (goal.at.returns-then-not-same_sums c).In_default) (compared (goal.at.returns-then-not-same_sums c).After-same_sums ∙ c.if-not-same_sums.true)

-- ---- the frame

words : (c : Start) → Sound c.args.j.columns
words c = sound _ (search rules) (λ w. search rules)

-- it can be filled
mendable : (c : In_default) →
    let args = c.args in Mendable args.j.shape args.held.now args.j.columns args.frame.now
mendable c =
    let kept = sound-cells _ _ _ ((let args = c.args in ap (declared_sound args.j.shape (declared_by args.held.now)) (sym c.length_of-c.ensures) ∙ sym c.cells_sound.ensures) ∙ c.if-not-cells_sound.false) in
    record {
      shape = has-shape _ c.requires.full;
      whole = (passed-read _ _ _ (passes c)).size;
      small = passed-undeclared _ _ _ (passes c);
      below = (located-marked _ c.requires.full c.requires.located (sound _ (search rules) (λ w. search rules))).inside;
      declarable = kept.0;
      reach = subst (λ (n : ℕ). left_reach c.args.j.shape (declared_by c.args.held.now) n ≡ true)
          (sym (located-size _ c.requires.full c.requires.located)) kept.1;
    }

pub mends_uniform-requires : goal.mends_uniform-requires
mends_uniform-requires c = mendable (goal.at.mends_uniform-requires c).In_default

-- the frame would be uniform
pub returns-then-mends_uniform : goal.returns-then-mends_uniform
returns-then-mends_uniform c =
    λ a. refusal-outcome _ _ _ c.refuse-then-mends_uniform.ensures c.shaped.ensures
    ∙ repair-uniform _ _ c.requires.full (located (goal.at.returns-then-mends_uniform c).Else-not-cells_sound a) (sound-cells _ _ _ (cells (goal.at.returns-then-mends_uniform c).After-cells_sound ∙ c.if-not-cells_sound.false)).0
    (passes (goal.at.returns-then-mends_uniform c).In_default) (compared (goal.at.returns-then-mends_uniform c).After-same_sums ∙ c.if-not-same_sums.false) (sym c.mends_uniform.ensures ∙ c.if-mends_uniform.true)

pub fill-requires : goal.fill-requires
fill-requires c =
    let known = mendable (goal.at.fill-requires c).In_default in
    record {
      shape = known.shape;
      whole = known.whole;
      small = known.small;
      held = c.sums_read-summed.ensures;
      below = known.below;
      declarable = known.declarable;
      reach = known.reach;
    }

pub returns : goal.returns
returns c =
    λ a. mended-outcome c.args.j _ _ c.mended.ensures c.length_of-c.ensures c.fill.ensures
    ∙ repair-mends _ _ c.requires.full (located (goal.at.returns c).Else-not-cells_sound a) (sound-cells _ _ _ (cells (goal.at.returns c).After-cells_sound ∙ c.if-not-cells_sound.false)).0
    (passes (goal.at.returns c).In_default) (compared (goal.at.returns c).After-same_sums ∙ c.if-not-same_sums.false)
    (sym c.mends_uniform.ensures ∙ c.if-mends_uniform.false)
