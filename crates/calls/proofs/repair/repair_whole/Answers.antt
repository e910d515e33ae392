-- `calls::repair::repair_whole` meets its contract.
use mathlib.Core.Path.{◌≡◌, refl, sym, ap, ap₂, subst, ◌∙◌}
use mathlib.Core.Bool.{true, ◌&&◌}
use mathlib.Core.List.{List}
use Prim.Native.Nat.{ℕ}
use Rattle.columns.specs.Columns.{Sound}
use Rattle.columns.proofs.Marks.{sound}
use Rattle.decoding.specs.Remaining.{left_reach}
use Rattle.frame.specs.DeclaredCells.{declared_by, as_read, read_tests}
use Rattle.frame.specs.Frame.{WellFormed, held_sums}
use Rattle.frame.specs.Shape.{is_shape}
use Rattle.frame.proofs.NothingDeclared.{nothing-declarable}
use Rattle.job.specs.Calls.{same_sums}
use Rattle.job.specs.Job.{Arrays, beside, is_located, with_read}
use Rattle.job.proofs.Emptiness.{has-shape}
use Rattle.job.proofs.Marked.{located-marked, located-reach, located-size}
use Rattle.refusal.specs.Outcome.{outcome, passed}
use Rattle.locating.proofs.Steps.{refusal-outcome, mended-outcome, passed-frame, passed-undeclared, sound-cells}
use Rattle.locating.proofs.Steps.{repair-refused, repair-differs, repair-uniform, repair-mends}
use Rattle.job.proofs.Undeclared.{whole-tests, whole-sums, whole-sound, whole-mended}
use borrow.Author.Rules.{rules}
use Rattle.calls.proofs.repair.repair_whole.Goals as goal
use Rattle.calls.proofs.repair.repair_whole.Goals.{After-same_sums, In_default, Start}

-- ---- the ways back

-- ---- what is known of the job

shape : (c : Start) → is_shape c.args.j.shape ≡ true
shape c = has-shape _ c.requires.repairable.full

located : (c : Start) (a : Arrays) → is_located (beside c.args.j (with_read a c.args.sums.now c.args.held.now)) ≡ true
located c a =
    let known = c.requires.repairable in
    ap₂ ◌&&◌ known.located (whole-sound _ (shape c) _ c.requires.nothing _ (located-reach _ known.full known.located))

-- ---- the tests

pub check_frame-requires : goal.check_frame-requires
check_frame-requires c = shape (goal.at.check_frame-requires c).Start

pub returns-in-Err : goal.returns-in-Err
returns-in-Err c =
    λ a. refusal-outcome _ _ _ c.refuse.ensures refl
    ∙ repair-refused _ _ c.requires.repairable.full (located (goal.at.returns-in-Err c).Start a) (nothing-declarable _ (shape (goal.at.returns-in-Err c).Start) _ c.requires.nothing) _
    (sym (whole-tests _ (shape (goal.at.returns-in-Err c).Start) _ c.requires.nothing _)
    ∙ sym c.in-Err.ensures)

-- the frame is well-formed
passes : (c : In_default) →
    let args = c.args in
    outcome (read_tests args.j.shape (declared_by args.held.now) args.frame.now) ≡ passed
passes c =
    sym (whole-tests _ (has-shape _ c.requires.repairable.full) _ c.requires.nothing _) ∙ sym c.in_default.ensures

well_formed : (c : In_default) → let args = c.args in WellFormed args.j.shape args.frame.now
well_formed c = passed-frame _ _ (sym c.in_default.ensures)

pub frame_sums-summed-requires : goal.frame_sums-summed-requires
frame_sums-summed-requires c =
    (shape (goal.at.frame_sums-summed-requires c).Start, well_formed (goal.at.frame_sums-summed-requires c).In_default)

-- the sums are compared
compared : (c : After-same_sums) →
    let args = c.args in
    same_sums (held_sums args.j.shape (as_read args.j.shape (declared_by args.held.now) args.frame.now)) args.sums.now ≡ c.same_sums.result
compared c =
    sym (c.same_sums.ensures
    ∙ ap (λ (l : List ℕ). same_sums l c.args.sums.now) (c.frame_sums-summed.ensures
    ∙ whole-sums _ (has-shape _ c.requires.repairable.full) _ c.requires.nothing _ (passed-frame _ _ (sym c.in_default.ensures)).size))

pub returns-then-not-same_sums : goal.returns-then-not-same_sums
returns-then-not-same_sums c =
    λ a. refusal-outcome _ _ _ c.refuse-then-not-same_sums.ensures refl
    ∙ repair-differs _ _ c.requires.repairable.full (located (goal.at.returns-then-not-same_sums c).Start a) (nothing-declarable _ (shape (goal.at.returns-then-not-same_sums c).Start) _ c.requires.nothing)
    (passes (goal.at.returns-then-not-same_sums c).In_default)
    (compared (goal.at.returns-then-not-same_sums c).After-same_sums ∙ c.if-not-same_sums.true)

-- ---- the frame

words : (c : Start) → Sound c.args.j.columns
words c = sound _ (search rules) (λ w. search rules)

pub mends_uniform-requires : goal.mends_uniform-requires
mends_uniform-requires c =
    let known = c.requires.repairable in
    record {
      shape = shape (goal.at.mends_uniform-requires c).Start;
      whole = (well_formed (goal.at.mends_uniform-requires c).In_default).size;
      small = passed-undeclared _ _ _ (passes (goal.at.mends_uniform-requires c).In_default);
      below = (located-marked _ known.full known.located (words (goal.at.mends_uniform-requires c).Start)).inside;
      declarable = nothing-declarable _ (shape (goal.at.mends_uniform-requires c).Start) _ c.requires.nothing;
      reach = subst (λ (n : ℕ). left_reach c.args.j.shape (declared_by c.args.held.now) n ≡ true)
          (sym (located-size _ known.full known.located))
          (sound-cells _ _ _ (whole-sound _ (shape (goal.at.mends_uniform-requires c).Start) _ c.requires.nothing _ (located-reach _ known.full known.located))).1;
    }

-- the frame would be uniform
pub returns-then-mends_uniform : goal.returns-then-mends_uniform
returns-then-mends_uniform c =
    λ a. refusal-outcome _ _ _ c.refuse-then-mends_uniform.ensures c.shaped.ensures
    ∙ repair-uniform _ _ c.requires.repairable.full (located (goal.at.returns-then-mends_uniform c).Start a) (nothing-declarable _ (shape (goal.at.returns-then-mends_uniform c).Start) _ c.requires.nothing)
    (passes (goal.at.returns-then-mends_uniform c).In_default) (compared (goal.at.returns-then-mends_uniform c).After-same_sums ∙ c.if-not-same_sums.false)
    (sym c.mends_uniform.ensures ∙ c.if-mends_uniform.true)

pub mend-requires : goal.mend-requires
mend-requires c =
    let marked = located-marked _ c.requires.repairable.full c.requires.repairable.located (words (goal.at.mend-requires c).Start) in
    record {
      shape = shape (goal.at.mend-requires c).Start;
      whole = (well_formed (goal.at.mend-requires c).In_default).size;
      small = (well_formed (goal.at.mend-requires c).In_default).symbols;
      held = c.frame_sums-summed.ensures;
      below = marked.inside;
      reach = marked.reach;
    }

pub returns : goal.returns
returns c =
    λ a. mended-outcome c.args.j _ _ c.mended.ensures c.length_of.ensures
    (c.mend.ensures ∙ whole-mended _ (shape (goal.at.returns c).Start) _ c.requires.nothing _ _ (words (goal.at.returns c).Start))
    ∙ repair-mends _ _ c.requires.repairable.full (located (goal.at.returns c).Start a) (nothing-declarable _ (shape (goal.at.returns c).Start) _ c.requires.nothing)
    (passes (goal.at.returns c).In_default)
    (compared (goal.at.returns c).After-same_sums ∙ c.if-not-same_sums.false) (sym c.mends_uniform.ensures ∙ c.if-mends_uniform.false)
