-- `calls::repair::repair` meets its contract.
use mathlib.Core.Path.{◌≡◌, refl, sym, ap, ◌∙◌}
use mathlib.Core.Bool.{Bool, true, false, ◌&&◌}
use Rattle.frame.specs.DeclaredCells.{declared_by}
use Rattle.job.specs.Job.{counts_empty, declared_sound, is_located_phase, length_of}
use Rattle.locating.proofs.Steps.{refusal-outcome, repair-empty, repair-unlocated}
use Rattle.calls.proofs.repair.repair.Goals as goal
use Rattle.calls.proofs.repair.repair.Goals.{Else-counts_as_empty, Else-not-is_located}

pub returns-then-counts_as_empty : goal.returns-then-counts_as_empty
returns-then-counts_as_empty c =
    λ a. refusal-outcome _ _ _ c.refuse.ensures refl ∙ repair-empty _ _ (sym c.counts_as_empty.ensures ∙ c.if-counts_as_empty.true)

-- the job does not count as empty
full : (c : Else-counts_as_empty) → counts_empty c.args.j ≡ false
full c = sym c.counts_as_empty.ensures ∙ c.if-counts_as_empty.false

pub returns-then-not-is_located : goal.returns-then-not-is_located
returns-then-not-is_located c =
    let args = c.args in
    λ a. refusal-outcome _ _ _ c.refuse-then-not-is_located.ensures refl
    ∙ repair-unlocated _ _ (full (goal.at.returns-then-not-is_located c).Else-counts_as_empty)
    (ap (λ (b : Bool). b && declared_sound args.j.shape (declared_by args.held.now) (length_of args.j.phase))
    (sym c.is_located.ensures ∙ c.if-not-is_located.true))

located : (c : Else-not-is_located) → is_located_phase c.args.j.phase ≡ true
located c = sym c.is_located.ensures ∙ c.if-not-is_located.false

pub repair_whole-requires : goal.repair_whole-requires
repair_whole-requires c =
    record {
      repairable = record { full = full (goal.at.repair_whole-requires c).Else-counts_as_empty; located = located (goal.at.repair_whole-requires c).Else-not-is_located };
      nothing = sym c.nothing.ensures ∙ c.if-nothing.true;
    }

pub repair_read-requires : goal.repair_read-requires
repair_read-requires c =
    record { full = full (goal.at.repair_read-requires c).Else-counts_as_empty; located = located (goal.at.repair_read-requires c).Else-not-is_located }
