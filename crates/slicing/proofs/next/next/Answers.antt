-- `slicing::next::next` meets its contract.
use mathlib.Core.Path.{◌≡◌, refl, sym, ◌∙◌}
use mathlib.Core.Bool.{true, false}
use mathlib.Core.List.{[]}
use Rattle.job.specs.Job.{beside, counts_empty, is_unfinished}
use Rattle.job.proofs.Emptiness.{has-shape}
use Rattle.locating.proofs.Steps.{refusal-outcome}
use Rattle.searching.specs.Arriving.{all_arrays}
use Rattle.slices.specs.Synthesis.{Synthesis, synthesis}
use Rattle.searching.proofs.Calling.{unfinished-sound, next-empty, next-other, next-goes-on}
use Rattle.slicing.proofs.next.next.Goals as goal
use Rattle.slicing.proofs.next.next.Goals.{Else-counts_as_empty, Else-not-counts_as_unfinished, Start}

-- ---- the ways back

-- what the arrays hold
abbrev held : Start → Synthesis
held c =
    let a = c.args in
    synthesis a.counts.now a.lengths.now a.symbols.now a.places.now a.sizes.now a.discs.now a.quotients.now a.register.now
    a.saved.now

-- ---- the tests

pub returns-then-counts_as_empty : goal.returns-then-counts_as_empty
returns-then-counts_as_empty c =
    refusal-outcome _ _ _ c.refuse.ensures refl ∙ next-empty _ (sym c.counts_as_empty.ensures ∙ c.if-counts_as_empty.true)

-- the job does not count as empty
full : (c : Else-counts_as_empty) → counts_empty c.args.j ≡ false
full c = sym c.counts_as_empty.ensures ∙ c.if-counts_as_empty.false

pub counts_as_unfinished-requires : goal.counts_as_unfinished-requires
counts_as_unfinished-requires c = full c

pub returns-then-not-counts_as_unfinished : goal.returns-then-not-counts_as_unfinished
returns-then-not-counts_as_unfinished c =
    refusal-outcome _ _ _ c.refuse-then-not-counts_as_unfinished.ensures refl
    ∙ next-other _ (full (goal.at.returns-then-not-counts_as_unfinished c).Else-counts_as_empty) (sym (c.counts_as_unfinished.ensures _) ∙ c.if-not-counts_as_unfinished.true)

unfinished : (c : Else-not-counts_as_unfinished) →
    let args = c.args in
    is_unfinished (beside args.j (all_arrays args.sums.now args.taps.now args.held.now (let a = c.args in synthesis a.counts.now a.lengths.now a.symbols.now a.places.now a.sizes.now a.discs.now a.quotients.now a.register.now a.saved.now))) ≡ true
unfinished c = sym (c.counts_as_unfinished.ensures _) ∙ c.if-not-counts_as_unfinished.false

-- ---- the step

pub step_from-requires : goal.step_from-requires
step_from-requires c =
    record { shape = has-shape _ (full (goal.at.step_from-requires c).Else-counts_as_empty); sound = unfinished-sound c.args.j _ (unfinished (goal.at.step_from-requires c).Else-not-counts_as_unfinished) }

pub returns : goal.returns
returns c =
    c.step_from.ensures [] ∙ next-goes-on _ (full (goal.at.returns c).Else-counts_as_empty) (unfinished (goal.at.returns c).Else-not-counts_as_unfinished)
