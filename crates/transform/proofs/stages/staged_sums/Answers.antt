use mathlib.Core.Path.{◌∙◌}
use native.Mathlib.Omega.{arith}
use Rattle.lists.proofs.Filling.{filled_none, filled_more, filled-all}
use Rattle.lists.proofs.Padded.{padded_entry}
use Rattle.transform.specs.Stages.{weighed_sums}
use Rattle.transform.proofs.FactorTables.{first_part, first-factors, later-part, later-factors, weighed-same}
use Rattle.transform.proofs.StagedSums.{staged_sum}
use Rattle.transform.proofs.stages.staged_sums.Goals as goal

pub butterflies-requires : goal.butterflies-requires
butterflies-requires c = first-factors _ c.requires.0

pub butterflies-requires-2 : goal.butterflies-requires-2
butterflies-requires-2 c = later-factors _ c.requires.0 1 (omega arith) (omega arith)

pub butterflies-requires-3 : goal.butterflies-requires-3
butterflies-requires-3 c = later-factors _ c.requires.0 2 (omega arith) (omega arith)

pub last-v-requires : goal.last-v-requires
last-v-requires c = later-factors _ c.requires.0 3 (omega arith) (omega arith)

pub loop-k-init : goal.loop-k-init
loop-k-init c = filled_none _ _

pub loop-k-preserved : goal.loop-k-preserved
loop-k-preserved c =
    let k = c.loop-k.k in
    let t = c.args.t.now in
    filled_more _ _ k _ c.loop-k.sums c.loop-k.invariant (omega arith)
    (staged_sum k (omega arith) _ _ _ _ _ _ _ _ c.butterflies.ensures c.butterflies-2.ensures c.butterflies-3.ensures
    (later-part t c.requires.0 1 (omega arith) (omega arith)) (later-part t c.requires.0 2 (omega arith) (omega arith))
    (later-part t c.requires.0 3 (omega arith) (omega arith)) _ _ c.last-v.ensures c.reversed.ensures.equals c.reversed.ensures.below
    ∙ weighed-same _ _ _ _ k (first_part t c.requires.0) (λ i. rw c.padded-y.ensures (padded_entry _ _ i)))

pub returns : goal.returns
unfolding weighed_sums
returns c = filled-all _ _ _ _ c.loop-k.invariant (omega arith)
