-- `searching::arrive::arrive` meets its contract.
use mathlib.Core.Path.{ap, ◌∙◌}
use Prim.Native.Nat.{ℕ}
use Rattle.ends.specs.Ends.{alone_mark}
use borrow.Author.Tests.{eq-eqb, ne_eqb}
use Rattle.searching.specs.Arriving.{Endable}
use Rattle.searching.proofs.Arriving.{goes-on-given, ends-given, own-taps, held_so}
use Rattle.searching.proofs.arrive.arrive.Goals as goal
use Rattle.searching.proofs.arrive.arrive.Goals.{Else-counts}

pub returns-then-counts : goal.returns-then-counts
returns-then-counts c = λ symbols discs quotients saved f. goes-on-given _ _ _ (ne_eqb _ _ c.if-counts.true) c.goes_on.ensures

-- what the end asks
end : (c : Else-counts) →
    let args = c.args in
    Endable args.s args.declared.now args.sums.now args.counts.now args.lengths.now args.register.now
end c = c.requires (eq-eqb _ _ c.if-counts.false)

pub held_taps-found-requires : goal.held_taps-found-requires
held_taps-found-requires c = rw c.from-l.ensures (end (goal.at.held_taps-found-requires c).Else-counts).short

pub alone-mark-requires : goal.alone-mark-requires
alone-mark-requires c = rw c.from.ensures (end (goal.at.alone-mark-requires c).Else-counts).shorter

pub locate_by-requires : goal.locate_by-requires
locate_by-requires c =
    let e = end (goal.at.locate_by-requires c).Else-counts in
    held_so _ c.args.register.now _ (rw c.from-l.ensures e.short) (c.held_taps-found.ensures.value, c.held_taps-found.ensures.register_len) _ _ _ _ _ _
    c.nothing.ensures c.from-l.ensures e

pub returns : goal.returns
returns c =
    let args = c.args in
    let few = (end (goal.at.returns c).Else-counts).short in
    λ symbols discs quotients saved f.
    ends-given args.s args.sums.now args.taps.now _ args.declared.now _ f c.locate_by.result (eq-eqb _ _ c.if-counts.false)
    c.held_taps-found.result _ _ c.from-l.ensures
    (own-taps _ args.register.now _ (rw c.from-l.ensures few) (c.held_taps-found.ensures.value, c.held_taps-found.ensures.register_len))
    (c.alone-mark.ensures ∙ ap (λ (n : ℕ). alone_mark n args.lengths.now args.s.rows c.from-l.result args.places.now args.sizes.now) c.from.ensures)
    c.locate_by.ensures
