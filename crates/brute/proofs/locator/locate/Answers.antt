-- `brute::locator::locate` meets its contract.
use Rattle.std.proofs.Common.{refl}
use Rattle.std.proofs.lemmas.Bool.{not-true, not-false}
use Rattle.brute.proofs.Locating.{not-alone, too_short, other-number, same_number}
use Rattle.brute.proofs.locator.locate.Goals as goal

pub returns-then-not-found-clause-located : goal.returns-then-not-found-clause-located
returns-then-not-found-clause-located c = not-alone _ _ _ _ _ _ _ _ c.table-table.ensures c.shortest-found.ensures (not-true _ c.if-not-found.true)

pub returns-then-short_row-clause-located : goal.returns-then-short_row-clause-located
returns-then-short_row-clause-located c =
    too_short _ _ _ _ _ _ _ _ c.table-table.ensures c.shortest-found.ensures (not-false _ c.if-not-found.false) _ c.short_row.ensures
    c.if-short_row.true

pub returns-then-size-length-clause-located : goal.returns-then-size-length-clause-located
returns-then-size-length-clause-located c =
    other-number _ _ _ _ _ _ _ _ c.table-table.ensures c.shortest-found.ensures (not-false _ c.if-not-found.false) _
    c.short_row.ensures c.if-short_row.false _ refl _ c.mark.ensures _ c.size.ensures
    c.if-size-length.true

pub returns-clause-located : goal.returns-clause-located
returns-clause-located c =
    same_number _ _ _ _ _ _ _ _ c.table-table.ensures c.shortest-found.ensures (not-false _ c.if-not-found.false) _
    c.short_row.ensures c.if-short_row.false _ refl _ c.mark.ensures _ c.size.ensures
    c.if-size-length.false
