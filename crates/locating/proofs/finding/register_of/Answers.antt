-- `locating::finding::register_of` meets its contract.
use mathlib.Core.Path.{◌≡◌, refl, sym, ◌∙◌}
use lib.ListN.{get_or}
use Rattle.decoding.specs.Remaining.{all_remaining}
use Rattle.frame.specs.DeclaredCells.{declared_by}
use Rattle.frame.specs.Frame.{held_sequences}
use Rattle.locating.proofs.Lending.{Lent, lent_findable, lent-answered, lent-left, held-lent, none-taken, left-lent, left-counted, register-said}
use Rattle.lists.specs.Total.{total}
use borrow.Author.Rules.{rules}
use Rattle.locating.proofs.finding.register_of.Goals as goal
use Rattle.locating.proofs.finding.register_of.Goals.{After-all_remaining, After-sum_count}

-- ---- nothing is declared

-- the sums are lent as they are held
lent-whole : (c : After-sum_count) →
    let args = c.args in
    Lent args.s.rows args.s.checks args.sums.now (held_sequences args.s args.sums.now)
lent-whole c =
    held-lent c.args.s c.requires.shape c.args.sums.now c.requires.small (search rules) (search rules)

pub shortest-requires : goal.shortest-requires
shortest-requires c =
    lent_findable (lent-whole (goal.at.shortest-requires c).After-sum_count) _ c.sum_count.ensures _ c.requires.zeros

pub returns-then-none : goal.returns-then-none
returns-then-none c =
    let pre = c.requires in
    let lent = lent-whole (goal.at.returns-then-none c).After-sum_count in
    let e = none-taken c.args.s pre.shape c.args.sums.now pre.small c.args.declared.now
    (sym pre.flag ∙ c.if-none.true) in
    register-said _ _ _ _ _ _ e (lent-answered lent _ c.sum_count.ensures _ pre.zeros _ _ c.shortest.ensures)
    (lent-left lent _ c.sum_count.ensures _ pre.zeros _ _ c.shortest.ensures)

-- ---- some cells are

pub all_remaining-requires : goal.all_remaining-requires
all_remaining-requires c =
    let pre = c.requires in
    record { shape = pre.shape; declared = pre.declarable; sums-small = pre.small }

lent-left-of : (c : After-all_remaining) →
    let args = c.args in
    let left = c.all_remaining.result in
    Lent args.s.rows left.lengths left.symbols
    (all_remaining args.s (declared_by args.declared.now) (held_sequences args.s args.sums.now))
lent-left-of c =
    left-lent c.args.s c.requires.shape (declared_by c.args.declared.now) c.args.sums.now c.all_remaining.result
    c.all_remaining.ensures (search rules) (search rules)

counted-left : (c : After-all_remaining) →
    let left = c.all_remaining.result in
    left.count ≡ total c.args.s.rows (λ h. get_or left.lengths h 0)
counted-left c =
    left-counted c.args.s c.requires.shape _ _ c.all_remaining.result c.all_remaining.ensures

pub shortest_left-requires : goal.shortest_left-requires
shortest_left-requires c =
    lent_findable (lent-left-of (goal.at.shortest_left-requires c).After-all_remaining) _ (counted-left (goal.at.shortest_left-requires c).After-all_remaining) _ c.requires.zeros

pub returns-else-none : goal.returns-else-none
returns-else-none c =
    let zeros = c.requires.zeros in
    register-said _ _ _ _ _ _ refl (lent-answered (lent-left-of (goal.at.returns-else-none c).After-all_remaining) _ (counted-left (goal.at.returns-else-none c).After-all_remaining) _ zeros _ _ c.shortest_left.ensures)
    (lent-left (lent-left-of (goal.at.returns-else-none c).After-all_remaining) _ (counted-left (goal.at.returns-else-none c).After-all_remaining) _ zeros _ _ c.shortest_left.ensures)
