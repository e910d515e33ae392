-- `alone` answers the alone mark.
use mathlib.Core.Path.{◌≡◌, refl, ◌∙◌}
use mathlib.Core.Bool.{true, false}
use native.Mathlib.Omega.{arith}
use borrow.Author.Rules.{rules}
use borrow.Author.Tests.{tests}
use Rattle.std.proofs.lemmas.Iterator.{cases_from_all, YieldsList-from_range}
use Rattle.lists.proofs.Tabulated.{every_ext}
use Rattle.ends.specs.Ends.{alone_mark, mark_test}
use Rattle.ends.proofs.Marking.{compared, compared-marks}
use Rattle.lists.proofs.RangeTests.{decided}
use Rattle.ends.proofs.alone.Goals as goal

pub returns : goal.returns
unfolding alone_mark
returns c =
    let a = c.args in
    let test = compared a.longest a.lengths.now a.l a.places.now a.sizes.now in
    decided a.count test c.all.result
    (cases_from_all _ _ _ (λ h. test h ≡ true) (λ h. test h ≡ false) c.all.ensures.ran (YieldsList-from_range 0 a.count a.count refl (omega arith))
    (λ x q k. search (rules, tests)) (λ x q k. search (rules, tests)))
    ∙ every_ext a.count test (mark_test a.longest a.lengths.now a.l a.places.now a.sizes.now) (λ h b. compared-marks _ _ _ _ _ h (c.requires.shorter h b))
