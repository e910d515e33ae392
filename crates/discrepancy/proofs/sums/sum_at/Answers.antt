-- `sum_at` sums the products, in the way that fits the modulus.
use mathlib.Core.Path.{sym, ◌∙◌}
use borrow.Author.Tests.{leb-true}
use Rattle.discrepancy.proofs.Products.{narrow, narrow-loose}
use Rattle.discrepancy.proofs.sums.sum_at.Goals as goal

pub narrow_sum-requires : goal.narrow_sum-requires
narrow_sum-requires c = narrow c.requires (leb-true _ _ (sym c.is_small.ensures ∙ c.if-is_small.true))

pub returns-then-is_small-clause-loose : goal.returns-then-is_small-clause-loose
returns-then-is_small-clause-loose c =
    narrow-loose c.requires (leb-true _ _ (sym c.is_small.ensures ∙ c.if-is_small.true)) c.narrow_sum.ensures
