use mathlib.Core.Path.{◌≡◌, sym, ◌∙◌}
use borrow.Author.Rules.{rules}
use Rattle.std.specs.List.{sum}
use Rattle.lists.proofs.Sums.{total-sum}
use Rattle.sequences.proofs.check.sum.Goals as goal

pub returns : goal.returns
returns c = (let e : c.sum.result ≡ sum c.args.lengths.now = search rules in e) ∙ sym (total-sum c.args.lengths.now)
