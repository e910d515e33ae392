-- `columns::either` meets its contract.
use mathlib.Core.Path.{◌≡◌, ◌∙◌}
use Prim.Native.Nat.{ℕ, ◌<◌}
use borrow.Author.Rules.{rules}
use lib.ListN.{get_or}
use lib.Bits.{bit_or}
use Rattle.columns.proofs.Joined.{joined_is, joined-words}
use Rattle.columns.proofs.Marks.{sound}
use Rattle.columns.proofs.either.Goals as goal

pub returns : goal.returns
returns c =
    let a = c.args.a in
    let b = c.args.b in
    let each : (i : ℕ) → i < 4 → get_or c.from_fn.result i 0 ≡ bit_or (get_or a.words i 0) (get_or b.words i 0) = λ i l. search (rules, c.from_fn.ensures.items.at i 0 l) in
    joined-words a b c.from_fn.result c.from_fn.ensures.items.long each
    ∙ joined_is a b (sound a (search rules) (λ w. search rules)) (sound b (search rules) (λ w. search rules))
