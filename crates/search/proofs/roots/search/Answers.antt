-- `search::roots::search` meets its contract.
use native.Mathlib.Omega.{arith}
use Rattle.std.proofs.Common.{◌≡◌, ◌∙◌, ap, sym, rules}
use Rattle.refusal.specs.Number.{number}
use Rattle.refusal.specs.Outcome.{passed, refused}
use Rattle.refusal.proofs.Outcomes.{given-passed, given-refused}
use Rattle.search.specs.Search.{answer, nothing, search_tests}
use Rattle.search.specs.declared.Sought.{Sought}
use Rattle.search.proofs.Answers.{in_range}
use Rattle.search.proofs.roots.search.Goals as goal

pub sought_columns-requires : goal.sought_columns-requires
sought_columns-requires c = let few = in_range _ _ (sym c.in_ok-check.ensures) in omega arith

pub returns-in_err-check : goal.returns-in_err-check
unfolding answer
returns-in_err-check c =
    let args = c.args in
    let why = c.in_err-check.field-0.0 in
    let alone : answer args.columns args.taps.now ≡ record { outcome = refused (number why); sought = nothing } =
    given-refused _ _ (search_tests args.columns args.taps.now) (number why) (sym c.in_err-check.ensures)
    in
    rw alone (search rules)

pub returns : goal.returns
unfolding answer
returns c =
    ap (λ (found : Sought). record { outcome = passed; sought = found }) c.sought_columns.ensures
    ∙ sym (given-passed _ _ (search_tests c.args.columns c.args.taps.now) (sym c.in_ok-check.ensures))
