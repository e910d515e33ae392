-- `searching::turn::start_whole` meets its contract.
use borrow.Author.Rules.{rules}
use Rattle.searching.proofs.StartingWhole.{whole-starts}
use Rattle.searching.proofs.turn.start_whole.Goals as goal

-- ---- the ways back

pub begin_whole-requires : goal.begin_whole-requires
begin_whole-requires c = let all = c.requires in record { s_value = all.s_value; by_index = all.by_index }

pub returns : goal.returns
returns c =
    whole-starts _ c.requires.s_value _ (search rules) c.requires.by_index _ c.begin_whole.ensures c.goes_on.ensures
