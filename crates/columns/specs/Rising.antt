-- What an iterator over the marked columns still has to give.
use Rattle.std.specs.Prelude.{List, ℕ, drop}
use Rattle.columns.specs.Columns.{has, members}
use Rattle.columns.specs.Listed.{count}
use Rattle.columns.specs.declared.rising.Members.{Members}

-- the marked columns from its place on, rising
abbrev pub to_come : Members → List ℕ
to_come m = drop (count m.from (has m.set)) (members m.set)
