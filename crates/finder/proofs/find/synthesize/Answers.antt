-- `synthesize` answers zeros at once, and other symbols as `shortest` does.
use mathlib.Core.Path.{sym, ◌∙◌}
use Prim.Native.Nat.{◌<◌}
use native.Mathlib.Omega.{arith}
use lib.ListN.{length}
use Rattle.finder.proofs.Accepted.{accepted}
use Rattle.finder.proofs.Zeros.{finds-none}
use Rattle.finder.proofs.find.synthesize.Goals as goal
use Rattle.finder.proofs.find.synthesize.Goals.{Start}

-- the buffer has a first entry
room : (c : Start) → 0 < length c.args.taps.now
room c = omega (arith, (accepted _ _ _ _ c.requires).enough)

pub bounds-taps-0 : goal.bounds-taps-0
bounds-taps-0 c = room (goal.at.bounds-taps-0 c).Start

pub returns-then-all_zero : goal.returns-then-all_zero
returns-then-all_zero c =
    finds-none c.requires (room (goal.at.returns-then-all_zero c).Start) (sym c.all_zero.ensures ∙ c.if-all_zero.true)
