-- n turns are counted as n.
use mathlib.Core.Path.{refl, ap}
use Prim.Native.Nat.{zero, suc}
use Rattle.turns.specs.Dispatcher.{Kind, turns_in, turns}
use Rattle.turns.specs.Turning.{TurnsCounted}

pub turns-counted : (K : Kind) → TurnsCounted K
unfolding turns_in turns
turns-counted K zero = refl
turns-counted K (suc n) = ap suc (turns-counted K n)
