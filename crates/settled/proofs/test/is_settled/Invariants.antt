-- `is_settled` answers whether the register is settled in all sequences. The invariant: it is in those passed.
use mathlib.Core.Path.{◌≡◌}
use mathlib.Core.Bool.{true}
use Prim.Native.Nat.{ℕ, ◌<◌}
use lib.ListN.{get_or}
use Rattle.settled.specs.Settled.{settled_in}
use Rattle.settled.proofs.test.is_settled.Given as goal

abbrev pub invariant-loop-h : goal.invariant-loop-h
invariant-loop-h l =
    let x = l.problem in
    (h : ℕ) → h < l.h → settled_in x.f.p l.state.length l.state.taps x.symbols.now h (get_or x.lengths.now h 0) l.left ≡ true
