-- `window::input::filled` meets its contract.
use mathlib.Core.Path.{◌≡◌}
use mathlib.Core.Bool.{false}
use Prim.Native.Nat.{◌-◌, ◌≤◌}
use lib.ListN.{length}
use Rattle.window.specs.Window.{unused, Inside, Kept}
use Rattle.window.proofs.Filling.{left}
use Rattle.window.proofs.input.filled.Given as goal

abbrev pub invariant-loop-input : goal.invariant-loop-input
invariant-loop-input l = record {
  within : Inside l.r l.buffer;
  kept : Kept l.fn.buffer l.fn.w l.buffer l.r;
  no-fewer : l.fn.w.end - l.fn.w.start ≤ l.r.end - l.r.start;
  ended : l.fn.w.more ≡ false → (l.r.more ≡ false) × (unused l.r l.buffer ≡ unused l.fn.w l.fn.buffer);
}

abbrev pub decreases-loop-input : goal.decreases-loop-input
decreases-loop-input l = left (length l.fn.buffer) l.r
