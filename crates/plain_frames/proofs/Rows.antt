-- A row of a frame, and none past the eighth.
use mathlib.Core.Path.{◌≡◌, ap}
use mathlib.Core.Bool.{Bool, cond}
use mathlib.Core.List.{List, []}
use Prim.Native.Nat.{ℕ, ◌*◌, ◌≤◌, ◌<◌}
use borrow.Author.Tests.{lt-ltb, le-ltb}
use Rattle.plain.specs.Plain.{part}
use Rattle.plain_frames.specs.Frames.{row}

pub row_in : (frame : List ℕ) (columns h : ℕ) → h < 8 → row frame columns h ≡ part frame (h * columns) columns
row_in frame columns h l = ap (λ (b : Bool). cond b (part frame (h * columns) columns) []) (lt-ltb h 8 l)

pub row_out : (frame : List ℕ) (columns h : ℕ) → 8 ≤ h → row frame columns h ≡ []
row_out frame columns h l = ap (λ (b : Bool). cond b (part frame (h * columns) columns) []) (le-ltb h 8 l)
