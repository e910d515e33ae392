-- Windows of a buffer that is filled from the input.
use Rattle.std.specs.Prelude.{◌≡◌, Bool, false, cond, ◌&&◌, List, ℕ, ◌+◌, ◌-◌, ◌≤◌, ltb, eqb, length, take, drop}
use Rattle.record.specs.Record.{claimed_by}
use Rattle.window.specs.declared.input.Window.{Window}

-- the bytes still to be used
abbrev pub unused : Window → (buffer : List ℕ) → List ℕ
unused w buffer = take (w.end - w.start) (drop w.start buffer)

-- the window lies in the buffer, which has room for the longest record
pub record Inside (w : Window) (buffer : List ℕ) : Type 0 where
  pub ordered : w.start ≤ w.end
  pub within : w.end ≤ length buffer
  pub room : 65537 ≤ length buffer

-- a turn can be made: the window lies in the buffer, the longest record's fields fit `scratch`, and a line fits `out`
pub record Ready (w : Window) (buffer scratch out : List ℕ) : Type 0 where
  pub inside : Inside w buffer
  pub fields : 32768 ≤ length scratch
  pub line : 1024 ≤ length out

-- the lent arrays have room for the longest record, for its fields, and for a line
pub record Roomy (buffer scratch out : List ℕ) : Type 0 where
  pub bytes : 65537 ≤ length buffer
  pub fields : 32768 ≤ length scratch
  pub line : 1024 ≤ length out

-- the window starts with less than a record claims, and the input may have more
unfoldable pub is_lacking : Window → (buffer : List ℕ) → Bool
is_lacking w buffer = w.more && ltb (w.end - w.start) (2 + claimed_by (unused w buffer))

-- no byte still to be used is lost
abbrev pub Kept : (before : List ℕ) (w : Window) (after : List ℕ) (r : Window) → Type 0
Kept before w after r = take (w.end - w.start) (unused r after) ≡ unused w before

-- one read more: no fewer bytes are to be used, and the input may have more exactly where some came
pub record Refilled (before : List ℕ) (w : Window) (after : List ℕ) (r : Window) : Type 0 where
  pub inside : Inside r after
  pub kept : Kept before w after r
  pub no-fewer : w.end - w.start ≤ r.end - r.start
  pub told : r.more ≡ ltb (w.end - w.start) (r.end - r.start)

-- No byte still to be used is lost, and the window starts with all that a record claims, unless the input has no more. Once it has ended nothing changes.
pub record Filled (before : List ℕ) (w : Window) (after : List ℕ) (r : Window) : Type 0 where
  pub inside : Inside r after
  pub kept : Kept before w after r
  pub whole : is_lacking r after ≡ false
  pub ended : w.more ≡ false → (r.more ≡ false) × (unused r after ≡ unused w before)

-- the input has ended, and all of it is used
abbrev pub is_over : Window → Bool
is_over w = cond w.more false (eqb w.start w.end)
