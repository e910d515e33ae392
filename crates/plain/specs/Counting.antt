-- Counting up in an array whose places are digits modulo p, the lowest first.
use Rattle.std.specs.Prelude.{◌≡◌, ℕ, ◌+◌, ◌<◌, ◌≤◌, List, length, slice_index}
use Rattle.plain.specs.Plain.{rem}

-- the digits from `from` up to `to` were the last and went over to 0, and the others are kept
pub record Carried (p : ℕ) (old new : List ℕ) (from to : ℕ) : Type 0 where
  pub size : length new ≡ length old
  pub last : (k : ℕ) → from ≤ k → k < to → rem (slice_index old k + 1) p ≡ 0
  pub cleared : (k : ℕ) → from ≤ k → k < to → slice_index new k ≡ 0
  pub before : (k : ℕ) → k < from → slice_index new k ≡ slice_index old k
  pub after : (k : ℕ) → to ≤ k → slice_index new k ≡ slice_index old k

-- so did those from `from` up to `at`, the digit there went up by one, and the others are kept
pub record Counted (p : ℕ) (old new : List ℕ) (from to at : ℕ) : Type 0 where
  pub low : from ≤ at
  pub high : at < to
  pub size : length new ≡ length old
  pub last : (k : ℕ) → from ≤ k → k < at → rem (slice_index old k + 1) p ≡ 0
  pub cleared : (k : ℕ) → from ≤ k → k < at → slice_index new k ≡ 0
  pub inner : rem (slice_index old at + 1) p ≡ 0 → ⊥
  pub risen : at < length old → slice_index new at ≡ rem (slice_index old at + 1) p
  pub before : (k : ℕ) → k < from → slice_index new k ≡ slice_index old k
  pub after : (k : ℕ) → at < k → slice_index new k ≡ slice_index old k
