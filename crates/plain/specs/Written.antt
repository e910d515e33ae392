-- What a function leaves in a lent array.
use Rattle.std.specs.Prelude.{◌≡◌, ℕ, ◌<◌, ◌≤◌, List, length, slice_index}

-- the places from `from` up to `to` become f; the others, and the number of places, are kept
pub record Wrote (old new : List ℕ) (from to : ℕ) (f : ℕ → ℕ) : Type 0 where
  pub size : length new ≡ length old
  pub within : (k : ℕ) → from ≤ k → k < to → k < length old → slice_index new k ≡ f k
  pub before : (k : ℕ) → k < from → slice_index new k ≡ slice_index old k
  pub after : (k : ℕ) → to ≤ k → slice_index new k ≡ slice_index old k
