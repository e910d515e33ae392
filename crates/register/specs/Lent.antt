-- Sequences as they are lent: the list of their lengths, and their symbols, one sequence after the other. What is owed of the definitions by which they are read.
-- Proved in proofs/Lent.antt.
use Rattle.std.specs.Prelude.{◌≡◌, List, map, ℕ, ◌≤◌, ◌<◌, length, get_or}
use Rattle.lists.specs.Tabulate.{joined}
use Rattle.register.specs.Sequences.{largest, split}

pub record Lent : Type 0 where
  -- sequences that are lent are read as they were
  pub split-back : (ss : List (List ℕ)) → split (map length ss) (joined ss) ≡ ss
  -- the largest length is one of the lengths, and none is above it
  pub bounds : (lengths : List ℕ) (h : ℕ) → h < length lengths → get_or lengths h 0 ≤ largest lengths
  pub reached : (lengths : List ℕ) → 0 < length lengths → (h : ℕ) × (h < length lengths) × (get_or lengths h 0 ≡ largest lengths)
