-- What is kept between steps is the state of Algorithm 4.
use Rattle.std.specs.Prelude.{◌≡◌, List, [], ◌∷◌, ℕ, suc, ◌≤◌, ◌<◌, length, get_or}
use Rattle.register.specs.Algorithm4.{State, turn, rounds}
use Rattle.register.specs.Sequences.{longest, ordered}
use Rattle.rounds.specs.Rounds.{Running, Reached, sequences_in}
use Rattle.slices.specs.Synthesis.{Synthesis, size, parts_in}

-- the state after n rounds and h steps of the next one
abbrev pub state_at : (ss : List (List ℕ)) (n h : ℕ) → State
state_at ss n h = turn 257 (longest ss) (ordered ss) (suc n) h (rounds 257 (longest ss) (ordered ss) n)

-- sequences that can be searched in slices: up to eight, none longer than 64, their symbols residues
pub record Sliceable (ss : List (List ℕ)) : Type 0 where
  pub count : length ss ≤ 8
  pub short : longest ss ≤ 64
  pub residues : (h : ℕ) → h < length ss → (i : ℕ) → i < length (get_or ss h []) → get_or (get_or ss h []) i 0 < 257

-- the arrays hold the sequences ss and the state after n rounds and h steps of the next one
pub record Kept (ss : List (List ℕ)) (n h : ℕ) (x : Synthesis) : Type 0 where
  pub sliceable : Sliceable ss
  pub counts : x.counts ≡ longest ss ∷ n ∷ h ∷ (rounds 257 (longest ss) (ordered ss) n).size ∷ size x ∷ []
  pub shorter : (g : ℕ) → g < 8 → get_or x.lengths g 0 ≤ longest ss
  pub running : Running 257 (longest ss) x.lengths (length ss) x.symbols
  pub sequences : sequences_in x.lengths (length ss) x.symbols ≡ ordered ss
  pub reached : Reached 257 (length ss) (state_at ss n h) (parts_in x)
