-- How the code runs the rounds of Algorithm 4: what holds all through, and what has been reached.
use Rattle.std.specs.Prelude.{◌≡◌, List, ℕ, ◌+◌, ◌*◌, ◌≤◌, ◌<◌, get_or}
use Rattle.lists.specs.Tabulate.{tabulate}
use Rattle.register.specs.Algorithm4.{State}
use Rattle.discrepancy.specs.Discrepancies.{sequence_in}
use Rattle.register_step.specs.Parts.{Parts, state_of, Ended}

-- the sequences that stand backwards in the first k blocks
abbrev pub sequences_in : (lengths : List ℕ) (k : ℕ) (blocks : List ℕ) → List (List ℕ)
sequences_in lengths k blocks = tabulate k (λ h. sequence_in blocks h (get_or lengths h 0))

-- the k sequences in the blocks are no longer than N, and their symbols are residues
pub record Running (p N : ℕ) (lengths : List ℕ) (k : ℕ) (blocks : List ℕ) : Type 0 where
  pub two_or_more : 2 ≤ p
  pub longest : N ≤ 128
  pub count : k ≤ 8
  pub shorter : (h : ℕ) → h < k → get_or lengths h 0 ≤ N
  pub residues : (h : ℕ) → h < k → (i : ℕ) → i < get_or lengths h 0 → get_or blocks (h * 144 + i) 0 < p

-- the states are the same as far as the first k sequences go: the arrays have no place for others
pub record Agree (k : ℕ) (st su : State) : Type 0 where
  pub size : st.size ≡ su.size
  pub taps : st.taps ≡ su.taps
  pub saved : (h : ℕ) → h < k → st.saved h ≡ su.saved h

-- the arrays hold the state st of Algorithm 4 on k sequences
pub record Reached (p k : ℕ) (st : State) (x : Parts) : Type 0 where
  pub state : Agree k (state_of x) st
  pub ended : Ended p x
