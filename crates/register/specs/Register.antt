-- Registers, and the shortest one (SPECIFICATION.md, "Registers"; Problem 2 of Schmidt and Sidorenko). No algorithm is spoken of here.
use Rattle.std.specs.Prelude.{◌≡◌, List, [], ℕ, suc, ◌+◌, ◌-◌, ◌*◌, ◌%◌, ◌≤◌, ◌<◌, length, get_or}
use Rattle.lists.specs.Total.{total}
use Rattle.register.specs.Sequences.{symbol}

-- S_j + σ_1·S_(j−1) + .. + σ_l·S_(j−l) modulo p, where σ_0 = 1
unfoldable pub discrepancy : (p l : ℕ) (σ s : List ℕ) (j : ℕ) → ℕ
discrepancy p l σ s j = total (suc l) (λ i. get_or σ i 0 * symbol s (j - i)) % p

-- a register of length l: taps σ_0 = 1, σ_1 .. σ_l below p, of which the last may be 0
pub record Register (p l : ℕ) (σ : List ℕ) : Type 0 where
  pub taps : length σ ≡ l + 1
  pub first : get_or σ 0 0 ≡ 1
  pub residues : (i : ℕ) → i < length σ → get_or σ i 0 < p

-- it generates the sequence s: there is nothing to satisfy where l is the length of s or more
abbrev pub Generates : (p l : ℕ) (σ s : List ℕ) → Type 0
Generates p l σ s = (j : ℕ) → l < j → j ≤ length s → discrepancy p l σ s j ≡ 0

-- a register of length l that generates all of the sequences
pub record Generator (p l : ℕ) (ss : List (List ℕ)) (σ : List ℕ) : Type 0 where
  pub register : Register p l σ
  pub generates : (h : ℕ) → h < length ss → Generates p l σ (get_or ss h [])

-- no register of smaller length generates them all
abbrev pub Least : (p l : ℕ) (ss : List (List ℕ)) → Type 0
Least p l ss = (m : ℕ) → m < l → (τ : List ℕ) → Generator p m ss τ → ⊥

-- the specification's term: no other taps of this length generate them all
abbrev pub Alone : (p l : ℕ) (ss : List (List ℕ)) (σ : List ℕ) → Type 0
Alone p l ss σ = (τ : List ℕ) → Generator p l ss τ → τ ≡ σ

pub record Shortest (p l : ℕ) (ss : List (List ℕ)) (σ : List ℕ) : Type 0 where
  pub generator : Generator p l ss σ
  pub least : Least p l ss
