-- Registers that generate sequences, and equations on their taps.
use Rattle.std.specs.Prelude.{◌≡◌, ℕ, ◌+◌, ◌<◌, ◌≤◌, Bool, true, false, ◌↔◌, List, length, ◌≢◌, slice_index, slice_index_or}
use Rattle.plain.specs.Plain.{Each, before, discrepancy, sequence}
use Rattle.elimination.specs.Equations.{Echelon, LeadsRow, Numbers, Room, Solves, SolvesRows}
use Rattle.elimination.specs.Prime.{Prime}

-- a register of length l has l + 1 taps, residues modulo p, of which the first is 1
pub record Register (p l : ℕ) (taps : List ℕ) : Type 0 where
  pub size : length taps ≡ l + 1
  pub first : slice_index_or taps 0 0 ≡ 1
  pub below : Each 0 (l + 1) (λ k. slice_index taps k < p)

-- the taps make the discrepancy 0 at each symbol that has l symbols before it
abbrev pub GeneratesOne : (p l : ℕ) (s taps : List ℕ) → Type 0
GeneratesOne p l s taps = Each l (length s) (λ j. discrepancy p s taps (l + 1) j ≡ 0)

-- so of each sequence
abbrev pub Generates : (p l : ℕ) (lengths symbols taps : List ℕ) → Type 0
Generates p l lengths symbols taps = Each 0 (length lengths) (λ h. GeneratesOne p l (sequence lengths symbols h) taps)

-- the taps of a register of length l that generates the sequences
pub record Produces (p l : ℕ) (lengths symbols taps : List ℕ) : Type 0 where
  pub register : Register p l taps
  pub generates : Generates p l lengths symbols taps

-- No register below length l generates the sequences. One of length l does, and the mark says whether it is alone; or l is 129.
pub record Shortest (p : ℕ) (lengths symbols : List ℕ) (l : ℕ) (alone : Bool) : Type 0 where
  pub bound : l ≤ 129
  pub found : l ≤ 128 → (taps : List ℕ) × Produces p l lengths symbols taps
  pub least : (m : ℕ) → m < l → (taps : List ℕ) → Produces p m lengths symbols taps → ⊥
  pub only : alone ≡ true → (l ≤ 128) × ((a b : List ℕ) → Produces p l lengths symbols a → Produces p l lengths symbols b → a ≡ b)
  pub several : alone ≡ false → l ≤ 128 → (a b : List ℕ) × Produces p l lengths symbols a × Produces p l lengths symbols b × (a ≢ b)

-- every value is a residue modulo p
abbrev pub Residues : (p : ℕ) (s : List ℕ) → Type 0
Residues p s = Each 0 (length s) (λ i. slice_index s i < p)

-- t solves the equation of each symbol that has l symbols before it
abbrev pub MeetsOne : (p l : ℕ) (s : List ℕ) (t : ℕ → ℕ) → Type 0
MeetsOne p l s t = Each l (length s) (λ j. Solves p (l + 1) (before s j) t)

-- so of each sequence
abbrev pub Meets : (p l : ℕ) (lengths symbols : List ℕ) (t : ℕ → ℕ) → Type 0
Meets p l lengths symbols t = Each 0 (length lengths) (λ h. MeetsOne p l (sequence lengths symbols h) t)

-- The flag tells whether the conditions on the numbers t can be gathered in the table, in echelon form: then its rows are solved by just
-- those t, and otherwise there are none.
pub record Gathered (p n : ℕ) (conditions : (ℕ → ℕ) → Type 0) (table : List ℕ) (b : Bool) : Type 0 where
  pub echelon : b ≡ true → Echelon p n table
  pub solved : b ≡ true → (t : ℕ → ℕ) → Numbers p t → SolvesRows p n table t ↔ conditions t
  pub none : b ≡ false → (t : ℕ → ℕ) → Numbers p t → conditions t → ⊥

-- the conditions of a sequence are added to those of a table
pub record SequenceAdded (p l : ℕ) (s old new : List ℕ) (b : Bool) : Type 0 where
  pub size : length new ≡ length old
  pub gathered : Prime p → Room (l + 1) old → Echelon p (l + 1) old → Residues p s →
      Gathered p (l + 1) (λ t. SolvesRows p (l + 1) old t × MeetsOne p l s t) new b

-- what is supposed: symbols modulo a prime, and a table of all places
pub record Given (p : ℕ) (symbols table : List ℕ) : Type 0 where
  pub prime : Prime p
  pub residues : Residues p symbols
  pub places : length table ≡ 16641

-- the conditions of all sequences
pub record Solvable (p l : ℕ) (lengths symbols old new : List ℕ) (b : Bool) : Type 0 where
  pub size : length new ≡ length old
  pub gathered : Given p symbols old → l ≤ 128 → Gathered p (l + 1) (Meets p l lengths symbols) new b

-- the shortest register; its conditions are left in the table that was lent, and where it is alone every row leads
pub record Searched (p : ℕ) (lengths symbols old new : List ℕ) (l : ℕ) (alone : Bool) : Type 0 where
  pub size : length new ≡ length old
  pub bound : l ≤ 129
  pub shortest : Given p symbols old → Shortest p lengths symbols l alone
  pub conditions : Given p symbols old → l ≤ 128 → Gathered p (l + 1) (Meets p l lengths symbols) new true
  pub leads : alone ≡ true → Each 1 (l + 1) (λ k. LeadsRow new k)
