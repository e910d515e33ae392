-- What the second locator answers and leaves. The field is that of 257.
use Rattle.std.specs.Prelude.{Option, None, Some, ◌≡◌, ℕ, ◌+◌, ◌*◌, ◌^◌, ◌<◌, ◌≤◌, Bool, false, ◌⊎◌, ◌↔◌, List, length, ◌≢◌, slice_index}
use Rattle.plain.specs.Plain.{Each, Tells, capped, rem, sum}
use Rattle.elimination.specs.Equations.{Echelon, LeadsRow, Numbers, Room, SolvesRows}
use Rattle.brute.specs.Registers.{Produces, Residues, Shortest}

-- the polynomial of the n taps t is 0 at the inverse of 3^i, which is the power 255 of it
abbrev pub RootAt : (n : ℕ) (t : ℕ → ℕ) (i : ℕ) → Type 0
RootAt n t i = rem (sum n (λ k. t k * (3 ^ i) ^ (255 * k))) 257 ≡ 0

-- a table in echelon form of which every row leads, so that it has one solution
pub record Determined (n : ℕ) (table : List ℕ) : Type 0 where
  pub some : 1 ≤ n
  pub room : Room n table
  pub echelon : Echelon 257 n table
  pub leads : Each 1 n (λ k. LeadsRow table k)

-- the flag tells whether the numbers that solve the rows are 0 at the inverse of 3^i; the rows are kept
pub record Named (n i : ℕ) (old new : List ℕ) (b : Bool) : Type 0 where
  pub size : length new ≡ length old
  pub kept : Determined n old → (m : ℕ) → n ≤ m → slice_index new m ≡ slice_index old m
  pub told : Determined n old → (t : ℕ → ℕ) → Numbers 257 t → SolvesRows 257 n old t → Tells b (RootAt n t i)

-- the first places hold marks, 0 or 1, and the others are kept
pub record Marked (old new : List ℕ) (columns : ℕ) : Type 0 where
  pub size : length new ≡ length old
  pub marks : (k : ℕ) → k < columns → k < length old → (slice_index new k ≡ 0) ⊎ (slice_index new k ≡ 1)
  pub after : (k : ℕ) → columns ≤ k → slice_index new k ≡ slice_index old k

-- column i is marked exactly where the numbers that solve the rows are 0 at the inverse of 3^i
pub record MarkedRoots (n : ℕ) (table : List ℕ) (old new : List ℕ) (columns : ℕ) : Type 0 where
  pub marked : Marked old new columns
  pub roots : Determined n table → (t : ℕ → ℕ) → Numbers 257 t → SolvesRows 257 n table t →
      (i : ℕ) → i < columns → i < length old → (slice_index new i ≡ 1) ↔ RootAt n t i

-- the number of a refusal, and 0 where there is none
abbrev pub number_in : Option ℕ → ℕ
number_in None = 0
number_in (Some n) = n

-- What the numbers of the second locator say. 24: the shortest register, of length `size`, is not the only one. 25: it is, and some row has
-- fewer checks than it is long. Otherwise no row has; the columns at whose inverse locators it is 0 are marked, and the answer is 0 where as
-- many are marked as it is long, else 26. By 24 and 25 no mark is written.
pub record Located (columns : ℕ) (checks sums old new : List ℕ) (number size : ℕ) : Type 0 where
  pub numbers : (number ≡ 0) ⊎ ((number ≡ 24) ⊎ ((number ≡ 25) ⊎ (number ≡ 26)))
  pub alone : Bool
  pub shortest : Residues 257 sums → Shortest 257 checks sums size alone
  pub several : (number ≡ 24) ↔ (alone ≡ false)
  pub short : number ≡ 25 → (h : ℕ) × (h < length checks) × (slice_index checks h < size)
  pub enough : (number ≡ 0) ⊎ (number ≡ 26) → (h : ℕ) → h < length checks → size ≤ slice_index checks h
  pub unmarked : (number ≡ 24) ⊎ (number ≡ 25) → new ≡ old
  pub marked : (number ≡ 0) ⊎ (number ≡ 26) → Marked old new columns
  pub roots : Residues 257 sums → (number ≡ 0) ⊎ (number ≡ 26) → (taps : List ℕ) → Produces 257 size checks sums taps →
      (i : ℕ) → i < columns → i < length old → (slice_index new i ≡ 1) ↔ RootAt (size + 1) (λ k. slice_index taps k) i
  pub found : number ≡ 0 → capped (sum (length new) (λ i. slice_index new i)) ≡ size
  pub missed : number ≡ 26 → capped (sum (length new) (λ i. slice_index new i)) ≢ size
