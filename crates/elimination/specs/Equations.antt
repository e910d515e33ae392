-- A table of equations: value j of row k at place 129·k + j. Value 0 is the constant, value k the coefficient of unknown k; row 0 is the
-- equation that is being added.
use Rattle.std.specs.Prelude.{◌≡◌, cond, ◌&&◌, List, ◌↔◌, ℕ, ◌+◌, ◌*◌, ◌<◌, ◌≤◌, ltb, length, get_or, set}
use Rattle.plain.specs.Plain.{Each, rem, sum}
use Rattle.elimination.specs.Prime.{Prime}
use Rattle.elimination.specs.declared.Added.{Added}
use Rattle.elimination.specs.declared.Added.TheVariants.{Follows, Leads, Contradicts}

-- the place of value j of row k; where there is none, the first place past the table
abbrev pub place_of : (k j : ℕ) → ℕ
place_of k j = cond (ltb k 129 && ltb j 129) (k * 129 + j) 16641

-- value j of row k
abbrev pub value_at : List ℕ → (k j : ℕ) → ℕ
value_at table k j = get_or table (place_of k j) 0

-- a table of all places, and rows of at most 129 values
pub record Room (n : ℕ) (table : List ℕ) : Type 0 where
  pub most : n ≤ 129
  pub places : length table ≡ 16641

-- no row below n leads with its unknown; every other value is kept
pub record Cleared (old new : List ℕ) (n : ℕ) : Type 0 where
  pub size : length new ≡ length old
  pub leads : (k : ℕ) → 1 ≤ k → k < n → value_at new k k ≡ 0
  pub kept : (m : ℕ) → ((k : ℕ) → 1 ≤ k → k < n → m ≡ place_of k k → ⊥) → get_or new m 0 ≡ get_or old m 0

-- value j of the equation becomes the residue v: itself times the value with which row k leads, less value j of row k times x
pub record CrossedAt (p : ℕ) (old new : List ℕ) (k j x : ℕ) : Type 0 where
  pub v : ℕ
  pub wrote : new ≡ set old j v
  pub crossed : rem (v + value_at old k j * x) p ≡ rem (get_or old j 0 * value_at old k k) p
  pub residue : v ≡ rem v p

-- so do the first n values of the equation, with its value k for x, where that is not 0; all others are kept
pub record Cancelled (p : ℕ) (old new : List ℕ) (k n : ℕ) : Type 0 where
  pub size : length new ≡ length old
  pub none : get_or old k 0 ≡ 0 → new ≡ old
  pub crossed : Room n old → 1 ≤ k → (get_or old k 0 ≡ 0 → ⊥) →
      Each 0 n (λ j. rem (get_or new j 0 + value_at old k j * get_or old k 0) p ≡ rem (get_or old j 0 * value_at old k k) p)
  pub residues : Room n old → 1 ≤ k → (get_or old k 0 ≡ 0 → ⊥) → Each 0 n (λ j. get_or new j 0 ≡ rem (get_or new j 0) p)
  pub kept : (m : ℕ) → n ≤ m → get_or new m 0 ≡ get_or old m 0

-- the first n values of row k become those of the equation; all others are kept
pub record Stored (old new : List ℕ) (k n : ℕ) : Type 0 where
  pub size : length new ≡ length old
  pub row : Room n old → 1 ≤ k → k < 129 → Each 0 n (λ j. value_at new k j ≡ get_or old j 0)
  pub kept : (m : ℕ) → Each 0 n (λ j. m ≡ place_of k j → ⊥) → get_or new m 0 ≡ get_or old m 0

-- numbers for the unknowns, t k for unknown k, and 1 for the constant
pub record Numbers (p : ℕ) (t : ℕ → ℕ) : Type 0 where
  pub one : t 0 ≡ 1
  pub below : (k : ℕ) → t k < p

-- t solves an equation of n values, e: the constant, and the coefficients times the numbers, add up to 0 modulo p
abbrev pub Solves : (p n : ℕ) (e t : ℕ → ℕ) → Type 0
Solves p n e t = rem (sum n (λ j. e j * t j)) p ≡ 0

-- row k leads with its unknown
abbrev pub LeadsRow : (table : List ℕ) (k : ℕ) → Type 0
LeadsRow table k = value_at table k k ≡ 0 → ⊥

-- a row that leads with its unknown has no unknown before it; its values are residues
pub record Echelon (p n : ℕ) (table : List ℕ) : Type 0 where
  pub leads : (k j : ℕ) → 1 ≤ j → j < k → k < n → LeadsRow table k → value_at table k j ≡ 0
  pub below : (k j : ℕ) → 1 ≤ k → k < n → j < n → LeadsRow table k → value_at table k j < p

-- t solves every row that leads with its unknown
abbrev pub SolvesRows : (p n : ℕ) (table : List ℕ) (t : ℕ → ℕ) → Type 0
SolvesRows p n table t = Each 1 n (λ k. LeadsRow table k → Solves p n (value_at table k) t)

-- t solves the equation that is being added
abbrev pub SolvesAdded : (p n : ℕ) (table : List ℕ) (t : ℕ → ℕ) → Type 0
SolvesAdded p n table t = Solves p n (λ j. get_or table j 0) t

-- an equation of residues is put to a table in echelon form, modulo a prime
pub record Posed (p n : ℕ) (table : List ℕ) : Type 0 where
  pub prime : Prime p
  pub some : 1 ≤ n
  pub room : Room n table
  pub echelon : Echelon p n table
  pub residues : Each 0 n (λ j. get_or table j 0 < p)

-- What is answered of the equation. It follows from the rows where whatever solves them solves it, and contradicts them where nothing solves
-- both; otherwise it becomes the row of an unknown that led none. The rows that are left are solved by just what solved the rows and it.
pub record Settled (p n : ℕ) (answer : Added) (old new : List ℕ) : Type 0 where
  pub echelon : Echelon p n new
  pub follows : answer ≡ Follows → (t : ℕ → ℕ) → Numbers p t → SolvesRows p n old t → SolvesAdded p n old t
  pub contradicts : answer ≡ Contradicts → (t : ℕ → ℕ) → Numbers p t → SolvesRows p n old t → SolvesAdded p n old t → ⊥
  pub leads : answer ≡ Leads → (k : ℕ) × (1 ≤ k) × (k < n) × (value_at old k k ≡ 0) × LeadsRow new k
  pub solved : (answer ≡ Contradicts → ⊥) → (t : ℕ → ℕ) → Numbers p t → SolvesRows p n new t ↔ (SolvesRows p n old t × SolvesAdded p n old t)
  pub kept : (answer ≡ Leads → ⊥) → (m : ℕ) → n ≤ m → get_or new m 0 ≡ get_or old m 0

-- the same where an equation is put so; the number of places is kept in any case
pub record Decided (p n : ℕ) (answer : Added) (old new : List ℕ) : Type 0 where
  pub size : length new ≡ length old
  pub settled : Posed p n old → Settled p n answer old new
