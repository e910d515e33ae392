-- The search for the columns that a register names (SPECIFICATION.md, "Search"). It goes up from column 0 and ends as soon as it has found as many as the
-- register is long: how many columns it tries, and which it finds. What is owed of it is proved in proofs/{Tried,Sought}.antt.
use Rattle.std.specs.Prelude.{◌≡◌, ◌↔◌, Bool, true, cond, ◌&&◌, List, ℕ, zero, suc, ◌-◌, ◌*◌, ◌%◌, ◌^◌, ◌≤◌, ◌<◌, min, ltb, length, get_or}
use Rattle.columns.specs.Columns.{columns_of}
use Rattle.columns.specs.Listed.{count, listed}
use Rattle.columns.specs.declared.Columns.{Columns}
use Rattle.frame.specs.declared.Shape.{Shape}
use Rattle.lists.specs.Total.{total}
use Rattle.decoding.specs.Locating.{is_root, named_columns}

-- How many of n columns are tried for c that pass P: none where c is 0, else up to and with the c-th that passes, and all n where fewer pass.
unfoldable pub tried : (n : ℕ) (P : ℕ → Bool) (c : ℕ) → ℕ
tried n P zero = 0
tried n P (suc k) = cond (ltb k (count n P)) (suc (get_or (listed n P) k 0)) n

-- the same for the columns that the taps σ of a register name; its length is one less than the number of taps, and 0 where there are none
unfoldable pub tried_for : (n : ℕ) (σ : List ℕ) → ℕ
tried_for n σ = tried n (is_root σ) (length σ - 1)

-- the columns that are found: those tried that are roots
unfoldable pub sought_columns : (n : ℕ) (σ : List ℕ) → Columns
sought_columns n σ = columns_of (λ i. ltb i (tried_for n σ) && is_root σ i)

-- The number that is tried is the least i for which c of the columns below i pass, or i is n: no more are tried than there are; where c are found among the
-- columns below i none from i on is tried; and where they are not, column i is.
pub record TriedLeast : Type 0 where
  pub most : (n : ℕ) (P : ℕ → Bool) (c : ℕ) → tried n P c ≤ n
  pub ends : (n : ℕ) (P : ℕ → Bool) (c i : ℕ) → c ≤ count i P → tried n P c ≤ i
  pub goes_on : (n : ℕ) (P : ℕ → Bool) (c i : ℕ) → i < n → count i P < c → i < tried n P c

-- A root in the words of the specification: y is the inverse of 3^i.
abbrev pub RootsAre : Type 0
RootsAre =
    (σ : List ℕ) (i y : ℕ) → y < 257 → (3 ^ i * y) % 257 ≡ 1 →
    (is_root σ i ≡ true) ↔ (total (length σ) (λ k. get_or σ k 0 * y ^ k) % 257 ≡ 0)

-- Taps that are not all 0 modulo 257, as a register's never are, its first tap being 1, have at most as many roots among the columns as the register is long.
abbrev pub FewRoots : Type 0
FewRoots =
    (n : ℕ) (σ : List ℕ) → n ≤ 256 → (k : ℕ) → (get_or σ k 0 % 257 ≡ 0 → ⊥) → count n (is_root σ) ≤ length σ - 1

-- So no column is lost: what is found is every column that they name.
abbrev pub NoneLost : Type 0
NoneLost =
    (s : Shape) (σ : List ℕ) → s.columns ≤ 256 → (k : ℕ) → (get_or σ k 0 % 257 ≡ 0 → ⊥) →
    sought_columns s.columns σ ≡ named_columns s σ

-- Taps that are all 0 modulo 257 have a root at every column, and the first columns are found, as many as the register is long.
pub record ZeroTaps (n : ℕ) (σ : List ℕ) : Type 0 where
  pub roots : (i : ℕ) → is_root σ i ≡ true
  pub tried : tried_for n σ ≡ min n (length σ - 1)

abbrev pub FirstFound : Type 0
FirstFound = (n : ℕ) (σ : List ℕ) → ((k : ℕ) → get_or σ k 0 % 257 ≡ 0) → ZeroTaps n σ
