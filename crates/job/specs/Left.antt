-- What calls leave in the job, place by place and not by the definitions that they compute with: the shape given, the check sums of the frame located, the
-- taps of its register, the marks.
use Rattle.std.specs.Prelude.{◌≡◌, true, List, ℕ, suc, ◌+◌, ◌≤◌, ◌<◌, length, get_or}
use Rattle.columns.specs.declared.Columns.{Columns}
use Rattle.frame.specs.DeclaredCells.{declared_by, as_read}
use Rattle.frame.specs.Frame.{row, check_sum, sums_before}
use Rattle.frame.specs.Shape.{checks_of}
use Rattle.frame.specs.declared.Shape.{Shape}
use Rattle.job.specs.Job.{Arrays, Job, no_columns}
use Rattle.job.specs.declared.Phase.TheVariants.{Shaped, Located}

-- The shape has n columns, a row for each of the check counts, in each row the checks given for it, and check sums that begin at the exponent b. The places
-- of the rows that it does not have hold 0.
pub record Given (n : ℕ) (checks : List ℕ) (b : ℕ) (s : Shape) : Type 0 where
  pub rows : s.rows ≡ length checks
  pub columns : s.columns ≡ n
  pub each : (h : ℕ) → h < length checks → checks_of s h ≡ get_or checks h 0
  pub rest : (h : ℕ) → length checks ≤ h → checks_of s h ≡ 0
  pub places : length s.checks ≡ 8
  pub exponent : s.exponent ≡ b

-- the job is shaped, with the shape s; nothing is marked, and the arrays are as before
pub record LeftShaped (s : Shape) (before : Arrays) (j : Job) : Type 0 where
  pub phase : j.head.phase ≡ Shaped
  pub shape : j.head.shape ≡ s
  pub columns : j.head.columns ≡ no_columns
  pub arrays : j.arrays ≡ before

-- the check sum S_j of row h of a frame
abbrev pub sum_of : Shape → (f : List ℕ) (h j : ℕ) → ℕ
sum_of s f h j = check_sum s.exponent s.columns (row s.columns f h) j

-- the check sums of f, row after row, then zeros up to 512 entries
pub record HoldsSums (s : Shape) (f sums : List ℕ) : Type 0 where
  pub places : length sums ≡ 512
  pub each : (h j : ℕ) → h < s.rows → j < checks_of s h → get_or sums (sums_before s h + j) 0 ≡ sum_of s f h (suc j)
  pub rest : (k : ℕ) → sums_before s s.rows ≤ k → get_or sums k 0 ≡ 0

-- the taps σ_0 .. σ_c, then zeros up to 65 entries
pub record HoldsTaps (c : ℕ) (σ taps : List ℕ) : Type 0 where
  pub places : length taps ≡ 65
  pub each : (i : ℕ) → i ≤ c → get_or taps i 0 ≡ get_or σ i 0
  pub rest : (i : ℕ) → c < i → get_or taps i 0 ≡ 0

-- the job is located by the frame f, as read, with the register of length c and taps σ, which is alone, and holds the cells declared and the marks J
pub record LeftLocated (s : Shape) (words f : List ℕ) (c : ℕ) (σ : List ℕ) (J : Columns) (j : Job) : Type 0 where
  pub phase : j.head.phase ≡ Located c true
  pub shape : j.head.shape ≡ s
  pub columns : j.head.columns ≡ J
  pub sums : HoldsSums s (as_read s (declared_by words) f) j.arrays.sums
  pub taps : HoldsTaps c σ j.arrays.taps
  pub declared : j.arrays.declared ≡ words
