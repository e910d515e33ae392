-- How many columns a call tells as tried: a locate by the columns that it marks, also one in slices where it ends, and every other call none (SPECIFICATION.md,
-- "Search"). Proved in proofs/Tries.antt.
use Rattle.std.specs.Prelude.{◌≡◌, ◌⊎◌, true, List, ℕ, suc, ◌<◌}
use Rattle.columns.specs.Columns.{has}
use Rattle.columns.specs.declared.Columns.{Columns}
use Rattle.job.specs.Calls.{Call, shape, encode, locate, repair, start, next, peek, columns, unfinished, refused, Outcome, step}
use Rattle.job.specs.Job.{Arrays, Job}
use Rattle.job.specs.Runs.{after_calls, Taken}

-- the columns of J are below t, and t is 0 or one more than one of them
pub record UpToLast (J : Columns) (t : ℕ) : Type 0 where
  pub below : (i : ℕ) → has J i ≡ true → i < t
  pub last : (t ≡ 0) ⊎ ((i : ℕ) × (has J i ≡ true) × (t ≡ suc i))

-- For every list of calls: a locate that is not refused, which marks all columns of its register (`LocateFinds`), tells as tried the columns up to and with
-- the last one marked, none where none is marked.
abbrev pub LocateTries : Type 0
LocateTries =
    (a : Arrays) (calls : List Call) (words f : List ℕ) → Taken (after_calls a calls (locate words f)) →
    UpToLast (after_calls a calls (locate words f)).marks (after_calls a calls (locate words f)).tried

-- what is told where a locate in slices may end: where it does, the same; where it goes on or is refused, none
pub record TriesAtEnd (o : Outcome) : Type 0 where
  pub at-end : (c : ℕ) → o.answer ≡ columns c → UpToLast o.marks o.tried
  pub before-end : o.answer ≡ unfinished → o.tried ≡ 0
  pub at-refusal : (k : ℕ) → o.answer ≡ refused k → o.tried ≡ 0

pub record SlicesTry : Type 0 where
  pub start : (a : Arrays) (calls : List Call) (words f : List ℕ) → TriesAtEnd (after_calls a calls (start words f))
  pub next : (a : Arrays) (calls : List Call) → TriesAtEnd (after_calls a calls next)

-- The other calls search for no columns, whatever the job and what is lent.
pub record OthersTryNone : Type 0 where
  pub shape : (j : Job) (n : ℕ) (checks : List ℕ) (b : ℕ) → (step j (shape n checks b)).tried ≡ 0
  pub encode : (j : Job) (f : List ℕ) → (step j (encode f)).tried ≡ 0
  pub repair : (j : Job) (f : List ℕ) → (step j (repair f)).tried ≡ 0
  pub peek : (j : Job) → (step j peek).tried ≡ 0
