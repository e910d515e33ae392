-- What is kept through a list of calls and turns is what eight jobs are after it. Proved in proofs/Runs.antt.
use Rattle.std.specs.Prelude.{◌≡◌, List, [], ◌∷◌, ℕ, ◌<◌, length, replicate}
use Rattle.eight_jobs.specs.Eight.{jobs, emptied}
use Rattle.turns.specs.Dispatcher.{Jobs, Event, reply, run_from}
use Rattle.kept.specs.Kept.{Heads, heads, Searches, Kept, kept, arrays_at, job_at, kept_after, jobs_of}

-- each array has eight entries, as its type says
pub record EightHeads (hs : Heads) : Type 0 where
  pub states : length hs.states ≡ 8
  pub extents : length hs.extents ≡ 8
  pub checks : length hs.checks ≡ 8
  pub marks : length hs.marks ≡ 8

pub record EightSearches (x : Searches) : Type 0 where
  pub counts : length x.counts ≡ 8
  pub lengths : length x.lengths ≡ 8
  pub symbols : length x.symbols ≡ 8
  pub places : length x.places ≡ 8
  pub sizes : length x.sizes ≡ 8
  pub discs : length x.discs ≡ 8
  pub quotients : length x.quotients ≡ 8
  pub taps : length x.taps ≡ 8
  pub saved : length x.saved ≡ 8

pub record EightKept (p : Kept) : Type 0 where
  pub heads : EightHeads p.heads
  pub sums : length p.sums ≡ 8
  pub taps : length p.taps ≡ 8
  pub declared : length p.declared ≡ 8
  pub searches : EightSearches p.searches

-- the jobs that are kept are those of d
pub record Keeps (p : Kept) (d : Jobs jobs) : Type 0 where
  pub each : (k : ℕ) → k < 8 → job_at p k ≡ d.at k
  pub last : p.last ≡ d.last

unfoldable pub kept_run : Kept → List (Event jobs) → Kept
kept_run p [] = p
kept_run p (e ∷ es) = kept_run (kept_after p e) es

-- From any eight jobs and through any list of events: what is kept are the jobs after the list, and one more event is answered as by these.
pub record KeptRuns (p : Kept) (d : Jobs jobs) (es : List (Event jobs)) : Type 0 where
  pub keeps : Keeps (kept_run p es) (run_from jobs d es)
  pub answers : (e : Event jobs) → reply jobs (jobs_of (kept_run p es)) e ≡ reply jobs (run_from jobs d es) e

abbrev pub Faithful : Type 0
Faithful = (p : Kept) (d : Jobs jobs) (es : List (Event jobs)) → EightKept p → Keeps p d → KeptRuns p d es

-- ---- the first jobs

-- zeros
abbrev pub empty_heads : Heads
empty_heads = heads (replicate 8 (replicate 3 0)) (replicate 8 (replicate 3 0)) (replicate 8 (replicate 8 0)) (replicate 8 (replicate 4 0))

-- Heads of zeros are those of eight empty jobs, whatever stands in the other arrays. Proved in proofs/FirstJobs.antt.
abbrev pub StartsEmpty : Type 0
StartsEmpty =
    (sums taps declared : List (List ℕ)) (x : Searches) →
    let p : Kept = kept empty_heads sums taps declared x 7 in
    Keeps p (emptied (arrays_at p))
