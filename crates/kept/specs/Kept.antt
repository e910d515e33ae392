-- Eight jobs as they are kept: each part of a job in an array of eight, at place k that of job k, so that they can be lent and written in place.
use Rattle.std.specs.Prelude.{cond, List, [], ◌∷◌, ℕ, ltb, get_or, set}
use Rattle.std.specs.Prelude as Code
use Rattle.std.proofs.Math.Option.{Option, none, some}
use Rattle.eight_jobs.specs.Eight.{jobs}
use Rattle.job.specs.Calls.{Call, shape, encode, locate, repair, start, next, peek, step}
use Rattle.job.specs.Job.{Arrays, Job, beside}
use Rattle.job.specs.declared.Head.{Head}
use Rattle.mirror.specs.Mirror.{head_of, mirror_of}
use Rattle.mirror.specs.declared.CHead.{CHead}
use Rattle.slices.specs.Synthesis.{Synthesis, synthesis}
use Rattle.turns.specs.Dispatcher.{Jobs, Event, on, turn, served}

-- The heads, in the numbers that they have for C. Of each job its phase, alone mark and exponent; its rows, columns and register length; its check counts; its
-- marks.
pub record Heads : Type 0 where
  pub states : List (List ℕ)
  pub extents : List (List ℕ)
  pub checks : List (List ℕ)
  pub marks : List (List ℕ)

abbrev pub heads : (states extents checks marks : List (List ℕ)) → Heads
heads states extents checks marks = record { states = states; extents = extents; checks = checks; marks = marks }

abbrev pub numbers_at : Heads → (k : ℕ) → CHead
numbers_at hs k =
    let state : List ℕ = get_or hs.states k [] in
    let extent : List ℕ = get_or hs.extents k [] in
    record {
      phase = get_or state 0 0;
      alone = get_or state 1 0;
      length = get_or extent 2 0;
      rows = get_or extent 0 0;
      columns = get_or extent 1 0;
      marks = get_or hs.marks k [];
      checks = get_or hs.checks k [];
      exponent = get_or state 2 0;
    }

-- the head of job k, whatever its numbers are
abbrev pub head_at : Heads → (k : ℕ) → Head
head_at hs k = head_of (numbers_at hs k)

-- the heads with other numbers of job k
abbrev pub with_numbers : Heads → (k : ℕ) → CHead → Heads
with_numbers hs k m =
    heads (set hs.states k (m.phase ∷ m.alone ∷ m.exponent ∷ [])) (set hs.extents k (m.rows ∷ m.columns ∷ m.length ∷ []))
    (set hs.checks k m.checks) (set hs.marks k m.marks)

abbrev pub with_head : Heads → (k : ℕ) → Head → Heads
with_head hs k h = with_numbers hs k (mirror_of h)

-- what is kept of the searches in slices
pub record Searches : Type 0 where
  pub counts : List (List ℕ)
  pub lengths : List (List ℕ)
  pub symbols : List (List ℕ)
  pub places : List (List ℕ)
  pub sizes : List (List ℕ)
  pub discs : List (List ℕ)
  pub quotients : List (List ℕ)
  pub taps : List (List ℕ)
  pub saved : List (List ℕ)

abbrev pub searches : (counts lengths symbols places sizes discs quotients taps saved : List (List ℕ)) → Searches
searches counts lengths symbols places sizes discs quotients taps saved =
    record {
      counts = counts;
      lengths = lengths;
      symbols = symbols;
      places = places;
      sizes = sizes;
      discs = discs;
      quotients = quotients;
      taps = taps;
      saved = saved;
    }

abbrev pub search_at : Searches → (k : ℕ) → Synthesis
search_at x k =
    synthesis (get_or x.counts k []) (get_or x.lengths k []) (get_or x.symbols k []) (get_or x.places k []) (get_or x.sizes k [])
    (get_or x.discs k []) (get_or x.quotients k []) (get_or x.taps k []) (get_or x.saved k [])

abbrev pub with_search : Searches → (k : ℕ) → Synthesis → Searches
with_search x k y =
    searches (set x.counts k y.counts) (set x.lengths k y.lengths) (set x.symbols k y.symbols) (set x.places k y.places)
    (set x.sizes k y.sizes) (set x.discs k y.discs) (set x.quotients k y.quotients) (set x.taps k y.taps)
    (set x.saved k y.saved)

-- all of the eight jobs, and the number of the one served last
pub record Kept : Type 0 where
  pub heads : Heads
  pub sums : List (List ℕ)
  pub taps : List (List ℕ)
  pub declared : List (List ℕ)
  pub searches : Searches
  pub last : ℕ

abbrev pub kept : Heads → (sums taps declared : List (List ℕ)) → Searches → (last : ℕ) → Kept
kept hs sums taps declared x last =
    record { heads = hs; sums = sums; taps = taps; declared = declared; searches = x; last = last }

abbrev pub arrays_at : Kept → (k : ℕ) → Arrays
arrays_at p k =
    record {
      sums = get_or p.sums k [];
      taps = get_or p.taps k [];
      declared = get_or p.declared k [];
      synthesis = search_at p.searches k;
    }

abbrev pub job_at : Kept → (k : ℕ) → Job
job_at p k = beside (head_at p.heads k) (arrays_at p k)

-- what is kept with the job j in the place of job k
abbrev pub with_job : Kept → (k : ℕ) → Job → Kept
with_job p k j =
    let a : Arrays = j.arrays in
    kept (with_head p.heads k j.head) (set p.sums k a.sums) (set p.taps k a.taps) (set p.declared k a.declared)
    (with_search p.searches k a.synthesis) p.last

abbrev pub with_last : Kept → (last : ℕ) → Kept
with_last p last = kept p.heads p.sums p.taps p.declared p.searches last

-- the jobs that are kept
abbrev pub jobs_of : Kept → Jobs jobs
jobs_of p = record { at = job_at p; last = p.last }

-- ---- what is kept after a call or a turn

-- after a call on job k, one of the eight: encode and peek change no job
abbrev pub made_of : Kept → (k : ℕ) → Call → Kept
made_of p k (shape n checks b) = with_job p k (step (job_at p k) (shape n checks b)).job
made_of p k (encode f) = p
made_of p k (locate words f) = with_job p k (step (job_at p k) (locate words f)).job
made_of p k (repair f) = with_job p k (step (job_at p k) (repair f)).job
made_of p k (start words f) = with_job p k (step (job_at p k) (start words f)).job
made_of p k next = with_job p k (step (job_at p k) next).job
made_of p k peek = p

abbrev pub served_of : Kept → Option ℕ → Kept
served_of p none = p
served_of p (some k) = with_last (made_of p k next) k

unfoldable pub kept_after : Kept → Event jobs → Kept
kept_after p (on k c) = cond (ltb k 8) (made_of p k c) p
kept_after p turn = served_of p (served jobs (jobs_of p))

-- the number of a job, or that there is none, as the code answers it
abbrev pub found_of : Code.Option ℕ → Option ℕ
found_of Code.None = none
found_of (Code.Some k) = some k
