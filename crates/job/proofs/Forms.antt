-- The forms of a job that calls leave: empty, shaped, unfinished, or located with declared cells by a well-formed frame whose register is alone, reached by
-- what is left of every row, and names columns at which the rows can be completed. Every call keeps to them.
use mathlib.Core.Path.{◌≡◌, refl, sym, ap, subst, subst⁻¹, ◌∙◌}
use mathlib.Core.Bool.{Bool, true, false, cond, and-eq-true_iff, false≢true}
use mathlib.Core.List.{List, [], ◌∷◌, ◌++◌}
use Prim.Native.Nat.{ℕ}
use Rattle.columns.specs.declared.Columns.{Columns}
use Rattle.decoding.specs.Locating.{size_of, taps_of, alone_of, names_all, named_columns}
use Rattle.decoding.specs.Remaining.{all_remaining, sums_read, read_sequences, left_reach, completable}
use Rattle.frame.specs.DeclaredCells.{Declared, declared_by, as_read, WellFormedRead}
use Rattle.frame.specs.Frame.{held_sums, held_sequences}
use Rattle.frame.specs.Shape.{is_shape, shape_of}
use Rattle.frame.specs.declared.Shape.{Shape}
use Rattle.frame.proofs.Declarable.{read-passes}
use Rattle.frame.proofs.HeldSums.{held-sequences}
use Rattle.frame.proofs.Reasons.{shape-passes}
use Rattle.refusal.proofs.Orders.{Among, Pass, no_fail}
use Rattle.slices.specs.Synthesis.{size, ended}
use Rattle.job.specs.Calls.{Call, shape, encode, locate, repair, start, next, peek, Outcome, describe, step, unseen, register_tests, located_by, locates}
use Rattle.job.specs.Calls.{by_register_gives, not_unfinished_test, held_taps, arrives_tests, arrives, started, stepped}
use Rattle.job.specs.Calls as calls
use Rattle.job.specs.Job.{Arrays, Job, empty_job, shaped_job, unfinished_job, no_columns}
use Rattle.job.specs.Runs.{run, run_from}
use Rattle.job.proofs.Cases.{by_call}
use Rattle.job.proofs.Emptiness.{has-shape}
use Rattle.job.proofs.Seen.{seen-passes}
use Rattle.job.proofs.Going.{Going, Arrived, on, over, start-arrives, step-arrives}

-- a frame that a locate by check sums takes, D being its declared cells
pub record Locates (s : Shape) (D : Declared) (f : List ℕ) : Type 0 where
  pub well_formed : WellFormedRead s D f
  pub alone : alone_of (read_sequences s D f) ≡ true
  pub reach : left_reach s D (size_of (read_sequences s D f)) ≡ true
  pub names : names_all s (taps_of (read_sequences s D f)) (size_of (read_sequences s D f)) ≡ true
  pub fits : completable s D (named_columns s (taps_of (read_sequences s D f))) (sums_read s D f) ≡ true

-- the job that the frame leaves located with the cells that the words declare, and what it gives
abbrev pub located_frame : Shape → Arrays → (words f : List ℕ) → Job
located_frame s a words f =
    located_by s a words (read_sequences s (declared_by words) f) (held_sums s (as_read s (declared_by words) f))

abbrev pub locates_frame : Shape → Arrays → (words f : List ℕ) → Outcome
locates_frame s a words f =
    locates s a words (read_sequences s (declared_by words) f) (held_sums s (as_read s (declared_by words) f)) f

pub data Form : Job → Type 0 where
  empty : (a : Arrays) → Form (empty_job a)
  shaped : (s : Shape) (a : Arrays) → is_shape s ≡ true → Form (shaped_job s a)
  unfinished : (s : Shape) (a : Arrays) (f : List ℕ) (n h : ℕ) → is_shape s ≡ true → Going s a f n h → Form (unfinished_job s a)
  located : (s : Shape) (a : Arrays) (words f : List ℕ) → is_shape s ≡ true → Locates s (declared_by words) f
      → Form (located_frame s a words f)

module _ (s : Shape) (D : Declared) (f : List ℕ) where
  of_sequences : WellFormedRead s D f → Pass (register_tests s D (sums_read s D f) unseen) → Locates s D f
  unfolding register_tests
  of_sequences w (a, (r, (n, u))) =
      let ss : List (List ℕ) = read_sequences s D f in
      let (names, fits) =
      (and-eq-true_iff (names_all s (taps_of ss) (size_of ss)) (completable s D (named_columns s (taps_of ss)) (sums_read s D f))).0 (no_fail _ n) in
      record { well_formed = w; alone = no_fail _ a; reach = no_fail _ r; names = names; fits = fits }

  module _ (one : Columns → Bool) (p : Pass (register_tests s D (held_sequences s (held_sums s (as_read s D f))) one)) where
    passes : Pass (register_tests s D (sums_read s D f) unseen) × (one (named_columns s (taps_of (read_sequences s D f))) ≡ false)
    passes = seen-passes s D (sums_read s D f) one (subst (λ S. Pass (register_tests s D S one)) (held-sequences s (as_read s D f)) p)

    pub register-passes : WellFormedRead s D f → Locates s D f
    register-passes w = of_sequences w passes.0

    -- where the cells are seen, the frame that would be mended to is not uniform
    pub register_mixed : one (named_columns s (taps_of (read_sequences s D f))) ≡ false
    register_mixed = passes.1

-- ---- a locate in slices

-- what is given where rounds are left
abbrev pub goes_on : Shape → Arrays → (g : List ℕ) → Outcome
goes_on s a g = record { answer = calls.unfinished; marks = no_columns; tried = 0; job = unfinished_job s a; frame = g }

module _ (s : Shape) (a : Arrays) (g : List ℕ) where
  abbrev ends : Outcome
  ends = by_register_gives s a a.declared a.sums (size a.synthesis) (held_taps a.synthesis) g

  -- it ends, or goes on
  pub by_end : (P : Outcome → Type 0) → P (by_register_gives s a a.declared a.sums (size a.synthesis) (held_taps a.synthesis) g)
      → P (goes_on s a g) → P (arrives s a g)
  unfolding arrives
  by_end P ending going = pick (ended a.synthesis)
    where
      pick : (b : Bool) → P (cond b ends (goes_on s a g))
      pick true = ending
      pick false = going

  pub arrives-on : ended a.synthesis ≡ false → arrives s a g ≡ goes_on s a g
  unfolding arrives
  arrives-on e = ap (λ (b : Bool). cond b ends (goes_on s a g)) e

  module _ (f : List ℕ) where
    abbrev D : Declared
    D = declared_by a.declared

    -- what it comes to: unfinished, or what a locate by the check sums gives
    pub data Comes : Outcome → Type 0 where
      goes : (n h : ℕ) → Going s a f n h → Comes (goes_on s a g)
      comes : Locates s (declared_by a.declared) f →
          Comes (locates s a a.declared (read_sequences s (declared_by a.declared) f) (held_sums s (as_read s (declared_by a.declared) f)) g)

    pub arrived : Arrived s a f → Pass (arrives_tests s a) → Comes (arrives s a g)
    arrived (on n h going e) p = subst⁻¹ Comes (arrives-on e) (goes n h going)
    arrived (over o) p =
        subst⁻¹ Comes (o.gives g ∙ ap (λ (x : List ℕ). locates s a a.declared (read_sequences s D f) x g) o.sums)
        (comes (of_sequences s D f o.well_formed (subst Pass o.tests p)))

    comes_form : is_shape s ≡ true → (o : Outcome) → Comes o → Form o.job
    comes_form t _ (goes n h going) = unfinished s a f n h t going
    comes_form t _ (comes l) = located s a a.declared f t l

-- a job that a step is made of is unfinished
pub next-arrives : (j : Job) → Form j → (not_unfinished_test j).fails ≡ false → (f : List ℕ) × Arrived j.head.shape (stepped j.head.shape j.arrays) f
next-arrives _ (empty a) e = absurd (false≢true (sym e))
next-arrives _ (shaped s a t) e = absurd (false≢true (sym e))
next-arrives _ (unfinished s a f n h t going) e = (f, step-arrives s t going)
next-arrives _ (located s a words f t l) e = absurd (false≢true (sym e))

-- ---- the calls

-- a call that may leave the job shaped tests first that it is not empty
shaped-before : (j : Job) (c : Call) (k : ℕ) → Pass (describe j c).keeping → Among k (describe j c).shaping → is_shape j.head.shape ≡ true
shaped-before j (shape n checks b) k p a = absurd a
shaped-before j (encode f) k p a = absurd a
shaped-before j (locate words f) k p a = has-shape j.head p.0
shaped-before j (repair f) k p a = has-shape j.head p.0
shaped-before j (start words f) k p a = has-shape j.head p.0
shaped-before j next k p a = has-shape j.head p.0
shaped-before j peek k p a = absurd a

gives_form : (j : Job) (c : Call) → Form j → Pass (describe j c).keeping → Pass (describe j c).shaping → Form (describe j c).gives.job
gives_form j (shape n checks b) form p q = shaped (shape_of n checks b) j.arrays (shape-passes n checks b p)
gives_form j (encode f) form p q = form
gives_form j (locate words f) form (e, p) q =
    let s : Shape = j.head.shape in
    let D : Declared = declared_by words in
    subst⁻¹ (λ S. Form (located_by s j.arrays words (all_remaining s D S) (held_sums s (as_read s D f)))) (held-sequences s (as_read s D f))
    (located s j.arrays words f (has-shape j.head e) (register-passes s D f _ q (read-passes s D f p)))
gives_form j (repair f) form (e, p) q = shaped j.head.shape j.arrays (has-shape j.head e)
gives_form j (start words f) form (e, p) q =
    let s : Shape = j.head.shape in
    let t : is_shape s ≡ true = has-shape j.head e in
    let a : Arrays = started s j.arrays words f in
    comes_form s a f f t _ (arrived s a f f (start-arrives s t j.arrays words f (read-passes s (declared_by words) f p)) q)
gives_form j next form (e, (n, u)) q =
    let s : Shape = j.head.shape in
    let a : Arrays = stepped s j.arrays in
    let (f, there) = next-arrives j form n in
    comes_form s a [] f (has-shape j.head e) _ (arrived s a [] f there q)
gives_form j peek form p q = form

step_form : (j : Job) (c : Call) → Form j → Form (step j c).job
step_form j c form =
    by_call j c (λ o. Form o.job) (λ k a. form) (λ k p a. shaped j.head.shape (describe j c).beside (shaped-before j c k p a)) (gives_form j c form)

run-from_form : (j : Job) (calls : List Call) → Form j → Form (run_from j calls)
unfolding run_from
run-from_form j [] form = form
run-from_form j (c ∷ cs) form = run-from_form (step j c).job cs (step_form j c form)

pub run_form : (a : Arrays) (calls : List Call) → Form (run a calls)
run_form a calls = run-from_form (empty_job a) calls (empty a)

-- a list of calls after another
pub run-append : (j : Job) (before after : List Call) → run_from j (before ++ after) ≡ run_from (run_from j before) after
unfolding run_from
run-append j [] after = refl
run-append j (c ∷ cs) after = run-append (step j c).job cs after

-- one call more
pub run_then : (a : Arrays) (calls : List Call) (c : Call) {all : List Call} → calls ++ (c ∷ []) ≡ all → run a all ≡ (step (run a calls) c).job
unfolding run_from
run_then a calls c e = ap (run a) (sym e) ∙ run-append (empty_job a) calls (c ∷ [])
