-- What the exported functions of the dispatcher promise can be given, whatever the struct: with the number of a job by what a call on that job can give, with
-- another number by refusal 33.
use mathlib.Core.Path.{◌≡◌, refl, sym, ap, ◌∙◌}
use mathlib.Core.Logic.{inl}
use mathlib.Core.List.{List, []}
use mathlib.Core.Option.{Option, none, some}
use Prim.Native.Nat.{ℕ, ◌≤◌, ◌<◌}
use native.Mathlib.Decide.{dec_lt}
use native.Mathlib.Omega.{arith}
use lib.ListN.{get_or, set}
use Rattle.dispatch.specs.Told.{Told, told_by, nobody}
use Rattle.dispatch.proofs.Making.{made, head-put, found-put, start-put, step-put}
use Rattle.dispatch.proofs.Telling.{outside, inside, serving, idle}
use Rattle.eight_jobs.specs.Eight.{jobs}
use Rattle.job.specs.Calls.{Call, shape, encode, locate, repair, start, next, peek, step}
use Rattle.job.specs.Job.{Arrays, beside}
use Rattle.job.specs.Refusals.{lent_to}
use Rattle.job.specs.declared.Head.{Head}
use Rattle.kept.specs.Kept.{Heads, numbers_at, with_numbers, Searches, search_at, with_search, Kept, kept, arrays_at, job_at, with_job, jobs_of, made_of}
use Rattle.mirror.specs.declared.CAnswered.{CAnswered}
use Rattle.mirror.specs.declared.CPeeked.{CPeeked}
use Rattle.mirror.specs.declared.CShaped.{CShaped}
use Rattle.slices.specs.Synthesis.{Synthesis}
use Rattle.turns.specs.Dispatcher.{Event, on, turn, served}
use Rattle.turns.proofs.Seeking.{Looked, looked, found_below}
use Rattle.capi.specs.Dispatcher.{refusal_for, answer_for, peeked_for, Gives}
use Rattle.capi.specs.Dispatcher.{JobsShape, JobsEncode, JobsLocate, JobsRepair, JobsStart, JobsStep, JobsPeek}
use Rattle.capi.specs.DispatcherRuns.{DReturn, DStep, stepped}
use Rattle.capi.specs.Exports.{HeadShapes, HeadEncodes, HeadLocates, HeadRepairs, HeadStarts, HeadSteps, HeadPeeks}
use Rattle.capi.specs.Runs.{CJob, step_left_of}
use Rattle.capi.proofs.Giving.{gives, turn-gives}
use Rattle.capi.proofs.Runs.{c_edge}

-- the struct of job k
abbrev struct_at : Kept → (k : ℕ) → CJob
struct_at p k = record { head = numbers_at p.heads k; arrays = arrays_at p k }

-- ---- one of the eight

module _ (k : ℕ) (b : k < 8) where
  -- a call that leaves a job in its place
  written : {A : Type 0} (given : Told → A) (p : Kept) (c : Call) {r : A} {f : List ℕ} {q : Kept}
      → made_of p k c ≡ with_job p k (step (job_at p k) c).job → r ≡ given (told_by (step (job_at p k) c)) → f ≡ (step (job_at p k) c).frame
      → q ≡ with_job p k (step (job_at p k) c).job → Gives A given p k c r f q
  written given p c writes answer frame left = gives given p k c (inside p k c b (made p k c refl writes refl left)) answer frame

  -- a call that changes none
  unwritten : {A : Type 0} (given : Told → A) (p : Kept) (c : Call) {r : A} {f : List ℕ}
      → made_of p k c ≡ p → r ≡ given (told_by (step (job_at p k) c)) → f ≡ (step (job_at p k) c).frame → Gives A given p k c r f p
  unwritten given p c keeps answer frame = gives given p k c (inside p k c b (record { tells = refl; leaves = sym keeps })) answer frame

  shape_one : (hs : Heads) (n : ℕ) (checks : List ℕ) (e : ℕ) (s : CShaped) → HeadShapes (numbers_at hs k) n checks e s
      → JobsShape k hs n checks e s.refusal (with_numbers hs k s.head)
  shape_one hs n checks e s does sums taps held x last =
      let p : Kept = kept hs sums taps held x last in
      let h : Head = (step (job_at p k) (shape n checks e)).job.head in
      let d = does (arrays_at p k) in
      written refusal_for p (shape n checks e) refl (ap (λ (s : CShaped). s.refusal) d.answers)
      (c_edge.given (struct_at p k) (shape n checks e) _ (s, does, refl)).frame
      (head-put k p h (ap (λ (s : CShaped). with_numbers hs k s.head) d.answers)
      ∙ ap (λ (a : Arrays). with_job p k (beside h a)) (sym d.arrays))

  encode_one : (hs : Heads) (f : List ℕ) (r : ℕ) (left : List ℕ) → HeadEncodes (numbers_at hs k) f r left → JobsEncode k hs f r left
  encode_one hs f r left does sums taps held x last =
      let p : Kept = kept hs sums taps held x last in
      let d = does (arrays_at p k) in
      unwritten refusal_for p (encode f) refl d.answers d.leaves

  locate-one : (hs : Heads) (sums taps held : List (List ℕ)) (words f : List ℕ) (s : CAnswered) (sumsLeft taps_left heldLeft : List ℕ)
      → HeadLocates (numbers_at hs k) (get_or sums k []) (get_or taps k []) (get_or held k []) words f s sumsLeft taps_left heldLeft
      → JobsLocate k hs sums taps held words f s.answer (with_numbers hs k s.head) (set sums k sumsLeft) (set taps k taps_left) (set held k heldLeft)
  locate-one hs sums taps held words f s sumsLeft taps_left heldLeft does x last =
      let p : Kept = kept hs sums taps held x last in
      let h : Head = (step (job_at p k) (locate words f)).job.head in
      let d = does (arrays_at p k) in
      written answer_for p (locate words f) refl (ap (λ (s : CAnswered). s.answer) d.answers)
      (c_edge.given (struct_at p k) (locate words f) _ (s, sumsLeft, taps_left, heldLeft, does, refl)).frame
      (found-put k p h (ap (λ (s : CAnswered). with_numbers hs k s.head) d.answers) sumsLeft taps_left heldLeft
      ∙ ap (λ (a : Arrays). with_job p k (beside h a)) d.arrays)

  repair-one : (hs : Heads) (sums held : List (List ℕ)) (f : List ℕ) (s : CAnswered) (left : List ℕ)
      → HeadRepairs (numbers_at hs k) (get_or sums k []) (get_or held k []) f s left
      → JobsRepair k hs sums held f s.answer (with_numbers hs k s.head) left
  repair-one hs sums held f s left does taps x last =
      let p : Kept = kept hs sums taps held x last in
      let h : Head = (step (job_at p k) (repair f)).job.head in
      let d = does (arrays_at p k) in
      written answer_for p (repair f) refl (ap (λ (s : CAnswered). s.answer) d.answers) d.leaves
      (head-put k p h (ap (λ (s : CAnswered). with_numbers hs k s.head) d.answers)
      ∙ ap (λ (a : Arrays). with_job p k (beside h a)) (sym d.arrays))

  start-one : (hs : Heads) (sums taps held : List (List ℕ)) (x : Searches) (words f : List ℕ) (s : CAnswered) (sumsLeft taps_left heldLeft : List ℕ)
      (y : Synthesis)
      → HeadStarts (numbers_at hs k) (get_or sums k []) (get_or taps k []) (get_or held k []) (search_at x k) words f s sumsLeft taps_left heldLeft y
      → JobsStart k hs sums taps held x words f s.answer (with_numbers hs k s.head) (set sums k sumsLeft) (set taps k taps_left) (set held k heldLeft)
      (with_search x k y)
  start-one hs sums taps held x words f s sumsLeft taps_left heldLeft y d last =
      let p : Kept = kept hs sums taps held x last in
      let h : Head = (step (job_at p k) (start words f)).job.head in
      written answer_for p (start words f) refl (ap (λ (s : CAnswered). s.answer) d.answers)
      (c_edge.given (struct_at p k) (start words f) _ (s, sumsLeft, taps_left, heldLeft, y, d, refl)).frame
      (start-put k p h (ap (λ (s : CAnswered). with_numbers hs k s.head) d.answers) sumsLeft taps_left heldLeft y
      ∙ ap (λ (a : Arrays). with_job p k (beside h a)) d.arrays)

  module _ (hs : Heads) (sums taps held : List (List ℕ)) (x : Searches) (s : CAnswered) (taps_left : List ℕ) (y : Synthesis)
      (d : HeadSteps (numbers_at hs k) (get_or sums k []) (get_or taps k []) (get_or held k []) (search_at x k) s taps_left (step_left_of (search_at x k) y)) where
    -- what a step leaves, whoever asks for it
    step_left : (last : ℕ)
        → let p : Kept = kept hs sums taps held x last in
        kept (with_numbers hs k s.head) sums (set taps k taps_left) held (stepped x (with_search x k y)) last ≡ with_job p k (step (job_at p k) next).job
    step_left last =
        let p : Kept = kept hs sums taps held x last in
        let h : Head = (step (job_at p k) next).job.head in
        step-put k p h (ap (λ (s : CAnswered). with_numbers hs k s.head) d.answers) taps_left y.counts y.places y.sizes y.discs
        y.quotients y.taps y.saved
        ∙ ap (λ (a : Arrays). with_job p k (beside h a)) d.arrays

    step-one : JobsStep k hs sums taps held x s.answer (with_numbers hs k s.head) (set taps k taps_left) (stepped x (with_search x k y))
    step-one last =
        let p : Kept = kept hs sums taps held x last in
        written answer_for p next refl (ap (λ (s : CAnswered). s.answer) d.answers)
        (c_edge.given (struct_at p k) next _ (s, taps_left, y, s.head, inl refl, d, refl)).frame (step_left last)

  peek-one : (hs : Heads) (sums held : List (List ℕ)) (x : Searches) (r : CPeeked)
      → HeadPeeks (numbers_at hs k) (get_or sums k []) (get_or held k []) (search_at x k) r → JobsPeek k hs sums held x r
  peek-one hs sums held x r does taps last =
      let p : Kept = kept hs sums taps held x last in
      unwritten peeked_for p peek refl (does (arrays_at p k)).answers (c_edge.given (struct_at p k) peek _ (r, does, refl)).frame

  can-one : (p : Kept) (c : Call) → (r : DReturn) × DStep p (on k c) r
  can-one p (shape n checks e) =
      let (_, (s, does, _)) = c_edge.total (struct_at p k) (shape n checks e) in
      (_, (_, _, shape_one p.heads n checks e s does, refl))
  can-one p (encode f) =
      let (_, (r, left, does, _)) = c_edge.total (struct_at p k) (encode f) in
      (_, (_, _, encode_one p.heads f r left does, refl))
  can-one p (locate words f) =
      let (_, (s, sums, taps, held, does, _)) = c_edge.total (struct_at p k) (locate words f) in
      (_, (_, _, _, _, _, locate-one p.heads p.sums p.taps p.declared words f s sums taps held does, refl))
  can-one p (repair f) =
      let (_, (s, left, does, _)) = c_edge.total (struct_at p k) (repair f) in
      (_, (_, _, _, repair-one p.heads p.sums p.declared f s left does, refl))
  can-one p (start words f) =
      let (_, (s, sums, taps, held, y, does, _)) = c_edge.total (struct_at p k) (start words f) in
      (_, (_, _, _, _, _, _, start-one p.heads p.sums p.taps p.declared p.searches words f s sums taps held y does, refl))
  can-one p next =
      let (_, (s, taps, y, _, _, does, _)) = c_edge.total (struct_at p k) next in
      (_, (_, _, _, with_search p.searches k y, step-one p.heads p.sums p.taps p.declared p.searches s taps y does, refl))
  can-one p peek =
      let (_, (s, does, _)) = c_edge.total (struct_at p k) peek in
      (_, (_, peek-one p.heads p.sums p.declared p.searches s does, refl))

  can_serve : (p : Kept) → served jobs (jobs_of p) ≡ some k → (r : DReturn) × DStep p turn r
  can_serve p found =
      let (_, (s, taps, y, _, _, does, _)) = c_edge.total (struct_at p k) next in
      let left = step_left p.heads p.sums p.taps p.declared p.searches s taps y does p.last in
      (_, (_, _, _, with_search p.searches k y, _, turn-gives p (serving p k found (made p k next refl refl refl left)) refl, refl))

-- ---- no job's number

module _ (k : ℕ) (b : 8 ≤ k) where
  refused_33 : {A : Type 0} (given : Told → A) (p : Kept) (c : Call) → Gives A given p k c (given (nobody (lent_to c))) (lent_to c) p
  refused_33 given p c = gives given p k c (outside p k c b refl) refl refl

  can_refuse : (p : Kept) (c : Call) → (r : DReturn) × DStep p (on k c) r
  can_refuse p (shape n checks e) =
      (_, (_, p.heads, (λ sums taps held x last. refused_33 refusal_for (kept p.heads sums taps held x last) (shape n checks e)), refl))
  can_refuse p (encode f) = (_, (_, _, (λ sums taps held x last. refused_33 refusal_for (kept p.heads sums taps held x last) (encode f)), refl))
  can_refuse p (locate words f) =
      (_, (_, _, _, _, _, (λ x last. refused_33 answer_for (kept p.heads p.sums p.taps p.declared x last) (locate words f)), refl))
  can_refuse p (repair f) = (_, (_, _, _, (λ taps x last. refused_33 answer_for (kept p.heads p.sums taps p.declared x last) (repair f)), refl))
  can_refuse p (start words f) =
      (_, (_, _, _, _, _, _, (λ last. refused_33 answer_for (kept p.heads p.sums p.taps p.declared p.searches last) (start words f)), refl))
  can_refuse p next =
      (_, (_, _, _, p.searches, (λ last. refused_33 answer_for (kept p.heads p.sums p.taps p.declared p.searches last) next), refl))
  can_refuse p peek = (_, (_, (λ taps last. refused_33 peeked_for (kept p.heads p.sums taps p.declared p.searches last) peek), refl))

can-idle : (p : Kept) → served jobs (jobs_of p) ≡ none → (r : DReturn) × DStep p turn r
can-idle p found = (_, (_, _, _, p.searches, _, turn-gives p (idle p found refl) refl, refl))

by_served : (p : Kept) (r : Option ℕ) → served jobs (jobs_of p) ≡ r → Looked jobs (jobs_of p) r → (r : DReturn) × DStep p turn r
by_served p none e l = can-idle p e
by_served p (some k) e l = can_serve k (found_below jobs (jobs_of p) k l) p e

-- ---- either

by_number : {A : Type 0} (k : ℕ) → (k < 8 → A) → (8 ≤ k → A) → A
by_number {A} k one other = pick (dec_lt k 8)
  where
    pick : Dec (k < 8) → A
    pick (yes below) = one below
    pick (no above) = other (let b : 8 ≤ k = omega arith in b)

pub dispatcher_total : (p : Kept) (e : Event jobs) → (r : DReturn) × DStep p e r
dispatcher_total p (on k c) = by_number k (λ b. can-one k b p c) (λ b. can_refuse k b p c)
dispatcher_total p turn = by_served p (served jobs (jobs_of p)) refl (looked jobs (jobs_of p))
