-- A list of calls through the C interface answers and leaves what the list of calls does: call by call what the exported function promises is what the call
-- does on the job that the struct stands for, and a head that comes back is the one that went.
use mathlib.Core.Path.{◌≡◌, refl, sym, ap, ap₂, subst, subst⁻¹, ◌∙◌}
use mathlib.Core.Logic.{◌⊎◌, inl, inr}
use mathlib.Core.Bool.{Bool, true, false, cond, and-eq-true_iff, false≢true}
use mathlib.Core.List.{List, [], ◌∷◌}
use Prim.Native.Nat.{ℕ, suc}
use native.Mathlib.Omega.{arith}
use lib.Dec.{ltb}
use Rattle.discrepancy.specs.Discrepancies.{sequence_in}
use Rattle.frame.specs.declared.Shape.{Shape}
use Rattle.refusal.specs.Order.{first_of}
use Rattle.refusal.proofs.Orders.{no_fail, first_of_map}
use Rattle.columns.specs.Columns.{columns_of, number as Columns·number}
use Rattle.columns.specs.declared.Columns.{Columns}
use Rattle.job.specs.Calls.{Call, shape, encode, locate, repair, start, next, peek, unfinished, Outcome, describe, refusing}
use Rattle.job.specs.Calls.{by_register_gives, held_taps, arrives, started, stepped, step}
use Rattle.job.specs.Runs.{run_from, run}
use Rattle.job.specs.Job.{Arrays, Job, beside, with_read, with_found, with_started, with_taps, with_synthesis, no_columns}
use Rattle.job.specs.Job.{is_unfinished_phase, unfinished_head, empty_job, shaped_job, unfinished_job, end_sound, step_sound}
use Rattle.job.specs.declared.Head.{Head}
use Rattle.job.specs.declared.Phase.{Phase}
use Rattle.job.specs.declared.Phase.TheVariants.{Empty, Shaped, Unfinished, Located}
use Rattle.job.proofs.Cases.{by_call}
use Rattle.capi.specs.Exports.{CShapes, CEncodes, CLocates, CRepairs, CPeeks, HeadShapes, HeadEncodes, HeadLocates, HeadRepairs}
use Rattle.capi.specs.Exports.{HeadSteps, HeadPeeks, arrays_of}
use Rattle.mirror.specs.Mirror.{head_of, mirror_of, refusal_of, unfinished_of, shaped_of, peeked_of, answered_of}
use Rattle.capi.specs.Runs.{CJob, CReply, number, answer, peeked, CReturn, step_left_of, StepStores, CStep, CRun, emptied, job_of, mirror_job}
use Rattle.capi.specs.Runs.{reply_of, return_of, Given, CEdge}
use Rattle.mirror.specs.declared.CAnswered.{CAnswered}
use Rattle.mirror.specs.declared.CHead.{CHead}
use Rattle.mirror.specs.declared.CShaped.{CShaped}
use Rattle.mirror.proofs.RoundTrip.{there_and_back}
use Rattle.register_step.specs.Parts.{Parts, step_parts}
use Rattle.slices.specs.Synthesis.{Synthesis, all_rounds, rounds, steps, found, size, long, parts_in, ended, with_parts, advanced}

-- the job that a mirror stands for is the job
same-job : (j : Job) → job_of (mirror_job j) ≡ j
same-job j = ap (λ (h : Head). beside h j.arrays) (there_and_back j.head)

-- a struct by its head and its arrays
struct : CHead → Arrays → CJob
struct h a = record { head = h; arrays = a }

record LeavesHead (m : CJob) (j : Job) (c : Call) (r : CReturn) : Type 0 where
  returned : r.job.head ≡ m.head
  kept : (step j c).job.head ≡ j.head
  arrays : r.job.arrays ≡ (step j c).job.arrays

-- What a step on the struct m of the job j gives: the mirror of what the call does; or the head itself, where the call leaves that.
record Gives (m : CJob) (j : Job) (c : Call) (r : CReturn) : Type 0 where
  reply : r.reply ≡ reply_of c (step j c)
  job : (r.job ≡ mirror_job (step j c).job) ⊎ LeavesHead m j c r
  frame : r.frame ≡ (step j c).frame

-- where a locate has come to, the lent frame is as it was
came-to : (s : Shape) (a : Arrays) (f : List ℕ) → f ≡ (arrives s a f).frame
unfolding arrives
came-to s a f = pick (ended a.synthesis)
  where
    pick : (b : Bool) → f ≡ (cond b (by_register_gives s a a.declared a.sums (size a.synthesis) (held_taps a.synthesis) f)
        (record { answer = unfinished; marks = no_columns; tried = 0; job = unfinished_job s a; frame = f })).frame
    pick true = refl
    pick false = refl

-- where a locate has come to and is unfinished, the head is that of an unfinished job
by_end : (h : Head) → unfinished_head h.shape ≡ h → (a : Arrays) → unfinished_of (arrives h.shape a []).answer ≡ 1 → (arrives h.shape a []).job.head ≡ h
unfolding arrives
by_end h same a = pick (ended a.synthesis)
  where
    pick : (b : Bool) →
        unfinished_of (cond b (by_register_gives h.shape a a.declared a.sums (size a.synthesis) (held_taps a.synthesis) [])
        (record { answer = unfinished; marks = no_columns; tried = 0; job = unfinished_job h.shape a; frame = [] })).answer ≡ 1 →
        (cond b (by_register_gives h.shape a a.declared a.sums (size a.synthesis) (held_taps a.synthesis) [])
        (record { answer = unfinished; marks = no_columns; tried = 0; job = unfinished_job h.shape a; frame = [] })).job.head ≡ h
    pick true e = absurd (let z : ⊥ = omega (arith, e) in z)
    pick false e = same

-- a step that leaves a job unfinished leaves its head, where this names no columns
kept-head : (j : Job) → unfinished_of (step j next).answer ≡ 1 → j.head.columns ≡ no_columns → (step j next).job.head ≡ j.head
kept-head j u none =
    by_call j next (λ o. unfinished_of o.answer ≡ 1 → o.job.head ≡ j.head) (λ k a e. absurd (zero_one e)) (λ k p a e. absurd (zero_one e))
    (λ p q. came j.head.phase refl
    ((and-eq-true_iff (is_unfinished_phase j.head.phase) (step_sound j.head.shape j.arrays)).0 (no_fail _ p.1.0)).0)
    u
  where
    zero_one : ◌≡◌ {A = ℕ} 0 1 → ⊥
    zero_one e = omega arith

    same : (p : Phase) → j.head.phase ≡ p → is_unfinished_phase p ≡ true → unfinished_head j.head.shape ≡ j.head
    same Empty e l = absurd (false≢true l)
    same Shaped e l = absurd (false≢true l)
    same (Located c a) e l = absurd (false≢true l)
    same Unfinished e l = ap₂ (λ (p : Phase) (c : Columns). record { phase = p; shape = j.head.shape; columns = c }) (sym e) (sym none)

    came : (p : Phase) → j.head.phase ≡ p → is_unfinished_phase p ≡ true
        → unfinished_of (arrives j.head.shape (stepped j.head.shape j.arrays) []).answer ≡ 1
        → (arrives j.head.shape (stepped j.head.shape j.arrays) []).job.head ≡ j.head
    came p e l = by_end j.head (same p e l) (stepped j.head.shape j.arrays)

no-marks : (marks : List ℕ) → marks ≡ 0 ∷ 0 ∷ 0 ∷ 0 ∷ [] → record { words = marks } ≡ no_columns
unfolding no_columns columns_of Columns·number
no-marks marks e = ap (λ (w : List ℕ). record { words = w }) e

stored : (m : CJob) (s : CAnswered) (taps : List ℕ) (y : Synthesis) (head : CHead)
    → HeadSteps m.head m.arrays.sums m.arrays.taps m.arrays.declared m.arrays.synthesis s taps (step_left_of m.arrays.synthesis y)
    → StepStores m.head head s → (r : CReturn)
    → r.job ≡ struct head (arrays_of m.arrays.sums taps m.arrays.declared (step_left_of m.arrays.synthesis y))
    → (r.job ≡ mirror_job (step (job_of m) next).job) ⊎ LeavesHead m (job_of m) next r
unfolding struct
stored m s taps y head q (inl e) r f = inl (f ∙ ap₂ struct (e ∙ ap (λ (x : CAnswered). x.head) q.answers) q.arrays)
stored m s taps y head q (inr (u, none, e)) r f =
    inr (record {
      returned = ap (λ (x : CJob). x.head) f ∙ e;
      kept = kept-head (job_of m) (sym (ap (λ (x : CAnswered). x.answer.unfinished) q.answers) ∙ u) (no-marks m.head.marks none);
      arrays = ap (λ (x : CJob). x.arrays) f ∙ q.arrays;
    })

gives : (m : CJob) (c : Call) (r : CReturn) → CStep m c r → Gives m (job_of m) c r
unfolding struct
gives m (shape n checks b) r (s, p, e) =
    let q : CShapes m.arrays (step (job_of m) (shape n checks b)) s = p m.arrays in
    subst⁻¹ (Gives m (job_of m) (shape n checks b)) e
    (record {
      reply = ap (λ (x : CShaped). number x.refusal) q.answers;
      job = inl (ap₂ struct (ap (λ (x : CShaped). x.head) q.answers) (sym q.arrays));
      frame = by_call (job_of m) (shape n checks b) (λ o. [] ≡ o.frame) (λ k a. refl) (λ k l a. refl) (λ k l. refl);
    })
gives m (encode f) r (k, left, p, e) =
    let q : CEncodes (job_of m) (step (job_of m) (encode f)) k left = p m.arrays in
    subst⁻¹ (Gives m (job_of m) (encode f)) e
    (record {
      reply = ap number q.answers;
      job = inr (record { returned = refl; kept = ap (λ (j : Job). j.head) q.job; arrays = ap (λ (j : Job). j.arrays) (sym q.job) });
      frame = q.leaves;
    })
gives m (locate words f) r (s, sums, taps, held, p, e) =
    let q : CLocates (step (job_of m) (locate words f)) s (with_found m.arrays sums taps held) = p m.arrays in
    subst⁻¹ (Gives m (job_of m) (locate words f)) e
    (record {
      reply = ap (λ (x : CAnswered). answer x.answer) q.answers;
      job = inl (ap₂ struct (ap (λ (x : CAnswered). x.head) q.answers) q.arrays);
      frame = by_call (job_of m) (locate words f) (λ o. f ≡ o.frame) (λ k a. refl) (λ k l a. refl) (λ k l. refl);
    })
gives m (repair f) r (s, left, p, e) =
    let q : CRepairs m.arrays (step (job_of m) (repair f)) s left = p m.arrays in
    subst⁻¹ (Gives m (job_of m) (repair f)) e
    (record {
      reply = ap (λ (x : CAnswered). answer x.answer) q.answers;
      job = inl (ap₂ struct (ap (λ (x : CAnswered). x.head) q.answers) (sym q.arrays));
      frame = q.leaves;
    })
gives m (start words f) r (s, sums, taps, held, y, q, e) =
    subst⁻¹ (Gives m (job_of m) (start words f)) e
    (record {
      reply = ap (λ (x : CAnswered). answer x.answer) q.answers;
      job = inl (ap₂ struct (ap (λ (x : CAnswered). x.head) q.answers) q.arrays);
      frame = by_call (job_of m) (start words f) (λ o. f ≡ o.frame) (λ k a. refl) (λ k l a. refl)
          (λ k l. came-to (job_of m).head.shape (started (job_of m).head.shape m.arrays words f) f);
    })
gives m next r (s, taps, y, head, stores, q, e) =
    subst⁻¹ (Gives m (job_of m) next) e
    (record {
      reply = ap (λ (x : CAnswered). answer x.answer) q.answers;
      job = stored m s taps y head q stores _ refl;
      frame = by_call (job_of m) next (λ o. [] ≡ o.frame) (λ k a. refl) (λ k l a. refl)
          (λ k l. came-to (job_of m).head.shape (stepped (job_of m).head.shape m.arrays) []);
    })
gives m peek r (s, p, e) =
    let q : CPeeks (job_of m) (step (job_of m) peek) s = p m.arrays in
    subst⁻¹ (Gives m (job_of m) peek) e
    (record {
      reply = ap peeked q.answers;
      job = inr (record { returned = refl; kept = ap (λ (j : Job). j.head) q.job; arrays = ap (λ (j : Job). j.arrays) (sym q.job) });
      frame = by_call (job_of m) peek (λ o. [] ≡ o.frame) (λ k a. refl) (λ k l a. refl) (λ k l. refl);
    })

given : (m : CJob) (c : Call) (r : CReturn) → CStep m c r → Given m c r
given m c r s =
    let g : Gives m (job_of m) c r = gives m c r s in
    record { reply = g.reply; job = stands g.job; frame = g.frame }
  where
    stands : (r.job ≡ mirror_job (step (job_of m) c).job) ⊎ LeavesHead m (job_of m) c r → job_of r.job ≡ (step (job_of m) c).job
    stands (inl e) = ap job_of e ∙ same-job (step (job_of m) c).job
    stands (inr l) = ap₂ (λ (h : Head) (a : Arrays). beside h a) (ap head_of l.returned ∙ sym l.kept) l.arrays

-- a return by its parts
result : CReply → CJob → List ℕ → CReturn
result x m f = record { reply = x; job = m; frame = f }

-- on the mirror of a job all that is given is the mirror, also where the head is left
returned-from : (j : Job) (c : Call) (r : CReturn) → CStep (mirror_job j) c r → r ≡ return_of c (step j c)
unfolding result
returned-from j c r s =
    let g : Gives (mirror_job j) j c r = subst (λ (i : Job). Gives (mirror_job j) i c r) (same-job j) (gives (mirror_job j) c r s) in
    ap (λ (x : CReply). result x r.job r.frame) g.reply ∙ ap₂ (result (reply_of c (step j c))) (mirrored g.job) g.frame
  where
    mirrored : (r.job ≡ mirror_job (step j c).job) ⊎ LeavesHead (mirror_job j) j c r → r.job ≡ mirror_job (step j c).job
    mirrored (inl e) = e
    mirrored (inr l) = ap₂ (λ (h : CHead) (a : Arrays). record { head = h; arrays = a }) (l.returned ∙ ap mirror_of (sym l.kept)) l.arrays

left : (m : CJob) (calls : List Call) (after : CJob) → CRun m calls after → job_of after ≡ run_from (job_of m) calls
unfolding run_from
left m [] after e = ap job_of e
left m (c ∷ cs) after (r, s, rest) = left r.job cs after rest ∙ ap (λ (j : Job). run_from j cs) (given m c r s).job

job-from : (j : Job) (calls : List Call) (m : CJob) → CRun (mirror_job j) calls m → m ≡ mirror_job (run_from j calls)
unfolding run_from
job-from j [] m e = e
job-from j (c ∷ cs) m (r, s, rest) =
    job-from (step j c).job cs m (subst (λ (x : CReturn). CRun x.job cs m) (returned-from j c r s) rest)

job : (a : Arrays) (calls : List Call) (m : CJob) → CRun (emptied a) calls m → m ≡ mirror_job (run a calls)
job a calls m s = job-from (empty_job a) calls m s

returned : (a : Arrays) (calls : List Call) (m : CJob) (c : Call) (r : CReturn) → CRun (emptied a) calls m → CStep m c r
    → r ≡ return_of c (step (run a calls) c)
returned a calls m c r s t = returned-from (run a calls) c r (subst (λ (x : CJob). CStep x c r) (job a calls m s) t)

-- ---- what is promised can be given

-- what is seen of a call is told by what is seen of its refusals and of what is given
module _ {A : Type 0} (seen : Outcome → A) where
  abbrev told_by : Job → Call → A
  told_by j c =
      first_of (λ k. seen (refusing j (describe j c).lent k)) (describe j c).keeping
      (first_of (λ k. seen (refusing (shaped_job j.head.shape (describe j c).beside) (describe j c).lent k)) (describe j c).shaping
      (seen (describe j c).gives))

  seen_of : (j : Job) (c : Call) → seen (step j c) ≡ told_by j c
  unfolding step
  seen_of j c =
      first_of_map seen (refusing j (describe j c).lent) (describe j c).keeping _
      ∙ ap (first_of (λ k. seen (refusing j (describe j c).lent k)) (describe j c).keeping)
      (first_of_map seen (refusing (shaped_job j.head.shape (describe j c).beside) (describe j c).lent) (describe j c).shaping _)

-- a step leaves of the arrays what it only reads
abbrev Kept : (a b : Arrays) → Type 0
Kept a b = b ≡ arrays_of a.sums b.taps a.declared (step_left_of a.synthesis b.synthesis)

module _ (s : Shape) (a : Arrays) where
  abbrev x : Synthesis
  x = a.synthesis

  abbrev y : Parts
  y = step_parts 257 (all_rounds x) (sequence_in x.symbols (steps x) (long x)) (suc (rounds x)) (steps x) (parts_in x)

  kept-advanced : Kept a (stepped s a)
  unfolding advanced
  kept-advanced = pick (ltb (suc (steps x)) s.rows)
    where
      pick : (b : Bool) → Kept a (with_synthesis a (cond b (with_parts x (rounds x) (suc (steps x)) (found x) y) (with_parts x (suc (rounds x)) 0 y.length y)))
      pick true = refl
      pick false = refl

-- the taps of a job located so
located_taps : Shape → Arrays → List ℕ
located_taps s b = (by_register_gives s b b.declared b.sums (size b.synthesis) (held_taps b.synthesis) []).job.arrays.taps

kept-arrived : (s : Shape) (a b : Arrays) → Kept a b → Kept a (arrives s b []).job.arrays
unfolding arrives located_taps
kept-arrived s a b k = pick (ended b.synthesis)
  where
    pick : (d : Bool) → Kept a (cond d (by_register_gives s b b.declared b.sums (size b.synthesis) (held_taps b.synthesis) [])
        (record { answer = unfinished; marks = no_columns; tried = 0; job = unfinished_job s b; frame = [] })).job.arrays
    pick true = ap (λ (c : Arrays). with_taps c (located_taps s b)) k
    pick false = k

kept-stepped : (j : Job) → Kept j.arrays (step j next).job.arrays
kept-stepped j =
    let k : Kept j.arrays (stepped j.head.shape j.arrays) = kept-advanced j.head.shape j.arrays in
    by_call j next (λ o. Kept j.arrays o.job.arrays) (λ n m. refl) (λ n p m. k)
    (λ p q. kept-arrived j.head.shape j.arrays (stepped j.head.shape j.arrays) k)

module _ (m : CJob) where
  can-shape : (n : ℕ) (checks : List ℕ) (b : ℕ) → HeadShapes m.head n checks b (shaped_of (step (job_of m) (shape n checks b)))
  can-shape n checks b a =
      let j : Job = beside (head_of m.head) a in
      record {
        answers = seen_of shaped_of (job_of m) (shape n checks b) ∙ sym (seen_of shaped_of j (shape n checks b));
        arrays = by_call j (shape n checks b) (λ o. o.job.arrays ≡ a) (λ k m. refl) (λ k p m. absurd m) (λ p q. refl);
      }

  can-encode : (f : List ℕ) → HeadEncodes m.head f (refusal_of (step (job_of m) (encode f)).answer) (step (job_of m) (encode f)).frame
  can-encode f a =
      let j : Job = beside (head_of m.head) a in
      record {
        answers = seen_of (λ o. refusal_of o.answer) (job_of m) (encode f) ∙ sym (seen_of (λ o. refusal_of o.answer) j (encode f));
        job = by_call j (encode f) (λ o. o.job ≡ j) (λ k m. refl) (λ k p m. absurd m) (λ p q. refl);
        leaves = seen_of (λ o. o.frame) (job_of m) (encode f) ∙ sym (seen_of (λ o. o.frame) j (encode f));
      }

  -- the arrays of a job located by this call, beside others
  abbrev found_by : Arrays → Outcome → Arrays
  found_by a o = with_found a o.job.arrays.sums o.job.arrays.taps o.job.arrays.declared

  can-locate : (words f : List ℕ) → let a : Arrays = (step (job_of m) (locate words f)).job.arrays in
      HeadLocates m.head m.arrays.sums m.arrays.taps m.arrays.declared words f (answered_of (step (job_of m) (locate words f)))
      a.sums a.taps a.declared
  can-locate words f a =
      let j : Job = beside (head_of m.head) (with_found a m.arrays.sums m.arrays.taps m.arrays.declared) in
      record {
        answers = seen_of answered_of (job_of m) (locate words f) ∙ sym (seen_of answered_of j (locate words f));
        arrays = seen_of (found_by a) (job_of m) (locate words f) ∙ sym (seen_of (λ o. o.job.arrays) j (locate words f));
      }

  can-repair : (f : List ℕ)
      → HeadRepairs m.head m.arrays.sums m.arrays.declared f (answered_of (step (job_of m) (repair f))) (step (job_of m) (repair f)).frame
  can-repair f a =
      let j : Job = beside (head_of m.head) (with_read a m.arrays.sums m.arrays.declared) in
      record {
        answers = seen_of answered_of (job_of m) (repair f) ∙ sym (seen_of answered_of j (repair f));
        arrays = by_call j (repair f) (λ o. o.job.arrays ≡ j.arrays) (λ k m. refl) (λ k p m. refl) (λ p q. refl);
        leaves = seen_of (λ o. o.frame) (job_of m) (repair f) ∙ sym (seen_of (λ o. o.frame) j (repair f));
      }

  can-step :
      HeadSteps m.head m.arrays.sums m.arrays.taps m.arrays.declared m.arrays.synthesis (answered_of (step (job_of m) next))
      (step (job_of m) next).job.arrays.taps (step_left_of m.arrays.synthesis (step (job_of m) next).job.arrays.synthesis)
  can-step = record { answers = refl; arrays = sym (kept-stepped (job_of m)) }

  can-peek : HeadPeeks m.head m.arrays.sums m.arrays.declared m.arrays.synthesis (peeked_of (step (job_of m) peek).answer)
  unfolding step_sound end_sound
  can-peek a =
      let j : Job = beside (head_of m.head) (with_started a m.arrays.sums m.arrays.declared m.arrays.synthesis) in
      record {
        answers = seen_of (λ o. peeked_of o.answer) (job_of m) peek ∙ sym (seen_of (λ o. peeked_of o.answer) j peek);
        job = by_call j peek (λ o. o.job ≡ j) (λ k m. refl) (λ k p m. absurd m) (λ p q. refl);
      }

  total : (c : Call) → (r : CReturn) × CStep m c r
  total (shape n checks b) = (_, (_, can-shape n checks b, refl))
  total (encode f) = (_, (_, _, can-encode f, refl))
  total (locate words f) = (_, (_, _, _, _, can-locate words f, refl))
  total (repair f) = (_, (_, _, can-repair f, refl))
  total (start words f) =
      let o : Outcome = step (job_of m) (start words f) in
      let a : Arrays = o.job.arrays in
      (_, (answered_of o, a.sums, a.taps, a.declared, a.synthesis, record { answers = refl; arrays = refl }, refl))
  total next = (_, (_, _, (step (job_of m) next).job.arrays.synthesis, _, inl refl, can-step, refl))
  total peek = (_, (_, can-peek, refl))

pub c_edge : CEdge
c_edge = record { total = total; given = given; left = left; job = job; returned = returned }
