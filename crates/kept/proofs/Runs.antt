-- What is kept through a list of calls and turns is what eight jobs are after it.
use mathlib.Core.Path.{◌≡◌, refl, sym, subst⁻¹, ◌∙◌}
use mathlib.Core.Bool.{Bool, true, false, cond}
use mathlib.Core.List.{[], ◌∷◌}
use mathlib.Core.Option.{Option, none, some}
use Prim.Native.Nat.{ℕ, ◌<◌}
use lib.Dec.{ltb, eqb}
use borrow.Author.Tests.{ltb-true, eqb-true, eqb-false}
use Rattle.eight_jobs.specs.Eight.{jobs}
use Rattle.job.specs.Calls.{Call, shape, encode, locate, repair, start, next, peek, step}
use Rattle.job.specs.Job.{Job}
use Rattle.job.proofs.Between.{encode-keeps, peek-keeps}
use Rattle.turns.specs.Dispatcher.{Jobs, Event, on, turn, after, turned, put, run_from, served}
use Rattle.turns.proofs.Agreeing.{reply_agrees, jobs-agree, last_agrees}
use Rattle.turns.proofs.Calling.{left}
use Rattle.turns.proofs.Putting.{put-there, put_elsewhere}
use Rattle.turns.proofs.Seeking.{Looked, looked, found_below}
use Rattle.kept.specs.Kept.{Kept, job_at, with_job, jobs_of, made_of, served_of, kept_after}
use Rattle.kept.specs.Runs.{EightKept, Keeps, kept_run, Faithful}
use Rattle.kept.proofs.Written.{read_back, others_stay, still-eight, eight-served}

-- ---- a call on job k

-- q is what is kept after the call c
record Made (p : Kept) (k : ℕ) (c : Call) (q : Kept) : Type 0 where
  job : job_at q k ≡ (step (job_at p k) c).job
  others : (i : ℕ) → (i ≡ k → ⊥) → job_at q i ≡ job_at p i
  last : q.last ≡ p.last
  eight : EightKept q

module _ (p : Kept) (e : EightKept p) (k : ℕ) (b : k < 8) where
  written : (c : Call) → Made p k c (with_job p k (step (job_at p k) c).job)
  written c =
      let j : Job = (step (job_at p k) c).job in
      record { job = read_back p k j e b; others = others_stay p k j; last = refl; eight = still-eight p k j e }

  stays : (c : Call) → (step (job_at p k) c).job ≡ job_at p k → Made p k c p
  stays c same = record { job = sym same; others = λ i n. refl; last = refl; eight = e }

  made : (c : Call) → Made p k c (made_of p k c)
  made (shape n checks b) = written (shape n checks b)
  made (encode f) = stays (encode f) (encode-keeps (job_at p k) (encode f) (f, refl))
  made (locate words f) = written (locate words f)
  made (repair f) = written (repair f)
  made (start words f) = written (start words f)
  made next = written next
  made peek = stays peek (peek-keeps (job_at p k))

  each-made : (c : Call) (i : ℕ) → job_at (made_of p k c) i ≡ put jobs (jobs_of p) k (step (job_at p k) c).job i
  each-made c i = pick (eqb i k) refl
    where
      pick : (t : Bool) → eqb i k ≡ t → job_at (made_of p k c) i ≡ put jobs (jobs_of p) k (step (job_at p k) c).job i
      pick true q =
          subst⁻¹ (λ (i : ℕ). job_at (made_of p k c) i ≡ put jobs (jobs_of p) k (step (job_at p k) c).job i) (eqb-true i k q)
          ((made c).job ∙ sym (put-there jobs (jobs_of p) k (step (job_at p k) c).job))
      pick false q =
          let differ = eqb-false i k q in
          (made c).others i differ ∙ sym (put_elsewhere jobs (jobs_of p) k (step (job_at p k) c).job i differ)

-- ---- an event

-- q keeps the jobs d, each array with eight entries
record KeepsEight (q : Kept) (d : Jobs jobs) : Type 0 where
  keeps : Keeps q d
  eight : EightKept q

module _ (p : Kept) (e : EightKept p) where
  nothing-done : KeepsEight p (jobs_of p)
  nothing-done = record { keeps = record { each = λ i below. refl; last = refl }; eight = e }

  event_kept : (x : Event jobs) → KeepsEight (kept_after p x) (after jobs (jobs_of p) x)
  unfolding kept_after after
  event_kept (on k c) = pick (ltb k 8) refl
    where
      pick : (t : Bool) → ltb k 8 ≡ t → KeepsEight (cond t (made_of p k c) p) (left jobs (jobs_of p) k c t)
      pick true q =
          let b = ltb-true k 8 q in
          let m = made p e k b c in
          record { keeps = record { each = λ i below. each-made p e k b c i; last = m.last }; eight = m.eight }
      pick false q = nothing-done
  event_kept turn = pick (served jobs (jobs_of p)) (looked jobs (jobs_of p))
    where
      pick : (r : Option ℕ) → Looked jobs (jobs_of p) r → KeepsEight (served_of p r) (turned jobs (jobs_of p) r)
      pick none f = nothing-done
      pick (some k) f =
          let b = found_below jobs (jobs_of p) k f in
          record {
            keeps = record { each = λ i below. each-made p e k b next i; last = refl };
            eight = eight-served (made_of p k next) k (made p e k b next).eight;
          }

-- ---- a list of events

pub faithful : Faithful
unfolding kept_run run_from
faithful p d [] e keeps = record { keeps = keeps; answers = reply_agrees jobs (jobs_of p) d keeps.each keeps.last }
faithful p d (x ∷ es) e keeps =
    let done = event_kept p e x in
    let keeps_on : Keeps (kept_after p x) (after jobs d x) =
    record {
      each = λ i below. done.keeps.each i below ∙ jobs-agree jobs (jobs_of p) d keeps.each keeps.last x i below;
      last = done.keeps.last ∙ last_agrees jobs (jobs_of p) d keeps.each keeps.last x;
    } in
    let rest = faithful (kept_after p x) (after jobs d x) es done.eight keeps_on in
    record { keeps = rest.keeps; answers = rest.answers }
