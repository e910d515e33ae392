-- Eight jobs and the turns among them, whatever a job is (SPECIFICATION.md, "Eight jobs").
use Rattle.std.specs.Prelude.{Bool, cond, List, [], ◌∷◌, ℕ, zero, suc, ◌+◌, ◌%◌, ltb, eqb}
use Rattle.std.proofs.Math.Option.{Option, none, some}

-- what is known of a job: its calls, what each answers and leaves, which of them is the step, and whether a locate is unfinished
pub record Kind : Type 1 where
  pub job : Type 0
  pub call : Type 0
  pub answer : Type 0
  pub leaves : job → call → job
  pub answers : job → call → answer
  pub step : call
  pub unfinished : job → Bool

-- the first of n places from `from` on, in circular order, at which u holds
unfoldable pub seek : (u : ℕ → Bool) (from n : ℕ) → Option ℕ
seek u from zero = none
seek u from (suc n) = cond (u (from % 8)) (some (from % 8)) (seek u (suc from) n)

module _ (K : Kind) where
  -- the jobs 0 to 7, and the one served last
  pub record Jobs : Type 0 where
    pub at : ℕ → K.job
    pub last : ℕ

  -- a call on job k, or a turn
  pub data Event : Type 0 where
    on : (k : ℕ) → K.call → Event
    turn : Event

  -- what is answered: what job k said, or refusal 33
  pub data Reply : Type 0 where
    says : (k : ℕ) → K.answer → Reply
    refused_33 : Reply

  -- the job that a turn serves: the next unfinished one after the one served last
  unfoldable pub served : Jobs → Option ℕ
  served d = seek (λ k. K.unfinished (d.at k)) (suc d.last) 8

  -- the jobs with j in the place of job k
  unfoldable pub put : Jobs → (k : ℕ) → K.job → ℕ → K.job
  put d k j i = cond (eqb i k) j (d.at i)

  abbrev pub turned : Jobs → Option ℕ → Jobs
  turned d none = d
  turned d (some k) = record { at = put d k (K.leaves (d.at k) K.step); last = k }

  -- The jobs after an event. A number outside 0 to 7 is refused before all else; only turns serve.
  unfoldable pub after : Jobs → Event → Jobs
  after d (on k c) = cond (ltb k 8) (record { at = put d k (K.leaves (d.at k) c); last = d.last }) d
  after d turn = turned d (served d)

  abbrev pub turn_reply : Jobs → Option ℕ → Reply
  turn_reply d none = refused_33
  turn_reply d (some k) = says k (K.answers (d.at k) K.step)

  unfoldable pub reply : Jobs → Event → Reply
  reply d (on k c) = cond (ltb k 8) (says k (K.answers (d.at k) c)) refused_33
  reply d turn = turn_reply d (served d)

  -- the jobs after a list of events
  unfoldable pub run_from : Jobs → List Event → Jobs
  run_from d [] = d
  run_from d (e ∷ es) = run_from (after d e) es

  -- ---- what one job sees

  abbrev pub call_by : ℕ → Option ℕ → Option K.call
  call_by k none = none
  call_by k (some i) = cond (eqb k i) (some K.step) none

  -- the call on job k that an event is
  unfoldable pub call_on : Jobs → (k : ℕ) → Event → Option K.call
  call_on d k (on i c) = cond (eqb k i) (some c) none
  call_on d k turn = call_by k (served d)

  abbrev pub consed : {A : Type 0} → Option A → List A → List A
  consed none cs = cs
  consed (some c) cs = c ∷ cs

  -- the calls on job k in a list of events, its steps by turns among them
  unfoldable pub calls_on : (k : ℕ) → Jobs → List Event → List K.call
  calls_on k d [] = []
  calls_on k d (e ∷ es) = consed (call_on d k e) (calls_on k (after d e) es)

  -- one job by itself
  unfoldable pub alone : K.job → List K.call → K.job
  alone j [] = j
  alone j (c ∷ cs) = alone (K.leaves j c) cs

  -- ---- counts

  -- how many events of a list are turns
  unfoldable pub turns_in : List Event → ℕ
  turns_in [] = 0
  turns_in (on k c ∷ es) = turns_in es
  turns_in (turn ∷ es) = suc (turns_in es)

  abbrev pub is_served : ℕ → Option ℕ → ℕ
  is_served k none = 0
  is_served k (some i) = cond (eqb k i) 1 0

  abbrev pub serves : ℕ → Jobs → Event → ℕ
  serves k d (on i c) = 0
  serves k d turn = is_served k (served d)

  -- how many turns of a list serve job k
  unfoldable pub serves_in : (k : ℕ) → Jobs → List Event → ℕ
  serves_in k d [] = 0
  serves_in k d (e ∷ es) = serves k d e + serves_in k (after d e) es

  -- n turns
  unfoldable pub turns : ℕ → List Event
  turns zero = []
  turns (suc n) = turn ∷ turns n
