-- The steps that one of the eight jobs makes: each turn that serves it is one, and as long as fewer are made than its locate has it is unfinished at each turn.
use mathlib.Core.Path.{◌≡◌, refl, subst⁻¹}
use mathlib.Core.Bool.{Bool, true, false, cond}
use mathlib.Core.List.{List, [], ◌∷◌}
use mathlib.Core.Option.{Option, none, some}
use Prim.Native.Nat.{ℕ, ◌+◌, ◌≤◌, ◌<◌}
use native.Mathlib.Omega.{arith}
use lib.Dec.{eqb}
use Rattle.frame.specs.Shape.{is_shape}
use Rattle.frame.specs.declared.Shape.{Shape}
use Rattle.job.specs.Calls.{Call, shape, encode, locate, repair, start, next, peek}
use Rattle.job.specs.Job.{Job}
use Rattle.job.specs.Runs.{run_from, Slicing, steps_in}
use Rattle.job.specs.Slices.{slices_of}
use Rattle.job.proofs.Walk.{Walked, walk}
use Rattle.turns.specs.Dispatcher as turns
use Rattle.turns.specs.Dispatcher.{Jobs, Event, on, turn, after, served, call_by, call_on, consed, calls_on, alone, is_served, serves_in}
use Rattle.turns.specs.Turning.{Unfinished}
use Rattle.turns.proofs.Projecting.{projection}
use Rattle.eight_jobs.specs.Eight.{jobs}
use Rattle.eight_jobs.proofs.OneJob.{walked_on}

steps_cons : (c : Call) (cs : List Call) → steps_in (c ∷ cs) ≡ steps_in (c ∷ []) + steps_in cs
unfolding steps_in
steps_cons (shape n checks b) cs = omega arith
steps_cons (encode f) cs = omega arith
steps_cons (locate words f) cs = omega arith
steps_cons (repair f) cs = omega arith
steps_cons (start words f) cs = omega arith
steps_cons next cs = omega arith
steps_cons peek cs = omega arith

-- ---- a turn that serves job k is a step of it

call-steps : (c : Option Call) (cs : List Call) → steps_in cs ≤ steps_in (consed jobs c cs)
call-steps none cs = omega arith
call-steps (some c) cs = omega (arith, steps_cons c cs)

module _ (k : ℕ) where
  turn-steps : (r : Option ℕ) (cs : List Call) → is_served jobs k r + steps_in cs ≤ steps_in (consed jobs (call_by jobs k r) cs)
  unfolding steps_in
  turn-steps none cs = omega arith
  turn-steps (some i) cs = pick (eqb k i)
    where
      pick : (t : Bool) → cond t 1 0 + steps_in cs ≤ steps_in (consed jobs (cond t (some next) none) cs)
      pick true = omega arith
      pick false = omega arith

  pub serves-steps : (d : Jobs jobs) (es : List (Event jobs)) → serves_in jobs k d es ≤ steps_in (calls_on jobs k d es)
  unfolding serves_in calls_on call_on
  serves-steps d [] = omega arith
  serves-steps d (on i c ∷ es) =
      omega (arith, serves-steps (after jobs d (on i c)) es, call-steps (cond (eqb k i) (some c) none) (calls_on jobs k (after jobs d (on i c)) es))
  serves-steps d (turn ∷ es) =
      omega (arith, serves-steps (after jobs d turn) es, turn-steps (served jobs d) (calls_on jobs k (after jobs d turn) es))

-- ---- from a job after m steps on

module _ (s : Shape) (t : is_shape s ≡ true) (words f : List ℕ) where
  -- a job after fewer steps, and the calls to come, which make them m
  record Goes (m : ℕ) (j : Job) (cs : List Call) : Type 0 where
    made : ℕ
    left : made + steps_in cs ≡ m
    walked : Walked s words f made j
    slicing : Slicing j cs

  seen-goes : (j : Job) (c : Option Call) (cs : List Call) (m : ℕ) → Walked s words f m j → Slicing j (consed jobs c cs)
      → Goes (m + steps_in (consed jobs c cs)) (alone jobs j (consed jobs c [])) cs
  unfolding run_from alone
  seen-goes j none cs m w g = record { made = m; left = refl; walked = w; slicing = g }
  seen-goes j (some c) cs m w (g, gs) =
      record {
        made = m + steps_in (c ∷ []);
        left = omega (arith, steps_cons c cs);
        walked = walk s t words f (c ∷ []) j m (m + steps_in (c ∷ [])) refl w (g, tt);
        slicing = gs;
      }

  module _ (k : ℕ) (b : k < 8) where
    event_goes : (d : Jobs jobs) (e : Event jobs) (es : List (Event jobs)) (m : ℕ) → Walked s words f m (d.at k)
        → Slicing (d.at k) (calls_on jobs k d (e ∷ es))
        → Goes (m + steps_in (calls_on jobs k d (e ∷ es))) ((after jobs d e).at k) (calls_on jobs k (after jobs d e) es)
    unfolding turns.run_from calls_on
    event_goes d e es m w g =
        let cs : List Call = calls_on jobs k (after jobs d e) es in
        subst⁻¹ (λ (j : Job). Goes (m + steps_in (consed jobs (call_on jobs d k e) cs)) j cs) (projection jobs d (e ∷ []) k b)
        (seen-goes (d.at k) (call_on jobs d k e) cs m w g)

    pub unfinished-through : (d : Jobs jobs) (es : List (Event jobs)) (m : ℕ) → Walked s words f m (d.at k) → Slicing (d.at k) (calls_on jobs k d es)
        → m + steps_in (calls_on jobs k d es) < slices_of s words f → Unfinished jobs k d es
    unfinished-through d [] m w g less = tt
    unfinished-through d (on i c ∷ es) m w g less =
        let x = event_goes d (on i c) es m w g in
        unfinished-through (after jobs d (on i c)) es x.made x.walked x.slicing (omega (arith, x.left))
    unfinished-through d (turn ∷ es) m w g less =
        let x = event_goes d turn es m w g in (
          walked_on s words f m (d.at k) w (omega arith),
          unfinished-through (after jobs d turn) es x.made x.walked x.slicing (omega (arith, x.left)),
        )
