-- What a repair goes back to: every list of calls that leaves the job located ends in calls that locate a frame, at once or in slices, and calls that keep the
-- job, and the words of the cells declared there are those that the job holds. A job that is unfinished goes back to its start.
use mathlib.Core.Path.{◌≡◌, refl, sym, ap, subst, ◌∙◌}
use mathlib.Core.Logic.{◌⊎◌, inl, inr}
use mathlib.Core.Bool.{true, false, and-eq-true_iff, false≢true}
use mathlib.Core.List.{List, [], ◌∷◌, ◌++◌, append-nil, append_assoc}
use Prim.Native.Nat.{ℕ}
use Rattle.refusal.proofs.Orders.{Pass, no_fail}
use Rattle.job.specs.Calls.{Call, shape, encode, locate, repair, start, next, peek, columns, describe, step, not_unfinished_test, started, stepped}
use Rattle.job.specs.Job.{Arrays, Job, empty_job, is_located_phase, is_unfinished_phase, step_sound}
use Rattle.job.specs.Runs.{run, run_from, after_calls, Taken, IsEncode, RefusedEarly, Between, Slicing, at_once, at-start, in_slices, GoesBack}
use Rattle.job.specs.declared.Phase.{Phase}
use Rattle.job.specs.declared.Phase.TheVariants.{Empty, Shaped, Unfinished, Located}
use Rattle.job.proofs.AfterRefusal.{never-unfinished, early-number, gives-no-refusal}
use Rattle.job.proofs.Between.{between-keeps}
use Rattle.job.proofs.Cases.{by_call}
use Rattle.job.proofs.Forms.{by_end, run-append}
use Rattle.job.proofs.LocatedBy.{located-by}

-- ---- one call more that keeps a located job

between_more : (j : Job) (cs : List Call) (c : Call) → Between j cs → IsEncode c ⊎ RefusedEarly (step (run_from j cs) c) → Between j (cs ++ (c ∷ []))
unfolding run_from
between_more j [] c b k = (k, tt)
between_more j (d ∷ ds) c b k = (b.0, between_more (step j d).job ds c b.1 k)

module _ (a : Arrays) (calls : List Call) (words : List ℕ) (back : GoesBack a calls words) where
  abbrev located : List Call
  located = back.before ++ back.locating

  -- from the locate on
  run-between : run a calls ≡ run_from (run a located) back.between
  run-between =
      ap (run a) (back.split ∙ sym (append_assoc back.before back.locating back.between)) ∙ run-append (empty_job a) located back.between

  still_back : (c : Call) → IsEncode c ⊎ RefusedEarly (step (run a calls) c) → GoesBack a (calls ++ (c ∷ [])) words
  still_back c keeps = record {
    before = back.before;
    frame = back.frame;
    locating = back.locating;
    between = back.between ++ (c ∷ []);
    split = ap (λ l. l ++ (c ∷ [])) back.split ∙ append_assoc back.before (back.locating ++ back.between) (c ∷ [])
        ∙ ap (λ l. back.before ++ l) (append_assoc back.locating back.between (c ∷ []));
    located = back.located;
    kept = between_more (run a located) back.between c back.kept (subst (λ j. IsEncode c ⊎ RefusedEarly (step j c)) run-between keeps);
  }

  -- the job holds the words of that locate
  pub held-words : (run a calls).arrays.declared ≡ words
  held-words =
      let (b, same, l) = located-by a back.before words back.frame back.locating back.located in
      ap (λ j. j.arrays.declared) (run-between ∙ between-keeps (run a located) back.between back.kept ∙ same)

-- ---- a start, and calls between the steps since then

abbrev Slices : Job → Call → Type 0
Slices j c = (c ≡ next) ⊎ ((c ≡ peek) ⊎ (IsEncode c ⊎ RefusedEarly (step j c)))

slicing-more : (j : Job) (cs : List Call) (c : Call) → Slicing j cs → Slices (run_from j cs) c → Slicing j (cs ++ (c ∷ []))
unfolding run_from
slicing-more j [] c b k = (k, tt)
slicing-more j (d ∷ ds) c b k = (b.0, slicing-more (step j d).job ds c b.1 k)

record BackToStart (a : Arrays) (calls : List Call) (words : List ℕ) : Type 0 where
  before : List Call
  frame : List ℕ
  since : List Call
  split : calls ≡ before ++ (start words frame ∷ since)
  taken : Taken (after_calls a before (start words frame))
  slicing : Slicing (after_calls a before (start words frame)).job since

module _ (a : Arrays) (calls : List Call) (words : List ℕ) (back : BackToStart a calls words) where
  abbrev first : Call
  first = start words back.frame

  run-since : run a calls ≡ run_from (after_calls a back.before first).job back.since
  unfolding run_from
  run-since = ap (run a) back.split ∙ run-append (empty_job a) back.before (first ∷ back.since)

  one_more : (c : Call) → calls ++ (c ∷ []) ≡ back.before ++ (first ∷ (back.since ++ (c ∷ [])))
  one_more c = ap (λ l. l ++ (c ∷ [])) back.split ∙ append_assoc back.before (first ∷ back.since) (c ∷ [])

  still-started : (c : Call) → Slices (run a calls) c → BackToStart a (calls ++ (c ∷ [])) words
  still-started c keeps = record {
    before = back.before;
    frame = back.frame;
    since = back.since ++ (c ∷ []);
    split = one_more c;
    taken = back.taken;
    slicing = slicing-more _ back.since c back.slicing (subst (λ j. Slices j c) run-since keeps);
  }

  -- the step that ends it
  ends-located : (c : ℕ) → (step (run a calls) next).answer ≡ columns c → GoesBack a (calls ++ (next ∷ [])) words
  ends-located c answer = record {
    before = back.before;
    frame = back.frame;
    locating = first ∷ (back.since ++ (next ∷ []));
    between = [];
    split = one_more next ∙ ap (λ l. back.before ++ l) (sym (append-nil (first ∷ (back.since ++ (next ∷ [])))));
    located = in_slices a back.before words back.frame back.since c back.taken back.slicing
        (ap (λ l. (after_calls a l next).answer) (sym back.split) ∙ answer);
    kept = tt;
  }

-- ---- every list of calls

record IsBack (a : Arrays) (calls : List Call) (j : Job) : Type 0 where
  located : is_located_phase j.head.phase ≡ true → GoesBack a calls j.arrays.declared
  unfinished : is_unfinished_phase j.head.phase ≡ true → BackToStart a calls j.arrays.declared

not-located : (p : Phase) → is_unfinished_phase p ≡ true → is_located_phase p ≡ false
not-located Empty u = refl
not-located Shaped u = refl
not-located Unfinished u = refl
not-located (Located c a) u = absurd (false≢true u)

abbrev IsNeither : Job → Type 0
IsNeither j = (is_located_phase j.head.phase ≡ false) × (is_unfinished_phase j.head.phase ≡ false)

neither : (a : Arrays) (calls : List Call) (j : Job) → IsNeither j → IsBack a calls j
neither a calls j (l, u) = record { located = λ e. absurd (false≢true (sym l ∙ e)); unfinished = λ e. absurd (false≢true (sym u ∙ e)) }

module _ (a : Arrays) (calls : List Call) (back : IsBack a calls (run a calls)) where
  abbrev j : Job
  j = run a calls

  -- the job is as it was
  same_back : (c : Call) → IsEncode c ⊎ RefusedEarly (step j c) → IsBack a (calls ++ (c ∷ [])) j
  same_back c keeps = record {
    located = λ l. still_back a calls j.arrays.declared (back.located l) c keeps;
    unfinished = λ u. still-started a calls j.arrays.declared (back.unfinished u) c (inr (inr keeps));
  }

  -- a start ends at once, or is the last one
  start_back : (words f : List ℕ) → step j (start words f) ≡ (describe j (start words f)).gives
      → IsBack a (calls ++ (start words f ∷ [])) (describe j (start words f)).gives.job
  start_back words f =
      by_end j.head.shape (started j.head.shape j.arrays words f) f
      (λ o. step j (start words f) ≡ o → IsBack a (calls ++ (start words f ∷ [])) o.job)
      (λ e. record {
        located = λ l. record {
          before = calls;
          frame = f;
          locating = start words f ∷ [];
          between = [];
          split = refl;
          located = at-start a calls words f _ (ap (λ o. o.answer) e);
          kept = tt;
        };
        unfinished = λ u. absurd (false≢true u);
      })
      (λ e. record {
        located = λ l. absurd (false≢true l);
        unfinished = λ u. record {
          before = calls;
          frame = f;
          since = [];
          split = refl;
          taken = λ (k, refusal). never-unfinished (sym (ap (λ o. o.answer) e) ∙ refusal);
          slicing = tt;
        };
      })

  -- a step ends what was unfinished, or is one more
  next-back : is_unfinished_phase j.head.phase ≡ true → step j next ≡ (describe j next).gives
      → IsBack a (calls ++ (next ∷ [])) (describe j next).gives.job
  next-back was =
      by_end j.head.shape (stepped j.head.shape j.arrays) [] (λ o. step j next ≡ o → IsBack a (calls ++ (next ∷ [])) o.job)
      (λ e. record {
        located = λ l. ends-located a calls j.arrays.declared (back.unfinished was) _ (ap (λ o. o.answer) e);
        unfinished = λ u. absurd (false≢true u);
      })
      (λ e. record {
        located = λ l. absurd (false≢true l);
        unfinished = λ u. still-started a calls j.arrays.declared (back.unfinished was) next (inl refl);
      })

  unfinished_so : (not_unfinished_test j).fails ≡ false → is_unfinished_phase j.head.phase ≡ true
  unfinished_so e = ((and-eq-true_iff (is_unfinished_phase j.head.phase) (step_sound j.head.shape j.arrays)).0 (no_fail _ e)).0

  gives_back : (c : Call) → Pass (describe j c).keeping → step j c ≡ (describe j c).gives → IsBack a (calls ++ (c ∷ [])) (describe j c).gives.job
  gives_back (shape n checks b) p e = neither a _ _ (refl, refl)
  gives_back (encode f) p e = same_back (encode f) (inl (f, refl))
  gives_back (locate words f) p e = record {
    located = λ l. record {
      before = calls;
      frame = f;
      locating = locate words f ∷ [];
      between = [];
      split = refl;
      located = at_once a calls words f (λ (k, refusal). gives-no-refusal j (locate words f) (sym (ap (λ o. o.answer) e) ∙ refusal));
      kept = tt;
    };
    unfinished = λ u. absurd (false≢true u);
  }
  gives_back (repair f) p e = neither a _ _ (refl, refl)
  gives_back (start words f) p e = start_back words f e
  gives_back next p e = next-back (unfinished_so p.1.0) e
  gives_back peek p e = record {
    located = λ l. absurd (false≢true (sym (not-located j.head.phase (unfinished_so p.1.0)) ∙ l));
    unfinished = λ u. still-started a calls j.arrays.declared (back.unfinished u) peek (inr (inl refl));
  }

  step_back : (c : Call) → IsBack a (calls ++ (c ∷ [])) (step j c).job
  step_back c =
      by_call j c (λ o. step j c ≡ o → IsBack a (calls ++ (c ∷ [])) o.job)
      (λ k m e. same_back c (inr (k, ap (λ o. o.answer) e, early-number j c k m))) (λ k p m e. neither a _ _ (refl, refl)) (λ p q e. gives_back c p e) refl

-- after the calls `before` come others
back_from : (a : Arrays) (before after : List Call) → IsBack a before (run a before) → IsBack a (before ++ after) (run a (before ++ after))
unfolding run_from
back_from a before [] back = subst (λ calls. IsBack a calls (run a calls)) (sym (append-nil before)) back
back_from a before (c ∷ cs) back =
    let more : List Call = before ++ (c ∷ []) in
    subst (λ calls. IsBack a calls (run a calls)) (append_assoc before (c ∷ []) cs)
    (back_from a more cs (subst (IsBack a more) (sym (run-append (empty_job a) before (c ∷ []))) (step_back a before back c)))

pub goes_back : (a : Arrays) (calls : List Call) → is_located_phase (run a calls).head.phase ≡ true → GoesBack a calls (run a calls).arrays.declared
unfolding run_from
goes_back a calls = (back_from a [] calls (neither a [] (empty_job a) (refl, refl))).located
