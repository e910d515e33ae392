-- Locating in slices: every step but the last goes on, the last one gives what a locate by the check sums would have, and none comes after; what a peek
-- tells; and the frame that was sent comes back.
use mathlib.Core.Path.{◌≡◌, refl, sym, ap, ap₂, subst, subst⁻¹, ◌∙◌}
use mathlib.Core.Bool.{Bool, true, false, not, cond, ◌&&◌, false≢true}
use mathlib.Core.List.{List, [], ◌∷◌, ◌++◌, append_assoc}
use Prim.Native.Nat.{ℕ, suc, ◌+◌, ◌-◌, ◌/◌, ◌≤◌, ◌<◌}
use native.Mathlib.Decide.{dec_lt}
use native.Mathlib.Nat.{mul-le-mul_right, mul-add-div_right, div-eq_of_lt}
use native.Mathlib.Omega.{arith}
use Rattle.decoding.specs.Locating.{size_of}
use Rattle.decoding.specs.Remaining.{all_remaining, read_sequences}
use Rattle.frame.specs.DeclaredCells.{Declared, declared_by, as_read, read_tests}
use Rattle.frame.specs.Frame.{held_sums, held_sequences}
use Rattle.frame.specs.Shape.{is_shape}
use Rattle.frame.specs.declared.Shape.{Shape}
use Rattle.frame.proofs.Declarable.{well_formed_read}
use Rattle.frame.proofs.HeldSums.{held-sequences}
use Rattle.frame.proofs.Shapes.{shape-ranges}
use Rattle.refusal.specs.Order.{first_of}
use Rattle.refusal.proofs.Orders.{Pass, by_tests, pass-otherwise}
use Rattle.register.specs.Register.{Shortest}
use Rattle.register.specs.Sequences.{longest, shortened}
use Rattle.slices.specs.Synthesis.{found}
use Rattle.slices.proofs.Peeking.{kept-shortest}
use Rattle.job.specs.Calls.{Call, repair, start, next, peek, columns, unfinished, shortest, refused, Outcome, refusing, step, by_sums}
use Rattle.job.specs.Calls.{unseen, register_tests, locates, arrives, arrives_tests, stepped, late}
use Rattle.job.specs.Demands.{Alike, SameOutcome}
use Rattle.job.specs.Job.{Arrays, Job, shaped_job, is_empty, sound, step_sound}
use Rattle.job.specs.Runs.{run, after_calls, Taken, Between, Slicing, steps_in, in_slices}
use Rattle.job.specs.Slices.{slices_of, SameAnswer, Sliced, InSlices, Started, StartGoesOn, StartEarly, DamageMendedInSlices, LocatesInSlices}
use Rattle.job.proofs.AfterRefusal.{early-number, same_number, never-columns, never-unfinished}
use Rattle.job.proofs.Beginning.{first, tests, N, start_is, start-passes, is-shape, well_formed, start-on, start-over, no_steps, walked}
use Rattle.job.proofs.Cases.{by_call}
use Rattle.job.proofs.Demands.{shaped_so, still-located, damaged-locates, damaged-mended}
use Rattle.job.proofs.Emptiness.{sound_empty}
use Rattle.job.proofs.Forms.{Locates, Form, empty, shaped, unfinished as going, located, run_form, run_then}
use Rattle.job.proofs.Going.{Over}
use Rattle.job.proofs.BySums.{by-sums, by-sums-finds}
use Rattle.job.proofs.Locating.{sums-take}
use Rattle.job.proofs.NoPart.{same_tests, agree, related, shaped_alike}
use Rattle.job.proofs.NothingLeft.{nothing_left}
use Rattle.job.proofs.Soundness.{form_sound, shape-held}
use Rattle.job.proofs.Walk.{arrival, arrival-on, next-is, peek_is, Next, more, ends, after_less, after_next, Walked, on, over}

-- ---- the end

-- what a locate by the check sums refuses and gives of a frame that is well-formed
abbrev locating : Shape → Arrays → (words f : List ℕ) → Outcome
locating s b words f =
    let D : Declared = declared_by words in
    let sums : List ℕ = held_sums s (as_read s D f) in
    let S : List (List ℕ) = held_sequences s sums in
    first_of (refusing (shaped_job s b) f) (register_tests s D S unseen) (locates s b words (all_remaining s D S) sums f)

module _ (s : Shape) (a b : Arrays) (f g : List ℕ) (o : Over s a f) where
  abbrev D : Declared
  D = declared_by a.declared

  refused-same : (k : ℕ) → SameAnswer (refusing (shaped_job s a) g k) (refusing (shaped_job s b) f k)
  refused-same k = record { answer = refl; marks = refl; tried = refl; job = shaped_alike s a b }

  -- the sums held are those of the frame
  gives_same : (ss : List (List ℕ)) → SameAnswer (locates s a a.declared ss a.sums g) (locates s b a.declared ss (held_sums s (as_read s D f)) f)
  gives_same ss =
      record {
        answer = refl;
        marks = refl;
        tried = refl;
        job = record {
          head = refl;
          located = λ l. record { sums = o.sums; taps = refl; declared = refl };
          unfinished = λ u. absurd (false≢true u);
        };
      }

  end_same : SameAnswer (arrival s a g) (locating s b a.declared f)
  end_same =
      let sums : List ℕ = held_sums s (as_read s D f) in
      subst⁻¹ (λ (S : List (List ℕ)).
      SameAnswer (arrival s a g) (first_of (refusing (shaped_job s b) f) (register_tests s D S unseen) (locates s b a.declared (all_remaining s D S) sums f)))
      (held-sequences s (as_read s D f))
      (related SameAnswer (refusing (shaped_job s a) g) (refusing (shaped_job s b) f) refused-same _ _ (arrives_tests s a) _ (agree _ _ o.tests) (λ p.
      subst⁻¹ (λ (x : Outcome). SameAnswer x (locates s b a.declared (read_sequences s D f) sums f)) (o.gives g) (gives_same (read_sequences s D f))))

  end_frame : (arrival s a g).frame ≡ g
  end_frame =
      by_tests (refusing (shaped_job s a) g) (arrives s a g) (λ (x : Outcome). x.frame ≡ g) (arrives_tests s a) (λ k m. refl) (λ p.
      ap (λ (x : Outcome). x.frame) (o.gives g))

locating-frame : (s : Shape) (b : Arrays) (words f : List ℕ) → (locating s b words f).frame ≡ f
locating-frame s b words f =
    let D : Declared = declared_by words in
    let sums : List ℕ = held_sums s (as_read s D f) in
    let S : List (List ℕ) = held_sequences s sums in
    by_tests (refusing (shaped_job s b) f) (locates s b words (all_remaining s D S) sums f) (λ (x : Outcome). x.frame ≡ f) (register_tests s D S unseen)
    (λ k m. refl) (λ p. refl)

-- ---- the start

-- a job that calls leave is alike to itself
alike_self : (j : Job) → Form j → Alike j j
alike_self _ (empty a) =
    record { head = refl; located = λ l. absurd (false≢true l); unfinished = λ u. absurd (false≢true u) }
alike_self _ (shaped s a t) = shaped_alike s a a
alike_self _ (going s a f n h t g) =
    record {
      head = refl;
      located = λ l. absurd (false≢true l);
      unfinished = λ u. record {
        sums = refl;
        declared = refl;
        synthesis = record {
          counts = refl;
          lengths = refl;
          symbols = λ h i b c. refl;
          places = refl;
          sizes = refl;
          discs = refl;
          quotients = refl;
          taps = refl;
          saved = λ h i b c. refl;
          width = refl;
          taps-width = g.kept.reached.ended.whole.taps;
        };
      };
    }
alike_self _ (located s a words f t l) =
    record { head = refl; located = λ l. record { sums = refl; taps = refl; declared = refl }; unfinished = λ u. absurd (false≢true u) }

module _ (j : Job) (words f : List ℕ) (p : Pass (tests j words f)) where
  abbrev s : Shape
  s = j.head.shape

  abbrev from : Arrays
  from = first j words f

  by-sums-is : by_sums j words f ≡ locating s j.arrays words f
  unfolding by_sums
  by-sums-is = pass-otherwise (refusing j f) _ (tests j words f) p

  no-symbols : slices_of s words f ≡ 0 → N j words f ≡ 0
  no-symbols none = pick (dec_lt 0 (N j words f))
    where
      pick : Dec (0 < N j words f) → N j words f ≡ 0
      pick (yes long) = absurd (let z : ⊥ = omega (arith, mul-le-mul_right s.rows long, (shape-ranges s (is-shape j words f p)).rows-least) in z)
      pick (no short) = omega arith

  ends-at_once : N j words f ≡ 0 → SameOutcome (arrival s from f) (locating s j.arrays words f)
  ends-at_once none =
      let o : Over s from f = start-over j words f p none in
      let same = end_same s from j.arrays f f o in
      record {
        answer = same.answer;
        marks = same.marks;
        tried = same.tried;
        frame = end_frame s from j.arrays f f o ∙ sym (locating-frame s j.arrays words f);
        job = same.job;
      }

  -- what is given is no refusal: where no step is to be made a locate by the check sums refuses nothing
  start-taken : Taken (step j (start words f))
  start-taken (k, e) = pick (dec_lt 0 (N j words f))
    where
      pick : Dec (0 < N j words f) → ⊥
      pick (yes long) = never-unfinished (sym (ap (λ (o : Outcome). o.answer) (start-on j words f p long)) ∙ e)
      pick (no none) =
          let zero : N j words f ≡ 0 = omega arith in
          let l : Locates s (declared_by words) f = nothing_left s (declared_by words) f zero (well_formed j words f p) in
          let located : (step j (start words f)).answer ≡ columns (size_of (read_sequences s (declared_by words) f)) =
          ap (λ (o : Outcome). o.answer) (start_is j words f p) ∙ (ends-at_once zero).answer ∙ ap (λ (o : Outcome). o.answer) (sym by-sums-is)
          ∙ ap (λ (o : Outcome). o.answer) (sums-take j words f p.0 l) in
          never-columns (sym located ∙ e)

-- ---- the steps

-- the second of two tests fails, and not the first
second-fails : (a b : Bool) (x y z : Outcome) → a ≡ false → b ≡ true → cond a x (cond b y z) ≡ y
second-fails a b x y z e f = ap₂ (λ (c d : Bool). cond c x (cond d y z)) e f

module _ (s : Shape) (t : is_shape s ≡ true) (words f : List ℕ) where
  abbrev ss : List ℕ → List (List ℕ)
  ss w = read_sequences s (declared_by w) f

  next-on : (i : Job) (k : ℕ) → Walked s words f k i → suc k < slices_of s words f → (step i next).answer ≡ unfinished
  next-on _ k (on a x) less = ap (λ (o : Outcome). o.answer) (next-is s t x.going) ∙ pick (after_next x t)
    where
      pick : Next s words f k a → (arrival s (stepped s a) []).answer ≡ unfinished
      pick (more y) = ap (λ (o : Outcome). o.answer) (arrival-on s (stepped s a) [] y.going)
      pick (ends e o) = absurd (let z : ⊥ = omega arith in z)
  next-on _ k (over _ all u m) less = absurd (let z : ⊥ = omega arith in z)

  next_last : (i : Job) (k : ℕ) → Walked s words f k i → suc k ≡ slices_of s words f → (b : Arrays) → SameAnswer (step i next) (locating s b words f)
  next_last _ k (on a x) end b =
      subst⁻¹ (λ (o : Outcome). SameAnswer o (locating s b words f)) (next-is s t x.going) (pick (after_next x t))
    where
      pick : Next s words f k a → SameAnswer (arrival s (stepped s a) []) (locating s b words f)
      pick (more y) = absurd (let z : ⊥ = omega (arith, after_less y) in z)
      pick (ends e o) =
          subst (λ (w : List ℕ). SameAnswer (arrival s (stepped s a) []) (locating s b w f)) x.declared (end_same s (stepped s a) b f [] o)
  next_last _ k (over _ all u m) end b = absurd (let z : ⊥ = omega arith in z)

  next-over : (i : Job) (k : ℕ) → Walked s words f k i → slices_of s words f ≤ k → sound i ≡ true → (step i next).answer ≡ refused 33
  unfolding step
  next-over _ k (on a x) past e = absurd (let z : ⊥ = omega (arith, after_less x) in z)
  next-over i k (over _ all u m) past e =
      ap (λ (o : Outcome). o.answer)
      (second-fails (is_empty i) _ _ (refusing i [] 33) _ (sound_empty i.head e ∙ m)
      (ap (λ (b : Bool). not (b && step_sound i.head.shape i.arrays)) u))

  peek-tells : (i : Job) (k : ℕ) → Walked s words f k i → k < slices_of s words f
      → (l : ℕ) × (σ : List ℕ) × ((step i peek).answer ≡ shortest l) × Shortest 257 l (shortened (longest (ss words) - k / s.rows) (ss words)) σ
  peek-tells _ k (on a x) less =
      let n : ℕ = x.rounds in
      let l : ℕ = found a.synthesis in
      let whole : n ≡ k / s.rows =
      sym (ap (λ (m : ℕ). m / s.rows) (sym x.count) ∙ mul-add-div_right (shape-ranges s t).rows-least n x.steps
      ∙ ap (λ (m : ℕ). n + m) (div-eq_of_lt x.going.step) ∙ (let z : n + 0 ≡ n = omega arith in z)) in
      let (σ, least) = kept-shortest x.going.kept (omega (arith, x.going.round)) in (
        l,
        σ,
        peek_is s t x.going,
        subst (λ (m : ℕ). Shortest 257 l (shortened (longest (ss words) - m) (ss words)) σ) whole
            (subst (λ (w : List ℕ). Shortest 257 l (shortened (longest (ss w) - n) (ss w)) σ) x.declared least),
      )
  peek-tells _ k (over _ all u m) less = absurd (let z : ⊥ = omega arith in z)

-- ---- over every list of calls

-- for the shape that the job has
sliced : (a : Arrays) (before between : List Call) (words f : List ℕ) → Taken (after_calls a before (start words f))
    → Slicing (after_calls a before (start words f)).job between → Sliced a before between (run a before).head.shape words f
sliced a before between words f taken slicing =
    let j : Job = run a before in
    let x : Shape = j.head.shape in
    let p = start-passes j words f taken in
    let t = is-shape j words f p in
    let w = walked a before between words f p slicing in
    record {
      on = next-on x t words f _ (steps_in between) w;
      last = λ e.
          subst⁻¹ (SameAnswer (after_calls a (before ++ (start words f ∷ between)) next)) (by-sums-is j words f p)
          (next_last x t words f _ (steps_in between) w e j.arrays);
      over = λ e. next-over x t words f _ (steps_in between) w e (form_sound _ (run_form a (before ++ (start words f ∷ between))));
      peeked = peek-tells x t words f _ (steps_in between) w;
    }

slices : InSlices
slices a before between s words f last taken slicing =
    subst (λ (x : Shape). Sliced a before between x words f) (shape-held a before s last).1 (sliced a before between words f taken slicing)

module _ (a : Arrays) (before : List Call) (words f : List ℕ) where
  abbrev i : Job
  i = run a before

  start-at_once : slices_of i.head.shape words f ≡ 0 → SameOutcome (step i (start words f)) (by_sums i words f)
  unfolding step by_sums
  start-at_once none =
      related SameOutcome (refusing i f) (refusing i f) (λ k.
      record { answer = refl; marks = refl; tried = refl; frame = refl; job = alike_self i (run_form a before) }) _ _ (tests i words f) (tests i words f)
      (same_tests (tests i words f)) (λ p. ends-at_once i words f p (no-symbols i words f p none))

  start-goes-on : 0 < slices_of i.head.shape words f → Taken (step i (start words f)) → (step i (start words f)).answer ≡ unfinished
  start-goes-on left taken = pick (dec_lt 0 (N i words f))
    where
      p : Pass (tests i words f)
      p = start-passes i words f taken

      pick : Dec (0 < N i words f) → (step i (start words f)).answer ≡ unfinished
      pick (yes long) = ap (λ (o : Outcome). o.answer) (start-on i words f p long)
      pick (no none) = absurd (let z : ⊥ = omega (arith, no_steps i words f p (omega arith)) in z)

starts : StartGoesOn
starts a before s words f last =
    subst (λ (x : Shape). Started a before x words f) (shape-held a before s last).1
    (record { at_once = start-at_once a before words f; on = start-goes-on a before words f })

early : StartEarly
early a before words f k =
    by_call j (start words f) (λ (o : Outcome). step j (start words f) ≡ o → o.answer ≡ refused k → late k ≡ false)
    (λ m among same e. ap late (sym (same_number e)) ∙ early-number j (start words f) m among)
    (λ m p among same e. absurd (start-taken j words f p (k, ap (λ (o : Outcome). o.answer) same ∙ e)))
    (λ p q same e. absurd (start-taken j words f p (k, ap (λ (o : Outcome). o.answer) same ∙ e))) refl
  where
    j : Job
    j = run a before

-- ---- a frame that was damaged

damage : DamageMendedInSlices
damage a before between after s words f g last legal w twice slicing all kept =
    record { started = started_so; located = ended; mended = mends.0; frame = mends.1 }
  where
    j : Job
    j = run a before

    t : is_shape s ≡ true
    t = shaped_so a before s last

    found_so : Locates s (declared_by words) f
    found_so = damaged-locates s t words f g legal w twice

    started_so : Taken (step j (start words f))
    started_so =
        let (not-empty, same) = shape-held a before s last in
        let D : Declared = declared_by words in
        let read = subst⁻¹ (λ (x : Shape). Pass (read_tests x D f)) same (well_formed_read s D f w) in
        start-taken j words f (not-empty, read)

    -- the last step answers what a locate by the check sums would have
    answer : (c : ℕ) × ((step (run a (before ++ (start words f ∷ between))) next).answer ≡ columns c)
    answer =
        let (not-empty, same) = shape-held a before s last in (
          size_of (read_sequences j.head.shape (declared_by words) f),
          ((slices a before between s words f last started_so slicing).last all).answer
              ∙ ap (λ (o : Outcome). o.answer)
              (sums-take j words f not-empty (subst⁻¹ (λ (x : Shape). Locates x (declared_by words) f) same found_so)),
        )

    ended : Taken (step (run a (before ++ (start words f ∷ between))) next)
    ended (k, e) = never-columns (sym answer.1 ∙ e)

    calls : List Call
    calls = start words f ∷ (between ++ (next ∷ []))

    last-job : run a (before ++ calls) ≡ (step (run a (before ++ (start words f ∷ between))) next).job
    last-job = run_then a (before ++ (start words f ∷ between)) next (append_assoc before (start words f ∷ between) (next ∷ []))

    mends : Taken (after_calls a (before ++ (start words f ∷ (between ++ (next ∷ after)))) (repair f))
        × ((after_calls a (before ++ (start words f ∷ (between ++ (next ∷ after)))) (repair f)).frame ≡ g)
    mends =
        let (c, e) = answer in
        let by = in_slices a before words f between c started_so slicing e in
        let (b, same) = still-located a before calls s words f last by after (subst⁻¹ (λ (i : Job). Between i after) last-job kept) in
        damaged-mended s t words f g legal w twice _ b
        (ap (λ (l : List Call). run a (before ++ (start words f ∷ l))) (sym (append_assoc between (next ∷ []) after)) ∙ same)

pub locates_in_slices : LocatesInSlices
locates_in_slices = record {
  slices = slices;
  start-goes-on = starts;
  by-sums = by-sums;
  by-sums-finds = by-sums-finds;
  start-early = early;
  damage-mended = damage;
}
