-- What an array holds that the phase does not speak for plays no part in any answer.
use mathlib.Core.Path.{◌≡◌, refl, sym, ap, ap₂, subst, subst⁻¹}
use mathlib.Core.Bool.{Bool, true, false, cond, not, ◌&&◌, ◌||◌, and-eq-true_iff, false≢true}
use mathlib.Core.List.{List, [], ◌∷◌, ◌++◌}
use Prim.Native.Nat.{ℕ, ◌≤◌}
use lib.ListN.{get_or}
use Rattle.decoding.specs.Remaining.{all_remaining, mended}
use Rattle.frame.specs.DeclaredCells.{Declared, declared_by, as_read, reread_tests}
use Rattle.frame.specs.Frame.{held_sums, held_sequences}
use Rattle.frame.specs.Shape.{is_shape, shape_of, shape_tests}
use Rattle.frame.specs.declared.Shape.{Shape}
use Rattle.frame.proofs.HeldSums.{held-sequences}
use Rattle.frame.proofs.Shapes.{shape-ranges}
use Rattle.refusal.specs.Order.{Test, first_of}
use Rattle.refusal.proofs.Orders.{Pass, no_fail}
use Rattle.register.specs.Sequences.{longest}
use Rattle.slices.specs.Same.{SameSynthesis}
use Rattle.slices.specs.Synthesis.{Synthesis, synthesis, size, ended, last_step_of, synthesis_sound}
use Rattle.slices.proofs.SameSearch.{same-advanced, same-begun}
use Rattle.slices.proofs.SameTest.{over, by_over, same-sound}
use Rattle.job.specs.Calls.{Call, shape, encode, locate, repair, start, next, peek, unfinished, shortest, Outcome, Described, refusing, describe, step}
use Rattle.job.specs.Calls.{not_located_test, not_unfinished_test, sums_test, mends_uniform, by_register_gives, held_taps, arrives_tests, arrives, started, stepped}
use Rattle.job.specs.Demands.{SameFound, SameStarted, Alike, SameOutcome, ArraysPlayNoPart}
use Rattle.job.specs.Job.{Arrays, Job, beside, with_read, no_arrays, no_columns, is_located_phase, is_unfinished_phase, length_of}
use Rattle.job.specs.Job.{declared_sound, end_sound, step_sound, is_empty, is_located, is_unfinished, shaped_job, unfinished_job}
use Rattle.job.specs.declared.Head.{Head}
use Rattle.job.proofs.Emptiness.{has-shape}
use Rattle.job.proofs.Going.{sliceable}

-- ---- two orders that are the same up to a test that fails

abbrev pub Agree : List Test → List Test → Type 0
Agree [] [] = Unit {0}
Agree [] (u ∷ us) = ⊥
Agree (t ∷ ts) [] = ⊥
Agree (t ∷ ts) (u ∷ us) = (t ≡ u) × (t.fails ≡ false → Agree ts us)

pub same_tests : (ts : List Test) → Agree ts ts
same_tests [] = tt
same_tests (t ∷ ts) = (refl, λ e. same_tests ts)

pub agree : (ts us : List Test) → ts ≡ us → Agree ts us
agree ts us e = subst (Agree ts) e (same_tests ts)

-- give what is related
module _ (R : Outcome → Outcome → Type 0) (p q : ℕ → Outcome) (refusals : (k : ℕ) → R (p k) (q k)) (x y : Outcome) where
  pub related : (ts us : List Test) → Agree ts us → (Pass ts → R x y) → R (first_of p ts x) (first_of q us y)
  related [] [] a r = r tt
  related [] (u ∷ us) a r = absurd a
  related (t ∷ ts) [] a r = absurd a
  related (t ∷ ts) (u ∷ us) (e, a) r =
      subst (λ (v : Test). R (first_of p (t ∷ ts) x) (first_of q (v ∷ us) y)) e
      (pick t.fails refl (λ f. related ts us (a f) (λ later. r (f, later))))
    where
      pick : (b : Bool) → t.fails ≡ b → (t.fails ≡ false → R (first_of p ts x) (first_of q us y)) → R (first_of p (t ∷ ts) x) (first_of q (t ∷ us) y)
      pick true f later = rw f (refusals t.number)
      pick false f later = rw f (later f)

-- ---- a locate in slices that has come to two arrays that hold the same of it

-- it is refused by the same tests, and gives the same
record Arriving (s : Shape) (f : List ℕ) (a b : Arrays) : Type 0 where
  tests : arrives_tests s a ≡ arrives_tests s b
  gives : SameOutcome (arrives s a f) (arrives s b f)

abbrev arrays : (sums taps declared : List ℕ) → Synthesis → Arrays
arrays sums taps declared x = record { sums = sums; taps = taps; declared = declared; synthesis = x }

module _ (s : Shape) (f : List ℕ) where
  -- only symbols and what is saved differ of the search, and the taps of a register found before
  arrives-over : (sums taps old declared : List ℕ) (x : Synthesis) (symbols saved : List ℕ) → SameSynthesis x (over x symbols saved) →
      Arriving s f (arrays sums taps declared x) (arrays sums old declared (over x symbols saved))
  unfolding arrives_tests arrives
  arrives-over sums taps old declared x symbols saved same = record { tests = refl; gives = pick (ended x) }
    where
      gives : Bool → Arrays → Outcome
      gives e a =
          cond e (by_register_gives s a a.declared a.sums (size a.synthesis) (held_taps a.synthesis) f)
          (record { answer = unfinished; marks = no_columns; tried = 0; job = unfinished_job s a; frame = f })

      pick : (e : Bool) → SameOutcome (gives e (arrays sums taps declared x)) (gives e (arrays sums old declared (over x symbols saved)))
      pick true = record {
        answer = refl;
        marks = refl;
        tried = refl;
        frame = refl;
        job = record { head = refl; located = λ l. record { sums = refl; taps = refl; declared = refl }; unfinished = λ u. absurd (false≢true u) };
      }
      pick false = record {
        answer = refl;
        marks = refl;
        tried = refl;
        frame = refl;
        job = record { head = refl; located = λ l. absurd (false≢true l); unfinished = λ u. record { sums = refl; declared = refl; synthesis = same } };
      }

  arriving : (a b : Arrays) → SameStarted a b → Arriving s f a b
  arriving a b same =
      subst (Arriving s f a) (ap₂ (λ (sums declared : List ℕ). arrays sums b.taps declared b.synthesis) same.sums same.declared)
      (by_over (λ x y. Arriving s f (arrays a.sums a.taps a.declared x) (arrays a.sums b.taps a.declared y))
      (arrives-over a.sums a.taps b.taps a.declared) same.synthesis)

module _ (s : Shape) (words f : List ℕ) (sound : is_shape s ≡ true) where
  abbrev D : Declared
  D = declared_by words

  short : longest (all_remaining s D (held_sequences s (held_sums s (as_read s D f)))) ≤ 64
  short =
      subst⁻¹ (λ (S : List (List ℕ)). longest (all_remaining s D S) ≤ 64) (held-sequences s (as_read s D f))
      (sliceable s sound D f).short

  -- a start reads nothing of the arrays
  same-started : (a b : Arrays) → SameStarted (started s a words f) (started s b words f)
  same-started a b = record { sums = refl; declared = refl; synthesis = same-begun _ short a.synthesis b.synthesis }

module _ (s : Shape) (a b : Arrays) (same : SameStarted a b) (few : s.rows ≤ 8) where
  same-step-sound : step_sound s a ≡ step_sound s b
  unfolding step_sound end_sound
  same-step-sound =
      ap₂ ◌&&◌ (same-sound s.rows few same.synthesis)
      (ap₂ (λ (last end : Bool). not last || end)
      (ap (λ (counts : List ℕ). last_step_of s.rows (synthesis counts [] [] [] [] [] [] [] [])) same.synthesis.counts)
      (ap₂ (λ (sums declared : List ℕ). end_sound s (with_read no_arrays sums declared)) same.sums same.declared))

  same-stepped : step_sound s a ≡ true → SameStarted (stepped s a) (stepped s b)
  unfolding step_sound
  same-stepped e =
      record {
        sums = same.sums;
        declared = same.declared;
        synthesis = same-advanced s.rows few same.synthesis ((and-eq-true_iff (synthesis_sound s.rows a.synthesis) _).0 e).0;
      }

-- ---- calls on one head beside two arrays

-- calls that are lent the same, are refused by the same tests, and give the same where they are not refused early
record SameCall (d e : Described) : Type 0 where
  lent : d.lent ≡ e.lent
  keeping : Agree d.keeping e.keeping
  shaping : Pass d.keeping → Agree d.shaping e.shaping
  gives : Pass d.keeping → SameOutcome d.gives e.gives

pub shaped_alike : (s : Shape) (a b : Arrays) → Alike (shaped_job s a) (shaped_job s b)
shaped_alike s a b = record { head = refl; located = λ l. absurd (false≢true l); unfinished = λ u. absurd (false≢true u) }

-- a test of the phase and of what is held in it
same-held : (n : ℕ) (phase : Bool) {x y : Bool} → (phase ≡ true → x ≡ y) →
    ◌≡◌ {A = Test} (record { number = n; fails = not (phase && x) }) (record { number = n; fails = not (phase && y) })
same-held n true same = ap (λ (x : Bool). record { number = n; fails = not x }) (same refl)
same-held n false same = refl

module _ (h : Head) (a b : Arrays) (alike : Alike (beside h a) (beside h b)) where
  abbrev i : Job
  i = beside h a

  abbrev j : Job
  j = beside h b

  abbrev s : Shape
  s = h.shape

  -- what passed the tests
  is-shape : is_empty i ≡ false → is_shape s ≡ true
  is-shape e = has-shape h e

  few : is_empty i ≡ false → s.rows ≤ 8
  few e = (shape-ranges s (is-shape e)).rows-most

  found : not (is_located i) ≡ false → SameFound a b
  found l = alike.located ((and-eq-true_iff (is_located_phase h.phase) _).0 (no_fail (is_located i) l)).0

  going : not (is_unfinished i) ≡ false → SameStarted a b
  going u = alike.unfinished ((and-eq-true_iff (is_unfinished_phase h.phase) _).0 (no_fail (is_unfinished i) u)).0

  -- the tests
  same-located : not_located_test i ≡ not_located_test j
  same-located =
      same-held 22 (is_located_phase h.phase) (λ l. ap (λ (d : List ℕ). declared_sound s (declared_by d) (length_of h.phase)) (alike.located l).declared)

  same-unfinished : is_empty i ≡ false → not_unfinished_test i ≡ not_unfinished_test j
  same-unfinished e = same-held 33 (is_unfinished_phase h.phase) (λ u. same-step-sound s a b (alike.unfinished u) (few e))

  -- where a step comes to
  comes : Pass (describe i next).keeping → Arriving s [] (stepped s a) (stepped s b)
  comes (e, (u, p)) =
      arriving s [] _ _
      (same-stepped s a b (going u) (few e) ((and-eq-true_iff (is_unfinished_phase h.phase) (step_sound s a)).0 (no_fail (is_unfinished i) u)).1)

  starts : (words f : List ℕ) → is_empty i ≡ false → Arriving s f (started s a words f) (started s b words f)
  starts words f e = arriving s f _ _ (same-started s words f (is-shape e) a b)

  same-call : (c : Call) → SameCall (describe i c) (describe j c)
  same-call (shape n checks x) = record {
    lent = refl;
    keeping = same_tests (shape_tests n checks x);
    shaping = λ p. tt;
    gives = λ p. record { answer = refl; marks = refl; tried = refl; frame = refl; job = shaped_alike (shape_of n checks x) a b };
  }
  same-call (encode f) = record {
    lent = refl;
    keeping = same_tests (describe i (encode f)).keeping;
    shaping = λ p. tt;
    gives = λ p. record { answer = refl; marks = refl; tried = refl; frame = refl; job = alike };
  }
  same-call (locate words f) = record {
    lent = refl;
    keeping = same_tests (describe i (locate words f)).keeping;
    shaping = λ p. same_tests (describe i (locate words f)).shaping;
    gives = λ p. record {
      answer = refl;
      marks = refl;
      tried = refl;
      frame = refl;
      job = record { head = refl; located = λ l. record { sums = refl; taps = refl; declared = refl }; unfinished = λ u. absurd (false≢true u) };
    };
  }
  same-call (repair f) = record {
    lent = refl;
    keeping = (
      refl,
      λ e. (
        same-located,
        λ l. agree _ _ (ap₂ (λ (sums declared : List ℕ).
            reread_tests s (declared_by declared) f ++ (sums_test (beside h (with_read no_arrays sums declared)) f ∷ [])) (found l).sums (found l).declared),
      ),
    );
    shaping = λ (e, (l, p)).
        agree _ _ (ap (λ (declared : List ℕ). record { number = 26; fails = mends_uniform s (declared_by declared) f h.columns } ∷ []) (found l).declared);
    gives = λ (e, (l, p)). record {
      answer = refl;
      marks = refl;
      tried = refl;
      frame = ap (λ (declared : List ℕ). mended s (declared_by declared) h.columns f) (found l).declared;
      job = shaped_alike s a b;
    };
  }
  same-call (start words f) = record {
    lent = refl;
    keeping = same_tests (describe i (start words f)).keeping;
    shaping = λ (e, p). agree _ _ (starts words f e).tests;
    gives = λ (e, p). (starts words f e).gives;
  }
  same-call next = record {
    lent = refl;
    keeping = (refl, λ e. (same-unfinished e, λ u. tt));
    shaping = λ p. agree _ _ (comes p).tests;
    gives = λ p. (comes p).gives;
  }
  same-call peek = record {
    lent = refl;
    keeping = (refl, λ e. (same-unfinished e, λ u. tt));
    shaping = λ p. tt;
    gives = λ (e, (u, p)). record {
      answer = ap (λ (counts : List ℕ). shortest (get_or counts 3 0)) (going u).synthesis.counts;
      marks = refl;
      tried = refl;
      frame = refl;
      job = alike;
    };
  }

  refused-same : (i j : Job) → Alike i j → (f g : List ℕ) → f ≡ g → (k : ℕ) → SameOutcome (refusing i f k) (refusing j g k)
  refused-same i j l f g e k = record { answer = refl; marks = refl; tried = refl; frame = e; job = l }

  same_step : (c : Call) → SameOutcome (step i c) (step j c)
  unfolding step
  same_step c =
      let q : SameCall (describe i c) (describe j c) = same-call c in
      related SameOutcome _ _ (refused-same i j alike _ _ q.lent) _ _ (describe i c).keeping (describe j c).keeping q.keeping (λ p.
      related SameOutcome _ _ (refused-same _ _ (shaped_alike s (describe i c).beside (describe j c).beside) _ _ q.lent) _ _ (describe i c).shaping
      (describe j c).shaping (q.shaping p) (λ r. q.gives p))

pub play_no-part : ArraysPlayNoPart
play_no-part i j c alike =
    subst (λ (h : Head). Alike (beside h i.arrays) j → SameOutcome (step (beside h i.arrays) c) (step j c)) (sym alike.head)
    (λ l. same_step j.head i.arrays j.arrays l c) alike
