-- What start, next and peek give after each of their tests.
use mathlib.Core.Path.{◌≡◌, refl, sym, ap, ◌∙◌}
use mathlib.Core.Bool.{true, false, and-eq-true_iff}
use mathlib.Core.List.{List, []}
use Prim.Native.Nat.{ℕ}
use Rattle.std.specs.Prelude.{Ok, Err}
use Rattle.decoding.specs.Remaining.{all_remaining}
use Rattle.frame.specs.DeclaredCells.{declared_by, as_read, read_tests}
use Rattle.frame.specs.Frame.{held_sums, held_sequences}
use Rattle.job.specs.Answers.{answered_outcome, peek_outcome}
use Rattle.job.specs.Calls.{Outcome, start, next, peek, step, refusing, stepped}
use Rattle.job.specs.Job.{Arrays, Job, beside, is_empty, is_unfinished, is_unfinished_phase, step_sound}
use Rattle.job.specs.declared.Answered.{Answered}
use Rattle.job.specs.declared.Head.{Head}
use Rattle.refusal.specs.Outcome.{passed, refused, outcome}
use Rattle.refusal.specs.declared.Refusal.TheVariants.{Empty, NotUnfinished}
use Rattle.refusal.proofs.Outcomes.{given-passed, given-refused}
use Rattle.searching.specs.Arriving.{all_arrays, arriving}
use Rattle.slices.specs.Synthesis.{Synthesis, begun, found}

-- ---- start

module _ (j : Job) (words f : List ℕ) where
  pub start-empty : is_empty j ≡ true → refusing j f 21 ≡ step j (start words f)
  unfolding step
  start-empty e = rw e refl

  pub start-refused : is_empty j ≡ false → (k : ℕ) → outcome (read_tests j.head.shape (declared_by words) f) ≡ refused k
      → refusing j f k ≡ step j (start words f)
  unfolding step
  start-refused full k e = rw full (sym (given-refused (refusing j f) _ (read_tests j.head.shape (declared_by words) f) k e))

-- from the sums of the frame
pub start-goes-on : (h : Head) (sums taps held : List ℕ) (x : Synthesis) (words f : List ℕ) {new : List ℕ}
    → is_empty (beside h (all_arrays sums taps held x)) ≡ false → outcome (read_tests h.shape (declared_by words) f) ≡ passed
    → new ≡ held_sums h.shape (as_read h.shape (declared_by words) f)
    → arriving h.shape (all_arrays new taps words (begun (all_remaining h.shape (declared_by words) (held_sequences h.shape new)) x)) f
    ≡ step (beside h (all_arrays sums taps held x)) (start words f)
unfolding step
start-goes-on h sums taps held x words f full passes e =
    ap (λ (l : List ℕ). arriving h.shape (all_arrays l taps words (begun (all_remaining h.shape (declared_by words) (held_sequences h.shape l)) x)) f) e
    ∙ rw full (sym (given-passed (refusing (beside h (all_arrays sums taps held x)) f) _ (read_tests h.shape (declared_by words) f) passes))

-- ---- next and peek

pub unfinished-sound : (h : Head) (a : Arrays) → is_unfinished (beside h a) ≡ true → step_sound h.shape a ≡ true
unfinished-sound h a e = ((and-eq-true_iff (is_unfinished_phase h.phase) (step_sound h.shape a)).0 e).1

module _ (j : Job) where
  pub next-empty : is_empty j ≡ true → refusing j [] 21 ≡ step j next
  unfolding step
  next-empty e = rw e refl

  pub peek-empty : is_empty j ≡ true → peek_outcome j (Err Empty) ≡ step j peek
  unfolding step
  peek-empty e = rw e refl

  module _ (full : is_empty j ≡ false) where
    pub next-other : is_unfinished j ≡ false → refusing j [] 33 ≡ step j next
    unfolding step
    next-other e = rw (full, e) refl

    pub next-goes-on : is_unfinished j ≡ true → arriving j.head.shape (stepped j.head.shape j.arrays) [] ≡ step j next
    unfolding step
    next-goes-on e = rw (full, e) refl

    pub peek-other : is_unfinished j ≡ false → peek_outcome j (Err NotUnfinished) ≡ step j peek
    unfolding step
    peek-other e = rw (full, e) refl

    pub peek-gives : is_unfinished j ≡ true → (l : ℕ) → l ≡ found j.arrays.synthesis → peek_outcome j (Ok l) ≡ step j peek
    unfolding step
    peek-gives e l is = rw (full, e, is) refl

-- ---- what is kept of a search by another name

pub with_kept : (r : Answered) (sums taps declared f : List ℕ) (x y : Synthesis) (o : Outcome) → x ≡ y
    → answered_outcome r (all_arrays sums taps declared y) f ≡ o → answered_outcome r (all_arrays sums taps declared x) f ≡ o
with_kept r sums taps declared f x y o e p = ap (λ (z : Synthesis). answered_outcome r (all_arrays sums taps declared z) f) e ∙ p
