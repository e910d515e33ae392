-- The line of a record of a frame, by what the calls on a job return; a located frame has 64 marked columns at most.
use mathlib.Core.Path.{◌≡◌, refl, sym, ap, ◌∙◌, subst, subst⁻¹}
use mathlib.Core.Bool.{true}
use mathlib.Core.List.{List}
use Prim.Native.Nat.{ℕ, ◌≤◌, ◌<◌}
use native.Mathlib.Omega.{arith}
use lib.ListN.{length}
use Rattle.columns.specs.Columns.{number as bits, has, columns_of, members}
use Rattle.columns.specs.Listed.{listed}
use Rattle.frame.specs.DeclaredCells.{Declared, declared_by, as_read}
use Rattle.frame.specs.Frame.{held_sums}
use Rattle.frame.specs.Shape.{is_shape}
use Rattle.frame.specs.declared.Shape.{Shape}
use Rattle.frame.proofs.HeldSums.{held-sequences}
use Rattle.frame.proofs.Declarable.{read-passes}
use Rattle.frame.proofs.Shapes.{shape-ranges}
use Rattle.decoding.specs.Locating.{size_of}
use Rattle.decoding.specs.Remaining.{all_remaining, read_sequences, left_reach}
use Rattle.decoding.proofs.SoleNearest.{left-reach}
use Rattle.std.specs.Prelude.{Result, Ok, Err}
use Rattle.job.specs.Answers.{reply_answer, shape_outcome, answered_outcome}
use Rattle.job.specs.Calls as Calls
use Rattle.job.specs.Calls.{Answer, Outcome, locates, step, shape, locate}
use Rattle.job.specs.Job.{Arrays, Job, beside, empty_head, no_arrays, no_columns}
use Rattle.job.specs.NothingDeclared.{no_words}
use Rattle.job.specs.declared.Answered.{Answered}
use Rattle.job.specs.declared.Head.{Head}
use Rattle.job.specs.declared.Progress.{Progress}
use Rattle.job.specs.declared.Progress.TheVariants.{Columns, Unfinished}
use Rattle.job.proofs.Cases.{by_call}
use Rattle.job.proofs.Emptiness.{has-shape}
use Rattle.job.proofs.Forms.{Locates, register-passes}
use Rattle.job.proofs.Soundness.{marked-number}
use Rattle.refusal.specs.Number.{number}
use Rattle.refusal.specs.declared.Refusal.{Refusal}
use Rattle.text.specs.Answered.{column_count}
use Rattle.text.specs.Line.{refusal_line, columns_line}
use Rattle.record.specs.Line.{frame_line, output_of}
use Rattle.record.specs.Record.{frame}

-- ---- how many columns are marked

abbrev counted : Answer → ℕ
counted Calls.done = 0
counted (Calls.columns c) = c
counted Calls.unfinished = 0
counted (Calls.shortest l) = 0
counted (Calls.refused k) = 0

abbrev Few : Outcome → Type 0
Few o = (counted o.answer ≤ 64) × (length (members o.marks) ≤ 64)

none-marked : length (members no_columns) ≡ 0
unfolding no_columns columns_of bits has listed
none-marked = refl

few-located : (j : Job) (words f : List ℕ) → Few (step j (locate words f))
few-located j words f =
    let none = none-marked in
    by_call j (locate words f) Few (λ k a. (omega arith, omega arith)) (λ k p a. (omega arith, omega arith)) (λ (e, p) q.
    let s = j.head.shape in
    let D = declared_by words in
    let t : is_shape s ≡ true = has-shape j.head e in
    let l : Locates s D f = register-passes s D f _ q (read-passes s D f p) in
    let few : size_of (read_sequences s D f) ≤ 64 = at_most s D (size_of (read_sequences s D f)) t l.reach in
    subst⁻¹ (λ S. Few (locates s j.arrays words (all_remaining s D S) (held_sums s (as_read s D f)) f)) (held-sequences s (as_read s D f))
    (few, omega (arith, marked-number s D f t l)))
  where
    at_most : (s : Shape) (D : Declared) (c : ℕ) → is_shape s ≡ true → left_reach s D c ≡ true → c ≤ 64
    at_most s D c t r =
        let ranges = shape-ranges s t in
        let first : 0 < s.rows = omega (arith, ranges.rows-least) in
        omega (arith, left-reach s D c r 0 first, (ranges.checks 0 first).most)

reply-count : (r : Result Progress Refusal) → counted (reply_answer r) ≡ column_count r
reply-count (Ok (Columns c)) = refl
reply-count (Ok Unfinished) = refl
reply-count (Err k) = refl

pub few-marks : (j : Job) (b : Arrays) (words f : List ℕ) (a : Answered) → answered_outcome a b f ≡ step j (locate words f)
    → (column_count a.reply ≤ 64) × (length (members a.columns) ≤ 64)
few-marks j b words f a e =
    let few : Few (answered_outcome a b f) = subst Few (sym e) (few-located j words f) in
    (omega (arith, few.0, reply-count a.reply), few.1)

-- ---- the line, by what is returned

module _ (n : ℕ) (checks symbols : List ℕ) (h : Head) (start : h ≡ empty_head) (shaped : Result Head Refusal)
    (given : (a : Arrays) → shape_outcome (beside h a) shaped ≡ step (beside h a) (shape n checks 1)) where
  -- beside zeros
  abbrev after : Result Head Refusal → Outcome
  after = shape_outcome (beside h no_arrays)

  abbrev line : Outcome → List ℕ
  line o = frame_line o.answer o (step o.job (locate no_words symbols))

  by-outcome : line (after shaped) ≡ output_of (frame n checks symbols)
  unfolding output_of
  by-outcome =
      ap line (given no_arrays ∙ ap (λ (i : Head). step (beside i no_arrays) (shape n checks 1)) start)

  pub frame_refused : (k : Refusal) → shaped ≡ Err k → refusal_line (number k) ≡ output_of (frame n checks symbols)
  unfolding frame_line
  frame_refused k e = ap (λ (r : Result Head Refusal). line (after r)) (sym e) ∙ by-outcome

  pub frame-located : (a : Answered) (b : Arrays) (head : Head) → shaped ≡ Ok head
      → answered_outcome a b symbols ≡ step (beside head no_arrays) (locate no_words symbols)
      → columns_line (reply_answer a.reply) a.columns ≡ output_of (frame n checks symbols)
  unfolding frame_line
  frame-located a b head e l =
      ap (λ (o : Outcome). columns_line o.answer o.marks) l ∙ ap (λ (r : Result Head Refusal). line (after r)) (sym e) ∙ by-outcome
