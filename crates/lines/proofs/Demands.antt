-- Records and lines as they are owed: the line of a record is that of the first refusal of its whole order, and where there is none it shows what the call
-- answered.
use mathlib.Core.Path.{◌≡◌, refl, sym, ap, subst, subst⁻¹, ◌∙◌}
use mathlib.Core.Logic.{◌⊎◌, inl, inr}
use mathlib.Core.Bool.{Bool, true, false≢true}
use mathlib.Core.List.{List, [], ◌∷◌, ◌++◌}
use Prim.Native.Nat.{ℕ, ◌^◌, ◌<◌}
use native.Mathlib.Omega.{arith}
use lib.ListN.{length, replicate, length-replicate}
use Rattle.finder.specs.Demands as Finder
use Rattle.finder.specs.Finder.{Answer, register, refused, answer}
use Rattle.sequences.specs.Tests.{tests}
use Rattle.finder.proofs.Demands as Finder-as-Demands
use Rattle.finder.proofs.Demands.{first-left}
use Rattle.finder.proofs.Reasons.{finder_says}
use Rattle.text.specs.Line.{refusal_line, register_line, columns_line}
use Rattle.record.specs.Line.{frame_line, output_of, line_of}
use Rattle.record.specs.Record.{bad, record_of, sequences, frame}
use Rattle.record.proofs.Parsing.{bad-line}
use Rattle.reader.specs.Fields.{field_of}
use Rattle.frame.specs.DeclaredCells.{Declared, declared_by, as_read, read_tests, read_reasons}
use Rattle.frame.specs.Demands.{shape_reasons}
use Rattle.frame.specs.Frame.{held_sums, held_sequences}
use Rattle.frame.specs.Shape.{is_shape, shape_of, shape_tests}
use Rattle.frame.specs.declared.Shape.{Shape}
use Rattle.frame.proofs.Declarable.{read-says}
use Rattle.frame.proofs.Reasons.{shape-says, shape-passes}
use Rattle.job.specs.Calls as Calls
use Rattle.job.specs.Calls.{Outcome, shape, locate, step, shapes, mends_uniform, register_tests}
use Rattle.job.specs.Job.{Job, empty_job, shaped_job, no_arrays, head_sound, phase_sound}
use Rattle.job.specs.NothingDeclared.{no_words}
use Rattle.job.specs.Refusals.{empty_reason, register_reasons}
use Rattle.job.proofs.Cases.{by_call}
use Rattle.job.proofs.Reasons.{locate-says}
use Rattle.job.proofs.Refusals as Refusals
use Rattle.refusal.proofs.Orders.{by_tests, pass-none_in_turn, pass-none}
use Rattle.refusal.specs.Order.{Reason, First, None}
use Rattle.register.specs.Algorithm4.{found, found_alone}
use Rattle.register.specs.EachRound.{IsShortest}
use Rattle.register.specs.Sequences.{longest, split}
use Rattle.lines.specs.Demands.{kind_of, OfOneRecord, UnknownKind, bad_reason, Line, IsLine, Records}
use Rattle.lines.specs.Demands.{lengths_of, sequence_symbols, register_reasons_of, ShowsRegister}
use Rattle.lines.specs.Demands.{check_counts_of, frame_symbols, frame_reasons_of, ShowsColumns}
use Rattle.refusal.proofs.Firsts.{first-same, first_or_none, first-before, first-after, none-append, Below, below-append, first_below}
use Rattle.lines.proofs.Newlines.{line-is-one, refusal-is-one}
use Rattle.text.proofs.Numbers.{tells-number, other_letter}
use Rattle.lines.proofs.Parsed.{Told, told, sequences-not-bad, frame-not-bad, bad_exactly}

-- ---- a line by its reasons

-- the line is that of the first reason that holds, or none holds and it is shown what is to be shown
abbrev Either : (reasons : List Reason) (text : List ℕ) (Shown : Type 0) → Type 0
Either reasons text Shown = ((m : ℕ) × First m reasons × (text ≡ refusal_line m)) ⊎ (None reasons × Shown)

module _ (reasons : List Reason) (text : List ℕ) (Shown : Type 0) (below : Below (10 ^ 20) reasons)
    (differs : Shown → (k : ℕ) → text ≡ refusal_line k → ⊥) where
  number-said : (k : ℕ) → k < 10 ^ 20 → Either reasons text Shown → text ≡ refusal_line k → First k reasons
  number-said k small (inl (m, f, t)) e =
      subst (λ (n : ℕ). First n reasons) (tells-number m k (first_below (10 ^ 20) reasons m below f) small (sym t ∙ e)) f
  number-said k small (inr (n, s)) e = absurd (differs s k e)

  first-written : (k : ℕ) → Either reasons text Shown → First k reasons → text ≡ refusal_line k
  first-written k (inl (m, f, t)) g = t ∙ ap refusal_line (first-same reasons m k f g)
  first-written k (inr (n, s)) g = absurd (first_or_none reasons k g n)

  otherwise-shown : Either reasons text Shown → None reasons → Shown
  otherwise-shown (inl (m, f, t)) n = absurd (first_or_none reasons m f n)
  otherwise-shown (inr (n, s)) m = s

  line_owed : Either reasons text Shown → Line reasons text Shown
  line_owed e = record { refused = λ k small. (number-said k small e, first-written k e); shown = otherwise-shown e }

after-reasons : (rs qs : List Reason) (text : List ℕ) (Shown : Type 0) → None rs → Either qs text Shown → Either (rs ++ qs) text Shown
after-reasons rs qs text Shown n (inl (m, f, t)) = inl (m, first-after rs qs m n f, t)
after-reasons rs qs text Shown n (inr (l, s)) = inr (none-append rs qs n l, s)

one_of_either : (rs : List Reason) (text : List ℕ) (Shown : Type 0) → (Shown → IsLine text) → Either rs text Shown → IsLine text
one_of_either rs text Shown shows (inl (m, f, t)) = subst⁻¹ IsLine t (refusal-is-one m)
one_of_either rs text Shown shows (inr (n, s)) = shows s

bad-said : (r : List ℕ) → record_of r ≡ bad → line_of r ≡ refusal_line 9
unfolding line_of
bad-said r e = sym (bad-line (record_of r) e)

-- ---- kind 1

module _ (p : ℕ) (lengths symbols text : List ℕ) (output : text ≡ output_of (sequences p lengths symbols)) where
  abbrev ss : List (List ℕ)
  ss = split lengths symbols

  abbrev size : ℕ
  size = (found p ss (longest ss)).size

  abbrev alone : Bool
  alone = found_alone p ss (longest ss)

  abbrev taps : List ℕ
  taps = (found p ss (longest ss)).taps

  by_answer : (a : Answer) → answer p lengths symbols 129 ≡ a → text ≡ register_line a taps
  unfolding output_of
  by_answer a e = output ∙ ap (λ (x : Answer). register_line x taps) e

  refusal-shown : (k : ℕ) → answer p lengths symbols 129 ≡ refused k → text ≡ refusal_line k
  unfolding register_line
  refusal-shown k e = by_answer (refused k) e

  register-shown : answer p lengths symbols 129 ≡ register size alone → ShowsRegister p lengths symbols text
  unfolding register_line
  register-shown e =
      let room : (buffer : List ℕ) → length buffer ≡ 129 → answer p lengths symbols (length buffer) ≡ register size alone =
      λ buffer w. ap (answer p lengths symbols) w ∙ e in
      let zeros : List ℕ = replicate 129 0 in
      let w : length zeros ≡ 129 = length-replicate {A = ℕ} 129 0 in
      record {
        size = size;
        alone = alone;
        taps = taps;
        written = by_answer (register size alone) e;
        answered = e;
        left = λ buffer w. first-left p lengths symbols buffer size alone (room buffer w);
        shortest =
            subst (λ (σ : List ℕ). IsShortest p size ss σ alone) (first-left p lengths symbols zeros size alone (room zeros w))
            (Finder-as-Demands.demand_2 p lengths symbols zeros size alone (room zeros w)).found;
      }

  abbrev why : List Reason
  why = Finder.reasons p lengths symbols 129

  found-either : Either why text (ShowsRegister p lengths symbols text)
  unfolding answer
  found-either =
      by_tests refused (register size alone) (λ a. answer p lengths symbols 129 ≡ a → Either why text (ShowsRegister p lengths symbols text))
      (tests p lengths symbols 129) (λ k _ e. inl (k, (Finder-as-Demands.demand_1).refusal p lengths symbols 129 k e, refusal-shown k e))
      (λ pass e. inr (pass-none (tests p lengths symbols 129) why (finder_says p lengths symbols 129) pass, register-shown e)) refl

-- ---- kind 2

module _ (n : ℕ) (checks f text : List ℕ) (output : text ≡ output_of (frame n checks f)) where
  abbrev start : Job
  start = empty_job no_arrays

  abbrev s : Shape
  s = shape_of n checks 1

  abbrev j : Job
  j = shaped_job s no_arrays

  abbrev D : Declared
  D = declared_by no_words

  abbrev why_locate : List Reason
  why_locate = read_reasons s D f ++ register_reasons s D f

  by-outcome : (o : Outcome) → step start (shape n checks 1) ≡ o → text ≡ frame_line o.answer o (step o.job (locate no_words f))
  unfolding output_of
  by-outcome o e = output ∙ ap (λ (x : Outcome). frame_line x.answer x (step x.job (locate no_words f))) e

  shape-refused : (k : ℕ) (i : Job) → step start (shape n checks 1) ≡ Calls.refusing i [] k → text ≡ refusal_line k
  unfolding frame_line
  shape-refused k i e = by-outcome (Calls.refusing i [] k) e

  -- the job has its shape
  module _ (given : step start (shape n checks 1) ≡ shapes no_arrays n checks 1) (t : is_shape s ≡ true) where
    by-located : (o : Outcome) → step j (locate no_words f) ≡ o → text ≡ columns_line o.answer o.marks
    unfolding frame_line
    by-located o e = by-outcome (shapes no_arrays n checks 1) given ∙ ap (λ (x : Outcome). columns_line x.answer x.marks) e

    locate-refused : (k : ℕ) (i : Job) → step j (locate no_words f) ≡ Calls.refusing i f k → text ≡ refusal_line k
    unfolding columns_line
    locate-refused k i e = by-located (Calls.refusing i f k) e

    not-empty : (empty_reason j).holds → ⊥
    unfolding head_sound phase_sound
    not-empty (inl e) = let z : ◌≡◌ {A = ℕ} 0 1 = cc in omega arith
    not-empty (inr e) = false≢true (sym e ∙ t)

    first_of : (k : ℕ) → (step j (locate no_words f)).answer ≡ Calls.refused k → First k why_locate
    first_of k e = past (((Refusals.demand_1).exact j (locate no_words f) k).0 e)
      where
        past : First k (empty_reason j ∷ why_locate) → First k why_locate
        past (inl (h, d)) = absurd (not-empty h)
        past (inr (l, g)) = g

    columns-shown : (o : Outcome) (c : ℕ) → step j (locate no_words f) ≡ o → o.answer ≡ Calls.columns c → ShowsColumns n checks f text
    unfolding columns_line
    columns-shown o c e a =
        record {
          count = c;
          shaped = step start (shape n checks 1);
          located = o;
          written = by-located o e ∙ ap (λ (x : Calls.Answer). columns_line x o.marks) a;
          shape-done = (refl, ap (λ (x : Outcome). x.answer) given);
          answered = (sym e ∙ ap (λ (x : Outcome). step x.job (locate no_words f)) (sym given), a);
        }

    located-either : Either why_locate text (ShowsColumns n checks f text)
    located-either =
        by_call j (locate no_words f) (λ o. step j (locate no_words f) ≡ o → Either why_locate text (ShowsColumns n checks f text))
        (λ k _ e. inl (k, first_of k (ap (λ (o : Outcome). o.answer) e), locate-refused k j e))
        (λ k _ _ e. inl (k, first_of k (ap (λ (o : Outcome). o.answer) e), locate-refused k (Calls.reshaped j) e))
        (λ kept passed e. inr (
          none-append (read_reasons s D f) (register_reasons s D f) (pass-none (read_tests s D f) (read_reasons s D f) (read-says s D f) kept.1)
              (pass-none_in_turn (register_tests s D (held_sequences s (held_sums s (as_read s D f))) (mends_uniform s D f)) (register_reasons s D f)
              (locate-says j no_words f kept) passed),
          columns-shown _ _ e refl,
        ))
        refl

  frame-either : Either (shape_reasons n checks 1 ++ why_locate) text (ShowsColumns n checks f text)
  frame-either =
      by_call start (shape n checks 1)
      (λ o. step start (shape n checks 1) ≡ o → Either (shape_reasons n checks 1 ++ why_locate) text (ShowsColumns n checks f text))
      (λ k _ e. inl (
        k,
        first-before (shape_reasons n checks 1) why_locate k (((Refusals.demand_1).exact start (shape n checks 1) k).0 (ap (λ (o : Outcome). o.answer) e)),
        shape-refused k start e,
      ))
      (λ k _ a e. absurd a)
      (λ kept _ e. after-reasons (shape_reasons n checks 1) why_locate text _
      (pass-none (shape_tests n checks 1) (shape_reasons n checks 1) (shape-says n checks 1) kept)
      (located-either e (shape-passes n checks 1 kept)))
      refl

-- ---- records by their kind

module _ (r : List ℕ) (one : OfOneRecord r) where
  not-both : kind_of r ≡ 1 → kind_of r ≡ 2 → ⊥
  not-both e d = omega arith

  registers-either : kind_of r ≡ 1 → Told r
      → Either (register_reasons_of r) (line_of r) (ShowsRegister (field_of r 2) (lengths_of r) (sequence_symbols r) (line_of r))
  unfolding line_of
  registers-either kind (inl (b, e)) = inl (9, inl (b, refl), bad-said r e)
  registers-either kind (inr (inl g)) =
      after-reasons (bad_reason r ∷ []) (Finder.reasons (field_of r 2) (lengths_of r) (sequence_symbols r) 129) (line_of r) _ (sequences-not-bad r g, tt)
      (found-either (field_of r 2) (lengths_of r) (sequence_symbols r) (line_of r) (ap output_of g.says))
  registers-either kind (inr (inr g)) = absurd (not-both kind g.kind)

  registers : kind_of r ≡ 1 → Line (register_reasons_of r) (line_of r) (ShowsRegister (field_of r 2) (lengths_of r) (sequence_symbols r) (line_of r))
  registers kind =
      line_owed (register_reasons_of r) (line_of r) _ (omega arith, (omega arith, (omega arith, (omega arith, (omega arith, (omega arith, tt))))))
      (λ s k e. other_letter 82 _ k (λ d. let z : ⊥ = omega arith in z) (sym s.written ∙ e)) (registers-either kind (told r one))

  abbrev after_bad : List Reason
  after_bad =
      shape_reasons (field_of r 3) (check_counts_of r) 1 ++
      (read_reasons (shape_of (field_of r 3) (check_counts_of r) 1) (declared_by no_words) (frame_symbols r) ++
      register_reasons (shape_of (field_of r 3) (check_counts_of r) 1) (declared_by no_words) (frame_symbols r))

  frames-either : kind_of r ≡ 2 → Told r
      → Either (frame_reasons_of r) (line_of r) (ShowsColumns (field_of r 3) (check_counts_of r) (frame_symbols r) (line_of r))
  unfolding line_of
  frames-either kind (inl (b, e)) = inl (9, inl (b, refl), bad-said r e)
  frames-either kind (inr (inl g)) = absurd (not-both g.kind kind)
  frames-either kind (inr (inr g)) =
      after-reasons (bad_reason r ∷ []) after_bad (line_of r) _ (frame-not-bad r g, tt)
      (frame-either (field_of r 3) (check_counts_of r) (frame_symbols r) (line_of r) (ap output_of g.says))

  frames : kind_of r ≡ 2 → Line (frame_reasons_of r) (line_of r) (ShowsColumns (field_of r 3) (check_counts_of r) (frame_symbols r) (line_of r))
  frames kind =
      let s : Shape = shape_of (field_of r 3) (check_counts_of r) 1 in
      let D : Declared = declared_by no_words in
      let f : List ℕ = frame_symbols r in
      line_owed (frame_reasons_of r) (line_of r) _ (
        omega arith,
        below-append _ (shape_reasons (field_of r 3) (check_counts_of r) 1) (read_reasons s D f ++ register_reasons s D f)
            (omega arith, (omega arith, (omega arith, (omega arith, tt))))
            (below-append _ (read_reasons s D f) (register_reasons s D f) (omega arith, (omega arith, (omega arith, tt)))
            (omega arith, (omega arith, (omega arith, tt)))),
      )
      (λ s k e. other_letter 70 _ k (λ d. let z : ⊥ = omega arith in z) (sym s.written ∙ e)) (frames-either kind (told r one))

  one_line : IsLine (line_of r)
  unfolding line_of
  one_line = pick (told r one)
    where
      pick : Told r → IsLine (line_of r)
      pick (inl (b, e)) = subst⁻¹ IsLine (bad-said r e) (refusal-is-one 9)
      pick (inr (inl g)) =
          one_of_either (Finder.reasons (field_of r 2) (lengths_of r) (sequence_symbols r) 129) (line_of r) (ShowsRegister _ _ _ (line_of r))
          (λ s. subst⁻¹ IsLine s.written (line-is-one 82 _ (λ e. let z : ⊥ = omega arith in z)))
          (found-either (field_of r 2) (lengths_of r) (sequence_symbols r) (line_of r) (ap output_of g.says))
      pick (inr (inr g)) =
          one_of_either after_bad (line_of r) (ShowsColumns _ _ _ (line_of r))
          (λ s. subst⁻¹ IsLine s.written (line-is-one 70 _ (λ e. let z : ⊥ = omega arith in z)))
          (frame-either (field_of r 3) (check_counts_of r) (frame_symbols r) (line_of r) (ap output_of g.says))

  unknown : UnknownKind r → line_of r ≡ refusal_line 9
  unknown u = bad-said r ((bad_exactly r one).1 (inr (inr (inl u))))

pub records : Records
records = record { one_line = one_line; bad_exactly = bad_exactly; unknown = unknown; registers = registers; frames = frames }
