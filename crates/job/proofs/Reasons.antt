-- The tests of the calls on a job say their reasons: each fails exactly where its reason holds; those of the register in turn, where the tests before
-- them pass.
use mathlib.Core.Path.{◌≡◌, refl, sym, ap, subst, subst⁻¹, ◌∙◌}
use mathlib.Core.Logic.{◌⊎◌, inl, inr, ◌↔◌}
use mathlib.Core.Bool.{Bool, true, false, cond, not, ◌&&◌, ◌||◌, or-true, and-eq-true_iff, false≢true}
use mathlib.Core.List.{List, [], ◌∷◌}
use Prim.Native.Nat.{ℕ}
use native.Mathlib.Omega.{arith}
use lib.Dec.{leb}
use borrow.Author.Tests.{leb-false, eqb-true, eqb-false}
use Rattle.columns.proofs.Listing.{by-test}
use Rattle.decoding.specs.Locating.{size_of, taps_of, alone_of, names_all, named_columns}
use Rattle.decoding.specs.Remaining.{sums_read, read_sequences, left_reach, completable, meeting_completable, mended}
use Rattle.decoding.proofs.MendedFrame.{read_facts}
use Rattle.decoding.proofs.SequenceRegister.{register_of, same_size, not-alone}
use Rattle.decoding.proofs.SoleNearest.{left-reach, coded-at-size}
use Rattle.frame.specs.DeclaredCells.{Declared, declared_by, declarable, checks_left, as_read, BadCells, WellFormedRead}
use Rattle.frame.specs.DeclaredCells.{reread_tests, reread_reasons}
use Rattle.frame.specs.Demands.{shape_reasons, encode_reasons}
use Rattle.frame.specs.Encode.{encode_tests}
use Rattle.frame.specs.Frame.{uniform, held_sums, held_sequences}
use Rattle.frame.specs.Shape.{is_shape, shape_tests}
use Rattle.frame.specs.declared.Shape.{Shape}
use Rattle.frame.proofs.Declarable.{one-false, good_cells, bad-cells, read-says, read-passes, reread-says}
use Rattle.frame.proofs.HeldSums.{held-sequences}
use Rattle.frame.proofs.EncodeReasons.{encode-says}
use Rattle.frame.proofs.Reasons.{shape-says}
use Rattle.frame.proofs.Uniform.{varied-says}
use Rattle.lists.proofs.Tabulated.{every-at, every_witness}
use Rattle.refusal.specs.Order.{Test, Reason, None}
use Rattle.refusal.proofs.Orders.{Pass, Says, SayInTurn, in_turn, no_fail, says-not, say_append, fails-not}
use Rattle.register.specs.EachRound.{IsShortest}
use Rattle.register.specs.Register.{Generator}
use Rattle.slices.specs.Synthesis.{Synthesis, size, ended}
use Rattle.job.specs.Calls.{Call, shape, encode, locate, repair, start, next, peek, describe, empty_test, not_located_test, not_unfinished_test}
use Rattle.job.specs.Calls.{same_sums, sums_test, uniform_test, mends_uniform, unseen, locating, register_tests, by_register_tests}
use Rattle.job.specs.Calls.{arrives_tests, held_taps, held_mark, started, stepped}
use Rattle.job.specs.Job.{Arrays, Job, sound, is_empty_phase, is_located_phase, is_located, length_of, declared_in, declared_sound, counts_empty}
use Rattle.job.specs.Job.{is_unfinished_phase, step_sound}
use Rattle.job.specs.Refusals.{CodedAt, LegalAt, ShortRow, empty_reason, not_located_reason, sums_reason, not_unfinished_reason, reasons}
use Rattle.job.specs.Refusals.{not_alone_reason, short_row_reason, no_frame_reason, register_reasons, arrives_reasons}
use Rattle.job.specs.Refusals.{no_codeword_reason, by_sums_reasons, uniform_reason}
use Rattle.job.specs.declared.Phase.TheVariants.{Empty, Shaped, Unfinished, Located}
use Rattle.job.specs.declared.Phase.{Phase}
use Rattle.job.proofs.Emptiness.{has-shape}
use Rattle.job.proofs.Locating.{legal-there}

empty-says : (j : Job) → Says (empty_test j) (empty_reason j)
unfolding counts_empty
empty-says j = record { number = refl; reason = reason j.head.phase (sound j); fails = fails j.head.phase (sound j) }
  where
    reason : (p : Phase) (b : Bool) → (is_empty_phase p || not b) ≡ true → (p ≡ Empty) ⊎ (b ≡ false)
    reason Empty b e = inl refl
    reason Shaped true e = absurd (false≢true e)
    reason Shaped false e = inr refl
    reason Unfinished true e = absurd (false≢true e)
    reason Unfinished false e = inr refl
    reason (Located c a) true e = absurd (false≢true e)
    reason (Located c a) false e = inr refl

    fails : (p : Phase) (b : Bool) → (p ≡ Empty) ⊎ (b ≡ false) → (is_empty_phase p || not b) ≡ true
    fails p b (inl e) = rw e refl
    fails p b (inr e) = rw e (or-true (is_empty_phase p))

-- ---- rows with fewer checks left

module _ (s : Shape) (D : Declared) (c : ℕ) where
  no-short-row : left_reach s D c ≡ true → ShortRow s D c → ⊥
  no-short-row e (h, below, short) = let r = left-reach s D c e h below in omega arith

  short_row : left_reach s D c ≡ false → ShortRow s D c
  unfolding left_reach
  short_row e = let (h, below, l) = every_witness s.rows (λ h. leb c (checks_left s D h)) e in (h, below, leb-false _ _ l)

  -- what repair tests of the cells that a job of length c holds
  cells-sound : declared_sound s D c ≡ true → BadCells s D ⊎ ShortRow s D c → ⊥
  unfolding declared_sound
  cells-sound e (inl bad) = good_cells s D ((and-eq-true_iff (declarable s D) (left_reach s D c)).0 e).0 bad
  cells-sound e (inr short) = no-short-row ((and-eq-true_iff (declarable s D) (left_reach s D c)).0 e).1 short

  cells_unsound : declared_sound s D c ≡ false → BadCells s D ⊎ ShortRow s D c
  unfolding declared_sound
  cells_unsound e = elim (one-false (declarable s D) (left_reach s D c) e) [ inl d ↦ inl (bad-cells s D d) | inr r ↦ inr (short_row r) ]

module _ (j : Job) where
  abbrev s : Shape
  s = j.head.shape

  abbrev c : ℕ
  c = length_of j.head.phase

  abbrev sound_cells : Bool
  sound_cells = declared_sound s (declared_in j) c

  abbrev Unlocated : Type 0
  Unlocated = (is_located_phase j.head.phase ≡ false) ⊎ (BadCells s (declared_in j) ⊎ ShortRow s (declared_in j) c)

  located : is_located j ≡ true → Unlocated → ⊥
  located e (inl none) = false≢true (sym none ∙ ((and-eq-true_iff (is_located_phase j.head.phase) sound_cells).0 e).0)
  located e (inr bad) = cells-sound s (declared_in j) c ((and-eq-true_iff (is_located_phase j.head.phase) sound_cells).0 e).1 bad

  unlocated : is_located j ≡ false → Unlocated
  unlocated e = elim (one-false (is_located_phase j.head.phase) sound_cells e) [ inl none ↦ inl none | inr bad ↦ inr (cells_unsound s (declared_in j) c bad) ]

  not-located-says : Says (not_located_test j) (not_located_reason j)
  not-located-says = says-not 22 (is_located j) _ located unlocated

-- b and c is asked for
says_both : (n : ℕ) (b c : Bool) → Says (record { number = n; fails = not (b && c) }) (record { number = n; holds = (b ≡ false) ⊎ (c ≡ false) })
says_both n b c =
    says-not n (b && c) _
    (λ e f. elim f [ inl l ↦ false≢true (sym l ∙ ((and-eq-true_iff b c).0 e).0) | inr r ↦ false≢true (sym r ∙ ((and-eq-true_iff b c).0 e).1) ])
    (one-false b c)

not-unfinished-says : (j : Job) → Says (not_unfinished_test j) (not_unfinished_reason j)
not-unfinished-says j = says_both 33 (is_unfinished_phase j.head.phase) (step_sound j.head.shape j.arrays)

sums_say : (j : Job) (f : List ℕ) → Says (sums_test j f) (sums_reason j f)
unfolding same_sums
sums_say j f =
    says-not 23 (same_sums (held_sums j.head.shape (as_read j.head.shape (declared_in j) f)) j.arrays.sums) _
    (λ e (k, h, n). n (eqb-true _ _ (every-at 512 _ e k h)))
    (λ e. let (k, h, n) = every_witness 512 _ e in (k, h, eqb-false _ _ n))

-- ---- the register

module _ (s : Shape) (D : Declared) (f : List ℕ) (t : is_shape s ≡ true) where
  abbrev ss : List (List ℕ)
  ss = read_sequences s D f

  register : IsShortest 257 (size_of ss) ss (taps_of ss) (alone_of ss)
  register = register_of ss

  -- where it is alone, a register of the shortest length is the one found
  the_one : alone_of ss ≡ true → (c : ℕ) (τ : List ℕ) → c ≡ size_of ss → Generator 257 c ss τ → τ ≡ taps_of ss
  the_one e c τ q g = register.alone e τ (subst (λ (l : ℕ). Generator 257 l ss τ) q g)

  not-alone-says : Says (record { number = 24; fails = not (alone_of ss) }) (not_alone_reason s D f)
  not-alone-says =
      says-not 24 (alone_of ss) _
      (λ e (c, σ, τ, h, g, n). let q = same_size ss c σ h in n (the_one e c τ q g ∙ sym (the_one e c σ q h.generator)))
      (λ e. let (τ, g, n) = (not-alone ss).0 e in (size_of ss, taps_of ss, τ, register.shortest, g, n))

  short-row-says : alone_of ss ≡ true → Says (record { number = 25; fails = not (left_reach s D (size_of ss)) }) (short_row_reason s D f)
  short-row-says e =
      says-not 25 (left_reach s D (size_of ss)) _
      (λ r (c, σ, m, a, short). no-short-row s D (size_of ss) r (subst (ShortRow s D) (same_size ss c σ m) short))
      (λ r. (size_of ss, taps_of ss, register.shortest, register.alone e, short_row s D (size_of ss) r))

  abbrev names : Bool
  names = names_all s (taps_of ss) (size_of ss)

  abbrev fits : Bool
  fits = completable s D (named_columns s (taps_of ss)) (sums_read s D f)

  no-codeword-says : WellFormedRead s D f → alone_of ss ≡ true → Says (record { number = 26; fails = not (names && fits) }) (no_codeword_reason s D f)
  no-codeword-says w e =
      let exact = coded-at-size s t D f (read_facts s t D f w) e in
      says-not 26 (names && fits) _
      (λ a (c, σ, m, n). n (subst (CodedAt s D f) (sym (same_size ss c σ m)) (exact.0 ((and-eq-true_iff names fits).0 a))))
      (λ a. (size_of ss, taps_of ss, register.shortest, λ l. false≢true (sym a ∙ (and-eq-true_iff names fits).1 (exact.1 l))))

  abbrev one : Bool
  one = mends_uniform s D f (named_columns s (taps_of ss))

  no-frame-says : WellFormedRead s D f → alone_of ss ≡ true → left_reach s D (size_of ss) ≡ true
      → Says (record { number = 26; fails = one || not (names && fits) }) (no_frame_reason s D f)
  no-frame-says w e r =
      record {
        number = refl;
        reason = λ a. (size_of ss, taps_of ss, register.shortest, λ l. false≢true (sym (exact.1 l) ∙ a));
        fails = λ (c, σ, m, n).
            pick (λ l. n (subst (LegalAt s D f) (sym (same_size ss c σ m)) l)) (by-test (one || not (names && fits)));
      }
    where
      exact : ((one || not (names && fits)) ≡ false) ↔ LegalAt s D f (size_of ss)
      exact = legal-there s D f t w e r

      pick : (LegalAt s D f (size_of ss) → ⊥) → ((one || not (names && fits)) ≡ true) ⊎ ((one || not (names && fits)) ≡ false)
          → (one || not (names && fits)) ≡ true
      pick none (inl a) = a
      pick none (inr a) = absurd (none (exact.0 a))

  -- the register found is alone where the first reason does not hold; it is reached where the second does not either
  alone_so : ((not_alone_reason s D f).holds → ⊥) → alone_of ss ≡ true
  alone_so n = no_fail (alone_of ss) (fails-not _ (not_alone_reason s D f) not-alone-says n)

  reached_so : alone_of ss ≡ true → ((short_row_reason s D f).holds → ⊥) → left_reach s D (size_of ss) ≡ true
  reached_so a m = no_fail (left_reach s D (size_of ss)) (fails-not _ (short_row_reason s D f) (short-row-says a) m)

  -- each where the reasons before it do not hold
  register-says : WellFormedRead s D f → SayInTurn (register_tests s D (sums_read s D f) (mends_uniform s D f)) (register_reasons s D f)
  unfolding register_tests
  register-says w = (
    not-alone-says,
    λ n. (short-row-says (alone_so n), λ m. (no-frame-says w (alone_so n) (reached_so (alone_so n) m), λ l. tt)),
  )

  by-sums-says : WellFormedRead s D f → SayInTurn (register_tests s D (sums_read s D f) unseen) (by_sums_reasons s D f)
  unfolding register_tests
  by-sums-says w = (not-alone-says, λ n. (short-row-says (alone_so n), λ m. (no-codeword-says w (alone_so n), λ l. tt)))

-- ---- in slices

-- the tests say the reasons in turn, or there is no test, and no reason holds
abbrev pub SayOrNone : List Test → List Reason → Type 0
SayOrNone ts rs = SayInTurn ts rs ⊎ ((ts ≡ []) × None rs)

module _ (s : Shape) (a : Arrays) where
  abbrev x : Synthesis
  x = a.synthesis

  abbrev D : Declared
  D = declared_by a.declared

  abbrev S : List (List ℕ)
  S = held_sequences s a.sums

  -- a test of the end, which fails where b is false
  at-end : ended x ≡ true → (n : ℕ) (b : Bool) →
      Says (record { number = n; fails = not b }) (record { number = n; holds = (ended x ≡ true) × (b ≡ false) })
  at-end e n b = says-not n b _ (λ t h. false≢true (sym h.1 ∙ t)) (λ f. (e, f))

  at-end_say : ended x ≡ true → SayInTurn (by_register_tests s D S (size x) (held_taps x) (held_mark s x)) (arrives_reasons s a)
  unfolding by_register_tests
  at-end_say e = (
    at-end e 24 (held_mark s x),
    λ m. (
      says-not 25 (left_reach s D (size x)) _ (λ r h. no-short-row s D (size x) r h.1) (λ r. (e, short_row s D (size x) r)),
      λ n. (at-end e 26 (names_all s (held_taps x) (size x) && meeting_completable s D (named_columns s (held_taps x)) S), λ l. tt),
    ),
  )

  before : {A : Type 0} → ended x ≡ false → (ended x ≡ true) × A → ⊥
  before e h = false≢true (sym e ∙ h.0)

  arriving-says : SayOrNone (arrives_tests s a) (arrives_reasons s a)
  unfolding arrives_tests
  arriving-says = pick (ended x) refl
    where
      pick : (b : Bool) → ended x ≡ b →
          SayOrNone (cond (ended x) (by_register_tests s D S (size x) (held_taps x) (held_mark s x)) []) (arrives_reasons s a)
      pick true e =
          inl (subst⁻¹ (λ (b : Bool). SayInTurn (cond b (by_register_tests s D S (size x) (held_taps x) (held_mark s x)) []) (arrives_reasons s a)) e (at-end_say e))
      pick false e =
          inr (ap (λ (b : Bool). cond b (by_register_tests s D S (size x) (held_taps x) (held_mark s x)) []) e, (before e, (before e, (before e, tt))))

-- ---- the calls

-- where the job is not empty, tests that say their reasons in turn
after-empty : (j : Job) (ts : List Test) (rs : List Reason) → (is_shape j.head.shape ≡ true → SayInTurn ts rs)
    → SayInTurn (empty_test j ∷ ts) (empty_reason j ∷ rs)
after-empty j ts rs later = (empty-says j, λ n. later (has-shape j.head (fails-not (empty_test j) (empty_reason j) (empty-says j) n)))

pub keeping-says : (j : Job) (c : Call) → SayInTurn (describe j c).keeping (reasons j c).keeping
keeping-says j (shape n checks b) = in_turn (shape_tests n checks b) (shape_reasons n checks b) (shape-says n checks b)
keeping-says j (encode f) =
    after-empty j (encode_tests j.head.shape f) (encode_reasons j.head.shape f) (encode-says j.head.shape f)
keeping-says j (locate words f) =
    in_turn (describe j (locate words f)).keeping (reasons j (locate words f)).keeping
    (empty-says j, read-says j.head.shape (declared_by words) f)
keeping-says j (repair f) = in_turn (describe j (repair f)).keeping (reasons j (repair f)).keeping (
  empty-says j,
  (
    not-located-says j,
    say_append (reread_tests j.head.shape (declared_in j) f) (sums_test j f ∷ []) (reread_reasons j.head.shape (declared_in j) f) (sums_reason j f ∷ [])
        (reread-says j.head.shape (declared_in j) f) (sums_say j f, tt),
  ),
)
keeping-says j (start words f) =
    in_turn (describe j (start words f)).keeping (reasons j (start words f)).keeping
    (empty-says j, read-says j.head.shape (declared_by words) f)
keeping-says j next = in_turn (describe j next).keeping (reasons j next).keeping (empty-says j, (not-unfinished-says j, tt))
keeping-says j peek = in_turn (describe j peek).keeping (reasons j peek).keeping (empty-says j, (not-unfinished-says j, tt))

-- those of locate, one by one, with the cells seen and by the check sums alone
module _ (j : Job) (words f : List ℕ) (p : Pass (describe j (locate words f)).keeping) where
  pub locate-says : SayInTurn (describe j (locate words f)).shaping (reasons j (locate words f)).shaping
  locate-says =
      let s : Shape = j.head.shape in
      let D : Declared = declared_by words in
      subst⁻¹ (λ S. SayInTurn (register_tests s D S (mends_uniform s D f)) (register_reasons s D f)) (held-sequences s (as_read s D f))
      (register-says s D f (has-shape j.head p.0) (read-passes s D f p.1))

  pub sums-alone_say : SayInTurn (locating j words f unseen).shaping (by_sums_reasons j.head.shape (declared_by words) f)
  sums-alone_say =
      let s : Shape = j.head.shape in
      let D : Declared = declared_by words in
      subst⁻¹ (λ S. SayInTurn (register_tests s D S unseen) (by_sums_reasons s D f)) (held-sequences s (as_read s D f))
      (by-sums-says s D f (has-shape j.head p.0) (read-passes s D f p.1))

uniform-says : (j : Job) (f : List ℕ) → Says (uniform_test j f) (uniform_reason j f)
uniform-says j f =
    let e : List ℕ = mended j.head.shape (declared_in j) j.head.columns f in
    record {
      number = refl;
      reason = λ u varied. false≢true (sym ((varied-says e).0 varied) ∙ u);
      fails = λ none. elim (by-test (uniform e)) [ inl u ↦ u | inr v ↦ absurd (none ((varied-says e).1 v)) ];
    }

pub shaping-says : (j : Job) (c : Call) → Pass (describe j c).keeping → SayOrNone (describe j c).shaping (reasons j c).shaping
shaping-says j (shape n checks b) p = inl tt
shaping-says j (encode f) p = inl tt
shaping-says j (locate words f) p = inl (locate-says j words f p)
shaping-says j (repair f) p = inl (uniform-says j f, λ n. tt)
shaping-says j (start words f) p = arriving-says j.head.shape (started j.head.shape j.arrays words f)
shaping-says j next p = arriving-says j.head.shape (stepped j.head.shape j.arrays)
shaping-says j peek p = inl tt
