-- What locating by the check sums alone answers, and what is answered where the cells are seen: the same where no columns are, and where the frame that would
-- be mended to is not uniform; else 26.
use mathlib.Core.Path.{◌≡◌, sym, ap, subst⁻¹, ◌∙◌}
use mathlib.Core.Logic.{◌⊎◌, inl, inr}
use mathlib.Core.Bool.{Bool, true, false, cond, and-eq-true_iff}
use mathlib.Core.List.{List}
use Prim.Native.Nat.{ℕ}
use lib.ListN.{length}
use Rattle.columns.specs.Columns.{members}
use Rattle.columns.specs.declared.Columns.{Columns}
use Rattle.decoding.specs.Locating.{size_of, taps_of, named_columns}
use Rattle.decoding.specs.Remaining.{all_remaining, left_reach}
use Rattle.decoding.proofs.NamedColumns.{names-all, named-below, size-named}
use Rattle.decoding.proofs.SequenceRegister.{generator_of}
use Rattle.frame.specs.DeclaredCells.{Declared, declared_by}
use Rattle.frame.specs.Frame.{held_sequences}
use Rattle.frame.specs.Shape.{is_shape}
use Rattle.frame.specs.declared.Shape.{Shape}
use Rattle.from_register.specs.Register.{after}
use Rattle.job.specs.Answers.{reply_answer, answered_outcome}
use Rattle.job.specs.Calls.{columns, Outcome, refusing, mends_uniform, unseen, register_tests, locates}
use Rattle.job.specs.Job.{Arrays, with_taps, with_found, with_read, shaped_job}
use Rattle.job.specs.declared.Answered.{Answered}
use Rattle.job.specs.declared.Progress.{Progress}
use Rattle.refusal.specs.declared.Refusal.{Refusal}
use Rattle.std.specs.Prelude.{Result, Ok}
use Rattle.job.proofs.AfterRefusal.{never-columns}
use Rattle.job.proofs.Seen.{seen-order}
use Rattle.locating.specs.FromSums.{from_sums, seen_from}
use Rattle.refusal.specs.Order.{first_of}
use Rattle.refusal.proofs.Orders.{Pass, no_fail, by_tests, pass-otherwise, fails_or_passes}
use Rattle.uniform.specs.Mendable.{Mendable}
use Rattle.located_frames.specs.Seeable.{Seeable}

module _ (s : Shape) (words new f : List ℕ) where
  abbrev D : Declared
  D = declared_by words

  abbrev S : List (List ℕ)
  S = held_sequences s new

  abbrev M : Columns
  M = named_columns s (taps_of (all_remaining s D S))

  -- after the tests of the check sums
  module _ (a : Arrays) where
    abbrev shaped : ℕ → Outcome
    shaped = refusing (shaped_job s a) f

    abbrev given : Outcome
    given = locates s a words (all_remaining s D S) new f

    seen-is : seen_from s a words new f ≡ first_of shaped (register_tests s D S unseen) (cond (mends_uniform s D f M) (shaped 26) given)
    seen-is = seen-order s D S (mends_uniform s D f) shaped given

    -- columns are answered where every test passes
    passes : (c : ℕ) → (from_sums s a words new f).answer ≡ columns c → Pass (register_tests s D S unseen)
    passes c =
        by_tests shaped given (λ (o : Outcome). o.answer ≡ columns c → Pass (register_tests s D S unseen)) (register_tests s D S unseen)
        (λ k m e. absurd (never-columns (sym e))) (λ p e. p)

    -- where none are, a test fails, and what comes after it plays no part
    same-refusal : ((c : ℕ) → (from_sums s a words new f).answer ≡ columns c → ⊥) → from_sums s a words new f ≡ seen_from s a words new f
    same-refusal none = pick (fails_or_passes shaped (register_tests s D S unseen))
      where
        pick : ((x y : Outcome) → first_of shaped (register_tests s D S unseen) x ≡ first_of shaped (register_tests s D S unseen) y)
            ⊎ Pass (register_tests s D S unseen) → from_sums s a words new f ≡ seen_from s a words new f
        pick (inl fails) = fails _ _ ∙ sym seen-is
        pick (inr p) = absurd (none _ (ap (λ (o : Outcome). o.answer) (pass-otherwise shaped given (register_tests s D S unseen) p)))

    module _ (p : Pass (register_tests s D S unseen)) where
      sums-given : from_sums s a words new f ≡ given
      sums-given = pass-otherwise shaped given (register_tests s D S unseen) p

      seen-uniform : mends_uniform s D f M ≡ true → refusing (shaped_job s a) f 26 ≡ seen_from s a words new f
      seen-uniform e =
          sym (seen-is ∙ pass-otherwise shaped _ (register_tests s D S unseen) p ∙ ap (λ (b : Bool). cond b (shaped 26) given) e)

      seen_mixed : mends_uniform s D f M ≡ false → from_sums s a words new f ≡ seen_from s a words new f
      seen_mixed e =
          sums-given ∙ sym (seen-is ∙ pass-otherwise shaped _ (register_tests s D S unseen) p ∙ ap (λ (b : Bool). cond b (shaped 26) given) e)

  -- the columns named are as many as each row reaches
  reach : is_shape s ≡ true → Pass (register_tests s D S unseen) → left_reach s D (length (members M)) ≡ true
  unfolding register_tests
  reach shape (alone, (r, (n, u))) =
      let ss : List (List ℕ) = all_remaining s D S in
      let enough = ((and-eq-true_iff _ _).0 (no_fail _ n)).0 in
      subst⁻¹ (λ (c : ℕ). left_reach s D c ≡ true)
      (size-named s (taps_of ss) shape ∙ (names-all s (size_of ss) (taps_of ss) (generator_of ss).register shape).0 enough) (no_fail _ r)

-- ---- what locating from the sums answers

module _ (s : Shape) (words new f old taps left cells : List ℕ) (r : Answered)
    (located : (a : Arrays) (g : List ℕ) →
    answered_outcome r (with_found a (after r.reply a.sums new) left (after r.reply a.declared words)) g ≡ from_sums s (with_taps a taps) words new g)
  where
    -- beside the arrays as they were lent, by what the reply is
    replied : (a : Arrays) (x : Result Progress Refusal) → r.reply ≡ x → answered_outcome r (with_found a (after x old new) left (after x cells words)) f
        ≡ from_sums s (with_found a old taps cells) words new f
    replied a x e = ap (λ y. answered_outcome r (with_found a (after y old new) left (after y cells words)) f) (sym e) ∙ located (with_read a old cells) f

    -- no columns
    pub not-counted : (a : Arrays) (x : Result Progress Refusal) → r.reply ≡ x → ((c : ℕ) → reply_answer x ≡ columns c → ⊥)
        → answered_outcome r (with_found a (after x old new) left (after x cells words)) f ≡ seen_from s (with_found a old taps cells) words new f
    not-counted a x e none =
        replied a x e ∙ same-refusal s words new f (with_found a old taps cells)
        (λ c columns-answered. none c (ap reply_answer (sym e) ∙ ap (λ (o : Outcome). o.answer) (replied a x e) ∙ columns-answered))

    module _ (c : ℕ) (e : r.reply ≡ Ok (Progress.Columns c)) (a : Arrays) where
      tests-pass : Pass (register_tests s (declared_by words) (held_sequences s new) unseen)
      tests-pass =
          passes s words new f (with_found a old taps cells) c (sym (ap (λ (o : Outcome). o.answer) (replied a (Ok (Progress.Columns c)) e)) ∙ ap reply_answer e)

      -- the columns answered are those named
      named_so : r.columns ≡ M s words new f
      named_so =
          ap (λ (o : Outcome). o.marks) (replied a (Ok (Progress.Columns c)) e)
          ∙ ap (λ (o : Outcome). o.marks) (sums-given s words new f (with_found a old taps cells) tests-pass)

      pub counted_mendable : {none : Bool} → Seeable s none words new f → Mendable s words r.columns f
      counted_mendable seeable =
          let shape = seeable.locatable.shape in
          subst⁻¹ (λ (J : Columns). Mendable s words J f) named_so
          (record {
            shape = shape;
            whole = seeable.whole;
            small = seeable.small;
            below = named-below s _;
            declarable = seeable.locatable.declarable;
            reach = reach s words new f shape tests-pass;
          })

      module _ (b : Bool) (judged : b ≡ mends_uniform s (declared_by words) f r.columns) where
        seen : mends_uniform s (declared_by words) f (M s words new f) ≡ b
        seen = sym (judged ∙ ap (mends_uniform s (declared_by words) f) named_so)

        pub counted-uniform : b ≡ true → refusing (shaped_job s (with_found a old taps cells)) f 26 ≡ seen_from s (with_found a old taps cells) words new f
        counted-uniform t = seen-uniform s words new f (with_found a old taps cells) tests-pass (seen ∙ t)

        pub counted_mixed : b ≡ false
            → answered_outcome r (with_found a new left words) f ≡ seen_from s (with_found a old taps cells) words new f
        counted_mixed n = replied a (Ok (Progress.Columns c)) e ∙ seen_mixed s words new f (with_found a old taps cells) tests-pass (seen ∙ n)
