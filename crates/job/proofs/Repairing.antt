-- Repairing: a frame that as read has the sums of the frame that was located has its register, so that the repair mends it; and the located frame itself is
-- taken.
use mathlib.Core.Path.{◌≡◌, refl, sym, ap, ap₂, subst, ◌∙◌}
use mathlib.Core.Bool.{Bool, true, false, cond, not, false≢true}
use mathlib.Core.List.{List}
use Prim.Native.Nat.{ℕ, ◌<◌}
use native.Mathlib.Omega.{arith}
use lib.ListN.{length, get_or}
use lib.Seq.{ext_get_or}
use borrow.Author.Tests.{eqb-true, eq-eqb}
use Rattle.decoding.specs.Locating.{size_of, taps_of, alone_of, names_all, named_columns}
use Rattle.decoding.specs.Remaining.{all_remaining, read_sequences, left_reach, completable}
use Rattle.decoding.proofs.MendedFrame.{Read, read_facts}
use Rattle.decoding.proofs.SameRead.{same_read}
use Rattle.decoding.proofs.LegalNearest.{coded-legal}
use Rattle.decoding.proofs.SoleNearest.{mended-coded, mended-distance, mended-differing, sole_nearest}
use Rattle.frame.specs.DeclaredCells.{Declared, declared_by, as_read, reread_tests, WellFormedRead}
use Rattle.frame.specs.Frame.{held_sums}
use Rattle.frame.specs.Shape.{is_shape}
use Rattle.frame.specs.declared.Shape.{Shape}
use Rattle.frame.proofs.Declarable.{reread-passes, well_formed_reread, well_formed_declarable}
use Rattle.frame.proofs.HeldSums.{held-length}
use Rattle.lists.proofs.Tabulated.{every-at, every_of}
use Rattle.refusal.proofs.Orders.{Pass, no_fail, pass-otherwise}
use Rattle.job.specs.Calls.{repair, refused, Outcome, refusing, describe, step, same_sums, mends_uniform, located_by, repairs}
use Rattle.job.specs.Demands.{Mended}
use Rattle.job.specs.Job.{Arrays, Job, shaped_job, declared_in, counts_empty, length_of}
use Rattle.job.proofs.Cases.{step_gives}
use Rattle.job.proofs.Forms.{Locates, located_frame, Form, empty, shaped, unfinished, located}
use Rattle.job.proofs.Soundness.{form_sound, frame-located}

-- ---- the same sums

pub same-sums : (a b : List ℕ) → length a ≡ 512 → length b ≡ 512 → same_sums a b ≡ true → a ≡ b
unfolding same_sums
same-sums a b m n e =
    ext_get_or 0 a b (m ∙ sym n) (λ k h. eqb-true _ _ (every-at 512 _ e k (let l : k < 512 = omega arith in l)))

module _ (s : Shape) (D : Declared) (f g : List ℕ) (e : held_sums s (as_read s D f) ≡ held_sums s (as_read s D g)) where
  pub same-sequences : read_sequences s D f ≡ read_sequences s D g
  same-sequences = ap (all_remaining s D) (same_read s D f g e)

  pub same-locates : WellFormedRead s D f → Locates s D g → Locates s D f
  same-locates w l = record {
    well_formed = w;
    alone = ap alone_of same-sequences ∙ l.alone;
    reach = ap (λ ss. left_reach s D (size_of ss)) same-sequences ∙ l.reach;
    names = ap (λ ss. names_all s (taps_of ss) (size_of ss)) same-sequences ∙ l.names;
    fits = ap (λ S. completable s D (named_columns s (taps_of (all_remaining s D S))) S) (same_read s D f g e) ∙ l.fits;
  }

pub same-located : (s : Shape) (a : Arrays) (words f g : List ℕ) → held_sums s (as_read s (declared_by words) f) ≡ held_sums s (as_read s (declared_by words) g)
    → located_frame s a words f ≡ located_frame s a words g
same-located s a words f g e = ap₂ (located_by s a words) (same-sequences s (declared_by words) f g e) e

-- ---- the frame that is left

-- the frame that would be mended to is uniform
abbrev pub one : Shape → Declared → (f : List ℕ) → Bool
one s D f = mends_uniform s D f (named_columns s (taps_of (read_sequences s D f)))

located-mended : (s : Shape) (a : Arrays) (words f : List ℕ) → is_shape s ≡ true → Locates s (declared_by words) f → one s (declared_by words) f ≡ false
    → Mended s (declared_by words) f (size_of (read_sequences s (declared_by words) f)) (located_frame s a words f) (repairs (located_frame s a words f) f)
located-mended s a words f t l mixed =
    let D : Declared = declared_by words in
    let read : Read s D f = read_facts s t D f l.well_formed in
    record {
      legal = coded-legal s _ (mended-coded s t D f read l.names l.fits) mixed;
      count = mended-distance s t D f read l.names l.fits;
      marks = sym (mended-differing s t D f read l.names l.fits);
      nearest = sole_nearest s t D f read l.alone l.reach;
      job = record { phase = refl; shape = refl; columns = refl; arrays = refl };
    }

pub repair-mended : (j : Job) (f : List ℕ) → Form j → Pass (describe j (repair f)).keeping → Pass (describe j (repair f)).shaping
    → Mended j.head.shape (declared_in j) f (length_of j.head.phase) j (repairs j f)
unfolding reread_tests
repair-mended _ f (empty a) p q = absurd (false≢true (sym p.1.0))
repair-mended _ f (shaped s a t) p q = absurd (false≢true (sym p.1.0))
repair-mended _ f (unfinished s a g n h t going) p q = absurd (false≢true (sym p.1.0))
repair-mended _ f (located s a words g t l) (e, (h, (size, (symbols, (sums, u))))) (mixed, v) =
    let D : Declared = declared_by words in
    let w : WellFormedRead s D f = reread-passes s D f (well_formed_declarable s D g l.well_formed) (size, (symbols, tt)) in
    let same : held_sums s (as_read s D f) ≡ held_sums s (as_read s D g) =
    same-sums _ _ (held-length s (as_read s D f) t) (held-length s (as_read s D g) t) (no_fail _ sums) in
    subst (λ j. Mended s D f (length_of j.head.phase) j (repairs j f)) (same-located s a words f g same)
    (located-mended s a words f t (same-locates s D f g same w l)
    (ap (λ ss. mends_uniform s D f (named_columns s (taps_of ss))) (same-sequences s D f g same) ∙ mixed))

-- ---- the frame that was located

module _ (s : Shape) (a : Arrays) (words f : List ℕ) (t : is_shape s ≡ true) (l : Locates s (declared_by words) f) where
  abbrev j : Job
  j = located_frame s a words f

  repair-passes : Pass (describe j (repair f)).keeping
  unfolding reread_tests counts_empty same_sums
  repair-passes =
      let D : Declared = declared_by words in
      let (size, (symbols, u)) = well_formed_reread s D f l.well_formed in (
        ap not (form_sound j (located s a words f t l)),
        (
          ap not (frame-located s a words f l),
          (size, (symbols, (ap not (every_of 512 _ (λ k h. eq-eqb (get_or (held_sums s (as_read s D f)) k 0) _ refl)), tt))),
        ),
      )

  pub repair_takes : one s (declared_by words) f ≡ false → step (located_frame s a words f) (repair f) ≡ repairs (located_frame s a words f) f
  repair_takes mixed = step_gives j (repair f) repair-passes (mixed, tt)

  pub repair-refuses : one s (declared_by words) f ≡ true → (step (located_frame s a words f) (repair f)).answer ≡ refused 26
  unfolding step
  repair-refuses e =
      ap (λ (o : Outcome). o.answer) (pass-otherwise (refusing j f) _ (describe j (repair f)).keeping repair-passes)
      ∙ ap (λ (b : Bool). (cond b (refusing (shaped_job s j.arrays) f 26) (repairs j f)).answer) e
