-- Locating a well-formed frame, with declared cells, of a job that has a shape. It is taken where the register is alone, reached by what is left of every row,
-- and names columns at which the rows can be completed, to a frame that is not uniform; and where it is alone and reached, it is refused exactly when no legal
-- frame lies at a distance of its length.
use mathlib.Core.Path.{◌≡◌, refl, ap, ap₂, sym, subst, subst⁻¹, ◌∙◌}
use mathlib.Core.Bool.{Bool, true, false, not, ◌&&◌, ◌||◌, and-eq-true_iff, false≢true}
use mathlib.Core.List.{List}
use mathlib.Core.Logic.{◌⊎◌, inl, inr, ◌↔◌}
use Prim.Native.Nat.{ℕ, ◌≤◌, ◌<◌}
use native.Mathlib.Omega.{arith}
use borrow.Author.Tests.{le-leb}
use Rattle.columns.specs.declared.Columns.{Columns}
use Rattle.columns.proofs.Listing.{by-test}
use Rattle.decoding.specs.Locating.{size_of, taps_of, alone_of, names_all, named_columns}
use Rattle.decoding.specs.Remaining.{all_remaining, sums_read, read_sequences, left_reach, completable, mended}
use Rattle.decoding.proofs.MendedFrame.{Read, read_facts}
use Rattle.decoding.proofs.SequenceRegister.{register_of, length-taps, same_size, alone-marked}
use Rattle.decoding.proofs.LegalNearest.{coded-legal, legal-at-size}
use Rattle.decoding.proofs.SoleNearest.{rows-reach, mended-coded, mended-distance, mended-differing}
use Rattle.frame.specs.DeclaredCells.{Declared, declared_by, checks_left, as_read, read_tests, WellFormedRead}
use Rattle.frame.specs.Frame.{Coded, Legal, held_sums, held_sequences}
use Rattle.frame.specs.Shape.{is_shape}
use Rattle.frame.specs.declared.Shape.{Shape}
use Rattle.frame.proofs.Declarable.{read-passes, well_formed_read}
use Rattle.frame.proofs.HeldSums.{held-sequences}
use Rattle.lists.proofs.Tabulated.{every_of}
use Rattle.refusal.proofs.Orders.{Pass, no_fail, pass-otherwise}
use Rattle.register.specs.Register.{Shortest, Alone}
use Rattle.job.specs.Calls.{locate, refused, refusing, mends_uniform, unseen, register_tests, locating, describe, step, by_sums, locates}
use Rattle.job.specs.Demands.{FoundAs, Found}
use Rattle.job.specs.Job.{Job, is_empty, length_of}
use Rattle.job.specs.Refusals.{LegalAt}
use Rattle.job.specs.Runs.{IsRefused}
use Rattle.job.proofs.AfterRefusal.{never-columns}
use Rattle.job.proofs.Cases.{carried_gives, step_gives}
use Rattle.job.proofs.Emptiness.{has-shape}
use Rattle.job.proofs.Forms.{Locates, locates_frame, register-passes, register_mixed}
use Rattle.job.proofs.Seen.{passes-seen}
use Rattle.job.proofs.Left.{sums-held, taps-held}
use Rattle.job.proofs.Soundness.{marked-number}

-- ---- what 26 tests

module _ (s : Shape) (D : Declared) (f : List ℕ) where
  abbrev σ : List ℕ
  σ = taps_of (read_sequences s D f)

  abbrev c : ℕ
  c = size_of (read_sequences s D f)

  abbrev tested : Bool
  tested = mends_uniform s D f (named_columns s σ) || not (names_all s σ c && completable s D (named_columns s σ) (sums_read s D f))

  abbrev Each : Type 0
  Each = (mends_uniform s D f (named_columns s σ) ≡ false) × ((names_all s σ c ≡ true) × (completable s D (named_columns s σ) (sums_read s D f) ≡ true))

  each : tested ≡ false → Each
  each e = pick (mends_uniform s D f (named_columns s σ)) refl
    where
      pick : (b : Bool) → mends_uniform s D f (named_columns s σ) ≡ b → Each
      pick true u = absurd (false≢true (sym e ∙ ap (λ (b : Bool). b || not (names_all s σ c && completable s D (named_columns s σ) (sums_read s D f))) u))
      pick false u = (
        u,
        (and-eq-true_iff (names_all s σ c) (completable s D (named_columns s σ) (sums_read s D f))).0
            (no_fail _ (sym (ap (λ (b : Bool). b || not (names_all s σ c && completable s D (named_columns s σ) (sums_read s D f))) u) ∙ e)),
      )

  -- a legal frame lies at the distance c exactly where it does not fail
  pub legal-there : is_shape s ≡ true → WellFormedRead s D f → alone_of (read_sequences s D f) ≡ true
      → left_reach s D (size_of (read_sequences s D f)) ≡ true → (tested ≡ false) ↔ LegalAt s D f (size_of (read_sequences s D f))
  legal-there t w a r =
      let exact = legal-at-size s t D f (read_facts s t D f w) a r in (
        λ e. let (mixed, (names, fits)) = each e in exact.0 (names, fits, mixed),
        λ l. let (names, fits, mixed) = exact.1 l in ap₂ ◌||◌ mixed (ap not (ap₂ ◌&&◌ names fits)),
      )

module _ (j : Job) (words f : List ℕ) (not-empty : is_empty j ≡ false) where
  abbrev s : Shape
  s = j.head.shape

  abbrev D : Declared
  D = declared_by words

  abbrev ss : List (List ℕ)
  ss = read_sequences s D f

  abbrev M : Columns
  M = named_columns s (taps_of ss)

  -- what 26 tests: of the check sums, and of the cells
  abbrev fitting : Bool
  fitting = names_all s (taps_of ss) (size_of ss) && completable s D M (sums_read s D f)

  abbrev one : Bool
  one = mends_uniform s D f M

  t : is_shape s ≡ true
  t = has-shape j.head not-empty

  same-sums : held_sequences s (held_sums s (as_read s D f)) ≡ sums_read s D f
  same-sums = held-sequences s (as_read s D f)

  passes-register : Locates s D f → Pass (register_tests s D (sums_read s D f) unseen)
  unfolding register_tests
  passes-register l = (ap not l.alone, (ap not l.reach, (ap not (ap₂ ◌&&◌ l.names l.fits), tt)))

  gives-frame : (locating j words f unseen).gives ≡ locates_frame s j.arrays words f
  gives-frame = ap (λ S. locates s j.arrays words (all_remaining s D S) (held_sums s (as_read s D f)) f) same-sums

  pub sums-take : Locates j.head.shape (declared_by words) f → by_sums j words f ≡ locates_frame j.head.shape j.arrays words f
  unfolding by_sums
  sums-take l =
      carried_gives j (locating j words f unseen) (not-empty, well_formed_read s D f l.well_formed)
      (subst⁻¹ (λ S. Pass (register_tests s D S unseen)) same-sums (passes-register l)) ∙ gives-frame

  pub locate_takes : Locates j.head.shape (declared_by words) f
      → mends_uniform j.head.shape (declared_by words) f
      (named_columns j.head.shape (taps_of (read_sequences j.head.shape (declared_by words) f))) ≡ false
      → step j (locate words f) ≡ locates_frame j.head.shape j.arrays words f
  locate_takes l mixed =
      step_gives j (locate words f) (not-empty, well_formed_read s D f l.well_formed)
      (subst⁻¹ (λ S. Pass (register_tests s D S (mends_uniform s D f))) same-sums
      (passes-seen s D (sums_read s D f) (mends_uniform s D f) (passes-register l) mixed)) ∙ gives-frame

  locate-refuses : WellFormedRead s D f → alone_of ss ≡ true → left_reach s D (size_of ss) ≡ true → (one || not fitting) ≡ true
      → (step j (locate words f)).answer ≡ refused 26
  unfolding step register_tests
  locate-refuses w a r n =
      rw (pass-otherwise (refusing j f) _ (describe j (locate words f)).keeping (not-empty, well_formed_read s D f w), same-sums) (rw (a, r, n) refl)

  pub exact-at-size : WellFormedRead j.head.shape (declared_by words) f → alone_of (read_sequences j.head.shape (declared_by words) f) ≡ true
      → left_reach j.head.shape (declared_by words) (size_of (read_sequences j.head.shape (declared_by words) f)) ≡ true
      → IsRefused (step j (locate words f))
      ↔ (LegalAt j.head.shape (declared_by words) f (size_of (read_sequences j.head.shape (declared_by words) f)) → ⊥)
  exact-at-size w a r = pick (by-test (one || not fitting))
    where
      there : ((one || not fitting) ≡ false) ↔ LegalAt s D f (size_of ss)
      there = legal-there s D f t w a r

      pick : ((one || not fitting) ≡ true) ⊎ ((one || not fitting) ≡ false) → IsRefused (step j (locate words f)) ↔ (LegalAt s D f (size_of ss) → ⊥)
      pick (inl n) = (λ refusal l. false≢true (sym (there.1 l) ∙ n), λ none. (26, locate-refuses w a r n))
      pick (inr n) =
          let (mixed, (names, fits)) = each s D f n in
          let taken = locate_takes (record { well_formed = w; alone = a; reach = r; names = names; fits = fits }) mixed in (
            λ (k, refusal). absurd (never-columns (sym (ap (λ o. o.answer) taken) ∙ refusal)),
            λ none. absurd (none (there.0 n)),
          )

  pub exact-at : (c : ℕ) (σ : List ℕ) → WellFormedRead j.head.shape (declared_by words) f
      → Shortest 257 c (read_sequences j.head.shape (declared_by words) f) σ → Alone 257 c (read_sequences j.head.shape (declared_by words) f) σ
      → ((h : ℕ) → h < j.head.shape.rows → c ≤ checks_left j.head.shape (declared_by words) h)
      → IsRefused (step j (locate words f)) ↔ (LegalAt j.head.shape (declared_by words) f c → ⊥)
  unfolding left_reach
  exact-at c σ w shortest alone checks =
      let q : c ≡ size_of ss = same_size ss c σ shortest in
      subst (λ (l : ℕ). IsRefused (step j (locate words f)) ↔ (LegalAt s D f l → ⊥)) (sym q)
      (exact-at-size w (alone-marked ss c σ shortest alone)
      (every_of s.rows _ (λ h l. le-leb (size_of ss) (checks_left s D h) (omega (arith, checks h l)))))

  -- what is found
  located-found : (Is : List ℕ → Type 0) → Locates s D f → Is (mended s D M f) → FoundAs Is s words f (size_of ss) (locates_frame s j.arrays words f)
  located-found Is l is =
      let r = register_of ss in
      let read : Read s D f = read_facts s t D f l.well_formed in
      record {
        taps = taps_of ss;
        shortest = r.shortest;
        alone = r.alone l.alone;
        there = (
          mended s D (named_columns s (taps_of ss)) f,
          is,
          mended-distance s t D f read l.names l.fits,
          sym (mended-differing s t D f read l.names l.fits),
        );
        number = marked-number s D f t l;
        frame = refl;
        job = record {
          phase = refl;
          shape = refl;
          columns = refl;
          sums = sums-held s (as_read s D f) t;
          taps = taps-held s (size_of ss) (taps_of ss) t (rows-reach s D (size_of ss) l.reach) (length-taps ss);
          declared = refl;
        };
      }

  -- by the check sums a codeword, and with the cells seen a legal frame
  module _ (early : Pass (read_tests j.head.shape (declared_by words) f)) (one : Columns → Bool) (late : Pass (locating j words f one).shaping) where
    locates_so : Locates s D f
    locates_so = register-passes s D f one late (read-passes s D f early)

    coded_so : Coded s (mended s D M f)
    coded_so = mended-coded s t D f (read_facts s t D f locates_so.well_formed) locates_so.names locates_so.fits

    found_as : (Is : List ℕ → Type 0) → Is (mended s D M f)
        → FoundAs Is s words f (length_of (locating j words f one).gives.job.head.phase) (locating j words f one).gives
    found_as Is is =
        subst⁻¹ (λ S.
        FoundAs Is s words f (size_of (all_remaining s D S)) (locates s j.arrays words (all_remaining s D S) (held_sums s (as_read s D f)) f)) same-sums
        (located-found Is locates_so is)

    pub found-coded :
        FoundAs (Coded j.head.shape) j.head.shape words f (length_of (locating j words f one).gives.job.head.phase) (locating j words f one).gives
    found-coded = found_as (Coded s) coded_so

  pub found : Pass (read_tests j.head.shape (declared_by words) f) → Pass (describe j (locate words f)).shaping
      → Found j.head.shape words f (length_of (describe j (locate words f)).gives.job.head.phase) (describe j (locate words f)).gives
  found early late =
      found_as early (mends_uniform s D f) late (Legal s)
      (coded-legal s _ (coded_so early (mends_uniform s D f) late) (register_mixed s D f (mends_uniform s D f) late))
