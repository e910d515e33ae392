-- A locate by the check sums alone, beside the locate that sees the cells: both do the same, or every test of the check sums passes and the frame that would be
-- mended to is uniform.
use mathlib.Core.Path.{◌≡◌, refl, sym, ap, subst, subst⁻¹, ◌∙◌}
use mathlib.Core.Logic.{◌⊎◌, inl, inr}
use mathlib.Core.Bool.{Bool, true, false, cond, false≢true}
use mathlib.Core.List.{List}
use mathlib.Core.Option.{some}
use Prim.Native.Nat.{ℕ}
use native.Mathlib.Omega.{arith}
use Rattle.columns.specs.declared.Columns.{Columns}
use Rattle.columns.proofs.Listing.{by-test}
use Rattle.decoding.specs.Locating.{size_of, taps_of, named_columns}
use Rattle.decoding.specs.Remaining.{all_remaining, read_sequences, mended}
use Rattle.decoding.proofs.MendedFrame.{Read, read_facts}
use Rattle.decoding.proofs.SoleNearest.{mended-coded, mended-distance, nearest-only}
use Rattle.frame.specs.DeclaredCells.{Declared, declared_by, as_read}
use Rattle.frame.specs.Frame.{Coded, held_sums, held_sequences}
use Rattle.frame.specs.Shape.{is_shape}
use Rattle.frame.specs.declared.Shape.{Shape}
use Rattle.frame.proofs.Declarable.{read-passes}
use Rattle.frame.proofs.HeldSums.{held-sequences}
use Rattle.frame.proofs.Uniform.{varied-says}
use Rattle.refusal.specs.Order.{first_of}
use Rattle.refusal.proofs.Orders.{Pass, pass-otherwise, fails_or_passes}
use Rattle.job.specs.Calls.{locate, columns, refused, Outcome, refusing, mends_uniform, unseen, register_tests, locating, step, by_sums}
use Rattle.job.specs.Demands.{FoundAs}
use Rattle.job.specs.Job.{Job, shaped_job}
use Rattle.job.specs.Runs.{run, last_shape, IsRefused, Taken}
use Rattle.job.specs.Slices.{UniformAt, LikeLocate, BySums, BySumsFinds}
use Rattle.job.proofs.AfterRefusal.{never-columns}
use Rattle.job.proofs.Cases.{by-carried}
use Rattle.job.proofs.Emptiness.{has-shape}
use Rattle.job.proofs.Forms.{Locates, register-passes}
use Rattle.job.proofs.Seen.{seen-order}
use Rattle.job.proofs.Locating.{found-coded}
use Rattle.job.proofs.Soundness.{holds-last-shape, not-empty-held, shape-held}

module _ (j : Job) (words f : List ℕ) where
  abbrev s : Shape
  s = j.head.shape

  abbrev D : Declared
  D = declared_by words

  abbrev S : List (List ℕ)
  S = held_sequences s (held_sums s (as_read s D f))

  abbrev M : Columns
  M = named_columns s (taps_of (all_remaining s D S))

  abbrev shaped : ℕ → Outcome
  shaped = refusing (shaped_job s j.arrays) f

  abbrev given : Outcome
  given = (locating j words f unseen).gives

  -- what follows the tests of the check sums
  abbrev after : Outcome → Outcome
  after o = first_of (refusing j f) (locating j words f unseen).keeping (first_of shaped (register_tests s D S unseen) o)

  locate-after : step j (locate words f) ≡ after (cond (mends_uniform s D f M) (shaped 26) given)
  unfolding step
  locate-after = ap (first_of (refusing j f) (locating j words f unseen).keeping) (seen-order s D S (mends_uniform s D f) shaped given)

  data Beside : Type 0 where
    same : by_sums j words f ≡ step j (locate words f) → Beside
    apart : Pass (locating j words f unseen).keeping → Pass (register_tests s D S unseen) → mends_uniform s D f M ≡ true
        → by_sums j words f ≡ (locating j words f unseen).gives → step j (locate words f) ≡ refusing (shaped_job s j.arrays) f 26 → Beside

  beside : Beside
  unfolding by_sums
  beside = pick (by-test (mends_uniform s D f M)) (fails_or_passes (refusing j f) (locating j words f unseen).keeping)
      (fails_or_passes shaped (register_tests s D S unseen))
    where
      pick : (mends_uniform s D f M ≡ true) ⊎ (mends_uniform s D f M ≡ false)
          → ((x y : Outcome) → first_of (refusing j f) (locating j words f unseen).keeping x ≡ first_of (refusing j f) (locating j words f unseen).keeping y)
          ⊎ Pass (locating j words f unseen).keeping
          → ((x y : Outcome) → first_of shaped (register_tests s D S unseen) x ≡ first_of shaped (register_tests s D S unseen) y)
          ⊎ Pass (register_tests s D S unseen) → Beside
      pick (inr mixed) p q = same (sym (locate-after ∙ ap (λ (b : Bool). after (cond b (shaped 26) given)) mixed))
      pick (inl one) (inl fails) q = same (fails _ _ ∙ sym locate-after)
      pick (inl one) (inr p) (inl fails) =
          same (ap (first_of (refusing j f) (locating j words f unseen).keeping) (fails _ _) ∙ sym locate-after)
      pick (inl one) (inr p) (inr q) =
          apart p q one
          (pass-otherwise (refusing j f) _ (locating j words f unseen).keeping p ∙ pass-otherwise shaped given (register_tests s D S unseen) q)
          (locate-after ∙ ap (λ (b : Bool). after (cond b (shaped 26) given)) one
          ∙ pass-otherwise (refusing j f) _ (locating j words f unseen).keeping p ∙ pass-otherwise shaped (shaped 26) (register_tests s D S unseen) q)

  only-uniform : Pass (locating j words f unseen).keeping → Pass (register_tests s D S unseen) → mends_uniform s D f M ≡ true
      → UniformAt s D f (size_of (all_remaining s D S))
  only-uniform p q one =
      subst⁻¹ (λ X. UniformAt s D f (size_of (all_remaining s D X))) (held-sequences s (as_read s D f)) (
        mended s D (named_columns s (taps_of ss)) f,
        mended-coded s t D f read l.names l.fits,
        mended-distance s t D f read l.names l.fits,
        λ varied. false≢true (sym ((varied-says _).0 varied) ∙ u),
        λ e coded at. nearest-only s t D f read l.alone l.reach e coded (omega arith),
      )
    where
      ss : List (List ℕ)
      ss = read_sequences s D f

      t : is_shape s ≡ true
      t = has-shape j.head p.0

      l : Locates s D f
      l = register-passes s D f unseen q (read-passes s D f p.1)

      read : Read s D f
      read = read_facts s t D f l.well_formed

      u : mends_uniform s D f (named_columns s (taps_of ss)) ≡ true
      u = subst (λ X. mends_uniform s D f (named_columns s (taps_of (all_remaining s D X))) ≡ true) (held-sequences s (as_read s D f)) one

  like : Beside → ((Taken (step j (locate words f)) → by_sums j words f ≡ step j (locate words f))
      × (IsRefused (by_sums j words f) → by_sums j words f ≡ step j (locate words f))
      × (Taken (by_sums j words f) → IsRefused (step j (locate words f))
      → (c : ℕ) × ((by_sums j words f).answer ≡ columns c) × ((step j (locate words f)).answer ≡ refused 26) × UniformAt s D f c))
  like (same e) = (λ t. e, λ r. e, λ taken (k, refusal). absurd (taken (k, ap (λ (o : Outcome). o.answer) e ∙ refusal)))
  like (apart p q one sums sees) = (
    λ taken. absurd (taken (26, ap (λ (o : Outcome). o.answer) sees)),
    λ (k, refusal). absurd (never-columns (sym (ap (λ (o : Outcome). o.answer) sums) ∙ refusal)),
    λ taken refusal. (
      size_of (all_remaining s D S),
      ap (λ (o : Outcome). o.answer) sums,
      ap (λ (o : Outcome). o.answer) sees,
      only-uniform p q one,
    ),
  )

pub by-sums : BySums
by-sums a before s words f last =
    subst (λ (x : Shape). LikeLocate a before x words f) (shape-held a before s last).1
    (let (taken, refusal, two) = like (run a before) words f (beside (run a before) words f) in
    record { where_taken = taken; where_refused = refusal; where_apart = two })

pub by-sums-finds : BySumsFinds
unfolding by_sums
by-sums-finds a calls words f =
    let j : Job = run a calls in
    by-carried j (locating j words f unseen)
    (λ o. Taken o → (s : Shape) × (c : ℕ) × (last_shape calls ≡ some s) × (o.answer ≡ columns c) × FoundAs (Coded s) s words f c o)
    (λ k m taken. absurd (taken (k, refl))) (λ k p m taken. absurd (taken (k, refl))) (λ (e, p) q taken. (
      j.head.shape,
      _,
      sym (holds-last-shape a calls) ∙ not-empty-held j e,
      refl,
      found-coded j words f e p unseen q,
    ))
