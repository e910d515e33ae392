-- Demands 2 and 3, about every list of calls on one job from an empty one.
use mathlib.Core.Path.{◌≡◌, refl, sym, ap, subst, subst⁻¹, ◌∙◌}
use mathlib.Core.Logic.{◌⊎◌, inl, inr, ◌↔◌}
use mathlib.Core.Bool.{Bool, true, false, cond, and-eq-true_iff}
use mathlib.Core.List.{List, [], ◌∷◌, ◌++◌, append_assoc}
use mathlib.Core.Option.{some}
use Prim.Native.Nat.{ℕ, ◌+◌, ◌*◌, ◌≤◌, ◌<◌}
use native.Mathlib.Omega.{arith}
use Rattle.columns.proofs.Listing.{by-test}
use Rattle.decoding.specs.Locating.{size_of, taps_of}
use Rattle.decoding.specs.Remaining.{read_sequences}
use Rattle.decoding.proofs.LegalNearest.{legal_mixed}
use Rattle.decoding.proofs.MendedFrame.{read_facts}
use Rattle.decoding.proofs.Recovery.{Recovers, recovers-twice}
use Rattle.decoding.proofs.SequenceRegister.{register_of, same_size}
use Rattle.frame.specs.DeclaredCells.{Declared, declared_by, checks_left, erasures, WellFormedRead, distance_read}
use Rattle.frame.specs.Encode.{encoded, encode_tests, OnlyUniform}
use Rattle.frame.specs.Frame.{Legal, uniform}
use Rattle.frame.specs.Shape.{checks_of, is_shape, shape_of}
use Rattle.frame.specs.declared.Shape.{Shape}
use Rattle.frame.proofs.Demands as frames
use Rattle.refusal.specs.Order.{Test, first_of}
use Rattle.refusal.specs.Outcome as outcome
use Rattle.refusal.specs.Outcome.{passed}
use Rattle.refusal.proofs.Orders.{Pass, no_fail, pass-otherwise}
use Rattle.register.specs.Register.{Shortest, Alone}
use Rattle.job.specs.Calls.{Call, shape, encode, locate, repair, done, columns, refused, Outcome, refusing, encodes, describe, step}
use Rattle.job.specs.Demands.{ShapeGives, Encoded, EncodeUniform, Mended, Found, LocateExact, RepairMends, CheckSumsDiffer, RepairRefused, RepairExact}
use Rattle.job.specs.Demands.{RepairOfLocated, RepairAfterLocate, DamageMended, Demand2, Demand3}
use Rattle.job.specs.Job.{Arrays, Job, empty_job, is_empty, is_located_phase, length_of, declared_in, declared_sound}
use Rattle.job.specs.Left.{Given, LeftShaped}
use Rattle.job.specs.Refusals.{LegalAt}
use Rattle.job.specs.Runs.{run, last_shape, IsRefused, Taken, Between, LocatedBy, at_once, GoesBack}
use Rattle.job.proofs.AfterRefusal.{same_number, never-columns, never_done}
use Rattle.job.proofs.Between.{between-keeps}
use Rattle.job.proofs.Cases.{by_call}
use Rattle.job.proofs.Emptiness.{has-shape}
use Rattle.job.proofs.Forms.{Locates, located_frame, run_form, run-append}
use Rattle.job.proofs.GoingBack.{goes_back}
use Rattle.job.proofs.LastShape.{shape-is-last}
use Rattle.job.proofs.Left.{shape-given}
use Rattle.job.proofs.LocatedBy.{located-by, located-not-empty}
use Rattle.job.proofs.Locating.{locate_takes, exact-at-size, exact-at, found}
use Rattle.job.proofs.NoPart.{play_no-part}
use Rattle.job.proofs.OtherSums.{differ_held, repair-refused}
use Rattle.job.proofs.Repairing.{one, repair-mended, repair_takes}
use Rattle.job.proofs.Soundness.{reached, holds-last-shape, not-empty-held, shape-held}

-- ---- calls that are not refused

abbrev sound_cells : Job → Bool
sound_cells j = declared_sound j.head.shape (declared_in j) (length_of j.head.phase)

module _ (a : Arrays) (calls : List Call) (f : List ℕ) where
  abbrev After : (Shape → ℕ → Outcome → Type 0) → Outcome → Type 0
  After P o = Taken o → (s : Shape) × (c : ℕ) × (last_shape calls ≡ some s) × (o.answer ≡ columns c) × P s c o

  last-shape : is_empty (run a calls) ≡ false → last_shape calls ≡ some (run a calls).head.shape
  last-shape e = sym (holds-last-shape a calls) ∙ not-empty-held (run a calls) e

  -- a call that tests first that the job is not empty, and gives a count where it is not refused
  module _ (c : Call) (P : Shape → ℕ → Outcome → Type 0) where
    taken-gives : (n : ℕ) → (describe (run a calls) c).gives.answer ≡ columns n
        → (Pass (describe (run a calls) c).keeping → is_empty (run a calls) ≡ false)
        → (Pass (describe (run a calls) c).keeping → Pass (describe (run a calls) c).shaping
        → P (run a calls).head.shape n (describe (run a calls) c).gives) → After P (step (run a calls) c)
    taken-gives n answers not-empty given =
        by_call (run a calls) c (After P) (λ k m taken. absurd (taken (k, refl))) (λ k p m taken. absurd (taken (k, refl)))
        (λ p q taken. ((run a calls).head.shape, n, last-shape (not-empty p), answers, given p q))

  -- a repair, with the words of the locate that it goes back to
  abbrev MendedBack : Shape → ℕ → Outcome → Type 0
  MendedBack s c o = (words : List ℕ) × GoesBack a calls words × Mended s (declared_by words) f c (run a calls) o

  mends : After MendedBack (step (run a calls) (repair f))
  mends =
      taken-gives (repair f) MendedBack (length_of (run a calls).head.phase) refl (λ p. p.0) (λ p q. (
        (run a calls).arrays.declared,
        goes_back a calls ((and-eq-true_iff (is_located_phase (run a calls).head.phase) (sound_cells (run a calls))).0 (no_fail _ p.1.0)).0,
        repair-mended (run a calls) f (run_form a calls) p q,
      ))

  finds : (words : List ℕ) → After (λ s c o. Found s words f c o) (step (run a calls) (locate words f))
  finds words =
      taken-gives (locate words f) (λ s c o. Found s words f c o) (length_of (describe (run a calls) (locate words f)).gives.job.head.phase) refl
      (λ p. p.0) (λ (e, p) q. found (run a calls) words f e p q)

  fills : Taken (step (run a calls) (encode f)) → (s : Shape) × (last_shape calls ≡ some s) × Encoded s f (run a calls) (step (run a calls) (encode f))
  fills =
      by_call (run a calls) (encode f) (λ o. Taken o → (s : Shape) × (last_shape calls ≡ some s) × Encoded s f (run a calls) o)
      (λ k m taken. absurd (taken (k, refl))) (λ k p m. absurd m) (λ (e, p) q taken. (
        (run a calls).head.shape,
        last-shape e,
        record {
          answer = refl;
          frame = (frames.demand_2).encodes _ f (has-shape (run a calls).head e) (pass-otherwise outcome.refused passed (encode_tests _ f) p);
          job = refl;
        },
      ))

-- an encode of an empty job, and of one that is not
module _ (j : Job) (f : List ℕ) where
  refused-empty : is_empty j ≡ true → (step j (encode f)).answer ≡ refused 21
  unfolding step
  refused-empty e = rw e refl

  refused-tests : is_empty j ≡ false → (k : ℕ) → (step j (encode f)).answer ≡ refused k → outcome.outcome (encode_tests j.head.shape f) ≡ outcome.refused k
  unfolding step
  refused-tests full k =
      subst⁻¹ (λ (b : Bool). (cond b (refusing j f 21) (first_of (refusing j f) (encode_tests j.head.shape f) (encodes j f))).answer ≡ refused k
      → outcome.outcome (encode_tests j.head.shape f) ≡ outcome.refused k) full (same-refusal (encode_tests j.head.shape f))
    where
      same-refusal : (ts : List Test) → (first_of (refusing j f) ts (encodes j f)).answer ≡ refused k → outcome.outcome ts ≡ outcome.refused k
      same-refusal [] e = absurd (never_done e)
      same-refusal (t ∷ ts) e = pick t.fails (same-refusal ts) e
        where
          pick : (b : Bool) → ((first_of (refusing j f) ts (encodes j f)).answer ≡ refused k → outcome.outcome ts ≡ outcome.refused k)
              → (cond b (refusing j f t.number) (first_of (refusing j f) ts (encodes j f))).answer ≡ refused k
              → cond b (outcome.refused t.number) (outcome.outcome ts) ≡ outcome.refused k
          pick true later e = ap outcome.refused (same_number e)
          pick false later e = later e

-- an encode refused by 34 is one of a job that is not empty, whose frame these tests refuse so
uniform_data : EncodeUniform
uniform_data a calls f e = pick (by-test (is_empty (run a calls)))
  where
    j : Job
    j = run a calls

    pick : (is_empty j ≡ true) ⊎ (is_empty j ≡ false) → (s : Shape) × (e : List ℕ) × (last_shape calls ≡ some s) × OnlyUniform s f e
    pick (inl empty) = absurd (let q = same_number (sym (refused-empty j f empty) ∙ e) in let z : ⊥ = omega arith in z)
    pick (inr full) = (
      j.head.shape,
      encoded j.head.shape f,
      last-shape a calls f full,
      (frames.demand_2).uniform j.head.shape f (has-shape j.head full) (refused-tests j f full 34 e),
    )

shape-gives : ShapeGives
shape-gives a calls n checks b =
    by_call (run a calls) (shape n checks b)
    (λ o. Taken o → (s : Shape) × Given n checks b s × (o.answer ≡ done) × LeftShaped s (run a calls).arrays o.job)
    (λ k m taken. absurd (taken (k, refl))) (λ k p m. absurd m) (λ p q taken. (
      shape_of n checks b,
      shape-given n checks b p,
      refl,
      record { phase = refl; shape = refl; columns = refl; arrays = refl },
    ))

repair-mends : RepairMends
repair-mends a calls f taken =
    let (s, c, last, answer, (words, back, mended)) = mends a calls f taken in (s, words, c, last, back, answer, mended)

-- ---- a locate of a frame whose register is alone

locate-exact : LocateExact
locate-exact a calls s words f c σ last =
    let (not-empty, same) = shape-held a calls s last in
    let D : Declared = declared_by words in
    subst (λ (x : Shape). WellFormedRead x D f → Shortest 257 c (read_sequences x D f) σ → Alone 257 c (read_sequences x D f) σ
    → ((h : ℕ) → h < x.rows → c ≤ checks_left x D h) → IsRefused (step (run a calls) (locate words f)) ↔ (LegalAt x D f c → ⊥)) same
    (exact-at (run a calls) words f not-empty c σ)

-- ---- a frame that was located, at once or in slices

pub shaped_so : (a : Arrays) (calls : List Call) (s : Shape) → last_shape calls ≡ some s → is_shape s ≡ true
shaped_so a calls s last =
    let (not-empty, same) = shape-held a calls s last in subst (λ (x : Shape). is_shape x ≡ true) same (has-shape (run a calls).head not-empty)

module _ (a : Arrays) (before locating : List Call) (s : Shape) (words f : List ℕ) (last : last_shape before ≡ some s)
    (by : LocatedBy a before words f locating) where
  -- the job is the one that the frame leaves
  located_so : (b : Arrays) × (run a (before ++ locating) ≡ located_frame s b words f) × Locates s (declared_by words) f
  located_so =
      subst (λ (x : Shape). (b : Arrays) × (run a (before ++ locating) ≡ located_frame x b words f) × Locates x (declared_by words) f)
      (shape-held a before s last).1 (located-by a before words f locating by)

  pub locates : Locates s (declared_by words) f
  locates = let (b, same, l) = located_so in l

  -- and still is
  pub still-located : (between : List Call) → Between (run a (before ++ locating)) between
      → (b : Arrays) × (run a (before ++ (locating ++ between)) ≡ located_frame s b words f)
  still-located between kept =
      let (b, same, l) = located_so in (
        b,
        ap (run a) (sym (append_assoc before locating between)) ∙ run-append (empty_job a) (before ++ locating) between
            ∙ between-keeps (run a (before ++ locating)) between kept ∙ same,
      )

repair-exact : RepairExact
repair-exact a before locating between s words f g c σ last by kept w shortest =
    let D : Declared = declared_by words in
    let (b, same) = still-located a before locating s words g last by between kept in
    subst⁻¹ (λ (n : ℕ). RepairRefused s D f g n (step (run a (before ++ (locating ++ between))) (repair f))) (same_size (read_sequences s D g) c σ shortest)
    (subst⁻¹ (λ j. RepairRefused s D f g (size_of (read_sequences s D g)) (step j (repair f))) same
    (repair-refused s b words f g (shaped_so a before s last) (locates a before locating s words g last by) w))

-- of the frame itself
repair_of_located : RepairOfLocated
repair_of_located a before locating between words f by kept =
    let D : Declared = declared_by words in
    let j : Job = run a before in
    let s : Shape = j.head.shape in
    let not-empty : is_empty j ≡ false = located-not-empty a before words f locating by in
    let last = last-shape a before f not-empty in
    let l : Locates s D f = locates a before locating s words f last by in
    let t : is_shape s ≡ true = has-shape j.head not-empty in
    let no_difference : CheckSumsDiffer s D f f → ⊥ = (λ d. differ_held s D f f d refl) in
    let exact = exact-at-size j words f not-empty l.well_formed l.alone l.reach in
    let missing : CheckSumsDiffer s D f f ⊎ (LegalAt s D f (size_of (read_sequences s D f)) → ⊥) → LegalAt s D f (size_of (read_sequences s D f)) → ⊥ =
    (λ why. elim why [ inl d ↦ absurd (no_difference d) | inr none ↦ none ]) in
    let refuses =
    repair-exact a before locating between s words f f (size_of (read_sequences s D f)) (taps_of (read_sequences s D f)) last by kept l.well_formed
    (register_of (read_sequences s D f)).shortest in (
      (
        λ refusal. exact.1 (missing (refuses.at_all.0 refusal)),
        λ refusal. refuses.at_all.1 (inr (exact.0 refusal)),
      ),
      λ k e. same_number (sym e ∙ refuses.by_26.1 (no_difference, missing (refuses.at_all.0 (k, e)))),
    )

repair-after-locate : RepairAfterLocate
repair-after-locate a before between words f taken kept refusal =
    taken ((repair_of_located a before (locate words f ∷ []) between words f (at_once a before words f taken) kept).0.0 refusal)

-- ---- a frame that was damaged

module _ (s : Shape) (t : is_shape s ≡ true) (words f g : List ℕ) (legal : Legal s g) (w : WellFormedRead s (declared_by words) f)
    (twice : (h : ℕ) → h < s.rows → 2 * distance_read s (declared_by words) g f + erasures (declared_by words) h ≤ checks_of s h) where
  abbrev D : Declared
  D = declared_by words

  recovers : Recovers s D g f
  recovers = recovers-twice s t D g f legal.coded (read_facts s t D f w) twice

  pub damaged-locates : Locates s (declared_by words) f
  damaged-locates =
      record { well_formed = w; alone = recovers.alone; reach = recovers.reaches; names = recovers.names; fits = recovers.fits }

  -- the frame mended to is g, which is not uniform
  damaged_mixed : one s (declared_by words) f ≡ false
  damaged_mixed = subst⁻¹ (λ e. uniform e ≡ false) recovers.frame (legal_mixed s g legal)

  -- a job that it left located mends it
  pub damaged-mended : (j : Job) (b : Arrays) → j ≡ located_frame s b words f → Taken (step j (repair f)) × ((step j (repair f)).frame ≡ g)
  damaged-mended j b same =
      let after = ap (λ i. step i (repair f)) same ∙ repair_takes s b words f t damaged-locates damaged_mixed in
      (λ (k, refusal). never-columns (sym (ap (λ o. o.answer) after) ∙ refusal), ap (λ o. o.frame) after ∙ recovers.frame)

locate-taken : (a : Arrays) (before : List Call) (s : Shape) (words f : List ℕ) → last_shape before ≡ some s → Locates s (declared_by words) f
    → one s (declared_by words) f ≡ false → Taken (step (run a before) (locate words f))
locate-taken a before s words f last =
    let (not-empty, same) = shape-held a before s last in
    subst (λ (x : Shape). Locates x (declared_by words) f → one x (declared_by words) f ≡ false → Taken (step (run a before) (locate words f))) same
    (λ l mixed (k, refusal). never-columns (sym (ap (λ o. o.answer) (locate_takes (run a before) words f not-empty l mixed)) ∙ refusal))

damage-mended : DamageMended
damage-mended a before between s words f g last legal w twice kept =
    let t : is_shape s ≡ true = shaped_so a before s last in
    let taken = locate-taken a before s words f last (damaged-locates s t words f g legal w twice) (damaged_mixed s t words f g legal w twice) in
    let (b, same) = still-located a before (locate words f ∷ []) s words f last (at_once a before words f taken) between kept in
    let (mended, frame) = damaged-mended s t words f g legal w twice _ b same in
    record { located = taken; mended = mended; frame = frame }

pub demand_2 : Demand2
demand_2 = record { encode-fills = fills; encode-uniform = uniform_data }

pub demand_3 : Demand3
demand_3 = record {
  reached = reached;
  shape-is-last = shape-is-last;
  shape-gives = shape-gives;
  locate-finds = λ a calls words f. finds a calls f words;
  locate-exact = locate-exact;
  repair-mends = repair-mends;
  repair-exact = repair-exact;
  repair_of_located = repair_of_located;
  repair-after-locate = repair-after-locate;
  damage-mended = damage-mended;
  arrays = play_no-part;
}
