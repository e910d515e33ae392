-- What each call gives after each of its tests, and the answers that it makes of it.
use mathlib.Core.Path.{◌≡◌, refl, sym, ap, ◌∙◌}
use mathlib.Core.Bool.{true, false, and-eq-true_iff}
use mathlib.Core.List.{List, [], ◌∷◌}
use Prim.Native.Nat.{ℕ, ◌≤◌}
use lib.ListN.{length}
use Rattle.std.specs.Prelude.{Result, Ok, Err}
use Rattle.decoding.specs.Remaining.{left_reach, mended}
use Rattle.frame.specs.DeclaredCells.{Declared, declared_by, declarable, as_read, undeclared_below, read_tests, reread_tests, WellFormedRead}
use Rattle.frame.specs.Encode.{encoded, encode_tests}
use Rattle.frame.specs.Frame.{WellFormed, held_sums, frame_tests}
use Rattle.frame.specs.Shape.{shape_of, shape_tests}
use Rattle.frame.specs.declared.Shape.{Shape}
use Rattle.frame.proofs.Declarable.{read-passes}
use Rattle.frame.proofs.Reasons.{shape-passes, frame-passes}
use Rattle.frame.proofs.Shapes.{shape-ranges}
use Rattle.job.specs.Answers.{shape_outcome, encode_outcome, answered_outcome}
use Rattle.job.specs.Calls.{shape, encode, locate, repair, step, Outcome, refusing, repairs, same_sums, sums_test, mends_uniform, uniform_test}
use Rattle.job.specs.Job.{Arrays, Job, shaped_job, beside, is_empty, is_located, declared_in, declared_sound, length_of, shaped_head}
use Rattle.job.specs.declared.Answered.{Answered}
use Rattle.job.specs.declared.Head.{Head}
use Rattle.refusal.specs.Number.{number}
use Rattle.refusal.specs.declared.Refusal.{Refusal}
use Rattle.refusal.specs.declared.Refusal.TheVariants.{Empty}
use Rattle.refusal.specs.Order.{Test, first_of}
use Rattle.refusal.specs.Outcome.{passed, refused, outcome, outcome_of}
use Rattle.refusal.proofs.Orders.{first_of_append, no_fail, passed-pass}
use Rattle.refusal.proofs.Outcomes.{given-passed, given-refused}
use Rattle.heads.specs.Answered as answer-of
use Rattle.locating.specs.FromSums.{seen_from}

-- a refusal of the calls' answer, with the head that it leaves beside the arrays as they were
pub refusal-outcome : (a : Arrays) (f : List ℕ) {r : Answered} {i j : Head} (why : Refusal) → r ≡ answer-of.refusal i why → i ≡ j
    → answered_outcome r a f ≡ refusing (beside j a) f (number why)
refusal-outcome a f why e g = ap (λ x. answered_outcome x a f) (e ∙ ap (λ k. answer-of.refusal k why) g)

-- a repair's answer and frame
pub mended-outcome : (j : Head) (a : Arrays) (f : List ℕ) {r : Answered} {c : ℕ} {left : List ℕ} → r ≡ answer-of.repair j.shape c j.columns
    → c ≡ length_of j.phase → left ≡ mended j.shape (declared_by a.declared) j.columns f → answered_outcome r a left ≡ repairs (beside j a) f
mended-outcome j a f e n l = rw (e, n, l) refl

pub passed-frame : (s : Shape) (f : List ℕ) → outcome (frame_tests s f) ≡ passed → WellFormed s f
passed-frame s f e = frame-passes s f (passed-pass (frame_tests s f) e)

pub passed-read : (s : Shape) (words f : List ℕ) → outcome (read_tests s (declared_by words) f) ≡ passed → WellFormedRead s (declared_by words) f
passed-read s words f e = read-passes s (declared_by words) f (passed-pass (read_tests s (declared_by words) f) e)

pub passed-undeclared : (s : Shape) (words f : List ℕ) → outcome (read_tests s (declared_by words) f) ≡ passed → undeclared_below s (declared_by words) f ≡ true
unfolding read_tests
passed-undeclared s words f e = let (size, (declared, (symbols, u))) = passed-pass (read_tests s (declared_by words) f) e in no_fail _ symbols

-- ---- shape

pub passed-rows : (n : ℕ) (checks : List ℕ) (b : ℕ) → outcome (shape_tests n checks b) ≡ passed → length checks ≤ 8
unfolding shape_of
passed-rows n checks b e = (shape-ranges (shape_of n checks b) (shape-passes n checks b (passed-pass (shape_tests n checks b) e))).rows-most

module _ (j : Job) (n : ℕ) (checks : List ℕ) (b : ℕ) where
  pub shape-refused : (why : Refusal) → outcome (shape_tests n checks b) ≡ refused (number why) → shape_outcome j (Err why) ≡ step j (shape n checks b)
  unfolding step
  shape-refused why e = sym (given-refused (refusing j []) _ (shape_tests n checks b) (number why) e)

  pub shape-given : {i : Head} → outcome (shape_tests n checks b) ≡ passed → i ≡ shaped_head (shape_of n checks b)
      → shape_outcome j (Ok i) ≡ step j (shape n checks b)
  unfolding step
  shape-given e r = ap (λ x. shape_outcome j (Ok x)) r ∙ sym (given-passed (refusing j []) _ (shape_tests n checks b) e)

-- ---- encode

module _ (j : Job) (f : List ℕ) where
  pub encode-empty : is_empty j ≡ true → encode_outcome j (Err Empty) f ≡ step j (encode f)
  unfolding step
  encode-empty e = rw e refl

  abbrev leaves : List ℕ
  leaves = first_of (λ k. f) (encode_tests j.head.shape f) (encoded j.head.shape f)

  pub encode-given : is_empty j ≡ false → (v : Result (Unit {0}) Refusal) {left : List ℕ} → outcome_of v ≡ outcome (encode_tests j.head.shape f) → left ≡ leaves
      → encode_outcome j v left ≡ step j (encode f)
  unfolding step
  encode-given full (Ok done) e l =
      ap (encode_outcome j (Ok done)) (l ∙ given-passed (λ k. f) _ (encode_tests j.head.shape f) (sym e))
      ∙ rw full (sym (given-passed (refusing j f) _ (encode_tests j.head.shape f) (sym e)))
  encode-given full (Err why) e l =
      ap (encode_outcome j (Err why)) (l ∙ given-refused (λ k. f) _ (encode_tests j.head.shape f) (number why) (sym e))
      ∙ rw full (sym (given-refused (refusing j f) _ (encode_tests j.head.shape f) (number why) (sym e)))

-- ---- locate

module _ (j : Job) (words f : List ℕ) where
  pub locate-empty : is_empty j ≡ true → refusing j f 21 ≡ step j (locate words f)
  unfolding step
  locate-empty e = rw e refl

  module _ (full : is_empty j ≡ false) where
    pub locate-refused : (k : ℕ) → outcome (read_tests j.head.shape (declared_by words) f) ≡ refused k → refusing j f k ≡ step j (locate words f)
    unfolding step
    locate-refused k e = rw full (sym (given-refused (refusing j f) _ (read_tests j.head.shape (declared_by words) f) k e))

    pub locate-goes-on : outcome (read_tests j.head.shape (declared_by words) f) ≡ passed
        → seen_from j.head.shape j.arrays words (held_sums j.head.shape (as_read j.head.shape (declared_by words) f)) f ≡ step j (locate words f)
    unfolding step
    locate-goes-on e = rw full (sym (given-passed (refusing j f) _ (read_tests j.head.shape (declared_by words) f) e))

-- ---- repair

-- cells with which a locate can have left a job of length c
pub sound-cells : (s : Shape) (D : Declared) (c : ℕ) → declared_sound s D c ≡ true → (declarable s D ≡ true) × (left_reach s D c ≡ true)
unfolding declared_sound
sound-cells s D c e = (and-eq-true_iff (declarable s D) (left_reach s D c)).0 e

module _ (j : Job) (f : List ℕ) where
  pub repair-empty : is_empty j ≡ true → refusing j f 21 ≡ step j (repair f)
  unfolding step
  repair-empty e = rw e refl

  module _ (full : is_empty j ≡ false) where
    pub repair-unlocated : is_located j ≡ false → refusing j f 22 ≡ step j (repair f)
    unfolding step
    repair-unlocated e = rw (full, e) refl

    module _ (located : is_located j ≡ true) (ok : declarable j.head.shape (declared_in j) ≡ true) where
      abbrev read : List Test
      read = read_tests j.head.shape (declared_in j) f

      -- cells that can be declared are not refused, so that the tests are those of a frame that is read for the first time
      reread : {A : Type 0} (refuse : ℕ → A) (otherwise : A)
          → first_of refuse (reread_tests j.head.shape (declared_in j) f) otherwise ≡ first_of refuse read otherwise
      unfolding read_tests reread_tests
      reread refuse otherwise = rw ok refl

      -- what is left where the sums are the same
      abbrev given : Outcome
      given = first_of (refusing (shaped_job j.head.shape j.arrays) f) (uniform_test j f ∷ []) (repairs j f)

      -- these come next, then the test of the sums
      next : step j (repair f) ≡ first_of (refusing j f) read (first_of (refusing j f) (sums_test j f ∷ []) given)
      unfolding step
      next =
          rw (full, located)
          (first_of_append (refusing j f) (reread_tests j.head.shape (declared_in j) f) (sums_test j f ∷ []) given ∙ reread (refusing j f) _)

      pub repair-refused : (k : ℕ) → outcome (read_tests j.head.shape (declared_in j) f) ≡ refused k → refusing j f k ≡ step j (repair f)
      repair-refused k e = sym (given-refused (refusing j f) _ read k e) ∙ sym next

      module _ (well_formed : outcome (read_tests j.head.shape (declared_in j) f) ≡ passed) where
        goes_on : first_of (refusing j f) (sums_test j f ∷ []) given ≡ step j (repair f)
        goes_on = sym (given-passed (refusing j f) _ read well_formed) ∙ sym next

        pub repair-differs : same_sums (held_sums j.head.shape (as_read j.head.shape (declared_in j) f)) j.arrays.sums ≡ false
            → refusing j f 23 ≡ step j (repair f)
        repair-differs e = rw e at goes_on

        module _ (same : same_sums (held_sums j.head.shape (as_read j.head.shape (declared_in j) f)) j.arrays.sums ≡ true) where
          judged : first_of (refusing (shaped_job j.head.shape j.arrays) f) (uniform_test j f ∷ []) (repairs j f) ≡ step j (repair f)
          judged = rw same at goes_on

          pub repair-uniform : mends_uniform j.head.shape (declared_in j) f j.head.columns ≡ true
              → refusing (shaped_job j.head.shape j.arrays) f 26 ≡ step j (repair f)
          repair-uniform e = rw e at judged

          pub repair-mends : mends_uniform j.head.shape (declared_in j) f j.head.columns ≡ false → repairs j f ≡ step j (repair f)
          repair-mends e = rw e at judged
