-- What a sound head that is located tells of its marks: no row has fewer checks, and none is outside the shape. So a repair is safe.
use mathlib.Core.Path.{◌≡◌, sym, ◌∙◌}
use mathlib.Core.Bool.{Bool, true, false, not, ◌||◌, and-eq-true_iff, false≢true}
use Prim.Native.Nat.{ℕ, ◌≤◌, ◌<◌}
use native.Mathlib.Decide.{dec_lt}
use native.Mathlib.Omega.{arith}
use lib.Dec.{ltb, eqb}
use lib.ListN.{length}
use borrow.Author.Tests.{ltb-true, leb-true, eqb-true}
use Rattle.columns.specs.Columns.{has, members, Sound}
use Rattle.columns.specs.declared.Columns.{Columns}
use Rattle.columns.proofs.Marks.{has-past}
use Rattle.decoding.specs.Locating.{rows_reach}
use Rattle.frame.specs.Shape.{checks_of, is_shape}
use Rattle.frame.specs.declared.Shape.{Shape}
use Rattle.job.specs.Job.{findings_sound, counts_empty, is_empty_phase, is_located_phase, length_of, phase_sound, head_sound}
use Rattle.job.specs.declared.Head.{Head}
use Rattle.job.specs.declared.Phase.{Phase}
use Rattle.job.specs.declared.Phase.TheVariants.{Empty, Shaped, Unfinished, Located}
use Rattle.lists.specs.Tabulate.{every}
use Rattle.lists.proofs.Tabulated.{every-at}
use Rattle.refusal.proofs.Orders.{no_fail}

pub record Marked (s : Shape) (J : Columns) : Type 0 where
  pub inside : (i : ℕ) → has J i ≡ true → i < s.columns
  pub reach : (h : ℕ) → h < s.rows → length (members J) ≤ checks_of s h

marks_in : (b t : Bool) → (not b || t) ≡ true → b ≡ true → t ≡ true
marks_in true t e m = e
marks_in false t e m = absurd (false≢true m)

module _ (s : Shape) (J : Columns) (four : Sound J) where
  findings-marked : (c : ℕ) (a : Bool) → findings_sound s J c a ≡ true → Marked s J
  unfolding findings_sound rows_reach
  findings-marked c a e =
      let (alone, rest) = (and-eq-true_iff a _).0 e in
      let (within, more) = (and-eq-true_iff (every 256 (λ i. not (has J i) || ltb i s.columns)) _).0 rest in
      let (count, reach) = (and-eq-true_iff (eqb (length (members J)) c) _).0 more in
      record { inside = λ i m. inside i within m (dec_lt i 256); reach = reaches c reach (eqb-true _ c count) }
    where
      reaches : (c : ℕ) → rows_reach s c ≡ true → length (members J) ≡ c → (h : ℕ) → h < s.rows → length (members J) ≤ checks_of s h
      reaches c reach e h l = omega (arith, e, leb-true c (checks_of s h) (every-at s.rows _ reach h l))

      inside : (i : ℕ) → every 256 (λ i. not (has J i) || ltb i s.columns) ≡ true → has J i ≡ true → Dec (i < 256) → i < s.columns
      inside i within m (yes l) = ltb-true i s.columns (marks_in (has J i) (ltb i s.columns) (every-at 256 _ within i l) m)
      inside i within m (no l) = absurd (false≢true (sym (has-past J four i (omega arith)) ∙ m))

pub located-marked : (j : Head) → counts_empty j ≡ false → is_located_phase j.phase ≡ true → Sound j.columns → Marked j.shape j.columns
unfolding counts_empty head_sound phase_sound
located-marked j full located four = of_phase j.phase full located
  where
    of_phase : (p : Phase) → (is_empty_phase p || not (phase_sound p j.shape j.columns)) ≡ false → is_located_phase p ≡ true → Marked j.shape j.columns
    of_phase Empty e l = absurd (false≢true l)
    of_phase Shaped e l = absurd (false≢true l)
    of_phase Unfinished e l = absurd (false≢true l)
    of_phase (Located c a) e l =
        findings-marked j.shape j.columns four c a ((and-eq-true_iff (is_shape j.shape) (findings_sound j.shape j.columns c a)).0 (no_fail _ e)).1

-- its length is that of its marks, and every row has as many checks
located-findings : (j : Head) → counts_empty j ≡ false → is_located_phase j.phase ≡ true
    → (length (members j.columns) ≡ length_of j.phase) × (rows_reach j.shape (length_of j.phase) ≡ true)
unfolding counts_empty head_sound phase_sound findings_sound
located-findings j full located = of_phase j.phase full located
  where
    of_phase : (p : Phase) → (is_empty_phase p || not (phase_sound p j.shape j.columns)) ≡ false → is_located_phase p ≡ true
        → (length (members j.columns) ≡ length_of p) × (rows_reach j.shape (length_of p) ≡ true)
    of_phase Empty e l = absurd (false≢true l)
    of_phase Shaped e l = absurd (false≢true l)
    of_phase Unfinished e l = absurd (false≢true l)
    of_phase (Located c a) e l =
        let (shape, findings) = (and-eq-true_iff (is_shape j.shape) (findings_sound j.shape j.columns c a)).0 (no_fail _ e) in
        let (alone, rest) = (and-eq-true_iff a _).0 findings in
        let (within, more) = (and-eq-true_iff (every 256 (λ i. not (has j.columns i) || ltb i j.shape.columns)) _).0 rest in
        let (count, reach) = (and-eq-true_iff (eqb (length (members j.columns)) c) _).0 more in
        (eqb-true _ c count, reach)

pub located-size : (j : Head) → counts_empty j ≡ false → is_located_phase j.phase ≡ true → length (members j.columns) ≡ length_of j.phase
located-size j full located = (located-findings j full located).0

pub located-reach : (j : Head) → counts_empty j ≡ false → is_located_phase j.phase ≡ true → rows_reach j.shape (length_of j.phase) ≡ true
located-reach j full located = (located-findings j full located).1
