-- The tests of shapes and frames say their reasons: each fails exactly where its reason holds. Where they pass, the shape is one, and the frame is
-- well-formed.
use mathlib.Core.Path.{◌≡◌, refl, sym, ap, ap₂, ◌∙◌}
use mathlib.Core.Logic.{inl, inr}
use mathlib.Core.Bool.{Bool, true, false, not, ◌&&◌, ◌||◌, and-eq-true_iff, false≢true}
use mathlib.Core.List.{List}
use Prim.Native.Nat.{ℕ, ◌*◌, ◌≤◌, ◌<◌}
use native.Mathlib.Decide.{dec_lt}
use native.Mathlib.Omega.{arith}
use lib.Dec.{leb, ltb, eqb}
use lib.ListN.{length, get_or, get_or-append}
use borrow.Author.Tests.{ltb-true, ltb-false, leb-true, leb-false, eqb-true, eqb-false, lt-ltb, le-ltb, eq-eqb}
use Rattle.lists.specs.Tabulate.{every}
use Rattle.lists.proofs.Tabulated.{every-at, every_of, every_witness, every_ext}
use Rattle.refusal.proofs.Orders.{Pass, no_fail, Says, SayAll, says-not}
use Rattle.refusal.proofs.Ranges.{outside-says}
use Rattle.frame.specs.Demands.{BadChecks, columns_reason, shape_reasons, data_reason, frame_reasons, size_reason, symbols_reason}
use Rattle.frame.specs.Encode.{data_below}
use Rattle.frame.specs.Frame.{cell, WellFormed, symbols_test, frame_tests}
use Rattle.frame.specs.Shape.{checks_of, shape_of, columns_test, shape_tests, is_shape, rows_in_range, columns_in_range, checks_in_range, exponent_in_range}
use Rattle.frame.specs.declared.Shape.{Shape}
use Rattle.frame.proofs.ShapeTests.{count_test, count-taken}

good_count : (n k : ℕ) → count_test n k ≡ true → BadChecks n k → ⊥
good_count n k e = off (leb-true 1 k a.0) (leb-true k 64 b.0) (ltb-true k n b.1)
  where
    a : (leb 1 k ≡ true) × ((leb k 64 && ltb k n) ≡ true)
    a = (and-eq-true_iff (leb 1 k) (leb k 64 && ltb k n)).0 e

    b : (leb k 64 ≡ true) × (ltb k n ≡ true)
    b = (and-eq-true_iff (leb k 64) (ltb k n)).0 a.1

    off : 1 ≤ k → k ≤ 64 → k < n → BadChecks n k → ⊥
    off l m h (inl x) = omega arith
    off l m h (inr (inl x)) = omega arith
    off l m h (inr (inr x)) = omega arith

bad-count : (n k : ℕ) → count_test n k ≡ false → BadChecks n k
bad-count n k e = pick (dec_lt k 1) (dec_lt 64 k) (dec_lt k n)
  where
    pick : Dec (k < 1) → Dec (64 < k) → Dec (k < n) → BadChecks n k
    pick (yes a) b c = inl a
    pick (no a) (yes b) c = inr (inl b)
    pick (no a) (no b) (no c) = inr (inr (omega arith))
    pick (no a) (no b) (yes c) =
        absurd (false≢true (sym e ∙ count-taken n k (omega arith) (omega arith) c))

pub columns-says : (n : ℕ) → Says (columns_test n) (columns_reason n)
unfolding columns_in_range
columns-says n = outside-says 5 2 256 n

pub shape-says : (n : ℕ) (checks : List ℕ) (b : ℕ) → SayAll (shape_tests n checks b) (shape_reasons n checks b)
unfolding shape_tests rows_in_range checks_in_range exponent_in_range
shape-says n checks b = (
  outside-says 2 1 8 (length checks),
  (
    columns-says n,
    (
      says-not 6 (every (length checks) (λ h. count_test n (get_or checks h 0)))
          ((h : ℕ) × (h < length checks) × BadChecks n (get_or checks h 0))
          (λ e (h, l, bad). good_count n (get_or checks h 0) (every-at (length checks) _ e h l) bad)
          (λ e. let (h, l, bad) = every_witness (length checks) _ e in (h, l, bad-count n (get_or checks h 0) bad)),
      (says-not 32 (leb b 255) (255 < b) (λ e l. let m = leb-true b 255 e in omega arith) (leb-false b 255), tt),
    ),
  ),
)

pub size-says : (s : Shape) (f : List ℕ)
    → Says (record { number = 7; fails = not (eqb (length f) (s.rows * s.columns)) }) (size_reason s f)
size-says s f = says-not 7 (eqb (length f) (s.rows * s.columns)) _ (λ e n. n (eqb-true _ _ e)) (eqb-false _ _)

pub data_says : (s : Shape) (f : List ℕ) → Says (record { number = 4; fails = not (data_below s f) }) (data_reason s f)
unfolding data_below
data_says s f =
    says-not 4 (every s.rows (λ h. every s.columns (below h))) _
    (λ e (h, i, r, c, n, x). false≢true (sym (ap₂ ◌||◌ (le-ltb i (checks_of s h) c) (le-ltb (cell s.columns f h i) 257 x))
    ∙ every-at s.columns (below h) (every-at s.rows _ e h r) i n))
    found
  where
    below : ℕ → ℕ → Bool
    below h i = ltb i (checks_of s h) || ltb (cell s.columns f h i) 257

    both : (a b : Bool) → (a || b) ≡ false → (a ≡ false) × (b ≡ false)
    both true b e = absurd (false≢true (sym e))
    both false b e = (refl, e)

    found : every s.rows (λ h. every s.columns (below h)) ≡ false
        → (h : ℕ) × (i : ℕ) × (h < s.rows) × (checks_of s h ≤ i) × (i < s.columns) × (257 ≤ cell s.columns f h i)
    found e =
        let (h, r, p) = every_witness s.rows (λ h. every s.columns (below h)) e in
        let (i, n, q) = every_witness s.columns (below h) p in
        let (c, x) = both _ _ q in
        (h, i, r, ltb-false _ _ c, n, ltb-false _ _ x)

pub symbols-says : (f : List ℕ) → Says (symbols_test f) (symbols_reason f)
symbols-says f =
    says-not 4 (every (length f) (λ k. ltb (get_or f k 0) 257)) _
    (λ e (k, l, x). let b : get_or f k 0 < 257 = ltb-true (get_or f k 0) 257 (every-at (length f) _ e k l) in omega (arith, x))
    (λ e. let (k, l, b) = every_witness (length f) _ e in (k, l, ltb-false _ _ b))

pub frame-says : (s : Shape) (f : List ℕ) → SayAll (frame_tests s f) (frame_reasons s f)
unfolding frame_tests
frame-says s f = (size-says s f, (symbols-says f, tt))

-- ---- where the tests pass

pub shape-passes : (n : ℕ) (checks : List ℕ) (b : ℕ) → Pass (shape_tests n checks b) → is_shape (shape_of n checks b) ≡ true
unfolding shape_tests is_shape shape_of checks_in_range
shape-passes n checks b (r, (c, (k, (e, u)))) =
    ap₂ ◌&&◌ (no_fail (rows_in_range (length checks)) r)
    (ap₂ ◌&&◌ (no_fail (columns_in_range n) c)
    (ap₂ ◌&&◌
    (every_ext (length checks) _ (λ h. count_test n (get_or checks h 0)) (λ h l. ap (count_test n) (get_or-append checks _ 0 h l)) ∙ no_fail _ k)
    (no_fail (exponent_in_range b) e)))

pub frame-passes : (s : Shape) (f : List ℕ) → Pass (frame_tests s f) → WellFormed s f
unfolding frame_tests
frame-passes s f (l, (b, u)) = record {
  size = eqb-true _ _ (no_fail _ l);
  symbols = λ k h. ltb-true _ _ (every-at (length f) _ (no_fail _ b) k h);
}

pub well_formed_passes : (s : Shape) (f : List ℕ) → WellFormed s f → Pass (frame_tests s f)
unfolding frame_tests
well_formed_passes s f w =
    (ap not (eq-eqb _ _ w.size), (ap not (every_of (length f) _ (λ k h. lt-ltb _ _ (w.symbols k h))), tt))
