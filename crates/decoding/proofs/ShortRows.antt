-- The set of short rows and the frame that repair leaves: which marks the set has, that it is empty exactly where every row has checks enough left, that short
-- rows stay as received, and that every other row is that of the frame mended in all rows.
use mathlib.Core.Path.{◌≡◌, sym, ap, ◌∙◌}
use mathlib.Core.Bool.{Bool, true, false, cond, ◌&&◌, false≢true}
use mathlib.Core.List.{List}
use mathlib.Core.Logic.{◌↔◌}
use Prim.Native.Nat.{ℕ, ◌+◌, ◌-◌, ◌*◌, ◌≤◌, ◌<◌}
use native.Mathlib.Nat.{div-eq_of_lt}
use native.Mathlib.Decide.{dec_lt}
use native.Mathlib.Omega.{arith}
use lib.Dec.{ltb, lit<}
use lib.ListN.{length}
use borrow.Author.Tests.{ltb-true, ltb-false, lt-ltb, le-ltb, leb-true, le-leb}
use Rattle.columns.specs.Columns.{bit, has, columns_of, either}
use Rattle.columns.specs.declared.Columns.{Columns}
use Rattle.columns.proofs.Bits.{bit_shr, bit_of_zero, number_lt, number_ext, bit-number, number_bit}
use Rattle.columns.proofs.Marks.{has-columns_of, has-past, columns_of-sound}
use Rattle.decoding.specs.Remaining.{left_reach, mended}
use Rattle.decoding.specs.ShortRows.{is_short, short_rows, AreShort, filled, mended_rows}
use Rattle.frame.specs.Completion.{completed}
use Rattle.frame.specs.DeclaredCells.{Declared, checks_left}
use Rattle.frame.specs.Frame.{row, cell}
use Rattle.frame.specs.declared.Shape.{Shape}
use Rattle.frame.proofs.CompletedFrames.{length-completed_frame, completed_frame-row, completed_frame-kept}
use Rattle.frame.proofs.Rows.{row-end, same_rows, each_row_ext}
use Rattle.lists.proofs.Tabulated.{every-at, every_of}
use Rattle.lists.proofs.Truth.{same_truth}

-- ---- the set

-- a number of eight bits has no others
bit_past : (r h : ℕ) → r < 256 → 8 ≤ h → bit r h ≡ false
bit_past r h small past =
    let q : 8 + (h - 8) ≡ h = omega arith in
    ap (bit r) (sym q) ∙ sym (bit_shr r 8 (h - 8)) ∙ ap (λ x. bit x (h - 8)) (div-eq_of_lt small) ∙ bit_of_zero (h - 8)

module _ (s : Shape) (D : Declared) (c : ℕ) where
  pub short-less : (h : ℕ) → is_short s D c h ≡ true → checks_left s D h < c
  unfolding is_short
  short-less h e = ltb-true _ _ e

  pub long-enough : (h : ℕ) → is_short s D c h ≡ false → c ≤ checks_left s D h
  unfolding is_short
  long-enough h e = ltb-false _ _ e

  less-short : (h : ℕ) → checks_left s D h < c → is_short s D c h ≡ true
  unfolding is_short
  less-short h l = lt-ltb _ _ l

  pub enough-long : (h : ℕ) → c ≤ checks_left s D h → is_short s D c h ≡ false
  unfolding is_short
  enough-long h l = le-ltb _ _ l

  marked : (h : ℕ) → h < 8 → bit (short_rows s D c) h ≡ (ltb h s.rows && is_short s D c h)
  unfolding short_rows
  marked h b = bit-number 8 (λ h. ltb h s.rows && is_short s D c h) h b

  short-rows-small : short_rows s D c < 256
  unfolding short_rows
  short-rows-small = number_lt 8 _

  module _ (few : s.rows ≤ 8) where
    pub bit-short : (h : ℕ) → h < s.rows → bit (short_rows s D c) h ≡ is_short s D c h
    bit-short h below = marked h (omega arith) ∙ ap (λ (b : Bool). b && is_short s D c h) (lt-ltb h s.rows below)

    not-past : (h : ℕ) → s.rows ≤ h → bit (short_rows s D c) h ≡ false
    not-past h past = pick (dec_lt h 8)
      where
        pick : Dec (h < 8) → bit (short_rows s D c) h ≡ false
        pick (yes b) = marked h b ∙ ap (λ (b : Bool). b && is_short s D c h) (le-ltb h s.rows past)
        pick (no b) = bit_past (short_rows s D c) h short-rows-small (omega arith)

    pub are_short : AreShort s D c (short_rows s D c)
    are_short =
        record {
          each = λ h below. (λ e. short-less h (sym (bit-short h below) ∙ e), λ l. bit-short h below ∙ less-short h l);
          rest = not-past;
          eight = short-rows-small;
        }

  -- there is one such set only
  pub are_short-only : (r q : ℕ) → AreShort s D c r → AreShort s D c q → r ≡ q
  are_short-only r q a b = sym (number_bit 8 r a.eight) ∙ number_ext 8 (bit r) (bit q) (λ h _. pick h (dec_lt h s.rows)) ∙ number_bit 8 q b.eight
    where
      pick : (h : ℕ) → Dec (h < s.rows) → bit r h ≡ bit q h
      pick h (yes below) = same_truth _ _ (λ e. (b.each h below).1 ((a.each h below).0 e)) (λ e. (a.each h below).1 ((b.each h below).0 e))
      pick h (no past) = a.rest h (omega arith) ∙ sym (b.rest h (omega arith))

  -- no row is marked exactly where every row has at least c checks left
  pub no_rows : s.rows ≤ 8 → (short_rows s D c ≡ 0) ↔ (left_reach s D c ≡ true)
  unfolding left_reach
  no_rows few = (
    λ e. every_of s.rows _ (λ h below.
        le-leb _ _ (long-enough h (sym (bit-short few h below) ∙ ap (λ r. bit r h) e ∙ bit_of_zero h))),
    λ e.
        are_short-only _ 0 (are_short few) (record {
          each = λ h below. (
            λ m. absurd (false≢true (sym (bit_of_zero h) ∙ m)),
            λ l. absurd (let m = leb-true c (checks_left s D h) (every-at s.rows _ e h below) in let z : ⊥ = omega arith in z),
          );
          rest = λ h _. bit_of_zero h;
          eight = lit< tt;
        }),
  )

-- ---- the frame that repair leaves

no-columns : (i : ℕ) → has (columns_of (λ i. false)) i ≡ false
no-columns i = pick (dec_lt i 256)
  where
    pick : Dec (i < 256) → has (columns_of (λ i. false)) i ≡ false
    pick (yes b) = has-columns_of (λ i. false) i b
    pick (no b) = has-past (columns_of (λ i. false)) (columns_of-sound (λ i. false)) i (omega arith)

module _ (D : Declared) (M : Columns) (r : ℕ) where
  pub filled-short : (h : ℕ) → bit r h ≡ true → filled D M r h ≡ columns_of (λ i. false)
  unfolding filled
  filled-short h e = ap (λ (b : Bool). cond b (columns_of (λ i. false)) (either M (D h))) e

  pub filled-long : (h : ℕ) → bit r h ≡ false → filled D M r h ≡ either M (D h)
  unfolding filled
  filled-long h e = ap (λ (b : Bool). cond b (columns_of (λ i. false)) (either M (D h))) e

module _ (s : Shape) (D : Declared) (M : Columns) (r : ℕ) (f : List ℕ) (whole : length f ≡ s.rows * s.columns) where
  pub length-rows : length (mended_rows s D M r f) ≡ s.rows * s.columns
  unfolding mended_rows
  length-rows = length-completed_frame s.exponent s.columns s.rows (filled D M r) f whole

  -- short rows stay as received
  pub short-cell : (h i : ℕ) → h < s.rows → i < s.columns → bit r h ≡ true
      → cell s.columns (mended_rows s D M r f) h i ≡ cell s.columns f h i
  unfolding mended_rows
  short-cell h i below inside e =
      completed_frame-kept s.exponent s.columns s.rows (filled D M r) f whole h i below inside
      (ap (λ (J : Columns). has J i) (filled-short D M r h e) ∙ no-columns i)

  pub short_row : (h : ℕ) → h < s.rows → bit r h ≡ true → row s.columns (mended_rows s D M r f) h ≡ row s.columns f h
  short_row h below e =
      let last = row-end s.columns h s.rows below in
      same_rows s.columns (mended_rows s D M r f) f h (let q = length-rows in omega arith) (omega arith) (λ i inside. short-cell h i below inside e)

  -- the others are completed
  pub long-row : (h : ℕ) → h < s.rows → bit r h ≡ false
      → row s.columns (mended_rows s D M r f) h ≡ completed s.exponent s.columns (either M (D h)) (row s.columns f h)
  unfolding mended_rows
  long-row h below e =
      completed_frame-row s.exponent s.columns s.rows (filled D M r) f whole h below
      ∙ ap (λ (J : Columns). completed s.exponent s.columns J (row s.columns f h)) (filled-long D M r h e)

  pub long-row-mended : (h : ℕ) → h < s.rows → bit r h ≡ false → row s.columns (mended_rows s D M r f) h ≡ row s.columns (mended s D M f) h
  unfolding mended
  long-row-mended h below e =
      long-row h below e ∙ sym (completed_frame-row s.exponent s.columns s.rows (λ h. either M (D h)) f whole h below)

-- with no short row it is the frame mended in all rows
pub none-short : (s : Shape) (D : Declared) (M : Columns) (f : List ℕ) → mended_rows s D M 0 f ≡ mended s D M f
unfolding mended_rows mended
none-short s D M f =
    each_row_ext s.columns _ _ f s.rows (λ h x _.
    ap (λ (J : Columns). completed s.exponent s.columns J x) (filled-long D M 0 h (bit_of_zero h)))
