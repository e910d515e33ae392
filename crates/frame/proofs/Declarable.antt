-- The tests of a frame with declared cells say their reasons. Where 31 does not fall, the declared columns of each row are below the shape's, and no more than
-- the row's checks.
use mathlib.Core.Path.{◌≡◌, refl, sym, ap₂, ◌∙◌}
use mathlib.Core.Logic.{◌⊎◌, inl, inr}
use mathlib.Core.List.{List}
use mathlib.Core.Bool.{Bool, true, false, not, ◌&&◌, ◌||◌, and-eq-true_iff, false≢true}
use Prim.Native.Nat.{ℕ, ◌*◌, ◌≤◌, ◌<◌}
use native.Mathlib.Decide.{dec_lt, ℕ_discrete}
use native.Mathlib.Omega.{arith}
use lib.Dec.{ltb, leb}
use lib.ListN.{length}
use borrow.Author.Tests.{ltb-true, ltb-false, leb-true, leb-false, le-ltb, not-false}
use Rattle.columns.specs.Columns.{has, Sound}
use Rattle.columns.proofs.Marks.{has-past}
use Rattle.lists.specs.Tabulate.{every}
use Rattle.lists.proofs.Tabulated.{every-at, every_witness}
use Rattle.refusal.proofs.Orders.{Pass, no_fail, Says, SayAll, says-not, pass-none, none_pass}
use Rattle.field257.proofs.Members.{Below}
use Rattle.frame.specs.Demands.{size_reason}
use Rattle.frame.specs.Frame.{cell}
use Rattle.frame.specs.DeclaredCells.{Declared, erasures, marks_inside, declarable, undeclared_below, BadCells, WellFormedRead}
use Rattle.frame.specs.DeclaredCells.{symbols_test, read_tests, reread_tests, symbols_reason, read_reasons, reread_reasons}
use Rattle.frame.specs.Shape.{checks_of}
use Rattle.frame.proofs.Reasons.{size-says}
use Rattle.frame.specs.declared.Shape.{Shape}

second : (a b : Bool) → (not a || b) ≡ true → a ≡ true → b ≡ true
second true b e t = e
second false b e t = absurd (false≢true t)

module _ (s : Shape) (D : Declared) (ok : declarable s D ≡ true) where
  parts : (every 8 (marks_inside s D) ≡ true) × (every s.rows (λ h. leb (erasures D h) (checks_of s h)) ≡ true)
  unfolding declarable
  parts = (and-eq-true_iff (every 8 (marks_inside s D)) (every s.rows (λ h. leb (erasures D h) (checks_of s h)))).0 ok

  mark-inside : (h i : ℕ) → h < 8 → i < 256 → has (D h) i ≡ true → (ltb h s.rows ≡ true) × (ltb i s.columns ≡ true)
  unfolding marks_inside
  mark-inside h i row low mem =
      (and-eq-true_iff (ltb h s.rows) (ltb i s.columns)).0
      (second (has (D h) i) _ (every-at 256 _ (every-at 8 (marks_inside s D) parts.0 h row) i low) mem)

  pub declared-few : (h : ℕ) → h < s.rows → erasures D h ≤ checks_of s h
  declared-few h below = leb-true (erasures D h) (checks_of s h) (every-at s.rows _ parts.1 h below)

  pub declared-inside : (h : ℕ) → h < 8 → Sound (D h) → Below s.columns (D h)
  declared-inside h row sound i mem = pick (dec_lt i 256)
    where
      pick : Dec (i < 256) → i < s.columns
      pick (yes low) = ltb-true i s.columns (mark-inside h i row low mem).1
      pick (no past) = absurd (false≢true (sym (has-past (D h) sound i (omega arith)) ∙ mem))

  -- no marks past the last row
  pub declared-rows : (h : ℕ) → h < 8 → Sound (D h) → s.rows ≤ h → (i : ℕ) → has (D h) i ≡ true → ⊥
  declared-rows h row sound past i mem = pick (dec_lt i 256)
    where
      pick : Dec (i < 256) → ⊥
      pick (yes low) = let r = ltb-true h s.rows (mark-inside h i row low mem).0 in omega arith
      pick (no high) = false≢true (sym (has-past (D h) sound i (omega arith)) ∙ mem)

both_false : (a b : Bool) → (a || b) ≡ false → (a ≡ false) × (b ≡ false)
both_false true b e = absurd (false≢true (sym e))
both_false false b e = (refl, e)

pub one-false : (a b : Bool) → (a && b) ≡ false → (a ≡ false) ⊎ (b ≡ false)
one-false true b e = inr e
one-false false b e = inl refl

pub bad-cells : (s : Shape) (D : Declared) → declarable s D ≡ false → BadCells s D
unfolding declarable marks_inside
bad-cells s D e = pick (one-false (every 8 (marks_inside s D)) _ e)
  where
    place : (h i : ℕ) → (ltb h s.rows ≡ false) ⊎ (ltb i s.columns ≡ false) → (s.rows ≤ h) ⊎ (s.columns ≤ i)
    place h i (inl r) = inl (ltb-false h s.rows r)
    place h i (inr c) = inr (ltb-false i s.columns c)

    pick : (every 8 (marks_inside s D) ≡ false) ⊎ (every s.rows (λ h. leb (erasures D h) (checks_of s h)) ≡ false) → BadCells s D
    pick (inl m) =
        let (h, row, q) = every_witness 8 (marks_inside s D) m in
        let (i, low, p) = every_witness 256 (λ i. not (has (D h) i) || (ltb h s.rows && ltb i s.columns)) q in
        let (a, b) = both_false (not (has (D h) i)) _ p in
        inr (h, i, row, low, not-false (has (D h) i) a, place h i (one-false (ltb h s.rows) (ltb i s.columns) b))
    pick (inr m) =
        let (h, below, p) = every_witness s.rows (λ h. leb (erasures D h) (checks_of s h)) m in
        inl (h, below, leb-false (erasures D h) (checks_of s h) p)

pub good_cells : (s : Shape) (D : Declared) → declarable s D ≡ true → BadCells s D → ⊥
good_cells s D ok (inl (h, below, more)) = let few = declared-few s D ok h below in omega arith
good_cells s D ok (inr (h, i, row, low, mem, past)) =
    let (r, c) = mark-inside s D ok h i row low mem in
    off (ltb-true h s.rows r) (ltb-true i s.columns c) past
  where
    off : h < s.rows → i < s.columns → (s.rows ≤ h) ⊎ (s.columns ≤ i) → ⊥
    off r c (inl x) = omega arith
    off r c (inr x) = omega arith

-- ---- the tests say their reasons

module _ (s : Shape) (D : Declared) (f : List ℕ) where
  below : ℕ → ℕ → Bool
  below h i = has (D h) i || ltb (cell s.columns f h i) 257

  symbols-says : Says (symbols_test s D f) (symbols_reason s D f)
  unfolding undeclared_below below
  symbols-says =
      says-not 4 (every s.rows (λ h. every s.columns (below h))) _
      (λ e (h, i, r, c, out, x). false≢true (sym (ap₂ ◌||◌ out (le-ltb (cell s.columns f h i) 257 x))
      ∙ every-at s.columns (below h) (every-at s.rows _ e h r) i c)) found
    where
      found : every s.rows (λ h. every s.columns (below h)) ≡ false
          → (h : ℕ) × (i : ℕ) × (h < s.rows) × (i < s.columns) × (has (D h) i ≡ false) × (257 ≤ cell s.columns f h i)
      found e =
          let (h, r, p) = every_witness s.rows (λ h. every s.columns (below h)) e in
          let (i, c, q) = every_witness s.columns (below h) p in
          let (out, x) = both_false _ _ q in
          (h, i, r, c, out, ltb-false _ _ x)

  pub read-says : SayAll (read_tests s D f) (read_reasons s D f)
  unfolding read_tests
  read-says = (size-says s f, (says-not 31 (declarable s D) _ (good_cells s D) (bad-cells s D), (symbols-says, tt)))

  pub reread-says : SayAll (reread_tests s D f) (reread_reasons s D f)
  unfolding reread_tests
  reread-says = (size-says s f, (symbols-says, tt))

  -- ---- where they pass

  sized : ((size_reason s f).holds → ⊥) → length f ≡ s.rows * s.columns
  sized none = elim (ℕ_discrete (length f) (s.rows * s.columns)) [ yes e ↦ e | no n ↦ absurd (none n) ]

  each_below : ((symbols_reason s D f).holds → ⊥) → (h i : ℕ) → h < s.rows → i < s.columns → has (D h) i ≡ false → cell s.columns f h i < 257
  each_below none h i r c out = elim (dec_lt (cell s.columns f h i) 257) [ yes l ↦ l | no n ↦ absurd (none (h, i, r, c, out, omega arith)) ]

  pub read-passes : Pass (read_tests s D f) → WellFormedRead s D f
  read-passes p =
      let (size, (declared, (symbols, none))) = pass-none (read_tests s D f) (read_reasons s D f) read-says p in
      record { size = sized size; declared = declared; symbols = each_below symbols }

  pub well_formed_read : WellFormedRead s D f → Pass (read_tests s D f)
  well_formed_read w =
      none_pass (read_tests s D f) (read_reasons s D f) read-says (
        (λ n. n w.size),
        (
          w.declared,
          ((λ (h, i, r, c, out, x). let l = w.symbols h i r c out in let z : ⊥ = omega arith in z), tt),
        ),
      )

  -- the frame is read again with cells that can be declared
  pub reread-passes : declarable s D ≡ true → Pass (reread_tests s D f) → WellFormedRead s D f
  reread-passes ok p =
      let (size, (symbols, none)) = pass-none (reread_tests s D f) (reread_reasons s D f) reread-says p in
      record { size = sized size; declared = good_cells s D ok; symbols = each_below symbols }

  pub well_formed_reread : WellFormedRead s D f → Pass (reread_tests s D f)
  unfolding read_tests reread_tests
  well_formed_reread w = let (size, (declared, rest)) = well_formed_read w in (size, rest)

  pub well_formed_declarable : WellFormedRead s D f → declarable s D ≡ true
  unfolding read_tests
  well_formed_declarable w = no_fail _ (well_formed_read w).1.0
