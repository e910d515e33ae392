-- Which cells can be declared, row by row, as the code tests it: the marks of a row by its next mark past the last column, or from column 0 where the row is
-- past the last one.
use mathlib.Core.Path.{◌≡◌, sym, ap, ap₂, ◌∙◌}
use mathlib.Core.Bool.{Bool, true, not, ◌&&◌, ◌||◌, and-true, and-eq-true_iff}
use Prim.Native.Nat.{ℕ, ◌≤◌, ◌<◌}
use native.Mathlib.Decide.{dec_lt}
use native.Mathlib.Omega.{arith}
use lib.Dec.{leb, ltb, eqb}
use lib.ListN.{length}
use borrow.Author.Tests.{lt-ltb, le-ltb, le-leb, lt-leb}
use Rattle.columns.specs.Columns.{has, members}
use Rattle.columns.specs.declared.Columns.{Columns}
use Rattle.columns.proofs.Outside.{next-none}
use Rattle.columns.proofs.Walk.{next_at}
use Rattle.erasures.specs.Rows.{row_declarable}
use Rattle.frame.specs.DeclaredCells.{Declared, erasures, marks_inside, declarable}
use Rattle.frame.specs.Shape.{checks_of}
use Rattle.frame.specs.declared.Shape.{Shape}
use Rattle.lists.specs.Tabulate.{every}
use Rattle.lists.proofs.Tabulated.{every-at, every_of, every_ext}
use Rattle.lists.proofs.Truth.{same_truth}

module _ (s : Shape) (J : Columns) (h : ℕ) where
  -- past the last row no mark is allowed
  pub past-rows : s.rows ≤ h → eqb (next_at J 0) 256 ≡ row_declarable s J h
  unfolding row_declarable
  past-rows past =
      next-none J 0 ∙ every_ext 256 _ _ at
      ∙ sym (ap (λ (b : Bool). marks && (b || few)) (le-leb s.rows h past) ∙ and-true marks)
    where
      marks : Bool
      marks = every 256 (λ i. not (has J i) || (ltb h s.rows && ltb i s.columns))

      few : Bool
      few = leb (length (members J)) (checks_of s h)

      at : (i : ℕ) → i < 256 → (not (has J i) || ltb i 0) ≡ (not (has J i) || (ltb h s.rows && ltb i s.columns))
      at i l =
          ap (λ (b : Bool). not (has J i) || b)
          (le-ltb i 0 (omega arith) ∙ sym (ap (λ (b : Bool). b && ltb i s.columns) (le-ltb h s.rows past)))

  -- a row of the shape: no mark from its columns on, and no more marks than checks
  pub within-rows : h < s.rows → (eqb (next_at J s.columns) 256 && leb (length (members J)) (checks_of s h)) ≡ row_declarable s J h
  unfolding row_declarable
  within-rows inside =
      ap₂ ◌&&◌ (next-none J s.columns ∙ every_ext 256 _ _ at)
      (sym (ap (λ (b : Bool). b || leb (length (members J)) (checks_of s h)) (lt-leb s.rows h inside)))
    where
      at : (i : ℕ) → i < 256 → (not (has J i) || ltb i s.columns) ≡ (not (has J i) || (ltb h s.rows && ltb i s.columns))
      at i l = ap (λ (b : Bool). not (has J i) || (b && ltb i s.columns)) (sym (lt-ltb h s.rows inside))

-- all rows
pub all-rows : (s : Shape) (D : Declared) → s.rows ≤ 8 → every 8 (λ h. row_declarable s (D h) h) ≡ declarable s D
unfolding row_declarable marks_inside declarable
all-rows s D most = same_truth _ _ to from
  where
    few : ℕ → Bool
    few h = leb (erasures D h) (checks_of s h)

    row : ℕ → Bool
    row h = row_declarable s (D h) h

    both : (h : ℕ) → h < 8 → every 8 row ≡ true → (marks_inside s D h ≡ true) × ((leb s.rows h || few h) ≡ true)
    both h l e = (and-eq-true_iff (marks_inside s D h) (leb s.rows h || few h)).0 (every-at 8 row e h l)

    to : every 8 row ≡ true → (every 8 (marks_inside s D) && every s.rows few) ≡ true
    to e =
        (and-eq-true_iff (every 8 (marks_inside s D)) (every s.rows few)).1 (
          every_of 8 (marks_inside s D) (λ h l. (both h l e).0),
          every_of s.rows few (λ h l. sym (ap (λ (b : Bool). b || few h) (lt-leb s.rows h l)) ∙ (both h (omega arith) e).1),
        )

    from : (every 8 (marks_inside s D) && every s.rows few) ≡ true → every 8 row ≡ true
    from e =
        let (marks, fews) = (and-eq-true_iff (every 8 (marks_inside s D)) (every s.rows few)).0 e in
        every_of 8 row (λ h l. (and-eq-true_iff (marks_inside s D h) (leb s.rows h || few h)).1
        (every-at 8 (marks_inside s D) marks h l, either_way h (every-at s.rows few fews h) (dec_lt h s.rows)))
      where
        either_way : (h : ℕ) → (h < s.rows → few h ≡ true) → Dec (h < s.rows) → (leb s.rows h || few h) ≡ true
        either_way h f (yes l) = ap₂ ◌||◌ (lt-leb s.rows h l) (f l)
        either_way h f (no l) = ap (λ (b : Bool). b || few h) (le-leb s.rows h (omega arith))
