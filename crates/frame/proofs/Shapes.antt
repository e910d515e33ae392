-- What a shape is, in inequalities.
use mathlib.Core.Path.{◌≡◌}
use mathlib.Core.Bool.{Bool, true, ◌&&◌, and-eq-true_iff}
use Prim.Native.Nat.{ℕ, ◌≤◌, ◌<◌}
use lib.Dec.{leb, ltb}
use borrow.Author.Tests.{ltb-true, leb-true}
use Rattle.lists.proofs.Tabulated.{every-at}
use Rattle.frame.specs.Shape.{checks_of, is_shape, rows_in_range, columns_in_range, checks_in_range, exponent_in_range}
use Rattle.frame.specs.declared.Shape.{Shape}

pub record RowRanges (s : Shape) (h : ℕ) : Type 0 where
  pub least : 1 ≤ checks_of s h
  pub most : checks_of s h ≤ 64
  pub below : checks_of s h < s.columns

pub record Ranges (s : Shape) : Type 0 where
  pub rows-least : 1 ≤ s.rows
  pub rows-most : s.rows ≤ 8
  pub columns-least : 2 ≤ s.columns
  pub columns-most : s.columns ≤ 256
  pub checks : (h : ℕ) → h < s.rows → RowRanges s h
  pub exponent-most : s.exponent ≤ 255

both : (a b : Bool) → (a && b) ≡ true → (a ≡ true) × (b ≡ true)
both a b = (and-eq-true_iff a b).0

pub shape-ranges : (s : Shape) → is_shape s ≡ true → Ranges s
unfolding is_shape rows_in_range columns_in_range checks_in_range exponent_in_range
shape-ranges s e =
    let (rows, rest) = both (rows_in_range s.rows) _ e in
    let (columns, rest') = both (columns_in_range s.columns) _ rest in
    let (checks, exponent) = both (checks_in_range s.columns s.rows s.checks) _ rest' in
    let (r, r') = both (leb 1 s.rows) _ rows in
    let (c, c') = both (leb 2 s.columns) _ columns in
    record {
      rows-least = leb-true _ _ r;
      rows-most = leb-true _ _ r';
      columns-least = leb-true _ _ c;
      columns-most = leb-true _ _ c';
      checks = λ h l. of_row h (every-at s.rows _ checks h l);
      exponent-most = leb-true _ _ exponent;
    }
  where
    of_row : (h : ℕ) → (leb 1 (checks_of s h) && (leb (checks_of s h) 64 && ltb (checks_of s h) s.columns)) ≡ true → RowRanges s h
    of_row h p =
        let (a, q) = both (leb 1 (checks_of s h)) _ p in
        let (b, d) = both (leb (checks_of s h) 64) _ q in
        record { least = leb-true _ _ a; most = leb-true _ _ b; below = ltb-true _ _ d }
