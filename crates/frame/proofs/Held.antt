-- The check sums of a frame as they are held, row after row: what has been written after some rows.
use mathlib.Core.Path.{◌≡◌, refl, sym, ap, ap₂, ◌∙◌}
use mathlib.Core.List.{List, ◌++◌}
use Prim.Native.Nat.{ℕ, ◌+◌, ◌-◌, ◌*◌, ◌≤◌, ◌<◌, zero-le}
use native.Mathlib.Nat.{le_antisymm}
use native.Mathlib.Omega.{arith}
use lib.ListN.{length, take, drop, replicate}
use borrow.Rule.Slice.PartMut.{mid_of, put_mid, mid_len}
use Rattle.lists.specs.Tabulate.{tabulate, joined}
use Rattle.lists.proofs.Appending.{Appended, appended-none, appended-more, appended-length}
use Rattle.frame.specs.Frame.{row, check_sums, row_sums, sequences, held_sums}
use Rattle.frame.specs.Shape.{checks_of}
use Rattle.frame.specs.declared.Shape.{Shape}
use Rattle.frame.proofs.HeldSums.{length-row_sums}
use Rattle.frame.proofs.RowPlace.{RowPlace}

module _ (s : Shape) (f : List ℕ) where
  -- after h rows `at` entries are written, and the rest is 0
  pub record Held (h at : ℕ) (sums : List ℕ) : Type 0 where
    pub rows-passed : h ≤ s.rows
    pub room : at ≤ 64 * h
    pub size : length sums ≡ 512
    pub written : Appended 512 (row_sums s f) h at sums

  pub held_none : Held 0 0 (replicate 512 0)
  held_none = record { rows-passed = zero-le; room = zero-le; size = refl; written = appended-none 512 (row_sums s f) }

  module _ (h at : ℕ) (sums : List ℕ) (a : Held h at sums) (r : RowPlace s (length f) h) where
    -- the entries for row h end before this one
    abbrev to : ℕ
    to = at + checks_of s h

    abbrev place_of_row : List ℕ
    place_of_row = mid_of (h * s.columns) (h * s.columns + s.columns - h * s.columns) f

    ends : to ≤ 512
    ends = let q = a.room in let b = r.row_number in let c = r.checks.most in omega arith

    is_row : place_of_row ≡ row s.columns f h
    is_row =
        ap (λ (k : ℕ). take k (drop (h * s.columns) f))
        (let q : h * s.columns + s.columns - h * s.columns ≡ s.columns = omega arith in q)

    pub length-row : length place_of_row ≡ s.columns
    length-row =
        let q = mid_len (h * s.columns) (h * s.columns + s.columns) f r.inside in
        omega arith

    length_part : length (mid_of at (to - at) sums) ≡ checks_of s h
    length_part =
        let q = mid_len at to sums (let e = ends in let z = a.size in omega arith) in
        omega arith

    sums_of_row : (y : List ℕ) → y ≡ check_sums s.exponent (length place_of_row) (length (mid_of at (to - at) sums)) place_of_row → y ≡ row_sums s f h
    unfolding row_sums
    sums_of_row y e =
        e ∙ ap₂ (λ (k m : ℕ). check_sums s.exponent k m place_of_row) length-row length_part
        ∙ ap (check_sums s.exponent s.columns (checks_of s h)) is_row

    pub held_more : (y : List ℕ) → h < s.rows → y ≡ check_sums s.exponent (length place_of_row) (length (mid_of at (to - at) sums)) place_of_row
        → Held (h + 1) to (put_mid at (to - at) sums y)
    held_more y l e = record {
      rows-passed = omega arith;
      room = (let q = a.room in let c = r.checks.most in omega arith);
      size = appended-length 512 (row_sums s f) (h + 1) to _ more;
      written = more;
    }
      where
        more : Appended 512 (row_sums s f) (h + 1) to (put_mid at (to - at) sums y)
        more =
            appended-more 512 (row_sums s f) h at to sums y a.written (ap (λ (k : ℕ). at + k) (sym (length-row_sums s f h))) ends (sums_of_row y e)

  pub held_all : (h at : ℕ) (sums : List ℕ) → Held h at sums → s.rows ≤ h → sums ≡ held_sums s f
  unfolding held_sums sequences
  held_all h at sums a le =
      let all = le_antisymm a.rows-passed le in
      a.written.entries
      ∙ ap₂ (λ (k m : ℕ). joined (tabulate k (row_sums s f)) ++ replicate (512 - m) 0) all
      (sym a.written.place ∙ ap (λ (k : ℕ). length (joined (tabulate k (row_sums s f)))) all)
