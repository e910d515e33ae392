-- The tests of a frame as the code makes them.
use mathlib.Core.Path.{◌≡◌, refl, sym, ap, ap₂, ◌∙◌}
use mathlib.Core.Bool.{Bool, true, false, not, cond, ◌||◌}
use mathlib.Core.List.{List}
use Prim.Native.Nat.{ℕ, ◌+◌, ◌-◌, ◌*◌, ◌≤◌, ◌<◌}
use native.Mathlib.Decide.{dec_lt}
use native.Mathlib.Omega.{arith}
use lib.Dec.{ltb, eqb}
use lib.ListN.{length, get_or}
use borrow.Author.Tests.{lt-ltb, le-ltb}
use borrow.Rule.Slice.PartMut.{mid_of, mid_len}
use Rattle.frame.specs.Encode.{data_below, encoded, encode_tests}
use Rattle.frame.specs.Frame.{cell, frame_tests, uniform}
use Rattle.frame.specs.Shape.{checks_of}
use Rattle.frame.specs.declared.Shape.{Shape}
use Rattle.lists.specs.Tabulate.{every}
use Rattle.lists.proofs.Entries.{get_d_part}
use Rattle.lists.proofs.Tabulated.{every-at, every_of, every-fails, every_witness}
use Rattle.refusal.specs.Order.{first_of}
use Rattle.frame.proofs.RowPlace.{RowPlace}

-- what follows from the tests of a frame, and of the encoder, once their answers are known
module _ {A : Type 0} (refuse : ℕ → A) (otherwise : A) (s : Shape) (f : List ℕ) (size below : Bool)
    (sized : eqb (length f) (s.rows * s.columns) ≡ size) where
  abbrev answer : Bool → Bool → A
  answer l b = cond (not l) (refuse 7) (cond (not b) (refuse 4) otherwise)

  pub by-frame-tests : every (length f) (λ k. ltb (get_or f k 0) 257) ≡ below → answer size below ≡ first_of refuse (frame_tests s f) otherwise
  unfolding frame_tests
  by-frame-tests e = sym (ap₂ answer sized e)

  pub by-encode-tests : (one : Bool) → data_below s f ≡ below → uniform (encoded s f) ≡ one
      → cond (not size) (refuse 7) (cond (not below) (refuse 4) (cond one (refuse 34) otherwise)) ≡ first_of refuse (encode_tests s f) otherwise
  unfolding encode_tests
  by-encode-tests one e u = rw (sized, e, u) refl

-- ---- the data of a row

module _ (test : ℕ → Bool) (n : ℕ) (f : List ℕ) (h count : ℕ) (inside : h * n + n ≤ length f) (fewer : count ≤ n) where
  -- the data cells of row h
  abbrev part : List ℕ
  part = mid_of (h * n + count) (h * n + n - (h * n + count)) f

  length_part : length part ≡ n - count
  length_part = let q = mid_len (h * n + count) (h * n + n) f inside in omega arith

  abbrev cell_test : ℕ → Bool
  cell_test i = ltb i count || test (cell n f h i)

  abbrev data_test : ℕ → Bool
  data_test k = test (get_or part k 0)

  is-cell : (k : ℕ) → k < n - count → get_or part k 0 ≡ cell n f h (count + k)
  is-cell k l =
      get_d_part (h * n + count) (h * n + n - (h * n + count)) f k 0 (omega arith)
      ∙ ap (λ (i : ℕ). get_or f i 0) (let q : h * n + count + k ≡ h * n + (count + k) = omega arith in q)

  same_test : (k : ℕ) → k < n - count → cell_test (count + k) ≡ data_test k
  same_test k l =
      ap₂ ◌||◌ (le-ltb (count + k) count (omega arith)) (ap test (sym (is-cell k l)))

  row_data : every n cell_test ≡ every (length part) data_test
  row_data = pick (every (length part) data_test) refl
    where
      pick : (b : Bool) → every (length part) data_test ≡ b → every n cell_test ≡ b
      pick true e = every_of n cell_test (λ i l. at i l (dec_lt i count))
        where
          at : (i : ℕ) → i < n → Dec (i < count) → cell_test i ≡ true
          at i l (yes c) = ap (λ (b : Bool). b || test (cell n f h i)) (lt-ltb i count c)
          at i l (no c) =
              let k : ℕ = i - count in
              ap cell_test (let q : i ≡ count + k = omega arith in q) ∙ same_test k (omega arith)
              ∙ every-at (length part) data_test e k (let s = length_part in omega arith)
      pick false e =
          let (k, l, x) = every_witness (length part) data_test e in
          let less : k < n - count = let s = length_part in omega arith in
          every-fails n cell_test (count + k) (omega arith) (same_test k less ∙ x)

-- a test of the data cells of row h, by that of the part that holds them
abbrev pub row_test : (test : ℕ → Bool) (s : Shape) (f : List ℕ) (h : ℕ) → Bool
row_test test s f h = every s.columns (λ i. ltb i (checks_of s h) || test (cell s.columns f h i))

pub row-tested : (test : ℕ → Bool) (s : Shape) (f : List ℕ) (h count : ℕ) (r : Bool) → RowPlace s (length f) h → count ≡ checks_of s h
    → (let cells = mid_of (h * s.columns + count) (h * s.columns + s.columns - (h * s.columns + count)) f in
    r ≡ every (length cells) (λ k. test (get_or cells k 0)))
    → row_test test s f h ≡ r
row-tested test s f h count r place e t =
    ap (λ (c : ℕ). every s.columns (λ i. ltb i c || test (cell s.columns f h i))) (sym e)
    ∙ row_data test s.columns f h count place.inside (let l = place.checks.below in omega arith) ∙ sym t
