-- A frame completed at columns of its own for each row is uniform exactly where the cells outside these columns hold one symbol and that symbol in every cell
-- makes the first check sums of each row 0, as many as the row has such columns. So this can be told without completing.
use mathlib.Core.Path.{◌≡◌, refl, sym, ap, ap₂, ◌∙◌}
use mathlib.Core.Bool.{Bool, true, false, ◌&&◌, ◌||◌, and-eq-true_iff}
use mathlib.Core.List.{List}
use mathlib.Core.Logic.{◌⊎◌, inl, inr}
use Prim.Native.Nat.{ℕ, suc, ◌+◌, ◌-◌, ◌*◌, ◌≤◌, ◌<◌}
use native.Mathlib.Omega.{arith}
use lib.Dec.{eqb, ltb}
use lib.ListN.{length, get_or, replicate, length-replicate, get_or-replicate}
use lib.Seq.{ext_get_or}
use borrow.Author.Tests.{eqb-true, eq-eqb, le-ltb, ltb-false}
use Rattle.columns.specs.Columns.{has}
use Rattle.columns.specs.declared.Columns.{Columns}
use Rattle.columns.proofs.Listing.{by-test}
use Rattle.columns.proofs.Marks.{has-columns_of}
use Rattle.field257.proofs.Members.{size, Below}
use Rattle.lists.specs.Tabulate.{every}
use Rattle.lists.proofs.Tabulated.{every-at, every_of, every_ext}
use Rattle.lists.proofs.Truth.{same_truth}
use Rattle.frame.proofs.CompletedFrames.{completed_frame, length-completed_frame, completed_frame-kept, completed_frame-sums, completed_frame-only}
use Rattle.frame.proofs.Encoding.{first_columns, size-first, has_first}
use Rattle.frame.proofs.RowData.{data_small}
use Rattle.frame.proofs.Rows.{cell-place, row-end, row-cell, length-row, same-frames}
use Rattle.frame.proofs.Shapes.{shape-ranges}
use Rattle.frame.proofs.Uniform.{uniform-cells}
use Rattle.frame.specs.Encode.{data_below, encoded}
use Rattle.frame.specs.Frame.{row, cell, check_sum, uniform}
use Rattle.frame.specs.Shape.{is_shape, checks_of}
use Rattle.frame.specs.declared.Shape.{Shape}

-- ---- a frame of one symbol

replicate-uniform : (m a : ℕ) → uniform (replicate m a) ≡ true
unfolding uniform
replicate-uniform m a = every_of _ _ (λ k b.
    let l = length-replicate m a in
    eq-eqb _ _ (get_or-replicate m k a 0 (omega arith) ∙ sym (get_or-replicate m 0 a 0 (omega arith))))

constant-row : (n rows a h : ℕ) → h < rows → row n (replicate (rows * n) a) h ≡ replicate n a
constant-row n rows a h below =
    let long : length (row n (replicate (rows * n) a) h) ≡ n
    = length-row n (replicate (rows * n) a) h (let e = row-end n h rows below in let l = length-replicate (rows * n) a in omega arith) in
    ext_get_or 0 _ _ (long ∙ sym (length-replicate n a)) (λ i inside.
    let b : i < n = omega arith in
    row-cell n (replicate (rows * n) a) h i b ∙ get_or-replicate (rows * n) (h * n + i) a 0 (cell-place n rows h i below b) ∙ sym (get_or-replicate n i a 0 b))

-- the cells outside the columns of each row hold a
abbrev kept_hold : (n rows : ℕ) (J : ℕ → Columns) (f : List ℕ) (a : ℕ) → Bool
kept_hold n rows J f a = every rows (λ h. every n (λ k. has (J h) k || eqb (cell n f h k) a))

-- a row of a alone has as many check sums 0 as each row has such columns
abbrev constant_coded : (b n rows : ℕ) (J : ℕ → Columns) (a : ℕ) → Bool
constant_coded b n rows J a = every rows (λ h. every (size (J h)) (λ j. eqb (check_sum b n (replicate n a) (suc j)) 0))

module _ (b n rows : ℕ) (J : ℕ → Columns) (f : List ℕ) (whole : length f ≡ rows * n) (narrow : n ≤ 256)
    (inside : (h : ℕ) → h < rows → Below n (J h)) (small : (h i : ℕ) → h < rows → i < n → has (J h) i ≡ false → cell n f h i < 257)
    (i : ℕ) (some : 0 < rows) (here : i < n) (out : has (J 0) i ≡ false) where
  abbrev E : List ℕ
  E = completed_frame b n rows J f whole

  abbrev a : ℕ
  a = cell n f 0 i

  size_E : length E ≡ rows * n
  size_E = length-completed_frame b n rows J f whole

  constant : List ℕ
  constant = replicate (rows * n) a

  same_as_a : uniform E ≡ true → (h k : ℕ) → h < rows → k < n → cell n E h k ≡ a
  same_as_a e h k r c = uniform-cells n rows E size_E e h k 0 i r c some here ∙ completed_frame-kept b n rows J f whole 0 i some here out

  is-constant : uniform E ≡ true → E ≡ constant
  unfolding constant
  is-constant e =
      same-frames n rows E constant size_E (length-replicate _ a) (λ h k r c.
      same_as_a e h k r c ∙ sym (get_or-replicate _ (h * n + k) a 0 (cell-place n rows h k r c)))

  constant-is : kept_hold n rows J f a ≡ true → constant_coded b n rows J a ≡ true → constant ≡ E
  unfolding constant
  constant-is kept coded =
      completed_frame-only b n rows J f whole narrow inside constant (length-replicate _ a)
      (λ h k r c. rw (get_or-replicate (rows * n) (h * n + k) a 0 (cell-place n rows h k r c)) (small 0 i some here out))
      (λ h k r c e.
      get_or-replicate _ (h * n + k) a 0 (cell-place n rows h k r c)
      ∙ sym (eqb-true _ _ (ap (λ (x : Bool). x || eqb (cell n f h k) a) (sym e) ∙ every-at n _ (every-at rows _ kept h r) k c)))
      (λ h j r l.
      ap (λ (x : List ℕ). check_sum b n x (suc j)) (constant-row n rows a h r) ∙ eqb-true _ 0 (every-at (size (J h)) _ (every-at rows _ coded h r) j l))

  constant-coded : uniform E ≡ true → constant_coded b n rows J a ≡ true
  unfolding constant
  constant-coded e = every_of rows _ (λ h r. every_of (size (J h)) _ (λ j l.
      eq-eqb _ 0 (ap (λ (x : List ℕ). check_sum b n x (suc j)) (sym (constant-row n rows a h r))
      ∙ ap (λ (x : List ℕ). check_sum b n (row n x h) (suc j)) (sym (is-constant e))
      ∙ completed_frame-sums b n rows J f whole narrow inside h j r l)))

  kept_hold_lem : uniform E ≡ true → kept_hold n rows J f a ≡ true
  kept_hold_lem e = every_of rows _ (λ h r. every_of n _ (λ k c. pick h k r c (by-test (has (J h) k))))
    where
      last : (x : Bool) → (x || true) ≡ true
      last true = refl
      last false = refl

      pick : (h k : ℕ) → h < rows → k < n → (has (J h) k ≡ true) ⊎ (has (J h) k ≡ false) → (has (J h) k || eqb (cell n f h k) a) ≡ true
      pick h k r c (inl mem) = ap (λ (x : Bool). x || eqb (cell n f h k) a) mem
      pick h k r c (inr free) =
          ap (λ (x : Bool). has (J h) k || x) (eq-eqb _ _ (sym (completed_frame-kept b n rows J f whole h k r c free) ∙ same_as_a e h k r c))
          ∙ last (has (J h) k)

  pub uniform-completed : uniform (completed_frame b n rows J f whole) ≡ (
      every rows (λ h. every n (λ k. has (J h) k || eqb (cell n f h k) (cell n f 0 i)))
      && every rows (λ h. every (size (J h)) (λ j. eqb (check_sum b n (replicate n (cell n f 0 i)) (suc j)) 0)))
  unfolding constant
  uniform-completed =
      same_truth _ _
      (λ e. (and-eq-true_iff _ _).1 (kept_hold_lem e, constant-coded e))
      (λ e. let (kept, coded) = (and-eq-true_iff _ _).0 e in ap uniform (sym (constant-is kept coded)) ∙ replicate-uniform (rows * n) a)

-- the encoder's frame: its data cells hold the last symbol of row 0
module _ (s : Shape) (shape : is_shape s ≡ true) (f : List ℕ) (whole : length f ≡ s.rows * s.columns) (below : data_below s f ≡ true) where
  first-columns : (h k : ℕ) → k < s.columns → has (first_columns (checks_of s h)) k ≡ ltb k (checks_of s h)
  first-columns h k c = has-columns_of (λ i. ltb i (checks_of s h)) k (let b = (shape-ranges s shape).columns-most in omega arith)

  last-cell : cell s.columns f 0 (s.columns - 1) ≡ get_or f (s.columns - 1) 0
  last-cell = ap (λ (k : ℕ). get_or f k 0) (let q : 0 * s.columns + (s.columns - 1) ≡ s.columns - 1 = omega arith in q)

  pub last-small : get_or f (s.columns - 1) 0 < 257
  last-small =
      let ranges = shape-ranges s shape in
      let first = ranges.rows-least in
      let wide = ranges.columns-least in
      rw (← last-cell) (data_small s f below 0 first (s.columns - 1) (let b = (ranges.checks 0 first).below in omega arith) (omega arith))

  pub uniform-encoded : uniform (encoded s f) ≡ (
      every s.rows (λ h. every s.columns (λ k. ltb k (checks_of s h) || eqb (cell s.columns f h k) (get_or f (s.columns - 1) 0)))
      && every s.rows (λ h. every (checks_of s h) (λ j.
      eqb (check_sum s.exponent s.columns (replicate s.columns (get_or f (s.columns - 1) 0)) (suc j)) 0)))
  unfolding encoded
  uniform-encoded =
      let ranges = shape-ranges s shape in
      uniform-completed s.exponent s.columns s.rows (λ h. first_columns (checks_of s h)) f whole ranges.columns-most
      (λ h r i e. let a = has_first (checks_of s h) i e in let b = (ranges.checks h r).below in omega arith)
      (λ h i r c e. data_small s f below h r i (ltb-false i (checks_of s h) (sym (first-columns h i c) ∙ e)) c)
      (s.columns - 1) ranges.rows-least (let b = ranges.columns-least in omega arith)
      (first-columns 0 (s.columns - 1) (let b = ranges.columns-least in omega arith)
      ∙ le-ltb (s.columns - 1) (checks_of s 0) (let b = (ranges.checks 0 ranges.rows-least).below in omega arith))
      ∙ ap₂ ◌&&◌
      (every_ext s.rows _ _ (λ h r. every_ext s.columns _ _ (λ k c.
      ap₂ (λ (x : Bool) (a : ℕ). x || eqb (cell s.columns f h k) a) (first-columns h k c) last-cell)))
      (every_ext s.rows _ _ (λ h r.
      ap₂ (λ (m a : ℕ). every m (λ j. eqb (check_sum s.exponent s.columns (replicate s.columns a) (suc j)) 0))
      (size-first (checks_of s h) (let b = (ranges.checks h r).most in omega arith)) last-cell))
