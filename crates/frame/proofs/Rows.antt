-- The rows and cells of a frame: what a frame with another row in the place of one holds, and one with every row changed; frames with the same cells are
-- the same.
use mathlib.Core.Path.{◌≡◌, refl, sym, ap, subst, ◌∙◌}
use mathlib.Core.Logic.{◌≢◌}
use mathlib.Core.List.{List}
use Prim.Native.Nat.{ℕ, zero, suc, ◌+◌, ◌*◌, ◌/◌, ◌%◌, ◌≤◌, ◌<◌}
use native.Mathlib.Nat.{suc-mul, mul-le-mul_right, mod-lt, div-add-mod', div-lt_iff_lt-mul, mul-zero, not-suc-le-zero}
use native.Mathlib.Decide.{dec_lt, ℕ_discrete}
use native.Mathlib.Omega.{arith}
use borrow.Rule.Slice.PartMut.{same_len_mid}
use lib.ListN.{length, get_or, drop, length-drop}
use lib.Seq.{length-take-le, ext_get_or}
use Rattle.lists.proofs.Entries.{get_d_part}
use Rattle.lists.proofs.Parts.{replaced-before, replaced_in, replaced-after}
use Rattle.frame.specs.Encode.{with_row, each_row}
use Rattle.frame.specs.Frame.{row, cell}

-- ---- places

-- the places of row h end where those of the next begin
pub row-end : (n h k : ℕ) → h < k → h * n + n ≤ k * n
row-end n h k l = let e = suc-mul h n in let m : suc h * n ≤ k * n = mul-le-mul_right n l in omega arith

pub cell-place : (n rows h i : ℕ) → h < rows → i < n → h * n + i < rows * n
cell-place n rows h i r c = let e = row-end n h rows r in omega arith

-- ---- a row

pub row-cell : (n : ℕ) (f : List ℕ) (h i : ℕ) → i < n → get_or (row n f h) i 0 ≡ cell n f h i
row-cell n f h i l = get_d_part (h * n) n f i 0 l

pub length-row : (n : ℕ) (f : List ℕ) (h : ℕ) → h * n + n ≤ length f → length (row n f h) ≡ n
length-row n f h l = length-take-le n (drop (h * n) f) (let e = length-drop (h * n) f in omega arith)

-- rows with the same cells
pub same_rows : (n : ℕ) (f g : List ℕ) (h : ℕ) → h * n + n ≤ length f → h * n + n ≤ length g
    → ((i : ℕ) → i < n → cell n f h i ≡ cell n g h i) → row n f h ≡ row n g h
same_rows n f g h lf lg e =
    ext_get_or 0 (row n f h) (row n g h) (length-row n f h lf ∙ sym (length-row n g h lg)) (λ i l.
    let b : i < n = let q = length-row n f h lf in omega arith in
    row-cell n f h i b ∙ e i b ∙ sym (row-cell n g h i b))

-- ---- another row in the place of one

module _ (n : ℕ) (f : List ℕ) (h : ℕ) (x : List ℕ) (inside : h * n + n ≤ length f) (fits : length x ≡ n) where
  pub length_with_row : length (with_row n f h x) ≡ length f
  length_with_row = same_len_mid (h * n) n f x (fits ∙ sym (length-row n f h inside))

  pub with_row_row : row n (with_row n f h x) h ≡ x
  with_row_row =
      let long : h * n + n ≤ length (with_row n f h x) = let e = length_with_row in omega arith in
      ext_get_or 0 (row n (with_row n f h x) h) x (length-row n (with_row n f h x) h long ∙ sym fits) (λ i l.
      let b : i < n = let q = length-row n (with_row n f h x) h long in omega arith in
      row-cell n (with_row n f h x) h i b ∙ replaced_in (h * n) n f x inside fits 0 i b)

  pub with_row_cell : (k i : ℕ) → k ≢ h → i < n → cell n (with_row n f h x) k i ≡ cell n f k i
  with_row_cell k i other l = pick (dec_lt k h)
    where
      pick : Dec (k < h) → cell n (with_row n f h x) k i ≡ cell n f k i
      pick (yes b) = replaced-before (h * n) n f x inside fits 0 (k * n + i) (let e = row-end n k h b in omega arith)
      pick (no b) = replaced-after (h * n) n f x inside fits 0 (k * n + i) (let e = row-end n h k (omega arith) in omega arith)

  pub with_row_other : (k : ℕ) → k ≢ h → k * n + n ≤ length f → row n (with_row n f h x) k ≡ row n f k
  with_row_other k other l =
      same_rows n (with_row n f h x) f k (let e = length_with_row in omega arith) l (λ i b. with_row_cell k i other b)

-- ---- every row changed

pub each_row-zero : (n : ℕ) (g : ℕ → List ℕ → List ℕ) (f : List ℕ) → each_row n g 0 f ≡ f
unfolding each_row
each_row-zero n g f = refl

pub each_row-suc : (n : ℕ) (g : ℕ → List ℕ → List ℕ) (h : ℕ) (f : List ℕ)
    → each_row n g (suc h) f ≡ with_row n (each_row n g h f) h (g h (row n (each_row n g h f) h))
unfolding each_row
each_row-suc n g h f = refl

-- rows that are changed alike
pub each_row_ext : (n : ℕ) (g k : ℕ → List ℕ → List ℕ) (f : List ℕ) (rows : ℕ) → ((h : ℕ) (x : List ℕ) → h < rows → g h x ≡ k h x)
    → each_row n g rows f ≡ each_row n k rows f
unfolding each_row
each_row_ext n g k f zero same = refl
each_row_ext n g k f (suc h) same =
    let e = each_row_ext n g k f h (λ i x l. same i x (omega arith)) in
    ap (λ (x : List ℕ). with_row n x h (g h (row n x h))) e
    ∙ ap (with_row n (each_row n k h f) h) (same h (row n (each_row n k h f) h) (omega arith))

module _ (n : ℕ) (g : ℕ → List ℕ → List ℕ) (sized : (h : ℕ) (x : List ℕ) → length (g h x) ≡ n) (f : List ℕ) where
  pub length-each_row : (rows : ℕ) → rows * n ≤ length f → length (each_row n g rows f) ≡ length f
  unfolding each_row
  length-each_row zero l = refl
  length-each_row (suc r) l =
      let short : r * n + n ≤ length f = let e = suc-mul r n in omega arith in
      let before = length-each_row r (omega arith) in
      length_with_row n (each_row n g r f) r (g r (row n (each_row n g r f) r)) (omega arith) (sized r _) ∙ before

  -- the step to row r
  module _ (r : ℕ) (l : suc r * n ≤ length f) where
    abbrev changed : List ℕ
    changed = g r (row n (each_row n g r f) r)

    fits : r * n + n ≤ length (each_row n g r f)
    fits = let e = suc-mul r n in let q = length-each_row r (omega arith) in omega arith

    step_row : row n (each_row n g (suc r) f) r ≡ changed
    step_row = ap (λ (e : List ℕ). row n e r) (each_row-suc n g r f) ∙ with_row_row n (each_row n g r f) r changed fits (sized r _)

    step_other : (k : ℕ) → k ≢ r → k * n + n ≤ length f → row n (each_row n g (suc r) f) k ≡ row n (each_row n g r f) k
    step_other k other b =
        ap (λ (e : List ℕ). row n e k) (each_row-suc n g r f)
        ∙ with_row_other n (each_row n g r f) r changed fits (sized r _) k other (let e = suc-mul r n in let q = length-each_row r (omega arith) in omega arith)

  -- the rows from `rows` on stay
  pub each_row-later : (rows : ℕ) → rows * n ≤ length f → (k : ℕ) → rows ≤ k → k * n + n ≤ length f → row n (each_row n g rows f) k ≡ row n f k
  each_row-later zero l k b long = ap (λ (e : List ℕ). row n e k) (each_row-zero n g f)
  each_row-later (suc r) l k b long =
      step_other r l k (omega arith) long ∙ each_row-later r (let e = suc-mul r n in omega arith) k (omega arith) long

  pub each_row-row : (rows : ℕ) → rows * n ≤ length f → (h : ℕ) → h < rows → row n (each_row n g rows f) h ≡ g h (row n f h)
  each_row-row zero l h b = absurd (not-suc-le-zero b)
  each_row-row (suc r) l h b = pick (ℕ_discrete h r) (each_row-row r less h)
    where
      less : r * n ≤ length f
      less = let e = suc-mul r n in omega arith

      long : h * n + n ≤ length f
      long = let e = row-end n h (suc r) b in omega arith

      pick : Dec (h ≡ r) → (h < r → row n (each_row n g r f) h ≡ g h (row n f h)) → row n (each_row n g (suc r) f) h ≡ g h (row n f h)
      pick (yes e) ih =
          ap (λ (k : ℕ). row n (each_row n g (suc r) f) k) e ∙ step_row r l
          ∙ ap (g r) (each_row-later r less r (omega arith) (rw (← e) long)) ∙ ap (λ (k : ℕ). g k (row n f k)) (sym e)
      pick (no other) ih = step_other r l h other long ∙ ih (omega arith)

-- ---- frames by their cells

-- the row and the column of a place
place-row : (n rows k : ℕ) → k < rows * n → (k / n < rows) × (k % n < n)
place-row n rows k l = ((div-lt_iff_lt-mul some).1 l, mod-lt k some)
  where
    some : 0 < n
    some = pick (dec_lt 0 n)
      where
        pick : Dec (0 < n) → 0 < n
        pick (yes b) = b
        pick (no b) = absurd (let e : n ≡ 0 = omega arith in let z : ⊥ = omega (arith, ap (λ (m : ℕ). rows * m) e, mul-zero rows) in z)

pub same-frames : (n rows : ℕ) (f g : List ℕ) → length f ≡ rows * n → length g ≡ rows * n
    → ((h i : ℕ) → h < rows → i < n → cell n f h i ≡ cell n g h i) → f ≡ g
same-frames n rows f g lf lg e =
    ext_get_or 0 f g (lf ∙ sym lg) (λ k l.
    let (r, c) = place-row n rows k (omega arith) in
    ap (λ (m : ℕ). get_or f m 0) (sym (div-add-mod' k n)) ∙ e (k / n) (k % n) r c ∙ ap (λ (m : ℕ). get_or g m 0) (div-add-mod' k n))

-- what holds of all cells holds of all symbols
pub each-symbol : (P : ℕ → Type 0) (n rows : ℕ) (f : List ℕ) → length f ≡ rows * n
    → ((h i : ℕ) → h < rows → i < n → P (cell n f h i)) → (k : ℕ) → k < length f → P (get_or f k 0)
each-symbol P n rows f lf e k l =
    let (r, c) = place-row n rows k (omega arith) in
    subst (λ (m : ℕ). P (get_or f m 0)) (div-add-mod' k n) (e (k / n) (k % n) r c)
