-- The search for named columns, one column after the other, up to the last one to find.
use mathlib.Core.Path.{◌≡◌, sym, ap, ap₂, ◌∙◌}
use mathlib.Core.Logic.{◌≢◌}
use mathlib.Core.Bool.{Bool, true, false, ◌&&◌, ◌||◌, and-false}
use mathlib.Core.List.{List}
use Prim.Native.Nat.{ℕ, suc, ◌+◌, ◌-◌, ◌≤◌, ◌<◌, zero-le}
use native.Mathlib.Decide.{ℕ_discrete}
use native.Mathlib.Numerals.{add-one}
use native.Mathlib.Omega.{arith}
use lib.Dec.{ltb, eqb, leb-suc-zero}
use lib.ListN.{length}
use borrow.Author.Tests.{lt-ltb}
use Rattle.columns.specs.Columns.{has, columns_of}
use Rattle.columns.specs.Listed.{count}
use Rattle.columns.specs.declared.Columns.{Columns}
use Rattle.columns.proofs.Listing.{count-zero, count-pass, count_fail}
use Rattle.columns.proofs.Marks.{columns_of_ext, columns_of-add}
use Rattle.decoding.specs.Locating.{is_root}
use Rattle.decoding.specs.Search.{tried_for, sought_columns}
use Rattle.decoding.specs.Searching.{searched, Trying}
use Rattle.decoding.proofs.Tried.{tried-least}
use Rattle.lists.proofs.Filling.{ltb_next}

module _ (σ : List ℕ) where
  pub search-none : columns_of (λ k. false) ≡ searched σ 0
  search-none = columns_of_ext (λ k. false) (λ k. ltb k 0 && is_root σ k) (λ k l. ap (λ (b : Bool). b && is_root σ k) (sym (leb-suc-zero k)))

  -- another column is searched
  module _ (i : ℕ) {r : Columns} (before : r ≡ searched σ i) where
    others : (k : ℕ) → k ≢ i → (ltb k i && is_root σ k) ≡ (ltb k (i + 1) && is_root σ k)
    others k other = ap (λ (b : Bool). b && is_root σ k) (ltb_next k i other)

    pub search-root : is_root σ i ≡ true → columns_of (λ k. has r k || eqb k i) ≡ searched σ (i + 1)
    search-root root =
        columns_of-add r (λ k. ltb k i && is_root σ k) (λ k. ltb k (i + 1) && is_root σ k) i before
        (ap₂ ◌&&◌ (lt-ltb i (i + 1) (omega arith)) root) others

    pub search-other : is_root σ i ≡ false → r ≡ searched σ (i + 1)
    search-other none =
        before ∙ columns_of_ext (λ k. ltb k i && is_root σ k) (λ k. ltb k (i + 1) && is_root σ k) (λ k l. at k (ℕ_discrete k i))
      where
        at : (k : ℕ) → Dec (k ≡ i) → (ltb k i && is_root σ k) ≡ (ltb k (i + 1) && is_root σ k)
        at k (yes e) =
            let no : is_root σ k ≡ false = ap (is_root σ) e ∙ none in
            ap (λ (b : Bool). ltb k i && b) no ∙ and-false (ltb k i) ∙ sym (ap (λ (b : Bool). ltb k (i + 1) && b) no ∙ and-false (ltb k (i + 1)))
        at k (no other) = others k other

  pub search-ends : (n i : ℕ) {r : Columns} → r ≡ searched σ i → i ≡ tried_for n σ → r ≡ sought_columns n σ
  unfolding sought_columns
  search-ends n i before e = before ∙ ap (searched σ) e

  -- ---- how many are tried

  module _ (n : ℕ) where
    -- a register of length 0 has none to find
    pub none_tried : length σ < 2 → 0 ≡ tried_for n σ
    unfolding tried_for
    none_tried short = let e = tried-least.ends n (is_root σ) (length σ - 1) 0 (omega arith) in omega arith

    pub trying-starts : 2 ≤ length σ → Trying σ n 0 (length σ - 1)
    trying-starts long = record { tried = zero-le; found = (let z = count-zero (is_root σ) in omega arith); more = omega arith }

    pub trying-all : (i left : ℕ) → Trying σ n i left → n ≤ i → n ≡ tried_for n σ
    unfolding tried_for
    trying-all i left t all = omega (arith, t.tried, tried-least.most n (is_root σ) (length σ - 1))

    -- column i is tried too
    module _ (i left : ℕ) (t : Trying σ n i left) (below : i < n) where
      next : i + 1 ≤ tried_for n σ
      unfolding tried_for
      next = let l = tried-least.goes_on n (is_root σ) (length σ - 1) i below (omega (arith, t.found, t.more)) in omega arith

      counted : is_root σ i ≡ true → count (i + 1) (is_root σ) ≡ suc (count i (is_root σ))
      counted root = ap (λ (k : ℕ). count k (is_root σ)) (add-one i) ∙ count-pass i (is_root σ) root

      pub trying-root : is_root σ i ≡ true → 0 < left - 1 → Trying σ n (i + 1) (left - 1)
      trying-root root more = record { tried = next; found = omega (arith, t.found, counted root); more = more }

      pub trying-other : is_root σ i ≡ false → Trying σ n (i + 1) left
      trying-other none =
          let same = ap (λ (k : ℕ). count k (is_root σ)) (add-one i) ∙ count_fail i (is_root σ) none in
          record { tried = next; found = omega (arith, t.found, same); more = t.more }

      -- it is the last one to find
      pub trying-ends : is_root σ i ≡ true → left - 1 ≡ 0 → i + 1 ≡ tried_for n σ
      unfolding tried_for
      trying-ends root last =
          let l = tried-least.ends n (is_root σ) (length σ - 1) (i + 1) (omega (arith, t.found, counted root)) in omega (arith, next)
