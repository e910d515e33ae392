-- The marked columns that are still to come from a place on: none where no marked column follows, else the next one and those after it.
use mathlib.Core.Path.{◌≡◌, refl, sym, ap, ap₂, ◌∙◌}
use mathlib.Core.List.{List, [], ◌∷◌, ◌++◌, append_assoc}
use Prim.Native.Nat.{ℕ, suc, ◌+◌, ◌≤◌, ◌<◌}
use native.Mathlib.Decide.{dec_le}
use native.Mathlib.Numerals.{add-one}
use native.Mathlib.Omega.{arith}
use lib.ListN.{length, length-append, get_or, drop, drop_of_length-le}
use lib.Seq.{drop-cons, drop-length, get_or-append_seam}
use Rattle.columns.specs.Columns.{has, members}
use Rattle.columns.specs.Listed.{count}
use Rattle.columns.specs.declared.Columns.{Columns}
use Rattle.columns.proofs.Listing.{count-pass, count_mono, length-listed, entry}
use Rattle.columns.proofs.Walk.{Walk, next_at, before-next, next_within, arrived, walk-member, walk_end}

module _ (c : Columns) where
  -- those from the place i on
  abbrev from_on : ℕ → List ℕ
  from_on i = drop (count i (has c)) (members c)

  pub all-coming : from_on 0 ≡ members c
  unfolding count
  all-coming = refl

  module _ (from i : ℕ) (next : i ≡ next_at c from) where
    none-near : from ≤ 256 → i ≡ 256 → from_on from ≡ []
    none-near l e =
        let end = walk_end c _ _ (arrived c from l) (omega arith) in
        ap (λ (d : ℕ). drop d (members c)) end ∙ drop-length (members c)

    none-far : 256 ≤ from → from_on from ≡ []
    none-far l =
        drop_of_length-le (members c) (let m = count_mono 256 from (has c) l in let n = length-listed 256 (has c) in omega arith)

    pub none-coming : i ≡ 256 → from_on from ≡ []
    none-coming e = pick (dec_le from 256)
      where
        pick : Dec (from ≤ 256) → from_on from ≡ []
        pick (yes l) = none-near l e
        pick (no l) = none-far (omega arith)

    pub next-within : i ≤ 256
    next-within = rw next (next_within c from)

    pub one-coming : (i ≡ 256 → ⊥) → from_on from ≡ i ∷ from_on (i + 1)
    one-coming other =
        let m = walk-member c _ _ at here in
        drop-cons (members c) (count from (has c)) 0 m.0 ∙
        ap₂ ◌∷◌ (m.1 ∙ sym next)
        (ap (λ (d : ℕ). drop d (members c)) (ap suc (sym at.place) ∙ ap (λ (k : ℕ). suc (count k (has c))) (sym next) ∙ after))
      where
        h : i < 256
        h = let w = next-within in omega arith

        near : from ≤ 256
        near = let b = before-next c from i next h in let g = h in omega arith

        at : Walk c (count from (has c)) (next_at c from)
        at = arrived c from near

        here : next_at c from < 256
        here = let g = h in omega arith

        after : suc (count i (has c)) ≡ count (i + 1) (has c)
        after = sym (ap (λ (k : ℕ). count k (has c)) (add-one i) ∙ count-pass i (has c) (rw next (at.marked here)))

-- an iterator over the set has given some of its columns, and has the others still to give
module _ (set : Columns) (given : List ℕ) (left : List ℕ) (split : members set ≡ given ++ left) where
  module _ (i : ℕ) (later : List ℕ) (next : left ≡ i ∷ later) where
    pub split-next : members set ≡ (given ++ (i ∷ [])) ++ later
    split-next = split ∙ ap (λ (l : List ℕ). given ++ l) next ∙ sym (append_assoc given (i ∷ []) later)

    pub next-place : length given < length (members set)
    next-place = omega (arith, ap length split, length-append given left, ap length next)

    pub next-member : get_or (members set) (length given) 0 ≡ i
    next-member = rw (split, next) (get_or-append_seam given i later 0)

    pub next-below : i < 256
    next-below = rw (sym next-member) (entry 256 (has set) (length given) (let p = next-place in let n = length-listed 256 (has set) in omega arith)).below

  pub all-given : left ≡ [] → length given ≡ length (members set)
  all-given e = omega (arith, ap length split, length-append given left, ap length e)
