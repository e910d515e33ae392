-- The members of a set without one of them: the list `without` makes has one entry fewer, holds every other member, and lacks that one. In the field
-- these are the others of a family of locators.
use mathlib.Core.Path.{◌≡◌, refl, sym, ap, ◌∙◌}
use mathlib.Core.Logic.{◌≢◌}
use mathlib.Core.List.{List, [], ◌∷◌, ◌++◌, map}
use Prim.Native.Nat.{ℕ, zero, suc, ◌+◌, ◌-◌, ◌≤◌, ◌<◌, suc-le-suc}
use native.Mathlib.Nat.{not-suc-le-zero, le_of_suc-le-suc}
use native.Mathlib.Decide.{dec_lt}
use native.Mathlib.Omega.{arith}
use borrow.Author.Tests.{eq-eqb, ne_eqb}
use lib.ListN.{length, get_or, take, drop, length-append, length-drop, length-map, get_or-append}
use lib.Seq.{length-take-le, get_or-take, get_or-drop, get_or-append-add}
use Rattle.algebra.proofs.Completion.{Others}
use Rattle.columns.specs.Columns.{members}
use Rattle.columns.specs.declared.Columns.{Columns}
use Rattle.field257.proofs.Field257.{F257, R257, locator_at}
use Rattle.field257.proofs.Members.{size, member, members_distinct, member-locators_distinct}
use Rattle.frame.specs.Completion.{without}
use Rattle.lists.proofs.Mapped.{get_or_mapped}

-- entries that all differ from i stay
without-none : (i : ℕ) (l : List ℕ) → ((p : ℕ) → p < length l → get_or l p 0 ≢ i) → without i l ≡ l
unfolding without
without-none i [] n = refl
without-none i (x ∷ xs) n =
    rw (ne_eqb x i (n 0 (omega arith))) (ap (λ (l : List ℕ). x ∷ l) (without-none i xs (λ p h. n (suc p) (suc-le-suc h))))

-- the one entry that equals i goes
pub without-one : (i : ℕ) (l : List ℕ) (k : ℕ) → k < length l → get_or l k 0 ≡ i → ((p : ℕ) → p < length l → p ≢ k → get_or l p 0 ≢ i)
    → without i l ≡ take k l ++ drop (suc k) l
unfolding without
without-one i [] k h e n = absurd (not-suc-le-zero h)
without-one i (x ∷ xs) zero h e n =
    rw (eq-eqb x i e) (without-none i xs (λ p l. n (suc p) (suc-le-suc l) (omega arith)))
without-one i (x ∷ xs) (suc k) h e n =
    rw (ne_eqb x i (n 0 (omega arith) (omega arith)))
    (ap (λ (l : List ℕ). x ∷ l) (without-one i xs k (le_of_suc-le-suc h) e (λ p l q. n (suc p) (suc-le-suc l) (omega arith))))

-- ---- a list without its entry k

module _ (l : List ℕ) (k : ℕ) (h : k < length l) where
  gap : List ℕ
  gap = take k l ++ drop (suc k) l

  front : length (take k l) ≡ k
  front = length-take-le k l (omega arith)

  length-gap : suc (length gap) ≡ length l
  unfolding gap
  length-gap = let a = length-append (take k l) (drop (suc k) l) in let b = length-drop (suc k) l in let c = front in omega arith

  gap-before : (p : ℕ) → p < k → get_or gap p 0 ≡ get_or l p 0
  unfolding gap
  gap-before p b = get_or-append (take k l) (drop (suc k) l) 0 p (let c = front in omega arith) ∙ get_or-take k l p 0 b

  gap-after : (p : ℕ) → k ≤ p → get_or gap p 0 ≡ get_or l (suc p) 0
  unfolding gap
  gap-after p b =
      let q : p ≡ length (take k l) + (p - k) = let c = front in omega arith in
      let r : suc k + (p - k) ≡ suc p = omega arith in
      ap (λ (m : ℕ). get_or (take k l ++ drop (suc k) l) m 0) q ∙ get_or-append-add (take k l) (drop (suc k) l) (p - k) 0
      ∙ get_or-drop (suc k) l (p - k) 0 ∙ ap (λ (m : ℕ). get_or l m 0) r

-- ---- the others of a member

module _ (J : Columns) where
  open R257 use {zero as 𝟘}

  abbrev pub others : ℕ → List ℕ
  others k = without (member J k) (members J)

  module _ (d : ℕ) (sized : size J ≡ suc d) (k : ℕ) (h : k < suc d) where
    within : k < size J
    within = rw sized h

    others-gap : others k ≡ gap (members J) k within
    unfolding gap
    others-gap = without-one (member J k) (members J) k within refl (λ p l n e. n (members_distinct J p k l within e))

    pub others-size : length (others k) ≡ d
    others-size = let a = ap length others-gap in let b = length-gap (members J) k within in omega arith

    entry_of_gap : (p : ℕ) → get_or (others k) p 0 ≡ get_or (gap (members J) k within) p 0
    entry_of_gap p = ap (λ (l : List ℕ). get_or l p 0) others-gap

    -- another member is an entry
    held : (i : ℕ) → i < suc d → i ≢ k → (p : ℕ) × (p < length (others k)) × (get_or (others k) p 0 ≡ member J i)
    held i l n = pick (dec_lt i k)
      where
        pick : Dec (i < k) → (p : ℕ) × (p < length (others k)) × (get_or (others k) p 0 ≡ member J i)
        pick (yes b) = (i, (let s = others-size in omega arith), entry_of_gap i ∙ gap-before (members J) k within i b)
        pick (no b) =
            let c : k ≤ i - 1 = omega arith in
            let q : suc (i - 1) ≡ i = omega arith in
            (i - 1, (let s = others-size in omega arith), entry_of_gap (i - 1) ∙ gap-after (members J) k within (i - 1) c ∙ ap (member J) q)

    -- an entry is another member
    other : (p : ℕ) → p < length (others k) → (i : ℕ) × (i < suc d) × (i ≢ k) × (get_or (others k) p 0 ≡ member J i)
    other p l = pick (dec_lt p k)
      where
        pick : Dec (p < k) → (i : ℕ) × (i < suc d) × (i ≢ k) × (get_or (others k) p 0 ≡ member J i)
        pick (yes b) = (p, (let s = others-size in omega arith), (λ e. omega arith), entry_of_gap p ∙ gap-before (members J) k within p b)
        pick (no b) =
            let c : k ≤ p = omega arith in
            (suc p, (let s = others-size in omega arith), (λ e. omega arith), entry_of_gap p ∙ gap-after (members J) k within p c)

    pub members-others : Others F257 d (λ i. locator_at (member J i)) k (map locator_at (others k))
    members-others =
        record {
          size = length-map (others k) locator_at ∙ others-size;
          holds = λ i l n.
              let at = held i l n in
              (at.0, rw length-map at.1, get_or_mapped locator_at (others k) at.0 𝟘 at.1 ∙ ap locator_at at.2);
          lacks = λ p l e.
              let inside = rw length-map at l in
              let at = other p inside in
              at.2 (member-locators_distinct J at.0 k (rw sized at.1) within
              (ap locator_at (sym at.3) ∙ sym (get_or_mapped locator_at (others k) p 𝟘 inside) ∙ e));
        }
