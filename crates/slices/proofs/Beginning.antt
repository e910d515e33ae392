-- The arrays before the first step hold what `begun` says.
use mathlib.Core.Path.{◌≡◌, sym, ap, ap₂, ◌∙◌}
use mathlib.Core.Bool.{Bool, cond}
use mathlib.Core.List.{List, [], ◌∷◌, ◌++◌}
use Prim.Native.Nat.{ℕ, suc, ◌+◌, ◌-◌, ◌*◌, ◌%◌, ◌≤◌, ◌<◌}
use native.Mathlib.Decide.{dec_lt}
use native.Mathlib.Nat.{add-sub_cancel_left}
use native.Mathlib.Omega.{arith}
use borrow.Author.Tests.{lt-ltb, le-ltb}
use lib.Dec.{ltb}
use lib.ListN.{length, get_or, take, drop, set, replicate, length-replicate, get_or-eq_default}
use lib.Seq.{get_or-take, length-take-le}
use Rattle.lists.proofs.Filling.{by_entries}
use Rattle.lists.proofs.Padded.{padded_entry, padded_length}
use Rattle.lists.proofs.Tabulated.{get_d_tabulate, length-tabulate, tabulate_ext, tabulate-zero}
use Rattle.lists.proofs.Zeros.{zeros, zeros-entry}
use Rattle.lists.specs.Parts.{replaced}
use Rattle.lists.specs.Tabulate.{tabulate}
use Rattle.register.proofs.Largest.{largest-bound}
use Rattle.register.proofs.Ordering.{longest-ordered}
use Rattle.register.specs.Sequences.{largest, longest, ordered, split}
use Rattle.sequences.proofs.Insertion.{length-within}
use Rattle.sequences.proofs.Reversing.{by_blocks, from-last_in, from-last-past, length_backwards, none_backwards, one-over}
use Rattle.sequences.proofs.Standing.{lengths-split, standing_count, standing_length, standing_shorter}
use Rattle.sequences.specs.Backwards.{Reversible, backwards_over, from_last}
use Rattle.sequences.specs.Places.{sequences_at, Stands}
use Rattle.sequences.specs.declared.Order.{Order}
use Rattle.ends.specs.Ends.{Startable, Started}
use Rattle.slices.specs.Lent.{Lent, lengths_of}
use Rattle.slices.specs.Synthesis.{Synthesis, begun, cleared_over, synthesis}

-- ---- the lengths

module _ (o : Order) (k : ℕ) (few : k ≤ 8) (width : length o.lengths ≡ 8) where
  abbrev first : List ℕ
  first = take k o.lengths

  length-first : length first ≡ k
  length-first = length-take-le k o.lengths (omega (arith, width))

  entry : (h : ℕ) → Dec (h < k) → get_or first h 0 ≡ cond (ltb h k) (get_or o.lengths h 0) 0
  entry h (yes b) = get_or-take k o.lengths h 0 b ∙ sym (ap (λ (t : Bool). cond t (get_or o.lengths h 0) 0) (lt-ltb h k b))
  entry h (no b) =
      get_or-eq_default first 0 (let e : length first ≤ h = omega (arith, length-first) in e)
      ∙ sym (ap (λ (t : Bool). cond t (get_or o.lengths h 0) 0) (le-ltb h k (omega arith)))

  pub lengths-padded : first ++ replicate (8 - length first) 0 ≡ lengths_of o k
  lengths-padded =
      by_entries 8 (λ h. cond (ltb h k) (get_or o.lengths h 0) 0) (first ++ replicate (8 - length first) 0)
      (padded_length first 8 (omega (arith, length-first))) (λ h b. padded_entry first (8 - length first) h ∙ entry h (dec_lt h k))

-- ---- zeros

-- Zeros are the same backwards: the fronts that are cleared are sequences put into their blocks.
abbrev front : ℕ → List ℕ
front h = zeros 16

abbrev pub fronts : ℕ → List (List ℕ)
fronts h = tabulate h front

module _ (old : List ℕ) where
  pub none-cleared : length old ≡ 1152 → old ≡ backwards_over (fronts 0) old
  none-cleared whole = none_backwards (fronts 0) old whole (tabulate-zero front)

  module _ {h : ℕ} {l : List ℕ} (few : h < 8) (cleared : l ≡ backwards_over (fronts h) old) where
    pub front-within : h * 144 + 16 ≤ length l
    front-within = omega (arith, ap length cleared, length_backwards (fronts h) old)

    pub one-cleared : {written : List ℕ} → written ≡ zeros (length (take (h * 144 + 16 - h * 144) (drop (h * 144) l))) →
        replaced (h * 144) (h * 144 + 16 - h * 144) l written ≡ backwards_over (fronts (h + 1)) old
    one-cleared {written} ew =
        let n : ℕ = length (front h) in
        let sixteen : n ≡ 16 = length-replicate {A = ℕ} 16 0 in
        let size = add-sub_cancel_left (h * 144) 16 in
        let long = ap (λ (m : ℕ). length (take m (drop (h * 144) l))) size ∙ length-within (h * 144) 16 l front-within in
        ap₂ (λ (m : ℕ) (x : List ℕ). replaced (h * 144) m x written) (size ∙ sym sixteen) cleared
        ∙ one-over front old h few (omega arith)
        (ew ∙ ap zeros (long ∙ sym sixteen) ∙ by_entries n (λ i. get_or (front h) (n - suc i) 0) (zeros n) (length-replicate {A = ℕ} n 0)
        (λ i b. zeros-entry n i ∙ sym (zeros-entry 16 (n - suc i))))

  -- what the definition says of entry k
  abbrev said : ℕ → ℕ
  said k = cond (ltb (k % 144) 16) 0 (get_or old k 0)

  front-entry : (i x : ℕ) → cond (ltb i 16) 0 x ≡ from_last (zeros 16) i x
  front-entry i x = pick (dec_lt i 16)
    where
      pick : Dec (i < 16) → cond (ltb i 16) 0 x ≡ from_last (zeros 16) i x
      pick (yes b) =
          ap (λ (t : Bool). cond t 0 x) (lt-ltb i 16 b) ∙ sym (zeros-entry 16 (length (zeros 16) - suc i))
          ∙ sym (from-last_in (zeros 16) i x (omega (arith, length-replicate {A = ℕ} 16 0)))
      pick (no b) =
          ap (λ (t : Bool). cond t 0 x) (le-ltb i 16 (omega arith)) ∙ sym (from-last-past (zeros 16) i x (omega (arith, length-replicate {A = ℕ} 16 0)))

  pub all-cleared : backwards_over (fronts 8) old ≡ cleared_over old
  unfolding cleared_over
  all-cleared =
      sym (by_blocks (fronts 8) old (tabulate 1152 said) (length-tabulate 1152 said) (λ h i a b.
      let x : ℕ = get_or old (h * 144 + i) 0 in
      let place : (h * 144 + i) % 144 ≡ i = omega arith in
      get_d_tabulate 1152 said (h * 144 + i) 0 (omega arith) ∙ ap (λ (j : ℕ). cond (ltb j 16) 0 x) place ∙ front-entry i x
      ∙ ap (λ (s : List ℕ). from_last s i x) (sym (get_d_tabulate 8 front h [] a))))

-- ---- what is lent, in order

module _ {lengths symbols : List ℕ} (lent : Lent lengths symbols) {N : ℕ} (most : N ≡ largest lengths) {o : Order}
    (stands : Stands o (length lengths) symbols (ordered (split lengths symbols))) where
  abbrev k : ℕ
  k = length lengths

  abbrev ss : List (List ℕ)
  ss = ordered (split lengths symbols)

  is-longest : longest (split lengths symbols) ≡ N
  is-longest = ap largest (lengths-split lengths symbols (omega (arith, lent.sortable.whole))) ∙ sym most

  pub longest-small : N ≤ 64
  longest-small = omega (arith, largest-bound 64 lengths lent.short)

  -- the length of a sequence, or 0 where there is none
  length_at : (h : ℕ) → cond (ltb h k) (get_or o.lengths h 0) 0 ≡ length (get_or ss h [])
  length_at h = pick (dec_lt h k)
    where
      pick : Dec (h < k) → cond (ltb h k) (get_or o.lengths h 0) 0 ≡ length (get_or ss h [])
      pick (yes b) = ap (λ (t : Bool). cond t (get_or o.lengths h 0) 0) (lt-ltb h k b) ∙ sym (standing_length stands h b)
      pick (no b) =
          ap (λ (t : Bool). cond t (get_or o.lengths h 0) 0) (le-ltb h k (omega arith))
          ∙ sym (ap length (get_or-eq_default ss [] (omega (arith, standing_count stands))))

  shorter_than : (h : ℕ) → h < k → get_or o.lengths h 0 ≤ N
  shorter_than h b = omega (arith, standing_shorter stands h b, longest-ordered (split lengths symbols), is-longest)

  pub reversible : Reversible o k symbols
  reversible =
      record {
        count = lent.sortable.count;
        short = λ h b. omega (arith, shorter_than h b, longest-small);
        within = stands.within;
      }

  module _ {sorted : List ℕ} (copied : sorted ≡ lengths_of o k) where
    sorted_are : sorted ≡ tabulate 8 (λ h. length (get_or ss h []))
    sorted_are = copied ∙ tabulate_ext 8 (λ h. cond (ltb h k) (get_or o.lengths h 0) 0) (λ h. length (get_or ss h [])) (λ h b. length_at h)

    -- each of the eight lengths, those too that belong to no sequence
    shorter : (h : ℕ) → h < 8 → get_or sorted h 0 ≤ N
    shorter h b = rw (copied, get_d_tabulate 8 (λ g. cond (ltb g k) (get_or o.lengths g 0) 0) h 0 b) (pick (dec_lt h k))
      where
        pick : Dec (h < k) → cond (ltb h k) (get_or o.lengths h 0) 0 ≤ N
        pick (yes b) = rw (lt-ltb h k b) (shorter_than h b)
        pick (no b) = rw (le-ltb h k (let e : k ≤ h = omega arith in e)) (omega arith)

    pub startable : Startable N sorted 8
    startable = record { longest = omega (arith, longest-small); count = omega arith; shorter = shorter }

    pub begins : (old : Synthesis) {blocks places saved : List ℕ} → blocks ≡ backwards_over (sequences_at o k symbols) old.symbols →
        Started N sorted 8 places → saved ≡ cleared_over old.saved →
        synthesis (N ∷ 0 ∷ 0 ∷ 0 ∷ 0 ∷ []) sorted blocks places (replicate 8 0) (replicate 8 1) (replicate 8 1) (set (replicate 144 0) 0 1) saved
        ≡ begun (split lengths symbols) old
    unfolding begun
    begins old {blocks} {places} {saved} turned started cleared =
        let made : (n : ℕ) (l b p s : List ℕ) → Synthesis =
        λ n l b p s.
        synthesis (n ∷ 0 ∷ 0 ∷ 0 ∷ 0 ∷ []) l b p (replicate 8 0) (replicate 8 1) (replicate 8 1) (set (replicate 144 0) 0 1) s
        in
        let symbols = backwards_over ss old.symbols in
        let in_order : blocks ≡ symbols = turned ∙ ap (λ (l : List (List ℕ)). backwards_over l old.symbols) stands.sequences in
        ap₂ (λ (b s : List ℕ). made N sorted b places s) in_order cleared
        ∙ ap (λ (p : List ℕ). made N sorted symbols p (cleared_over old.saved))
        (by_entries 8 (λ h. N - get_or sorted h 0) places started.width started.place)
        ∙ ap₂ (λ (n : ℕ) (l : List ℕ). made n l symbols (tabulate 8 (λ h. n - get_or l h 0)) (cleared_over old.saved)) (sym is-longest) sorted_are
