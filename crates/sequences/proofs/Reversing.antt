-- Sequences put backwards into their blocks, one after the other.
use mathlib.Core.Path.{◌≡◌, sym, ap, ap₂, subst, ◌∙◌}
use mathlib.Core.Logic.{◌≢◌}
use mathlib.Core.Bool.{Bool, cond}
use mathlib.Core.List.{List, []}
use Prim.Native.Nat.{ℕ, suc, ◌+◌, ◌-◌, ◌*◌, ◌/◌, ◌%◌, ◌≤◌, ◌<◌}
use native.Mathlib.Decide.{dec_lt, ℕ_discrete}
use native.Mathlib.Nat.{add-sub_cancel_left}
use native.Mathlib.Omega.{arith}
use borrow.Author.Tests.{lt-ltb, le-ltb}
use lib.ListN.{length, get_or, take, drop}
use Rattle.lists.proofs.Filling.{by_entries}
use Rattle.lists.proofs.Parts.{length-replaced, replaced-before, replaced_in, replaced-after}
use Rattle.lists.proofs.Tabulated.{get_d_tabulate, get_or-tabulate-past, length-tabulate}
use Rattle.lists.specs.Parts.{replaced}
use Rattle.lists.specs.Tabulate.{tabulate}
use Rattle.sequences.specs.Backwards.{Reversible, backwards_over, from_last}
use Rattle.sequences.specs.declared.Order.{Order}
use Rattle.sequences.specs.Places.{sequence_at, sequences_at}
use Rattle.sequences.proofs.Insertion.{length-within}

module _ (s : List ℕ) (i x : ℕ) where
  abbrev chosen : Bool → ℕ
  chosen b = cond b (get_or s (length s - suc i) 0) x

  pub from-last_in : i < length s → from_last s i x ≡ get_or s (length s - suc i) 0
  from-last_in less = ap chosen (lt-ltb i (length s) less)

  pub from-last-past : length s ≤ i → from_last s i x ≡ x
  from-last-past past = ap chosen (le-ltb i (length s) past)

module _ (ss : List (List ℕ)) (old : List ℕ) where
  -- what the definition says of entry k
  abbrev said : ℕ → ℕ
  said k = from_last (get_or ss (k / 144) []) (k % 144) (get_or old k 0)

  pub length_backwards : length (backwards_over ss old) ≡ 1152
  unfolding backwards_over
  length_backwards = length-tabulate 1152 said

  -- entry i of block h
  said_in : (h i : ℕ) → i < 144 → said (h * 144 + i) ≡ from_last (get_or ss h []) i (get_or old (h * 144 + i) 0)
  said_in h i b =
      let block : (h * 144 + i) / 144 ≡ h = omega arith in
      let place : (h * 144 + i) % 144 ≡ i = omega arith in
      ap₂ (λ (g j : ℕ). from_last (get_or ss g []) j (get_or old (h * 144 + i) 0)) block place

  backwards_entry : (h i : ℕ) → h < 8 → i < 144 → get_or (backwards_over ss old) (h * 144 + i) 0 ≡ from_last (get_or ss h []) i (get_or old (h * 144 + i) 0)
  unfolding backwards_over
  backwards_entry h i a b = get_d_tabulate 1152 said (h * 144 + i) 0 (omega arith) ∙ said_in h i b

  -- where a sequence reaches
  pub backwards_in : (h i : ℕ) → h < 8 → i < length (get_or ss h []) → length (get_or ss h []) ≤ 144 →
      get_or (backwards_over ss old) (h * 144 + i) 0 ≡ get_or (get_or ss h []) (length (get_or ss h []) - suc i) 0
  backwards_in h i a b short = backwards_entry h i a (omega arith) ∙ from-last_in (get_or ss h []) i (get_or old (h * 144 + i) 0) b

  -- eight blocks that hold this are the sequences backwards
  pub by_blocks : (l : List ℕ) → length l ≡ 1152 →
      ((h i : ℕ) → h < 8 → i < 144 → get_or l (h * 144 + i) 0 ≡ from_last (get_or ss h []) i (get_or old (h * 144 + i) 0)) → l ≡ backwards_over ss old
  unfolding backwards_over
  by_blocks l whole each = by_entries 1152 said l whole (λ k b.
      let h : ℕ = k / 144 in
      let i : ℕ = k % 144 in
      let parts : h * 144 + i ≡ k = omega arith in
      subst (λ (m : ℕ). get_or l m 0 ≡ said m) parts (each h i (omega arith) (omega arith) ∙ sym (said_in h i (omega arith))))

  -- no sequence is there yet
  pub none_backwards : length old ≡ 1152 → ss ≡ [] → old ≡ backwards_over ss old
  none_backwards whole none =
      by_blocks old whole (λ h i a b. sym (from-last-past (get_or ss h []) i (get_or old (h * 144 + i) 0) (rw none (omega arith))))

-- Of sequences given by their number, h stand there: one more.
module _ (f : ℕ → List ℕ) (old : List ℕ) (h : ℕ) (few : h < 8) (short : length (f h) ≤ 144) {written : List ℕ}
    (ew : written ≡ tabulate (length (f h)) (λ i. get_or (f h) (length (f h) - suc i) 0)) where
  abbrev n : ℕ
  n = length (f h)

  abbrev before : List ℕ
  before = backwards_over (tabulate h f) old

  abbrev after : List ℕ
  after = replaced (h * 144) n before written

  -- sequence g of the first m, in block g
  abbrev block : (m g i : ℕ) → ℕ
  block m g i = from_last (get_or (tabulate m f) g []) i (get_or old (g * 144 + i) 0)

  -- the blocks of the sequences before and of those to come are as they were
  same_block : (g i : ℕ) → g ≢ h → block h g i ≡ block (h + 1) g i
  same_block g i other = ap (λ (s : List ℕ). from_last s i (get_or old (g * 144 + i) 0)) (same (dec_lt g h))
    where
      same : Dec (g < h) → get_or (tabulate h f) g [] ≡ get_or (tabulate (h + 1) f) g []
      same (yes b) = get_d_tabulate h f g [] b ∙ sym (get_d_tabulate (h + 1) f g [] (omega arith))
      same (no b) = get_or-tabulate-past h f g [] (omega arith) ∙ sym (get_or-tabulate-past (h + 1) f g [] (omega (arith, other)))

  fits : length written ≡ n
  fits = ap length ew ∙ length-tabulate n (λ i. get_or (f h) (n - suc i) 0)

  room : h * 144 + n ≤ length before
  room = omega (arith, length_backwards (tabulate h f) old)

  here : (i : ℕ) → i < 144 → Dec (i < n) → get_or after (h * 144 + i) 0 ≡ from_last (f h) i (get_or old (h * 144 + i) 0)
  here i b (yes within) =
      replaced_in (h * 144) n before written room fits 0 i within ∙ ap (λ (l : List ℕ). get_or l i 0) ew
      ∙ get_d_tabulate n (λ i. get_or (f h) (n - suc i) 0) i 0 within ∙ sym (from-last_in (f h) i (get_or old (h * 144 + i) 0) within)
  here i b (no past) =
      let x : ℕ = get_or old (h * 144 + i) 0 in
      let none = ap length (get_or-tabulate-past h f h [] (omega arith)) in
      replaced-after (h * 144) n before written room fits 0 (h * 144 + i) (omega arith) ∙ backwards_entry (tabulate h f) old h i few b
      ∙ from-last-past (get_or (tabulate h f) h []) i x (omega arith) ∙ sym (from-last-past (f h) i x (omega arith))

  each : (g i : ℕ) → g < 8 → i < 144 → Dec (g < h) → Dec (g ≡ h) → get_or after (g * 144 + i) 0 ≡ block (h + 1) g i
  each g i a b (yes earlier) e =
      replaced-before (h * 144) n before written room fits 0 (g * 144 + i) (omega arith) ∙ backwards_entry (tabulate h f) old g i a b
      ∙ same_block g i (λ e. omega (arith, e))
  each g i a b (no not-Earlier) (no other) =
      replaced-after (h * 144) n before written room fits 0 (g * 144 + i) (omega (arith, other)) ∙ backwards_entry (tabulate h f) old g i a b
      ∙ same_block g i other
  each g i a b (no not-Earlier) (yes same) =
      rw same
      (here i b (dec_lt i n) ∙ ap (λ (s : List ℕ). from_last s i (get_or old (h * 144 + i) 0)) (sym (get_d_tabulate (h + 1) f h [] (omega arith))))

  pub one-over : after ≡ backwards_over (tabulate (h + 1) f) old
  one-over =
      by_blocks (tabulate (h + 1) f) old after (length-replaced (h * 144) n before written room fits ∙ length_backwards (tabulate h f) old)
      (λ g i a b. each g i a b (dec_lt g h) (ℕ_discrete g h))

module _ (o : Order) (k h : ℕ) (symbols old blocks : List ℕ) (r : Reversible o k symbols) (less : h < k)
    (turned : blocks ≡ backwards_over (sequences_at o h symbols) old) where
  pub still-whole : length blocks ≡ 1152
  still-whole = ap length turned ∙ length_backwards (sequences_at o h symbols) old

  -- the place of sequence h, as the code reads it
  module _ {start size : ℕ} (first : start ≡ get_or o.starts h 0) (long : size ≡ get_or o.lengths h 0) where
    -- the part of the symbols that is lent for it
    abbrev part : List ℕ
    part = take (start + size - start) (drop start symbols)

    part-is : part ≡ sequence_at o symbols h
    part-is = ap (λ (n : ℕ). take n (drop start symbols)) (add-sub_cancel_left start size) ∙ ap₂ (λ (n a : ℕ). take n (drop a symbols)) long first

    length-sequence : length (sequence_at o symbols h) ≡ size
    length-sequence = length-within (get_or o.starts h 0) (get_or o.lengths h 0) symbols (r.within h less) ∙ sym long

    pub same-lengths : length (take (h * 144 + size - h * 144) (drop (h * 144) blocks)) ≡ length part
    same-lengths =
        ap (λ (n : ℕ). length (take n (drop (h * 144) blocks))) (add-sub_cancel_left (h * 144) size)
        ∙ length-within (h * 144) size blocks (omega (arith, r.short h less, r.count, still-whole)) ∙ sym (ap length part-is ∙ length-sequence)

    -- sequence h is put into its block
    pub one_backwards : {written : List ℕ} → written ≡ tabulate (length part) (λ i. get_or part (length part - suc i) 0) →
        replaced (h * 144) (h * 144 + size - h * 144) blocks written ≡ backwards_over (sequences_at o (h + 1) symbols) old
    one_backwards {written} ew =
        ap₂ (λ (n : ℕ) (l : List ℕ). replaced (h * 144) n l written) (add-sub_cancel_left (h * 144) size ∙ sym length-sequence) turned
        ∙ one-over (sequence_at o symbols) old h (omega (arith, r.count)) (omega (arith, length-sequence, r.short h less))
        (ew ∙ ap (λ (l : List ℕ). tabulate (length l) (λ i. get_or l (length l - suc i) 0)) part-is)
