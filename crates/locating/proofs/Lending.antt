-- What is lent to the finder: the lengths of some sequences, their symbols one sequence after the other, and a buffer of 65 zeros. The finder refuses none of
-- it, and answers the register of the sequences. Held sums are lent so, with the check counts of the shape for lengths, and so is what is left of them.
use mathlib.Core.Path.{◌≡◌, refl, sym, ap, ap₂, subst⁻¹, ◌∙◌}
use mathlib.Core.Bool.{true, not, ◌&&◌}
use mathlib.Core.List.{List, [], ◌++◌}
use Prim.Native.Nat.{ℕ, suc, ◌+◌, ◌-◌, ◌≤◌, ◌<◌}
use native.Mathlib.Decide.{dec_lt}
use native.Mathlib.Omega.{arith}
use lib.Dec.{lit<}
use lib.ListN.{length, get_or, take, drop, replicate, length-take}
use lib.Seq.{length-take-le, get_or-take}
use borrow.Author.Tests.{lt-ltb, le-ltb, le-leb, eq-eqb}
use Rattle.std.specs.Prelude.{Ok}
use Rattle.decoding.specs.Locating.{size_of, taps_of, alone_of}
use Rattle.decoding.specs.Remaining.{remaining, all_remaining}
use Rattle.decoding.proofs.NothingDeclared.{all-remaining-none}
use Rattle.decoding.proofs.SequenceRegister.{length-taps}
use Rattle.field.specs.Prime.{is_modulus, is_prime, no_divisor}
use Rattle.finder.specs.Finder.{answer, taps_left, register, Finds}
use Rattle.finder.specs.declared.Register.{Register}
use Rattle.frame.specs.DeclaredCells.{Declared, declared_by, nothing_declared}
use Rattle.frame.specs.Frame.{held_sequences, sums_before}
use Rattle.frame.specs.Shape.{checks_of, is_shape}
use Rattle.frame.specs.declared.Shape.{Shape}
use Rattle.frame.proofs.HeldRows.{part_held}
use Rattle.frame.proofs.HeldSequences.{length-held}
use Rattle.frame.proofs.NothingDeclared.{rows-unmarked}
use Rattle.frame.proofs.Shapes.{shape-ranges}
use Rattle.lists.specs.Tabulate.{tabulate}
use Rattle.lists.specs.Total.{total}
use Rattle.lists.proofs.Entries.{get_d_part, get_or-take-past}
use Rattle.lists.proofs.Filling.{take-tabulate}
use Rattle.lists.proofs.Tabulated.{length-tabulate, get_d_tabulate, tabulate_ext, every_of}
use Rattle.lists.proofs.Totals.{total_ext, total-bound}
use Rattle.lists.proofs.Zeros.{zeros, drop-zeros}
use Rattle.refusal.specs.Outcome.{outcome, passed, refused}
use Rattle.refusal.proofs.Orders.{Pass, pass-otherwise}
use Rattle.refusal.proofs.Ranges.{in_range_lem}
use Rattle.register.specs.Algorithm4.{found, found_alone}
use Rattle.register.specs.Sequences.{largest, longest, ordered, split}
use Rattle.register.proofs.Bounds.{bounded-rounds}
use Rattle.register.proofs.Largest.{largest-bound}
use Rattle.register.proofs.Ordering.{longest-least}
use Rattle.register.proofs.Splitting.{split-first}
use Rattle.remaining.specs.SequencesLeft.{SequencesLeft}
use Rattle.remaining.specs.declared.rows.Left.{Left}
use Rattle.sequences.specs.Places.{Sortable}
use Rattle.sequences.specs.Tests.{tests}
use Rattle.locating.specs.RegisterOf.{Findable, RegisterOf}

-- the sequences ss stand one after the other, as many as the first of eight lengths say, among 512 symbols
pub record Lent (rows : ℕ) (lengths symbols : List ℕ) (ss : List (List ℕ)) : Type 0 where
  pub rows-least : 1 ≤ rows
  pub rows-most : rows ≤ 8
  pub places : length lengths ≡ 8
  pub short : (h : ℕ) → h < rows → get_or lengths h 0 ≤ 64
  pub width : length symbols ≡ 512
  pub small : (k : ℕ) → get_or symbols k 0 < 257
  pub parts : ss ≡ tabulate rows (λ h. take (get_or lengths h 0) (drop (total h (λ i. get_or lengths i 0)) symbols))

module _ {rows : ℕ} {lengths symbols : List ℕ} {ss : List (List ℕ)} (lent : Lent rows lengths symbols ss) where
  abbrev length_of : ℕ → ℕ
  length_of h = get_or lengths h 0

  abbrev all : ℕ
  all = total rows length_of

  abbrev first : List ℕ
  first = take rows lengths

  abbrev told : List ℕ
  told = take all symbols

  pub lent-most : total rows (λ h. get_or lengths h 0) ≤ 512
  lent-most = let n = lent.rows-most in omega (arith, total-bound rows 64 length_of lent.short)

  -- ---- what the finder is lent

  first_are : first ≡ tabulate rows length_of
  first_are = take-tabulate rows lengths (let r = lent.rows-most in let p = lent.places in omega arith)

  split-lent : split first told ≡ ss
  split-lent = ap (λ l. split l told) first_are ∙ split-first rows length_of symbols ∙ sym lent.parts

  length-first : length first ≡ rows
  length-first = ap length first_are ∙ length-tabulate rows length_of

  first-at : (h : ℕ) → h < rows → get_or first h 0 ≡ length_of h
  first-at h l = ap (λ (x : List ℕ). get_or x h 0) first_are ∙ get_d_tabulate rows length_of h 0 l

  length-told : length told ≡ all
  length-told = length-take-le all symbols (let m = lent-most in let w = lent.width in omega arith)

  first-most : (h : ℕ) → h < length first → get_or first h 0 ≤ 64
  first-most h l =
      let b : h < rows = let e = length-first in omega arith in
      omega (arith, first-at h b, lent.short h b)

  lent_total : total (length first) (λ h. get_or first h 0) ≡ length told
  lent_total = ap (λ (n : ℕ). total n (λ h. get_or first h 0)) length-first ∙ total_ext rows _ _ first-at ∙ sym length-told

  symbol-below : (i : ℕ) → i < length told → get_or told i 0 < 257
  symbol-below i l = rw (get_or-take all symbols i 0 (let e = length-told in omega arith)) (lent.small i)

  lent-passes : Pass (tests 257 first told 65)
  unfolding tests is_modulus is_prime no_divisor
  lent-passes =
      let n = length-first in
      let l = lent.rows-least in
      let m = lent.rows-most in (
        refl,
        (
          ap not (in_range_lem 1 8 (length first) (omega arith) (omega arith)),
          (
            ap not (ap₂ ◌&&◌ (every_of (length first) _ (λ h l. le-leb (get_or first h 0) 128 (omega (arith, first-most h l)))) (eq-eqb _ _ lent_total)),
            (
              le-ltb 65 (suc (largest first)) (let b = largest-bound 64 first first-most in omega arith),
              (
                ap not (every_of (length told) _ (λ i l. lt-ltb (get_or told i 0) 257 (symbol-below i l))),
                tt,
              ),
            ),
          ),
        ),
      )

  pub lent-passed : outcome (tests 257 (take rows lengths) (take (total rows (λ h. get_or lengths h 0)) symbols) 65) ≡ passed
  lent-passed = pass-otherwise refused passed (tests 257 first told 65) lent-passes

  -- what a search in slices is lent
  pub lent_split : split (take rows lengths) (take (total rows (λ h. get_or lengths h 0)) symbols) ≡ ss
  lent_split = split-lent

  pub lent-sortable : Sortable (take rows lengths) (take (total rows (λ h. get_or lengths h 0)) symbols)
  lent-sortable =
      record {
        count = omega (arith, length-first, lent.rows-most);
        few = omega (arith, length-told, lent-most);
        whole = lent_total;
      }

  pub lent-short : (h : ℕ) → h < length (take rows lengths) → get_or (take rows lengths) h 0 ≤ 64
  lent-short = first-most

  -- ---- what it answers and leaves

  pub lent-answer : answer 257 (take rows lengths) (take (total rows (λ h. get_or lengths h 0)) symbols) 65 ≡ register (size_of ss) (alone_of ss)
  unfolding answer size_of alone_of
  lent-answer =
      pass-otherwise _ _ (tests 257 first told 65) lent-passes
      ∙ ap (λ ss. register (found 257 ss (longest ss)).size (found_alone 257 ss (longest ss))) split-lent

  size-most : size_of ss ≤ 64
  unfolding size_of found
  size-most =
      let short = longest-least 64 ss (λ h l.
      let b : h < rows = let e = ap length lent.parts ∙ length-tabulate rows _ in omega arith in
      omega (
        arith,
        ap length (ap (λ xs. get_or xs h []) lent.parts ∙ get_d_tabulate rows _ h [] b),
        length-take (get_or lengths h 0) (drop (total h (λ i. get_or lengths i 0)) symbols),
        lent.short h b,
      )) in
      let b = (bounded-rounds 257 (longest ss) (ordered ss) (omega arith) (longest ss)).size in
      omega arith

  -- the buffer has room for the taps
  room : 65 ≡ length (taps_of ss) + (65 - length (taps_of ss))
  room = let n = length-taps ss in let m = size-most in omega arith

  pub lent-taps : taps_left 257 (take rows lengths) (take (total rows (λ h. get_or lengths h 0)) symbols) (replicate 65 0)
      ≡ taps_of ss ++ replicate (65 - length (taps_of ss)) 0
  unfolding taps_left taps_of
  lent-taps =
      pass-otherwise _ _ (tests 257 first told 65) lent-passes
      ∙ ap (λ ss. (found 257 ss (longest ss)).taps ++ drop (length (found 257 ss (longest ss)).taps) (replicate 65 0)) split-lent
      ∙ ap (λ (l : List ℕ). taps_of ss ++ l) (ap (λ (n : ℕ). drop (length (taps_of ss)) (zeros n)) room ∙ drop-zeros (length (taps_of ss)) _)

-- ---- as the search for a register asks and says it

module _ {rows : ℕ} {lengths symbols : List ℕ} {ss : List (List ℕ)} (lent : Lent rows lengths symbols ss) (all : ℕ)
    (counted : all ≡ total rows (λ h. get_or lengths h 0)) (taps : List ℕ) (zero : taps ≡ replicate 65 0) where
  pub lent_findable : Findable rows lengths all symbols taps
  lent_findable =
      record {
        few = lent.rows-most;
        room = (let m = lent-most lent in let w = lent.width in omega arith);
        accepted = ap₂ (λ (n : ℕ) (l : List ℕ). outcome (tests 257 (take rows lengths) (take n symbols) (length l))) counted zero ∙ lent-passed lent;
      }

  pub lent-answered : (left : List ℕ) (r : Register) → Finds 257 (take rows lengths) (take all symbols) taps left (Ok r)
      → register r.length r.alone ≡ register (size_of ss) (alone_of ss)
  lent-answered left r finds =
      finds.answers ∙ ap₂ (λ (n : ℕ) (l : List ℕ). answer 257 (take rows lengths) (take n symbols) (length l)) counted zero ∙ lent-answer lent

  pub lent-left : (left : List ℕ) (r : Register) → Finds 257 (take rows lengths) (take all symbols) taps left (Ok r)
      → left ≡ taps_of ss ++ replicate (65 - length (taps_of ss)) 0
  lent-left left r finds =
      finds.leaves ∙ ap₂ (λ (n : ℕ) (l : List ℕ). taps_left 257 (take rows lengths) (take n symbols) l) counted zero ∙ lent-taps lent

-- ---- held sums, and what is left of them

module _ (s : Shape) (shape : is_shape s ≡ true) (sums : List ℕ) (small : (k : ℕ) → get_or sums k 0 < 257) where
  pub held-lent : length s.checks ≡ 8 → length sums ≡ 512 → Lent s.rows s.checks sums (held_sequences s sums)
  unfolding held_sequences
  held-lent eight sized =
      let r = shape-ranges s shape in
      record {
        rows-least = r.rows-least;
        rows-most = r.rows-most;
        places = eight;
        short = λ h below. (r.checks h below).most;
        width = sized;
        small = small;
        parts = refl;
      }

  held_small : (h j : ℕ) → h < s.rows → get_or (get_or (held_sequences s sums) h []) j 0 < 257
  held_small h j below = subst⁻¹ (λ (x : List ℕ). get_or x j 0 < 257) (part_held s sums h below) (pick (dec_lt j (checks_of s h)))
    where
      pick : Dec (j < checks_of s h) → get_or (take (checks_of s h) (drop (sums_before s h) sums)) j 0 < 257
      pick (yes inside) = rw (get_d_part (sums_before s h) (checks_of s h) sums j 0 inside) (small _)
      pick (no past) = rw (get_or-take-past (checks_of s h) (drop (sums_before s h) sums) j 0 (omega arith)) (lit< tt)

  -- with nothing declared, nothing is taken out
  pub none-taken : (words : List ℕ) → nothing_declared words ≡ true → held_sequences s sums ≡ all_remaining s (declared_by words) (held_sequences s sums)
  none-taken words nothing =
      sym (all-remaining-none s shape (declared_by words) (rows-unmarked s shape words nothing) (held_sequences s sums) (length-held s sums) held_small)

module _ (s : Shape) (shape : is_shape s ≡ true) (D : Declared) (sums : List ℕ) (left : Left) (said : SequencesLeft s D sums left) where
  pub left-counted : left.count ≡ total s.rows (λ h. get_or left.lengths h 0)
  left-counted = said.count ∙ total_ext s.rows _ _ (λ h below. sym (said.lengths h below))

  pub left-lent : length left.lengths ≡ 8 → length left.symbols ≡ 512
      → Lent s.rows left.lengths left.symbols (all_remaining s D (held_sequences s sums))
  unfolding all_remaining
  left-lent eight sized =
      let r = shape-ranges s shape in
      record {
        rows-least = r.rows-least;
        rows-most = r.rows-most;
        places = eight;
        short = λ h below. (let m = (r.checks h below).most in omega (arith, said.lengths h below));
        width = sized;
        small = said.below;
        parts = tabulate_ext s.rows _ _ (λ h below.
            sym (get_d_tabulate s.rows (λ h. remaining (D h) (get_or (held_sequences s sums) h [])) h [] below) ∙ sym (said.symbols h below)
            ∙ ap₂ (λ n m. take n (drop m left.symbols)) (sym (said.lengths h below))
            (total_ext h _ _ (λ i less. sym (said.lengths i (let l : i < s.rows = omega arith in l)))));
      }

-- ---- the register of what is left

-- of sequences that are what is left of held sums
pub register-said : (s : Shape) (D : Declared) (sums left : List ℕ) (r : Register) (ss : List (List ℕ)) → ss ≡ all_remaining s D (held_sequences s sums)
    → register r.length r.alone ≡ register (size_of ss) (alone_of ss) → left ≡ taps_of ss ++ replicate (65 - length (taps_of ss)) 0
    → RegisterOf s D sums left r
register-said s D sums left r ss e answers leaves =
    record {
      size = (let size : r.length ≡ size_of ss = cc in size ∙ ap size_of e);
      alone = (let alone : r.alone ≡ alone_of ss = cc in alone ∙ ap alone_of e);
      leaves = leaves ∙ ap (λ xs. taps_of xs ++ replicate (65 - length (taps_of xs)) 0) e;
    }
