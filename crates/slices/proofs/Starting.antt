-- Before the first step the arrays hold the sequences and the state that Algorithm 4 starts with, whatever stood in them.
use mathlib.Core.Path.{◌≡◌, refl, sym, ap, subst, ◌∙◌}
use mathlib.Core.Bool.{cond}
use mathlib.Core.List.{List, []}
use Prim.Native.Nat.{ℕ, suc, ◌+◌, ◌-◌, ◌*◌, ◌%◌, ◌≤◌, ◌<◌}
use native.Mathlib.Decide.{dec_lt}
use native.Mathlib.Omega.{arith}
use lib.Dec.{ltb}
use lib.ListN.{length, get_or, get_or-eq_default}
use borrow.Author.Tests.{lt-ltb}
use Rattle.lists.proofs.Tabulated.{length-tabulate, get_d_tabulate}
use Rattle.register.proofs.Ordering.{all-ordered, length-ordered, longest-bounds, longest-ordered}
use Rattle.register.specs.Algorithm4.{State, start, rounds}
use Rattle.register.specs.Sequences.{longest, ordered}
use Rattle.discrepancy.specs.Discrepancies.{sequence_in}
use Rattle.ends.specs.Ends.{Started}
use Rattle.rounds.proofs.Reading.{sequences-read}
use Rattle.rounds.proofs.Running.{sequence-at}
use Rattle.rounds.proofs.Starting.{Cleared, cleared-start}
use Rattle.rounds.specs.Rounds.{Running, Reached, sequences_in}
use Rattle.slices.specs.Kept.{Kept, Sliceable, state_at}
use Rattle.slices.specs.Synthesis.{Synthesis, parts_in, cleared_over, begun}
use Rattle.slices.proofs.Advancing.{round-next}

pub cleared : (old : List ℕ) → Cleared (cleared_over old)
unfolding cleared_over
cleared old =
    let entry : ℕ → ℕ = λ k. cond (ltb (k % 144) 16) 0 (get_or old k 0) in
    record {
      width = length-tabulate 1152 entry;
      zeros = λ h b i near. get_d_tabulate 1152 entry (h * 144 + i) 0 (omega arith) ∙ rw (lt-ltb ((h * 144 + i) % 144) 16 (omega arith));
    }

-- no sequence is longer than the longest, be they in order or not
pub shorter : (ss : List (List ℕ)) (g : ℕ) → length (get_or (ordered ss) g []) ≤ longest ss
shorter ss g = pick (dec_lt g (length (ordered ss)))
  where
    pick : Dec (g < length (ordered ss)) → length (get_or (ordered ss) g []) ≤ longest ss
    pick (yes inside) = omega (arith, longest-bounds (ordered ss) g inside, longest-ordered ss)
    pick (no past) = rw (get_or-eq_default (ordered ss) [] (let le : length (ordered ss) ≤ g = omega arith in le)) (omega arith)

module _ {ss : List (List ℕ)} (s : Sliceable ss) (old : Synthesis) where
  abbrev k : ℕ
  k = length ss

  abbrev x : Synthesis
  x = begun ss old

  length-is : (g : ℕ) → g < 8 → get_or x.lengths g 0 ≡ length (get_or (ordered ss) g [])
  unfolding begun
  length-is g b = get_d_tabulate 8 (λ h. length (get_or (ordered ss) h [])) g 0 b

  started : Started (longest ss) x.lengths k x.places
  unfolding begun
  started =
      record {
        width = length-tabulate 8 _;
        place = λ h b. get_d_tabulate 8 (λ g. longest ss - get_or x.lengths g 0) h 0 (omega (arith, s.count));
      }

  -- what stands in the blocks are the sequences
  reads : sequences_in x.lengths k x.symbols ≡ ordered ss
  unfolding begun
  reads =
      sequences-read (ordered ss) old.symbols x.lengths k (sym (length-ordered ss)) s.count (λ h b. length-is h (omega (arith, s.count)))
      (λ h b. omega (arith, length-is h (omega (arith, s.count)), shorter ss h, s.short))

  symbol-is : (h : ℕ) → h < k → (i : ℕ) → i < get_or x.lengths h 0 →
      get_or x.symbols (h * 144 + i) 0 ≡ get_or (get_or (ordered ss) h []) (get_or x.lengths h 0 - suc i) 0
  unfolding sequence_in
  symbol-is h b i less =
      let n : ℕ = get_or x.lengths h 0 in
      let back : n - suc (n - suc i) ≡ i = omega arith in
      ap (λ (j : ℕ). get_or x.symbols (h * 144 + j) 0) (sym back)
      ∙ sym (get_d_tabulate n (λ j. get_or x.symbols (h * 144 + (n - suc j)) 0) (n - suc i) 0 (omega arith))
      ∙ ap (λ (l : List ℕ). get_or l (n - suc i) 0) (sym (sequence-at x.lengths k x.symbols h b) ∙ ap (λ (l : List (List ℕ)). get_or l h []) reads)

  running : Running 257 (longest ss) x.lengths k x.symbols
  running =
      let Residues : List ℕ → Type 0 = λ l. (i : ℕ) → i < length l → get_or l i 0 < 257 in
      record {
        two_or_more = omega arith;
        longest = omega (arith, s.short);
        count = s.count;
        shorter = λ h b. rw (length-is h (omega (arith, s.count))) (shorter ss h);
        residues = λ h b i less.
            rw (symbol-is h b i less)
            (all-ordered Residues ss s.residues h (omega (arith, length-ordered ss)) (get_or x.lengths h 0 - suc i)
            (omega (arith, length-is h (omega (arith, s.count)))));
      }

  reached : Reached 257 k (state_at ss 0 0) (parts_in x)
  unfolding begun
  reached =
      subst (λ (st : State). Reached 257 k st (parts_in x)) (ap (λ (l : List (List ℕ)). rounds 257 (longest ss) l 0) reads ∙ sym (round-next ss 0))
      (cleared-start running started refl (cleared old.saved))

  pub begun_kept : Kept ss 0 0 x
  unfolding begun rounds start
  begun_kept =
      record {
        sliceable = s;
        counts = refl;
        shorter = λ g b. rw (length-is g b) (shorter ss g);
        running = running;
        sequences = reads;
        reached = reached;
      }
