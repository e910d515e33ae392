-- On input that no test refuses the finder's parts fit together: the places are in range, and what the rounds reach is what Algorithm 4 finds for the
-- sequences lent.
use mathlib.Core.Path.{◌≡◌, sym, ap, ap₂, subst, ◌∙◌}
use mathlib.Core.Bool.{Bool}
use mathlib.Core.List.{List, ◌++◌}
use Prim.Native.Nat.{ℕ, suc, ◌+◌, ◌-◌, ◌*◌, ◌≤◌, ◌<◌}
use native.Mathlib.Omega.{arith}
use lib.ListN.{length, get_or, take, drop}
use lib.Seq.{length-take-le}
use Rattle.std.specs.Prelude.{Result, Ok}
use Rattle.lists.proofs.Totals.{total-bound}
use Rattle.field.proofs.Modulus.{odd-prime}
use Rattle.lists.proofs.Entries.{get_d_part}
use Rattle.refusal.proofs.Outcomes.{given-passed}
use Rattle.refusal.specs.Outcome.{passed, outcome}
use Rattle.refusal.specs.declared.Refusal.{Refusal}
use Rattle.register.proofs.Ordering.{longest-ordered}
use Rattle.register.specs.Algorithm4.{State, rounds, is_alone, found, found_alone}
use Rattle.register.specs.Sequences.{largest, longest, ordered, split}
use Rattle.sequences.specs.Tests.{tests}
use Rattle.finder.specs.Finder.{register, refused, answer, taps_left, Finds}
use Rattle.sequences.specs.Backwards.{Reversible, backwards_over}
use Rattle.sequences.specs.Places.{sequences_at, Sortable, Stands}
use Rattle.discrepancy.specs.Modulus.{Taken}
use Rattle.register_step.specs.Parts.{Parts, state_of}
use Rattle.ends.specs.Ends.{Startable, alone_mark}
use Rattle.rounds.specs.Rounds.{Reached, Running, sequences_in}
use Rattle.finder.specs.declared.Register.{Register}
use Rattle.sequences.specs.declared.Order.{Order}
use Rattle.finder.proofs.Accepted.{Accepted}
use Rattle.sequences.proofs.Reversing.{backwards_in}
use Rattle.sequences.proofs.Standing.{lengths-split, standing_at, standing_count, standing_length, standing_shorter}
use Rattle.register.proofs.Largest.{largest-bound}
use Rattle.rounds.proofs.Marking.{mark-is}
use Rattle.rounds.proofs.Reading.{sequences-read}
use Rattle.rounds.proofs.Running.{found_within}

module _ {p : ℕ} {lengths symbols : List ℕ} {room : ℕ} (fine : Accepted p lengths symbols room) where
  abbrev k : ℕ
  k = length lengths

  abbrev ss : List (List ℕ)
  ss = split lengths symbols

  pub taken : Taken p
  taken = record { two_or_more = fine.prime.two_or_more; modulus = fine.modulus; odd = odd-prime p fine.prime }

  pub sortable : Sortable lengths symbols
  sortable =
      record {
        count = fine.count;
        few = omega (arith, fine.whole, fine.count, total-bound k 128 (λ h. get_or lengths h 0) fine.short);
        whole = fine.whole;
      }

  module _ {N : ℕ} (most : N ≡ largest lengths) {o : Order} (stands : Stands o k symbols (ordered ss)) where
    is-longest : longest ss ≡ N
    is-longest = ap largest (lengths-split lengths symbols (omega (arith, fine.whole))) ∙ sym most

    shorter : (h : ℕ) → h < k → get_or o.lengths h 0 ≤ N
    shorter h b = omega (arith, standing_shorter stands h b, longest-ordered ss, is-longest)

    pub startable : Startable N o.lengths k
    startable = record { longest = omega (arith, largest-bound 128 lengths fine.short); count = fine.count; shorter = shorter }

    pub reversible : Reversible o k symbols
    reversible =
        record { count = fine.count; short = λ h b. omega (arith, shorter h b, startable.longest); within = stands.within }

    module _ {blocks : List ℕ} (old : List ℕ) (back : blocks ≡ backwards_over (sequences_at o k symbols) old) where
      -- the blocks are those of the sequences in order
      turned : blocks ≡ backwards_over (ordered ss) old
      turned = back ∙ ap (λ (l : List (List ℕ)). backwards_over l old) stands.sequences

      -- symbol i counted from the last
      entry : (h : ℕ) → h < k → (i : ℕ) → i < get_or o.lengths h 0 →
          get_or blocks (h * 144 + i) 0 ≡ get_or symbols (get_or o.starts h 0 + (get_or o.lengths h 0 - suc i)) 0
      entry h b i less =
          let n : ℕ = get_or o.lengths h 0 in
          let size = standing_length stands h b in
          ap (λ (l : List ℕ). get_or l (h * 144 + i) 0) turned
          ∙ backwards_in (ordered ss) old h i (omega (arith, fine.count)) (omega arith) (omega (arith, shorter h b, startable.longest))
          ∙ ap₂ (λ (l : List ℕ) (m : ℕ). get_or l (m - suc i) 0) (standing_at stands h b) size
          ∙ get_d_part (get_or o.starts h 0) n symbols (n - suc i) 0 (omega arith)

      pub running : Running p N o.lengths k blocks
      running =
          record {
            two_or_more = fine.prime.two_or_more;
            longest = startable.longest;
            count = fine.count;
            shorter = shorter;
            residues = λ h b i less. rw (entry h b i less) (fine.below _ (omega (arith, stands.within h b)));
          }

      module _ {x : Parts} (reached : Reached p k (rounds p N (sequences_in o.lengths k blocks) N) x) where
        sequences : sequences_in o.lengths k blocks ≡ ordered ss
        sequences =
            ap (sequences_in o.lengths k) turned
            ∙ sequences-read (ordered ss) old o.lengths k (sym (standing_count stands)) fine.count (λ h b. sym (standing_length stands h b))
            (λ h b. omega (arith, shorter h b, startable.longest))

        is_found : rounds p N (sequences_in o.lengths k blocks) N ≡ found p ss (longest ss)
        unfolding found
        is_found = ap₂ (λ (m : ℕ) (l : List (List ℕ)). rounds p m l m) (sym is-longest) sequences

        pub size-within : x.length ≤ N
        size-within = found_within running N reached

        pub taps-room : x.length + 1 ≤ length x.taps
        taps-room = let width = reached.ended.whole.taps in omega (arith, size-within, running.longest)

        pub buffer_room : x.length + 1 ≤ room
        buffer_room = omega (arith, size-within, fine.enough)

        found-size : x.length ≡ (found p ss (longest ss)).size
        unfolding state_of
        found-size = reached.state.size ∙ ap (λ (st : State). st.size) is_found

        found-taps : take (suc x.length) x.taps ≡ (found p ss (longest ss)).taps
        unfolding state_of
        found-taps = reached.state.taps ∙ ap (λ (st : State). st.taps) is_found

        found-mark : alone_mark N o.lengths k x.length x.places x.sizes ≡ found_alone p ss (longest ss)
        unfolding found_alone
        found-mark =
            mark-is N o.lengths k blocks x (rounds p N (sequences_in o.lengths k blocks) N) reached.state
            ∙ ap₂ (λ (m : ℕ) (l : List (List ℕ)). is_alone m l m (rounds p N (sequences_in o.lengths k blocks) N)) (sym is-longest) sequences
            ∙ ap (is_alone (longest ss) (ordered ss) (longest ss)) is_found

        -- w taps are copied to the buffer
        pub finds : {buffer : List ℕ} → outcome (tests p lengths symbols (length buffer)) ≡ passed → {mark : Bool} (w : ℕ) {copied : List ℕ} →
            mark ≡ alone_mark N o.lengths k x.length x.places x.sizes → w ≡ suc x.length → copied ≡ take w x.taps →
            Finds p lengths symbols buffer (copied ++ drop w buffer) (Ok (record { length = x.length; alone = mark }))
        unfolding answer taps_left
        finds {buffer} ok w {copied} marked width all =
            let ts = tests p lengths symbols (length buffer) in
            let whole : copied ≡ (found p ss (longest ss)).taps = all ∙ ap (λ (n : ℕ). take n x.taps) width ∙ found-taps in
            let long : length copied ≡ w = ap length all ∙ length-take-le w x.taps (omega (arith, taps-room)) in
            record {
              answers = ap₂ register found-size (marked ∙ found-mark) ∙ sym (given-passed refused _ ts ok);
              leaves =
                  ap₂ (λ (l : List ℕ) (n : ℕ). l ++ drop n buffer) whole (sym long ∙ ap length whole)
                  ∙ sym (given-passed (λ _. buffer) _ ts ok);
            }

-- by another name of the modulus
pub finds-same : {p q : ℕ} {lengths symbols buffer left : List ℕ} {r : Result Register Refusal} →
    q ≡ p → Finds q lengths symbols buffer left r → Finds p lengths symbols buffer left r
finds-same {p} {q} {lengths} {symbols} {buffer} {left} {r} = subst (λ (x : ℕ). Finds x lengths symbols buffer left r)
