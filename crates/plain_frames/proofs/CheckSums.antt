-- The check sums of row after row, and that a frame is a codeword where all that were written are 0.
use mathlib.Core.Path.{◌≡◌, refl, sym, ap, subst, ◌∙◌}
use mathlib.Core.Bool.{Bool}
use mathlib.Core.List.{List}
use Prim.Native.Nat.{ℕ, zero, suc, ◌+◌, ◌-◌, ◌≤◌, ◌<◌}
use native.Mathlib.Decide.{dec_le, dec_lt, ℕ_discrete}
use native.Mathlib.Omega.{arith}
use lib.ListN.{length, get_or, replicate, length-replicate}
use Rattle.plain.proofs.Choices.{capped_small, capped-large, capped_le}
use Rattle.plain.proofs.Sums.{sum-zero, sum-suc, sum_more, sum-within}
use Rattle.plain_frames.specs.Frames.{Summed, check_sum, row}
use Rattle.plain.specs.Plain.{Each, Tells, capped, sum}
use Rattle.plain.specs.Written.{Wrote}

zeros-at : (n k : ℕ) → ◌≡◌ {A = ℕ} (get_or (replicate n 0) k 0) 0
zeros-at zero k = refl
zeros-at (suc n) zero = refl
zeros-at (suc n) (suc k) = zeros-at n k

-- a place below a sum lies in one of its terms
in_a-term : (f : ℕ → ℕ) (n i : ℕ) → i < sum n f → (h : ℕ) × (j : ℕ) × (h < n) × (j < f h) × (i ≡ sum h f + j)
in_a-term f zero i l = absurd (let e = sum-zero f in let z : ⊥ = omega arith in z)
in_a-term f (suc n) i l = pick (dec_lt i (sum n f)) (λ q. in_a-term f n i q)
  where
    Found : ℕ → Type 0
    Found m = (h : ℕ) × (j : ℕ) × (h < m) × (j < f h) × (i ≡ sum h f + j)

    pick : Dec (i < sum n f) → (i < sum n f → Found n) → Found (suc n)
    pick (yes q) below = let w = below q in (w.0, w.1, (let l = w.2 in omega arith), w.3, w.4)
    pick (no q) below = (n, i - sum n f, omega arith, (let e = sum-suc n f in omega arith), omega arith)

module _ (b columns : ℕ) (checks frame : List ℕ) where
  pub summed-none : (l : List ℕ) → Summed b columns checks frame 0 l l
  summed-none l = record { size = refl; sums = λ h j less. absurd (let z : ⊥ = omega arith in z); after = λ k le. refl }

  module _ (g at n : ℕ) (r old new next : List ℕ) (s : Summed b columns checks frame g old new)
      (w : Wrote new next at (at + n) (λ k. check_sum b r (suc (k - at)))) (start : at ≡ capped (sum g (λ i. get_or checks i 0)))
      (many : n ≡ get_or checks g 0) (this : r ≡ row frame columns g) (fits : length old ≤ 18446744073709551615) where
    offset : ℕ → ℕ
    offset h = sum h (λ i. get_or checks i 0)

    -- the row's own sums: its start was not cut off, since they have room
    own : (j : ℕ) → j < get_or checks g 0 → offset g + j < length old → get_or next (offset g + j) 0 ≡ check_sum b (row frame columns g) (suc j)
    unfolding offset
    own j less room =
        let whole : at ≡ offset g = start ∙ capped_small (offset g) (omega arith) in
        let size = s.size in
        let inner : offset g + j - at ≡ j = omega arith in
        w.within (offset g + j) (omega arith) (omega arith) (omega arith)
        ∙ ap (λ (k : ℕ). check_sum b r (suc k)) inner ∙ ap (λ (l : List ℕ). check_sum b l (suc j)) this

    earlier : (h j : ℕ) → h < g → j < get_or checks h 0 → offset h + j < length old → Dec (offset g ≤ 18446744073709551615) →
        get_or next (offset h + j) 0 ≡ get_or new (offset h + j) 0
    unfolding offset
    earlier h j less inside room (yes small) =
        let whole : at ≡ offset g = start ∙ capped_small (offset g) small in
        let le = sum-within (λ i. get_or checks i 0) h g less in
        w.before (offset h + j) (omega arith)
    earlier h j less inside room (no large) =
        let top : at ≡ 18446744073709551615 = start ∙ capped-large (offset g) (omega arith) in
        w.before (offset h + j) (omega arith)

    pub summed-more : Summed b columns checks frame (g + 1) old next
    unfolding offset
    summed-more = record {
      size = w.size ∙ s.size;
      sums = λ h j less inside room. pick h j less inside room (ℕ_discrete h g);
      after = λ k le.
          let more = sum_more g (λ i. get_or checks i 0) in
          let below = capped_le (offset g) in
          w.after k (omega arith) ∙ s.after k (omega arith);
    }
      where
        pick : (h j : ℕ) → h < g + 1 → j < get_or checks h 0 → offset h + j < length old → Dec (h ≡ g) →
            get_or next (offset h + j) 0 ≡ check_sum b (row frame columns h) (suc j)
        pick h j less inside room (yes e) =
            subst (λ (m : ℕ). j < get_or checks m 0 → offset m + j < length old → get_or next (offset m + j) 0 ≡ check_sum b (row frame columns m) (suc j))
            (sym e) (own j) inside room
        pick h j less inside room (no e) =
            earlier h j (omega arith) inside room (dec_le (offset g) 18446744073709551615) ∙ s.sums h j (omega arith) inside room

  pub summed-all : (g n : ℕ) (old new : List ℕ) → Summed b columns checks frame g old new → g ≤ n → n ≤ g → Summed b columns checks frame n old new
  summed-all g n old new s le ge = subst (λ (k : ℕ). Summed b columns checks frame k old new) (let e : g ≡ n = omega arith in e) s

  -- what `codeword` tells
  pub codeword-told : (flag : Bool) (n : ℕ) (new : List ℕ) → Summed b columns checks frame n (replicate 512 0) new →
      Tells flag (Each 0 (length new) (λ i. get_or new i 0 ≡ 0)) →
      Tells flag (Each 0 n (λ h. Each 0 (get_or checks h 0) (λ j.
      sum h (λ i. get_or checks i 0) + j < 512 → check_sum b (row frame columns h) (suc j) ≡ 0)))
  codeword-told flag n new s t = record {
    yes = λ e h lh less j lj inside room.
        let size : length new ≡ 512 = s.size ∙ length-replicate {A = ℕ} 512 0 in
        let room' : sum h (λ i. get_or checks i 0) + j < length (replicate {A = ℕ} 512 0) = rw (length-replicate {A = ℕ} 512 0) room in
        sym (s.sums h j less inside room') ∙ t.yes e (sum h (λ i. get_or checks i 0) + j) (omega arith) (omega arith);
    no = λ e all. t.no e (λ i low high. at all i high (dec_lt i (sum n (λ k. get_or checks k 0))));
  }
    where
      at : Each 0 n (λ h. Each 0 (get_or checks h 0) (λ j. sum h (λ i. get_or checks i 0) + j < 512 → check_sum b (row frame columns h) (suc j) ≡ 0)) →
          (i : ℕ) → i < length new → Dec (i < sum n (λ k. get_or checks k 0)) → get_or new i 0 ≡ 0
      at all i high (yes inside) =
          let w = in_a-term (λ k. get_or checks k 0) n i inside in
          let size : length new ≡ 512 = s.size ∙ length-replicate {A = ℕ} 512 0 in
          let place = w.4 in
          let room : sum w.0 (λ k. get_or checks k 0) + w.1 < 512 = omega arith in
          let room' : sum w.0 (λ k. get_or checks k 0) + w.1 < length (replicate {A = ℕ} 512 0) = rw (length-replicate {A = ℕ} 512 0) room in
          ap (λ (k : ℕ). get_or new k 0) place ∙ s.sums w.0 w.1 w.2 w.3 room' ∙ all w.0 (omega arith) w.2 w.1 (omega arith) w.3 room
      at all i high (no outside) = s.after i (omega arith) ∙ zeros-at 512 i
