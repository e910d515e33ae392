-- The arrays before the first round hold the state that Algorithm 4 starts with.
use mathlib.Core.Path.{◌≡◌, refl, sym, ap, ◌∙◌}
use mathlib.Core.List.{List, [], ◌∷◌}
use Prim.Native.Nat.{ℕ, zero, suc, ◌+◌, ◌-◌, ◌*◌, ◌^◌, ◌%◌, ◌≤◌, ◌<◌}
use native.Mathlib.Nat.{mod-eq_of_lt, mod-mod, pow-zero, pow-suc, mul-one}
use native.Mathlib.Omega.{arith}
use lib.ListN.{length, get_or, take, drop, set, replicate, length-take, length-drop, length-set, length-replicate, get_or-replicate}
use lib.Seq.{get_or-set_other, take-suc}
use Rattle.field.specs.Residue.{quotient}
use Rattle.lists.proofs.Entries.{get_d_part}
use Rattle.lists.proofs.Joined.{replicate-each}
use Rattle.register.specs.Algorithm4.{start, rounds}
use Rattle.reduction.specs.Reductions.{block}
use Rattle.register_step.specs.Parts.{Parts, parts, state_of}
use Rattle.ends.specs.Ends.{Started}
use Rattle.rounds.specs.Rounds.{Running, Reached, sequences_in}
use Rattle.register_step.proofs.Change.{saved_path}
use Rattle.rounds.proofs.Running.{sequence-at, length_part}

-- the taps of the register of length 0
abbrev one-tap : List ℕ
one-tap = set (replicate 144 0) 0 1

-- the saved registers are 0: each block begins with zeros, as far as a first step reads it
pub record Cleared (saved : List ℕ) : Type 0 where
  pub width : length saved ≡ 1152
  pub zeros : (h : ℕ) → h < 8 → (i : ℕ) → i ≤ 8 → get_or saved (h * 144 + i) 0 ≡ 0

zero-block : (saved : List ℕ) → Cleared saved → (h : ℕ) → h < 8 → take 1 (block h saved) ≡ 0 ∷ []
zero-block saved c h b =
    take-suc (block h saved) 0 0 (omega (arith, length-take 144 (drop (h * 144) saved), length-drop (h * 144) saved, c.width))
    ∙ ap (λ (x : ℕ). x ∷ []) (get_d_part (h * 144) 144 saved 0 0 (omega arith) ∙ c.zeros h b 0 (omega arith))

one-pow : (k : ℕ) → 1 ^ k ≡ 1
one-pow zero = pow-zero 1
one-pow (suc k) = pow-suc 1 k ∙ mul-one (1 ^ k) ∙ one-pow k

over-one : {p : ℕ} → 2 ≤ p → quotient p (65536 % p) 1 ≡ 65536 % p
over-one {p} h =
    ap (λ (x : ℕ). (65536 % p * x) % p) (ap (λ (x : ℕ). x % p) (one-pow (p - 2)) ∙ mod-eq_of_lt h)
    ∙ ap (λ (x : ℕ). x % p) (mul-one (65536 % p)) ∙ mod-mod 65536 p

module _ {p N : ℕ} {lengths : List ℕ} {k : ℕ} {blocks : List ℕ} (r : Running p N lengths k blocks) {places : List ℕ}
    (s : Started N lengths k places) {u : ℕ} (unit : u ≡ 65536 % p) where
  abbrev pub before : List ℕ → Parts
  before saved = parts 0 places (replicate 8 0) (replicate 8 1) (replicate 8 u) one-tap saved

  module _ {saved : List ℕ} (c : Cleared saved) where
    saved-start : (h : ℕ) → h < k → (state_of (before saved)).saved h ≡ (start N (sequences_in lengths k blocks)).saved h
    unfolding state_of start
    saved-start h b =
        let small : h < 8 = omega (arith, r.count) in
        let size = ap length (sequence-at lengths k blocks h b) ∙ length_part lengths k blocks h in
        saved_path
        (s.place h b ∙ ap (λ (n : ℕ). N - n) (sym size))
        (get_or-replicate {A = ℕ} 8 h 0 0 small)
        (get_or-replicate {A = ℕ} 8 h 1 0 small)
        (ap (λ (n : ℕ). take (suc n) (block h saved)) (get_or-replicate 8 h 0 0 small) ∙ zero-block saved c h small)

    pub cleared-start : Reached p k (rounds p N (sequences_in lengths k blocks) 0) (before saved)
    unfolding state_of start rounds
    cleared-start =
        record {
          state = record { size = refl; taps = refl; saved = saved-start };
          ended =
              record {
                whole =
                    record {
                      places = s.width;
                      sizes = length-replicate {A = ℕ} 8 0;
                      discs = length-replicate {A = ℕ} 8 1;
                      quotients = length-replicate {A = ℕ} 8 u;
                      taps = length-set {A = ℕ} (replicate 144 0) 0 1 ∙ length-replicate {A = ℕ} 144 0;
                      saved = c.width;
                    };
                zeros = λ i past. get_or-set_other {A = ℕ} (replicate 144 0) 0 i 1 0 (λ e. omega (arith, e)) ∙ replicate-each (λ (x : ℕ). x ≡ 0) 0 refl 144 i;
                short = λ h b. omega (arith, get_or-replicate {A = ℕ} 8 h 0 0 b);
                saved-zeros = λ h b i past near. c.zeros h b i (omega (arith, get_or-replicate {A = ℕ} 8 h 0 0 b));
                quotients = λ h b.
                    get_or-replicate 8 h u 0 b ∙ unit ∙ sym (ap (quotient p (65536 % p)) (get_or-replicate {A = ℕ} 8 h 1 0 b) ∙ over-one r.two_or_more);
              };
        }

  -- where all of them is cleared
  pub reached-start : Reached p k (rounds p N (sequences_in lengths k blocks) 0) (before (replicate 1152 0))
  reached-start =
      cleared-start (record { width = length-replicate {A = ℕ} 1152 0; zeros = λ h b i near. get_or-replicate {A = ℕ} 1152 (h * 144 + i) 0 0 (omega arith) })
