-- Products taken off the cells, tap after tap.
use mathlib.Core.Path.{◌≡◌, refl, sym, ap, subst, ◌∙◌}
use mathlib.Core.List.{List}
use Prim.Native.Nat.{ℕ, suc, ◌+◌, ◌*◌, ◌%◌, ◌≤◌, ◌<◌}
use native.Mathlib.Nat.{mod-add-mod, zero-add, zero-mod}
use native.Mathlib.Numerals.{add-one}
use native.Mathlib.Omega.{arith}
use lib.ListN.{length, get_or, replicate, length-replicate}
use Rattle.lists.specs.Total.{total}
use Rattle.lists.proofs.Joined.{replicate-each}
use Rattle.lists.proofs.Totals.{total-zero, total-suc}
use Rattle.reduction.specs.Taking.{Less}
use Rattle.settled.specs.Ahead.{Ahead}

-- the products of the first i taps are taken off, cell k having those with the symbols at k, k + 1, ..
pub record TakenOff (p : ℕ) (taps symbols : List ℕ) (at end : ℕ) (cells : List ℕ) (i : ℕ) : Type 0 where
  pub width : length cells ≡ 144
  pub residues : (k : ℕ) → get_or cells k 0 < p
  pub each : (k : ℕ) → k < end → (65536 * get_or cells k 0 + total i (λ j. get_or taps j 0 * get_or symbols (at + k + j) 0)) % p ≡ 0

module _ {p : ℕ} (taps symbols : List ℕ) (at end : ℕ) where
  pub taken-off-none : 0 < p → TakenOff p taps symbols at end (replicate 144 0) 0
  taken-off-none positive =
      record {
        width = length-replicate {A = ℕ} 144 0;
        residues = λ k. rw (zero-at k) positive;
        each = λ k _. rw (zero-at k, total-zero (λ j. get_or taps j 0 * get_or symbols (at + k + j) 0)) (zero-mod p);
      }
    where
      zero-at : (k : ℕ) → get_or {A = ℕ} (replicate 144 0) k 0 ≡ 0
      zero-at k = replicate-each (λ (x : ℕ). x ≡ 0) 0 refl 144 k

  pub taken-off-more : {before after : List ℕ} {i : ℕ} → TakenOff p taps symbols at end before i → Less p (get_or taps i 0) symbols (at + i) 0 end before after →
      TakenOff p taps symbols at end after (i + 1)
  taken-off-more {before} {after} {i} s less =
      record {
        width = less.width;
        residues = less.residues;
        each = λ k h.
            let f : ℕ → ℕ = λ j. get_or taps j 0 * get_or symbols (at + k + j) 0 in
            let a : ℕ = get_or after k 0 in
            let y : ℕ = get_or symbols (at + i + k) 0 in
            let place : at + k + i ≡ at + i + k = omega arith in
            ap (λ (x : ℕ). (65536 * a + x) % p) (ap (λ (m : ℕ). total m f) (add-one i) ∙ total-suc i f)
            ∙ ap (λ (x : ℕ). (65536 * a + (total i f + get_or taps i 0 * get_or symbols x 0)) % p) place
            ∙ ap (λ (x : ℕ). x % p) (let e : 65536 * a + (total i f + get_or taps i 0 * y) ≡ 65536 * a + y * get_or taps i 0 + total i f = omega arith in e)
            ∙ sym (mod-add-mod (65536 * a + y * get_or taps i 0) p (total i f))
            ∙ ap (λ (x : ℕ). (x + total i f) % p)
            (subst (λ (j : ℕ). (65536 * get_or after j 0 + y * get_or taps i 0) % p ≡ (65536 * get_or before j 0) % p) (zero-add k) (less.each k h))
            ∙ mod-add-mod (65536 * get_or before k 0) p (total i f)
            ∙ s.each k h;
      }

  -- those of all taps of a register of length l, where a few cells more than asked for have theirs
  pub taken-off-all : {l i count : ℕ} {cells : List ℕ} → TakenOff p taps symbols at end cells i → i ≡ suc l → count ≤ end →
      Ahead p l taps symbols at count cells
  taken-off-all s all le = record { width = s.width; residues = s.residues; each = λ k h. rw (← all) (s.each k (omega arith)) }
