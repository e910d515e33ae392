-- Products taken off cells, cell after cell; and the taps that this leaves: those of `reduced`.
use mathlib.Core.Path.{◌≡◌, refl, sym, ap, ◌∙◌}
use mathlib.Core.List.{List}
use Prim.Native.Nat.{ℕ, suc, ◌+◌, ◌-◌, ◌*◌, ◌%◌, ◌≤◌, ◌<◌}
use native.Mathlib.Decide.{dec_lt, ℕ_discrete}
use native.Mathlib.Nat.{add-sub_cancel_left}
use native.Mathlib.Omega.{arith}
use lib.ListN.{get_or, set, take, length-set, length-take}
use lib.Seq.{ext_get_or, get_or-set_same, get_or-set_other}
use Rattle.field.specs.Coefficients.{reduced, shifted}
use Rattle.field.specs.Residue.{minus, times}
use Rattle.field.proofs.Coefficients.{shifted-below, shifted-above, length-reduced, get_or-reduced}
use Rattle.field.proofs.MontgomeryProducts.{product-taken}
use Rattle.field.proofs.Reduction.{set_below, shifted_past, tap-kept}
use Rattle.reduction.specs.Reductions.{Reducible, block}
use Rattle.reduction.specs.Taking.{Cells, Less}
use Rattle.reduction.proofs.Blocks.{saved-at}

module _ {p e from count : ℕ} {before : List ℕ} (c : Cells p e from count before) (u : ℕ) (numbers : List ℕ) where
  pub less_none : Less p u numbers from e 0 before before
  less_none =
      record {
        width = c.width;
        residues = c.residues;
        each = λ i h. absurd (let no : ⊥ = omega arith in no);
        first = λ k _. refl;
        last = λ k _. refl;
      }

  pub less-more : {now : List ℕ} {i r : ℕ} → Less p u numbers from e i before now → i < count → r < p →
      (65536 * r + get_or numbers (from + i) 0 * u) % p ≡ (65536 * get_or now (e + i) 0) % p → Less p u numbers from e (i + 1) before (set now (e + i) r)
  less-more {now} {i} {r} a inside small taken =
      record {
        width = length-set now (e + i) r ∙ a.width;
        residues = set_below p now (e + i) r a.residues small;
        each = λ j h. at j (omega arith) (ℕ_discrete j i);
        first = λ k h. get_or-set_other now (e + i) k r 0 (λ same. let no : ⊥ = omega (arith, same) in no) ∙ a.first k h;
        last = λ k h. get_or-set_other now (e + i) k r 0 (λ same. let no : ⊥ = omega (arith, same) in no) ∙ a.last k (omega arith);
      }
    where
      at : (j : ℕ) → j ≤ i → Dec (j ≡ i) →
          (65536 * get_or (set now (e + i) r) (e + j) 0 + get_or numbers (from + j) 0 * u) % p ≡ (65536 * get_or before (e + j) 0) % p
      at j le (yes same) =
          rw (same, get_or-set_same now (e + i) r 0 (omega (arith, a.width, c.within)))
          (taken ∙ ap (λ (x : ℕ). (65536 * x) % p) (a.last (e + i) (omega arith)))
      at j le (no other) =
          rw (get_or-set_other now (e + i) (e + j) r 0 (λ same. other (omega (arith, same)))) (a.each j (omega arith))

-- the numbers being the m + 1 taps saved for h with the zeros after them, and u being q·2^16: q·x^e·τ is taken off
module _ (p v : ℕ) (inverse : (p * v) % 65536 ≡ 1) {u e m h count : ℕ} {saved before after : List ℕ} (r : Reducible p before e m saved h)
    (less : Less p u saved (h * 144) e count before after) (all : m < count) (few : count ≤ m + 8) (within : count ≤ 144) (q : ℕ) (unit : u ≡ (q * 65536) % p) where
  abbrev τ : List ℕ
  τ = take (suc m) (block h saved)

  entry : (i : ℕ) → i < count → get_or after (e + i) 0 ≡ minus p (get_or before (e + i) 0) (times p q (shifted e τ (e + i)))
  entry i inside =
      product-taken p v inverse q (get_or saved (h * 144 + i) 0) unit (less.each i inside) (r.residues (e + i)) (less.residues (e + i))
      ∙ ap (λ (y : ℕ). minus p (get_or before (e + i) 0) (times p q y))
      (saved-at saved h m i r.zeros (omega arith) (omega arith)
      ∙ sym (shifted-above e τ (e + i) (omega arith) ∙ ap (λ (j : ℕ). get_or τ j 0) (add-sub_cancel_left e i)))

  kept : (k : ℕ) → shifted e τ k ≡ 0 → get_or after k 0 ≡ get_or before k 0 → get_or after k 0 ≡ minus p (get_or before k 0) (times p q (shifted e τ k))
  kept k none same = same ∙ sym (tap-kept p 143 before q e τ k none (r.residues k))

  each : (k : ℕ) → Dec (k < e) → Dec (k < e + count) → get_or after k 0 ≡ minus p (get_or before k 0) (times p q (shifted e τ k))
  each k (yes early) _ = kept k (shifted-below e τ k early) (less.first k early)
  each k (no from) (yes inside) =
      let at : e + (k - e) ≡ k = omega arith in
      rw (← at) (entry (k - e) (omega arith))
  each k (no from) (no past) = kept k (shifted_past e τ k (omega (arith, length-take (suc m) (block h saved)))) (less.last k (omega arith))

  pub less-reduced : after ≡ reduced p 143 before q e τ
  less-reduced =
      ext_get_or 0 after (reduced p 143 before q e τ) (less.width ∙ sym (length-reduced p 143 before q e τ))
      (λ k b. each k (dec_lt k e) (dec_lt k (e + count)) ∙ sym (get_or-reduced p 143 before q e τ k (omega (arith, less.width))))
