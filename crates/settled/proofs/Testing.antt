-- A cell is 0 exactly where its discrepancy is, modulo an odd p; so the register is settled in a sequence where the cells are 0.
use mathlib.Core.Path.{◌≡◌, sym, ap, ◌∙◌}
use mathlib.Core.Bool.{Bool}
use mathlib.Core.List.{List}
use Prim.Native.Nat.{ℕ, ◌+◌, ◌-◌, ◌*◌, ◌%◌, ◌≤◌, ◌<◌, min}
use native.Mathlib.Decide.{ℕ_discrete}
use native.Mathlib.Nat.{mod-eq_of_lt, zero-mod}
use native.Mathlib.Omega.{arith}
use borrow.Author.Tests.{eq-eqb, ne_eqb}
use lib.Dec.{eqb}
use lib.ListN.{get_or, take}
use lib.Seq.{get_or-take, length-take-le}
use Rattle.field.proofs.MontgomeryProducts.{cancel}
use Rattle.field.proofs.Remainders.{mod-add-zero}
use Rattle.lists.specs.Tabulate.{every}
use Rattle.lists.proofs.Tabulated.{every_ext}
use Rattle.discrepancy.specs.Discrepancies.{sum_at}
use Rattle.sequences.specs.Zeros.{all_zero}
use Rattle.settled.specs.Ahead.{Ahead}
use Rattle.settled.specs.Settled.{settled_in}

module _ (p v : ℕ) (inverse : (p * v) % 65536 ≡ 1) where
  cell-zero : (c s : ℕ) → c < p → (65536 * c + s) % p ≡ 0 → eqb c 0 ≡ eqb (s % p) 0
  cell-zero c s less sum = pick (ℕ_discrete c 0)
    where
      pick : Dec (c ≡ 0) → eqb c 0 ≡ eqb (s % p) 0
      pick (yes none) = eq-eqb c 0 none ∙ sym (eq-eqb (s % p) 0 (ap (λ (x : ℕ). x % p) (let e : s ≡ 65536 * c + s = omega arith in e) ∙ sum))
      pick (no some) =
          ne_eqb c 0 some
          ∙ sym (ne_eqb (s % p) 0 (λ none. some
          (sym (mod-eq_of_lt less) ∙ cancel p v inverse c 0 (sym (mod-add-zero (65536 * c) s p none) ∙ sum ∙ sym (zero-mod p)) ∙ zero-mod p)))

  pub settled_where : {l count : ℕ} {taps symbols cells : List ℕ} (h long left : ℕ) → Ahead p l taps symbols (h * 144) count cells →
      count ≡ min left (long - l) → count ≤ 144 → {b : Bool} → b ≡ all_zero (take count cells) → b ≡ settled_in p l taps symbols h long left
  unfolding settled_in
  settled_where {l} {count} {taps} {symbols} {cells} h long left a all small told =
      told
      ∙ ap (λ (n : ℕ). every n (λ k. eqb (get_or (take count cells) k 0) 0)) (length-take-le count cells (omega (arith, a.width)))
      ∙ every_ext count (λ k. eqb (get_or (take count cells) k 0) 0) (λ k. eqb (sum_at l taps symbols (h * 144 + k) % p) 0)
      (λ k inside.
      ap (λ (x : ℕ). eqb x 0) (get_or-take count cells k 0 inside)
      ∙ cell-zero (get_or cells k 0) (sum_at l taps symbols (h * 144 + k)) (a.residues k) (a.each k inside))
      ∙ ap (λ (n : ℕ). every n (λ k. eqb (sum_at l taps symbols (h * 144 + k) % p) 0)) all
