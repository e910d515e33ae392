-- What was put backwards into the blocks is what is read there.
use mathlib.Core.Path.{◌≡◌, sym, ap, ◌∙◌}
use mathlib.Core.List.{List, []}
use Prim.Native.Nat.{ℕ, suc, ◌-◌, ◌≤◌, ◌<◌}
use native.Mathlib.Omega.{arith}
use lib.ListN.{length, get_or}
use Rattle.lists.proofs.Filling.{by_entries}
use Rattle.lists.proofs.Tabulated.{tabulate_ext, tabulate-get_or}
use Rattle.lists.specs.Tabulate.{tabulate}
use Rattle.sequences.proofs.Reversing.{backwards_in}
use Rattle.sequences.specs.Backwards.{backwards_over}
use Rattle.discrepancy.specs.Discrepancies.{sequence_in}
use Rattle.rounds.specs.Rounds.{sequences_in}

module _ (ss : List (List ℕ)) (old : List ℕ) where
  sequence-read : (h n : ℕ) → h < 8 → n ≡ length (get_or ss h []) → n ≤ 144 → sequence_in (backwards_over ss old) h n ≡ get_or ss h []
  unfolding sequence_in
  sequence-read h n few size short =
      let s : List ℕ = get_or ss h [] in
      sym (by_entries n _ s (sym size) (λ i less.
      sym (backwards_in ss old h (n - suc i) few (omega arith) (omega arith)
      ∙ ap (λ (j : ℕ). get_or s j 0) (let e : length s - suc (n - suc i) ≡ i = omega arith in e))))

  pub sequences-read : (lengths : List ℕ) (k : ℕ) → k ≡ length ss → k ≤ 8 → ((h : ℕ) → h < k → get_or lengths h 0 ≡ length (get_or ss h [])) →
      ((h : ℕ) → h < k → get_or lengths h 0 ≤ 144) → sequences_in lengths k (backwards_over ss old) ≡ ss
  sequences-read lengths k count few sizes short =
      tabulate_ext k (λ h. sequence_in (backwards_over ss old) h (get_or lengths h 0)) (λ h. get_or ss h [])
      (λ h b. sequence-read h (get_or lengths h 0) (omega arith) (sizes h b) (short h b))
      ∙ ap (λ (n : ℕ). tabulate n (λ h. get_or ss h [])) count ∙ tabulate-get_or ss []
