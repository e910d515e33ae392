-- Sequences that end at the same position N, as Algorithm 4 reads them: position m of a sequence s is its symbol m − (N − length s). The discrepancy
-- of a register there is the product of its polynomial with the symbols. What stands before the first symbol is never asked for.
use mathlib.Core.Path.{◌≡◌, sym, ap, ◌∙◌}
use mathlib.Core.List.{List, []}
use Prim.Native.Nat.{ℕ, suc, ◌+◌, ◌-◌, ◌*◌, ◌%◌, ◌≤◌, ◌<◌}
use native.Mathlib.Nat.{mod-eq_of_lt}
use native.Mathlib.Omega.{arith}
use lib.ListN.{length, get_or, take}
use lib.Seq.{length-take-le, get_or-take}
use Rattle.algebra.specs.Polynomial.{conv}
use Rattle.algebra.proofs.Convolution.{conv_degree}
use Rattle.register.proofs.Theory.Generates.{Sequences}
use Rattle.algebra.proofs.Sums.{sum_ext}
use Rattle.field.specs.Prime.{Prime}
use Rattle.lists.specs.Total.{total}
use Rattle.field.proofs.Bridge.{res, res-zero, res-mod, res-mul, res-is-zero, res-total}
use Rattle.field.proofs.Instance.{residues}
use Rattle.field.proofs.Polynomials.{poly, poly_degree}
use Rattle.lists.proofs.Totals.{total_ext}
use Rattle.register.specs.Register.{discrepancy, Generates}
use Rattle.register.specs.Sequences.{symbol}
use Rattle.register.proofs.Bounds.{discrepancy-less}

-- only the symbols j − l .. j count
discrepancy-take : (p l : ℕ) (σ s : List ℕ) (k j : ℕ) → l < j → j ≤ k → discrepancy p l σ (take k s) j ≡ discrepancy p l σ s j
unfolding discrepancy
discrepancy-take p l σ s k j after within =
    ap (λ (x : ℕ). x % p)
    (total_ext (suc l) (λ i. get_or σ i 0 * symbol (take k s) (j - i)) (λ i. get_or σ i 0 * symbol s (j - i))
    (λ i h. ap (λ x. get_or σ i 0 * x) (get_or-take k s (j - i - 1) 0 (omega arith))))

module _ (p : ℕ) (prime : Prime p) (N : ℕ) where
  open (residues p prime).ring use {zero as 𝟘, mul as ◌⊗◌}

  infixl 70 ◌⊗◌
  abbrev pub aligned : List ℕ → ℕ → (residues p prime).ring.car
  aligned s m = res p prime (symbol s (m - (N - length s)))

  abbrev pub sequences : List (List ℕ) → Sequences (residues p prime).ring.car
  sequences ss =
      record { count = length ss; lag = λ h. N - length (get_or ss h []); symbol = λ h. aligned (get_or ss h []) }

  module _ (l : ℕ) (σ s : List ℕ) (taps : length σ ≡ suc l) (fits : length s ≤ N) where
    pub disc-aligned : (m : ℕ) → l + (N - length s) < m
        → res p prime (discrepancy p l σ s (m + length s - N)) ≡ conv (residues p prime).ring (poly p prime σ) (aligned s) m
    unfolding discrepancy
    disc-aligned m asked =
        let terms : ℕ → ℕ = λ i. get_or σ i 0 * symbol s (m + length s - N - i) in
        res-mod p prime (total (suc l) terms)
        ∙ res-total p prime (suc l) terms
        ∙ sum_ext (residues p prime).ring (suc l) (λ i. res p prime (terms i)) (λ i. poly p prime σ i ⊗ aligned s (m - i))
        (λ i h.
        res-mul p prime (get_or σ i 0) (symbol s (m + length s - N - i))
        ∙ ap (λ (j : ℕ). poly p prime σ i ⊗ res p prime (symbol s j))
        (let e : m + length s - N - i ≡ m - i - (N - length s) = omega arith in e))
        ∙ sym (conv_degree (residues p prime).ring l (poly p prime σ) (aligned s) m (poly_degree p prime l σ taps) (omega arith))

    pub disc-zero : (m : ℕ) → l + (N - length s) < m
        → discrepancy p l σ s (m + length s - N) ≡ 0 → conv (residues p prime).ring (poly p prime σ) (aligned s) m ≡ 𝟘
    disc-zero m asked e = sym (disc-aligned m asked) ∙ ap (res p prime) e ∙ res-zero p prime

    pub zero-disc : (m : ℕ) → l + (N - length s) < m
        → conv (residues p prime).ring (poly p prime σ) (aligned s) m ≡ 𝟘 → discrepancy p l σ s (m + length s - N) ≡ 0
    zero-disc m asked e =
        let d : ℕ = discrepancy p l σ s (m + length s - N) in
        sym (mod-eq_of_lt (discrepancy-less p l σ s (m + length s - N) (omega (arith, prime.two_or_more))))
        ∙ (res-is-zero p prime d).0 (disc-aligned m asked ∙ e)

  -- a register generates the sequence without its last N − n symbols where its products vanish up to position n
  module _ (l : ℕ) (σ s : List ℕ) (taps : length σ ≡ suc l) (fits : length s ≤ N) (n : ℕ) (round : n ≤ N) where
    pub generates-aligned : Generates p l σ (take (length s - (N - n)) s)
        → (m : ℕ) → l + (N - length s) < m → m ≤ n → conv (residues p prime).ring (poly p prime σ) (aligned s) m ≡ 𝟘
    generates-aligned gen m asked within =
        let j : ℕ = m + length s - N in
        let k : ℕ = length s - (N - n) in
        let inside : j ≤ k = omega arith in
        disc-zero l σ s taps fits m asked
        (sym (discrepancy-take p l σ s k j (omega arith) inside)
        ∙ gen j (omega arith) (rw (length-take-le k s (omega arith)) inside))

    pub aligned-generates : ((m : ℕ) → l + (N - length s) < m → m ≤ n → conv (residues p prime).ring (poly p prime σ) (aligned s) m ≡ 𝟘)
        → Generates p l σ (take (length s - (N - n)) s)
    aligned-generates zeros j after within =
        let k : ℕ = length s - (N - n) in
        let inside : j ≤ k = rw (length-take-le k s (omega arith)) at within in
        let m : ℕ = j + (N - length s) in
        discrepancy-take p l σ s k j after inside
        ∙ ap (discrepancy p l σ s) (let e : j ≡ m + length s - N = omega arith in e)
        ∙ zero-disc l σ s taps fits m (omega arith) (zeros m (omega arith) (omega arith))
