-- A list of taps as a polynomial over the field of residues: coefficient i is the residue of entry i. Every polynomial of degree at most l
-- is that of a list of l + 1 residues, and of one only; the list of σ − q·x^e·τ is that polynomial.
use mathlib.Core.Path.{◌≡◌, sym, ap, fun_ext, ◌∙◌}
use mathlib.Core.List.{List}
use Prim.Native.Nat.{ℕ, suc, ◌+◌, ◌-◌, ◌*◌, ◌%◌, ◌≤◌, ◌<◌}
use native.Mathlib.Nat.{mod_self, mod-eq_of_lt, mod-lt, mul-zero, zero-mod, le_of_lt}
use native.Mathlib.Decide.{dec_lt}
use native.Mathlib.Omega.{arith}
use lib.ListN.{length, get_or, get_or-eq_default}
use lib.Seq.{ext_get_or}
use Rattle.algebra.specs.Polynomial.{Degree, shift}
use Rattle.algebra.proofs.Convolution.{shift-below, shift-above}
use Rattle.field.specs.Coefficients.{shifted, reduced}
use Rattle.field.specs.Prime.{Prime}
use Rattle.field.specs.Residue.{minus, times}
use Rattle.field.proofs.Bridge.{res, value, value-less, res-value, res_same, res-zero, res-minus, res-times}
use Rattle.field.proofs.Instance.{residues}
use Rattle.lists.specs.Tabulate.{tabulate}
use Rattle.lists.proofs.Tabulated.{length-tabulate, get_d_tabulate}
use Rattle.field.proofs.Coefficients.{shifted-below, shifted-above, residues-past, get_or-reduced, get_or-reduced-past}

module _ (p : ℕ) (prime : Prime p) where
  open (residues p prime).ring use {car, zero as 𝟘, one as 𝟙, add as ◌⊕◌, mul as ◌⊗◌, neg}

  infixl 60 ◌⊕◌
  infixl 70 ◌⊗◌
  abbrev pub poly : List ℕ → ℕ → (residues p prime).ring.car
  poly σ i = res p prime (get_or σ i 0)

  pub poly_degree : (l : ℕ) (σ : List ℕ) → length σ ≡ suc l → Degree (residues p prime).ring l (poly σ)
  poly_degree l σ e i h = ap (res p prime) (get_or-eq_default σ 0 (omega arith)) ∙ res-zero p prime

  -- lists of as many residues with the same polynomial are the same
  pub poly-same : (σ τ : List ℕ) → length σ ≡ length τ → ((i : ℕ) → get_or σ i 0 < p) → ((i : ℕ) → get_or τ i 0 < p)
      → ((i : ℕ) → poly σ i ≡ poly τ i) → σ ≡ τ
  poly-same σ τ e bσ bτ same =
      ext_get_or 0 σ τ e
      (λ i _. sym (mod-eq_of_lt (bσ i)) ∙ (res_same p prime (get_or σ i 0) (get_or τ i 0)).0 (same i) ∙ mod-eq_of_lt (bτ i))

  -- the coefficients 0 .. l of f as numbers
  abbrev pub coefficients : ℕ → (ℕ → car) → List ℕ
  coefficients l f = tabulate (suc l) (λ i. value p prime (f i))

  pub poly-coefficients : (l : ℕ) (f : ℕ → car) → Degree (residues p prime).ring l f → (i : ℕ) → poly (coefficients l f) i ≡ f i
  poly-coefficients l f d i = pick (dec_lt l i)
    where
      pick : Dec (l < i) → poly (coefficients l f) i ≡ f i
      pick (yes past) = poly_degree l (coefficients l f) (length-tabulate (suc l) _) i past ∙ sym (d i past)
      pick (no inside) = ap (res p prime) (get_d_tabulate (suc l) _ i 0 (omega arith)) ∙ res-value p prime (f i)

  pub coefficients-less : (l : ℕ) (f : ℕ → car) (i : ℕ) → get_or (coefficients l f) i 0 < p
  coefficients-less l f =
      residues-past p (coefficients l f) (omega (arith, prime.two_or_more))
      (λ i h.
      let inside : i < suc l = rw length-tabulate at h in
      rw (get_d_tabulate (suc l) (λ i. value p prime (f i)) i 0 inside) (value-less p prime (f i)))

  res-shifted : (e : ℕ) (τ : List ℕ) (i : ℕ) → res p prime (shifted e τ i) ≡ shift (residues p prime).ring e (poly τ) i
  res-shifted e τ i = pick (dec_lt i e)
    where
      pick : Dec (i < e) → res p prime (shifted e τ i) ≡ shift (residues p prime).ring e (poly τ) i
      pick (yes below) =
          ap (res p prime) (shifted-below e τ i below) ∙ res-zero p prime ∙ sym (shift-below (residues p prime).ring e (poly τ) i below)
      pick (no above) =
          let le : e ≤ i = omega arith in
          ap (res p prime) (shifted-above e τ i le) ∙ sym (shift-above (residues p prime).ring e (poly τ) i le)

  module _ (l : ℕ) (σ : List ℕ) (q e : ℕ) (τ : List ℕ) (σ-fits : length σ ≤ suc l) (τ-fits : e + length τ ≤ suc l) where
    -- past its end the list is 0, and so is the difference
    entry : (i : ℕ) → get_or (reduced p l σ q e τ) i 0 ≡ minus p (get_or σ i 0) (times p q (shifted e τ i))
    entry i = pick (dec_lt l i)
      where
        pick : Dec (l < i) → get_or (reduced p l σ q e τ) i 0 ≡ minus p (get_or σ i 0) (times p q (shifted e τ i))
        pick (no inside) = get_or-reduced p l σ q e τ i (omega arith)
        pick (yes past) =
            get_or-reduced-past p l σ q e τ i past
            ∙ rw (
              get_or-eq_default σ 0 (let h : length σ ≤ i = omega arith in h),
              shifted-above e τ i (omega arith),
              get_or-eq_default τ 0 (let h : length τ ≤ i - e = omega arith in h),
              mul-zero,
              zero-mod,
            )
            (sym (ap (λ (x : ℕ). x % p) (let h : 0 + (p - 0) ≡ p = omega arith in h) ∙ mod_self p))

    pub poly-reduced : poly (reduced p l σ q e τ) ≡ (λ i. poly σ i ⊕ neg (res p prime q ⊗ shift (residues p prime).ring e (poly τ) i))
    poly-reduced = fun_ext (λ i.
        ap (res p prime) (entry i)
        ∙ res-minus p prime (get_or σ i 0) (times p q (shifted e τ i)) (le_of_lt (mod-lt (q * shifted e τ i) (omega (arith, prime.two_or_more))))
        ∙ ap (λ x. res p prime (get_or σ i 0) ⊕ neg x) (res-times p prime q (shifted e τ i) ∙ ap (λ x. res p prime q ⊗ x) (res-shifted e τ i)))
