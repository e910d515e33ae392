-- The update of Algorithm 4: σ − (d / d_h)·x^(n − n_h)·σ^h generates through the symbol at (n, h), with each length that is
-- at least l and n − (n_h − l_h). One statement serves the growing and the staying length.
use mathlib.Core.Path.{◌≡◌, sym, ap, ◌∙◌}
use mathlib.Core.Logic.{inl, inr}
use Prim.Native.Nat.{ℕ, suc, ◌+◌, ◌-◌, ◌*◌, ◌≤◌, ◌<◌}
use native.Mathlib.Nat.{add-mul}
use native.Mathlib.Omega.{arith}
use Rattle.algebra.specs.Ring.{Field}
use Rattle.algebra.specs.Polynomial.{Degree, shift}
use Rattle.algebra.proofs.RingLaws.{neg-zero, mul-zero}
use Rattle.algebra.proofs.FieldLaws.{divide_mul}
use Rattle.algebra.proofs.Convolution.{conv-mul, conv-sub, conv-shift, shift-below, shift_degree}
use Rattle.register.proofs.Theory.Generates.{
  Sequences,
  disc,
  Gen,
  Register,
  gen-longer,
  gen-next,
  gen-mul,
  gen-sub,
  gen-shift,
}
use Rattle.register.proofs.Theory.Step.{Saved, reduced}
use Rattle.register.proofs.Theory.Invariant.{FreshOrKept, saved-degree, saved-gen, saved-before}

module _ (F : Field) (Q : Sequences F.ring.car) (n h l l' : ℕ) (σ : ℕ → F.ring.car) (v : Saved F.ring.car)
    (sequence : h < Q.count) (asked : l + Q.lag h < n)
    (register : Register F Q σ l (n * Q.count + h)) (saved : FreshOrKept F Q l (n * Q.count + h) h v)
    (longer : l ≤ l') (enough : n + v.size ≤ l' + v.place) where
  open F use {ring, inv}
  open F.ring use {car, zero as 𝟘, one as 𝟙, add as ◌⊕◌, mul as ◌⊗◌, neg, add-zero, add-neg}
  open Q use {count as t, lag, symbol}

  infixl 60 ◌⊕◌
  infixl 70 ◌⊗◌
  before : v.place < n
  before = saved-before F Q l n h v sequence asked saved

  abbrev e : ℕ
  e = n - v.place

  abbrev c : car
  c = disc F Q σ h n ⊗ inv v.disc

  abbrev added : ℕ → car
  added i = c ⊗ shift ring e v.taps i

  abbrev σ' : ℕ → car
  σ' = reduced F σ c e v.taps

  -- where σ^h adds nothing, σ stays
  kept_at : (i : ℕ) → shift ring e v.taps i ≡ 𝟘 → σ' i ≡ σ i
  kept_at i z =
      ap (λ x. σ i ⊕ neg (c ⊗ x)) z ∙ ap (λ x. σ i ⊕ neg x) (mul-zero ring c) ∙ ap (λ x. σ i ⊕ x) (neg-zero ring)
      ∙ add-zero (σ i)

  updated-one : σ' 0 ≡ 𝟙
  updated-one = kept_at 0 (shift-below ring e v.taps 0 (omega (arith, before))) ∙ register.one

  updated-degree : Degree ring l' σ'
  updated-degree i q =
      kept_at i (shift_degree ring e v.size v.taps (saved-degree F Q l (n * t + h) h v saved) i
      (omega (arith, before)))
      ∙ register.degree i (omega arith)

  added-gen : Gen F Q added l' (n * t + h)
  added-gen =
      gen-mul F Q c (shift ring e v.taps) l' (n * t + h)
      (gen-longer F Q (shift ring e v.taps) (v.size + e) l' (v.place * t + h + e * t) (n * t + h)
      (gen-shift F Q e v.taps v.size (v.place * t + h) (saved-gen F Q l (n * t + h) h v saved))
      (omega (arith, before))
      (omega (arith, add-mul v.place e t, ap (λ x. x * t) (let q : v.place + e ≡ n = omega (arith, before) in q))))

  updated-before : Gen F Q σ' l' (n * t + h)
  updated-before =
      gen-sub F Q σ added l' (n * t + h)
      (gen-longer F Q σ l l' (n * t + h) (n * t + h) register.gen longer (omega arith)) added-gen

  updated-here : FreshOrKept F Q l (n * t + h) h v → l' + lag h < n → disc F Q σ' h n ≡ 𝟘
  updated-here (inl r) q =
      let p : v.place ≡ lag h = r.place in let z : v.size ≡ 0 = r.size in absurd (let b : ⊥ = omega arith in b)
  updated-here (inr k) q =
      conv-sub ring σ added (symbol h) n
      ∙ ap (λ x. disc F Q σ h n ⊕ neg x)
      (conv-mul ring c (shift ring e v.taps) (symbol h) n
      ∙ ap (λ x. c ⊗ x)
      (conv-shift ring e v.taps (symbol h) n (omega arith)
      ∙ ap (disc F Q v.taps h) (let p : n - e ≡ v.place = omega (arith, before) in p) ∙ sym k.value)
      ∙ divide_mul F (disc F Q σ h n) v.disc (λ z. k.fails.nonzero (sym k.value ∙ z)))
      ∙ add-neg (disc F Q σ h n)

  updated-gen : Gen F Q σ' l' (suc (n * t + h))
  updated-gen = gen-next F Q σ' l' n h sequence updated-before (updated-here saved)

  pub updated : Register F Q (reduced F σ (disc F Q σ h n ⊗ inv v.disc) (n - v.place) v.taps) l' (suc (n * t + h))
  updated = record { one = updated-one; degree = updated-degree; gen = updated-gen }
