-- A register modulo 257 as a polynomial over the field, of constant term 1. It generates a sequence where its products with the symbols vanish past its
-- length; and every polynomial of constant term 1 whose products do so gives a register.
use mathlib.Core.Path.{◌≡◌, sym, ap, fun_ext, ◌∙◌}
use mathlib.Core.List.{List, []}
use mathlib.Core.Logic.{◌≢◌}
use Prim.Native.Nat.{ℕ, suc, ◌-◌, ◌*◌, ◌≤◌, ◌<◌}
use native.Mathlib.Omega.{arith}
use lib.Dec.{lit<}
use lib.ListN.{length, get_or}
use Rattle.algebra.specs.Polynomial.{Degree, conv}
use Rattle.algebra.proofs.Convolution.{conv_degree}
use Rattle.algebra.proofs.Sums.{sum_ext}
use Rattle.field.proofs.Bridge.{res-zero, res_one, res-mod, res-mul, res-total}
use Rattle.field.proofs.Coefficients.{residues-past}
use Rattle.field.proofs.Polynomials.{poly, poly_degree, poly-same, coefficients, poly-coefficients, coefficients-less}
use Rattle.field.proofs.Prime257.{prime_257}
use Rattle.field257.proofs.Field257.{F257, R257, res257, res-tells, res-tells-zero}
use Rattle.lists.proofs.Tabulated.{length-tabulate}
use Rattle.register.specs.Register.{discrepancy, Register, Generates, Generator}
use Rattle.register.specs.Sequences.{symbol}
use Rattle.register.proofs.Bounds.{discrepancy-less}
open F257 use {one_ne_zero}
open R257 use {car, zero as 𝟘, one as 𝟙, mul as ◌⊗◌}

infixl 70 ◌⊗◌
-- the polynomial of taps
abbrev pub poly257 : List ℕ → ℕ → R257.car
poly257 σ = poly 257 prime_257 σ

-- in the field, the symbols of the sequence x are S 1, S 2 ..
abbrev pub Symbols : (x : List ℕ) (S : ℕ → R257.car) → Type 0
Symbols x S = (j : ℕ) → 1 ≤ j → j ≤ length x → res257 (symbol x j) ≡ S j

-- the products of the polynomial φ with the symbols S of a sequence of N symbols vanish past l
abbrev pub Vanish : (l N : ℕ) (φ S : ℕ → R257.car) → Type 0
Vanish l N φ S = (j : ℕ) → l < j → j ≤ N → conv R257 φ S j ≡ R257.zero

-- symbol j of a sequence in the field
abbrev pub entries : List ℕ → ℕ → R257.car
entries x j = res257 (symbol x j)

pub res-discrepancy : (l : ℕ) (τ : List ℕ) → length τ ≡ suc l → (x : List ℕ) (S : ℕ → car) → Symbols x S
    → (j : ℕ) → l < j → j ≤ length x → res257 (discrepancy 257 l τ x j) ≡ conv R257 (poly257 τ) S j
unfolding discrepancy
res-discrepancy l τ taps x S symbols j after within =
    res-mod 257 prime_257 _ ∙ res-total 257 prime_257 (suc l) (λ i. get_or τ i 0 * symbol x (j - i))
    ∙ sum_ext R257 (suc l) _ (λ i. poly257 τ i ⊗ S (j - i)) (λ i small.
    res-mul 257 prime_257 (get_or τ i 0) _ ∙ ap (λ y. poly257 τ i ⊗ y) (symbols (j - i) (omega arith) (omega arith)))
    ∙ sym (conv_degree R257 l (poly257 τ) S j (poly_degree 257 prime_257 l τ taps) (omega arith))

module _ (l : ℕ) (τ : List ℕ) (register : Register 257 l τ) where
  taps : length τ ≡ suc l
  taps = omega (arith, register.taps)

  pub register_degree : Degree R257 l (poly257 τ)
  register_degree = poly_degree 257 prime_257 l τ taps

  pub register-constant : poly257 τ 0 ≡ 𝟙
  register-constant = ap res257 register.first ∙ res_one 257 prime_257

  pub register-nonzero : poly257 τ 0 ≢ 𝟘
  register-nonzero e = one_ne_zero (sym register-constant ∙ e)

  -- its taps are told by the polynomial
  pub register-same : (υ : List ℕ) → Register 257 l υ → ((i : ℕ) → poly257 τ i ≡ poly257 υ i) → τ ≡ υ
  register-same υ other =
      poly-same 257 prime_257 τ υ (let e : length τ ≡ length υ = omega (arith, taps, other.taps) in e)
      (residues-past 257 τ (lit< tt) register.residues) (residues-past 257 υ (lit< tt) other.residues)

  module _ (x : List ℕ) (S : ℕ → car) (symbols : Symbols x S) where
    pub generates-products : Generates 257 l τ x → Vanish l (length x) (poly257 τ) S
    generates-products g j after within = sym (res-discrepancy l τ taps x S symbols j after within) ∙ ap res257 (g j after within) ∙ res-zero 257 prime_257

    products_generate : Vanish l (length x) (poly257 τ) S → Generates 257 l τ x
    products_generate zeros j after within =
        res-tells-zero _ (discrepancy-less 257 l τ x j (omega arith)) (res-discrepancy l τ taps x S symbols j after within ∙ zeros j after within)

-- the coefficients of a polynomial are taps, and generate what it generates
pub polynomial_generator : (l : ℕ) (φ : ℕ → car) → Degree R257 l φ → φ 0 ≡ 𝟙
    → (ss : List (List ℕ)) (S : ℕ → ℕ → car) → ((h : ℕ) → h < length ss → Symbols (get_or ss h []) (S h))
    → ((h : ℕ) → h < length ss → Vanish l (length (get_or ss h [])) φ (S h)) → Generator 257 l ss (coefficients 257 prime_257 l φ)
polynomial_generator l φ degree constant ss S symbols products =
    let σ : List ℕ = coefficients 257 prime_257 l φ in
    let same : (i : ℕ) → poly257 σ i ≡ φ i = poly-coefficients 257 prime_257 l φ degree in
    let register : Register 257 l σ = record {
      taps = (let e : length σ ≡ suc l = length-tabulate (suc l) _ in omega arith);
      first = res-tells (get_or σ 0 0) 1 (coefficients-less 257 prime_257 l φ 0) (lit< tt) (same 0 ∙ constant ∙ sym (res_one 257 prime_257));
      residues = λ i _. coefficients-less 257 prime_257 l φ i;
    } in
    record {
      register = register;
      generates = λ h inside. products_generate l σ register (get_or ss h []) (S h) (symbols h inside) (λ j after within.
          ap (λ ψ. conv R257 ψ (S h) j) (fun_ext same) ∙ products h inside j after within);
    }
