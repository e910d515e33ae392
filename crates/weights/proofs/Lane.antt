-- One lane, from coefficient to coefficient: what it has is what synthetic division, Horner's rule and reading off give, modulo 257.
use mathlib.Core.Path.{◌≡◌, sym, ap, ◌∙◌}
use mathlib.Core.List.{List}
use Prim.Native.Nat.{ℕ, suc, ◌+◌, ◌-◌, ◌*◌, ◌%◌, ◌≤◌, ◌<◌}
use native.Mathlib.Nat.{mod-mod, mul-le-mul}
use native.Mathlib.Numerals.{add-one}
use native.Mathlib.Omega.{arith}
use lib.ListN.{get_or}
use Rattle.field.proofs.Remainders.{mod-mul-mod, same-sums}
use Rattle.field257.specs.Montgomery.{montgomery}
use Rattle.lists.specs.Tabulate.{tabulate}
use Rattle.lists.specs.Total.{total}
use Rattle.lists.proofs.Tabulated.{get_d_tabulate}
use Rattle.lists.proofs.Totals.{total-zero, total-suc}
use Rattle.weights.specs.Weights.{carried}
use Rattle.weights.proofs.Division.{carried-zero, carried-more}

module _ (f : List ℕ) (x : ℕ) (sums : List ℕ) (m : ℕ) where
  abbrev coefficient : ℕ → ℕ
  coefficient k = carried f x (suc k)

  abbrev quotient : List ℕ
  quotient = tabulate m coefficient

  -- what coefficient k reads off
  abbrev term : ℕ → ℕ
  term k = coefficient k * get_or sums (m - suc k) 0

  -- k coefficients are done
  pub record Lane (k q v t : ℕ) : Type 0 where
    pub last : q % 257 ≡ carried f x k
    pub value : v % 257 ≡ carried quotient x k
    pub read : t % 257 ≡ total k term % 257
    pub room : t ≤ k * 196864

  pub lane-none : Lane 0 0 0 0
  lane-none = record {
    last = sym (carried-zero f x);
    value = sym (carried-zero quotient x);
    read = ap (λ (t : ℕ). t % 257) (sym (total-zero term));
    room = omega arith;
  }

  module _ (k q v t : ℕ) (lane : Lane k q v t) (inside : k < m) (c s q' v' t' : ℕ) (dividend : c ≡ get_or f k 0) (sum : s ≡ get_or sums (m - 1 - k) 0)
      (next : q' ≡ c + montgomery q x) (evaluated : v' ≡ q' + montgomery v x) (added : t' ≡ t + q' * s) (small : q' ≤ 769) (sum-small : s ≤ 256) where
    next-coefficient : q' % 257 ≡ coefficient k
    next-coefficient =
        ap (λ (u : ℕ). u % 257) next ∙ carried-more f x k q c lane.last (ap (λ (u : ℕ). u % 257) dividend)

    pub lane-more : Lane (k + 1) q' v' t'
    lane-more = rw (add-one k) (record {
      last = next-coefficient;
      value =
          ap (λ (u : ℕ). u % 257) evaluated
          ∙ carried-more quotient x k v q' lane.value (next-residue ∙ ap (λ (u : ℕ). u % 257) (sym (get_d_tabulate m coefficient k 0 inside)));
      read =
          ap (λ (u : ℕ). u % 257) added
          ∙ same-sums t (q' * s) (total k term) (term k) 257 lane.read
          (sym (mod-mul-mod q' 257 s) ∙ ap (λ (u : ℕ). (u * s) % 257) next-coefficient
          ∙ ap (λ (u : ℕ). (coefficient k * u) % 257) (sum ∙ ap (λ (j : ℕ). get_or sums j 0) (let e : m - 1 - k ≡ m - suc k = omega arith in e)))
          ∙ ap (λ (u : ℕ). u % 257) (sym (total-suc k term));
      room =
          (let most : q' * s ≤ 769 * 256 = mul-le-mul small sum-small in
          let r = lane.room in
          omega arith);
    })
      where
        next-residue : q' % 257 ≡ coefficient k % 257
        next-residue = sym (mod-mod q' 257) ∙ ap (λ (u : ℕ). u % 257) next-coefficient
