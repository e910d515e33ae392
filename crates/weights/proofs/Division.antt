-- Synthetic division, coefficient after coefficient, and what it gives: where f is g times 1 − x·z, the quotient is g.
use mathlib.Core.Path.{◌≡◌, refl, sym, ap, ap₂, ◌∙◌}
use mathlib.Core.List.{List}
use Prim.Native.Nat.{ℕ, zero, suc, ◌+◌, ◌*◌, ◌%◌, ◌<◌}
use native.Mathlib.Decide.{dec_lt}
use native.Mathlib.Nat.{mod-lt}
use native.Mathlib.Numerals.{add-one}
use native.Mathlib.Omega.{arith}
use lib.Dec.{lit<}
use lib.ListN.{length, get_or, set}
use Rattle.field.proofs.Remainders.{same-sums}
use Rattle.field257.specs.Montgomery.{montgomery}
use Rattle.field257.proofs.MontgomeryProduct.{montgomery-residue}
use Rattle.lists.specs.Tabulate.{tabulate}
use Rattle.lists.proofs.Filling.{Filled, filled_none, filled_more}
use Rattle.lists.proofs.Tabulated.{get_d_tabulate, get_or-tabulate-past}
use Rattle.weights.specs.Weights.{carried}

pub carried-zero : (f : List ℕ) (x : ℕ) → carried f x 0 ≡ 0
unfolding carried
carried-zero f x = refl

pub carried-suc : (f : List ℕ) (x k : ℕ) → carried f x (suc k) ≡ (get_or f k 0 + x * carried f x k) % 257
unfolding carried
carried-suc f x k = refl

pub carried-below : (f : List ℕ) (x k : ℕ) → carried f x k < 257
unfolding carried
carried-below f x zero = lit< tt
carried-below f x (suc k) = mod-lt _ (lit< tt)

pub quotient-below : (f : List ℕ) (x m k : ℕ) → get_or (tabulate m (λ i. carried f x (suc i))) k 0 < 257
quotient-below f x m k = pick (dec_lt k m)
  where
    pick : Dec (k < m) → get_or (tabulate m (λ i. carried f x (suc i))) k 0 < 257
    pick (yes inside) = rw (get_d_tabulate m (λ i. carried f x (suc i)) k 0 inside) (carried-below f x (suc k))
    pick (no past) = rw (get_or-tabulate-past m (λ i. carried f x (suc i)) k 0 (omega arith)) (lit< tt)

-- one coefficient more, where v and c stand for residues and the product is Montgomery's
pub carried-more : (f : List ℕ) (x k v c : ℕ) → v % 257 ≡ carried f x k → c % 257 ≡ get_or f k 0 % 257 → (c + montgomery v x) % 257 ≡ carried f x (suc k)
carried-more f x k v c e same =
    same-sums c (montgomery v x) (get_or f k 0) (x * carried f x k) 257 same (montgomery-residue v x (carried f x k) e) ∙ sym (carried-suc f x k)

module _ (f : List ℕ) (x : ℕ) (from : List ℕ) where
  -- k coefficients are done, and `carry` is the last of them
  pub record Divided (k carry : ℕ) (quotient : List ℕ) : Type 0 where
    pub filled : Filled (λ k. carried f x (suc k)) from k quotient
    pub last : carry ≡ carried f x k
    pub small : carry < 257

  pub divided_none : Divided 0 0 from
  divided_none = record { filled = filled_none _ from; last = sym (carried-zero f x); small = lit< tt }

  module _ (k carry : ℕ) (quotient : List ℕ) (a : Divided k carry quotient) where
    pub divided_more : (c : ℕ) → k < length quotient → c ≡ get_or f k 0
        → Divided (k + 1) ((c + x * carry) % 257) (set quotient k ((c + x * carry) % 257))
    divided_more c h e =
        let next : (c + x * carry) % 257 ≡ carried f x (suc k) = ap₂ (λ (u v : ℕ). (u + x * v) % 257) e a.last ∙ sym (carried-suc f x k) in
        record {
          filled = filled_more _ from k _ quotient a.filled h next;
          last = next ∙ ap (carried f x) (sym (add-one k));
          small = mod-lt (c + x * carry) (lit< tt);
        }
