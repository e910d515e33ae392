-- A row that holds one symbol, as it is lent from an array of that symbol: its check sums are values of a polynomial.
use mathlib.Core.Path.{◌≡◌, sym, ap, ◌∙◌}
use mathlib.Core.Bool.{true}
use mathlib.Core.List.{List}
use Prim.Native.Nat.{ℕ, suc, ◌+◌, ◌≤◌, ◌<◌}
use native.Mathlib.Decide.{dec_lt}
use native.Mathlib.Omega.{arith}
use lib.ListN.{length, get_or, replicate, take, length-replicate, get_or-replicate, get_or-eq_default}
use borrow.Author.Tests.{eq-eqb}
use Rattle.std.proofs.lemmas.List.{take-replicate}
use Rattle.field.specs.Coefficients.{value}
use Rattle.field257.specs.Powers.{power_of3}
use Rattle.field257.specs.Table.{table}
use Rattle.frame.specs.Frame.{check_sum}
use Rattle.frame.proofs.CheckSums.{check_sum-value, zeros-sum}
use Rattle.lists.proofs.Tabulated.{every_of}
use Rattle.polynomials.specs.Evaluable.{Evaluable}
use Rattle.uniform.specs.Constant.{Summed, constant_coded}

module _ (b n a m : ℕ) (asked : Summed b n a m) where
  is-constant : take n (replicate 256 a) ≡ replicate n a
  is-constant = take-replicate n 256 a asked.narrow

  symbols : (k : ℕ) → get_or (replicate n a) k 0 < 257
  symbols k = pick (dec_lt k n)
    where
      pick : Dec (k < n) → get_or (replicate n a) k 0 < 257
      pick (yes l) = rw (get_or-replicate n k a 0 l) asked.symbol
      pick (no l) =
          let past : length (replicate n a) ≤ k = let q = length-replicate n a in omega arith in
          rw (get_or-eq_default (replicate n a) 0 past) (omega arith)

  pub evaluable : (powers : List ℕ) → powers ≡ table → (j : ℕ) → j < m → Evaluable powers (take n (replicate 256 a)) (b + j)
  evaluable powers known j l = record {
    powers_known = known;
    few = (let q = asked.narrow in omega (arith, ap length is-constant, length-replicate n a));
    below = λ k. rw (is-constant) (symbols k);
    exponent = (let q = asked.exponent in let w = asked.few in omega arith);
  }

  pub sum-value : (j v : ℕ) → v ≡ value 257 (take n (replicate 256 a)) (power_of3 (b + j)) → check_sum b n (replicate n a) (suc j) ≡ v
  sum-value j v e =
      sym (e ∙ ap (λ (x : List ℕ). value 257 x (power_of3 (b + j))) is-constant ∙ check_sum-value b (replicate n a) j
      ∙ ap (λ (k : ℕ). check_sum b k (replicate n a) (suc j)) (length-replicate n a))

-- the check sums of zeros are 0
pub zeros-coded : (b n a m : ℕ) → a ≡ 0 → true ≡ constant_coded b n a m
zeros-coded b n a m e =
    sym (ap (λ (x : ℕ). constant_coded b n x m) e ∙ every_of m _ (λ j _. eq-eqb _ 0 (zeros-sum b n (suc j))))
