-- Check sums at one exponent and at the next, and at the exponents 0 and 1.
use mathlib.Core.Path.{◌≡◌, sym, ap, ◌∙◌}
use mathlib.Core.List.{List, [], ◌∷◌}
use mathlib.Core.Logic.{inl, inr}
use Prim.Native.Nat.{ℕ, suc, ◌*◌, ◌%◌, ◌^◌}
use native.Mathlib.Nat.{mul-one}
use native.Mathlib.Omega.{arith}
use lib.ListN.{get_or}
use Rattle.lists.specs.Total.{total}
use Rattle.lists.proofs.Totals.{total_ext}
use Rattle.refusal.specs.Order.{First}
use Rattle.refusal.proofs.Firsts.{first-before, first-front}
use Rattle.frame.specs.Demands.{rows_reason, columns_reason, checks_reason, exponent_reason}
use Rattle.frame.specs.Exponents.{EachExponent, sum_from_one, ExponentOne}
use Rattle.frame.specs.Frame.{row, check_sum, weight}
use Rattle.frame.specs.declared.Shape.{Shape}
use Rattle.frame.proofs.Weights.{weight-zero, weight-one, weight-next}

-- a check sum goes by its weights
by_weights : (b n : ℕ) (x : List ℕ) (j : ℕ) (w : ℕ → ℕ) → ((i : ℕ) → weight b i j ≡ w i) → check_sum b n x j ≡ total n (λ i. get_or x i 0 * w i) % 257
unfolding check_sum
by_weights b n x j w same = ap (λ (t : ℕ). t % 257) (total_ext n _ _ (λ i h. ap (λ (v : ℕ). get_or x i 0 * v) (same i)))

pub each-exponent : EachExponent
unfolding check_sum
each-exponent = record {
  first = λ n x.
      by_weights 0 n x 1 (λ i. 1) weight-zero ∙ ap (λ (t : ℕ). t % 257) (total_ext n _ _ (λ i h. mul-one (get_or x i 0)));
  next = λ b n x j. by_weights (suc b) n x j (λ i. weight b i (suc j)) (λ i. weight-next b i j);
}

sums : (n : ℕ) (x : List ℕ) (j : ℕ) → check_sum 1 n x j ≡ sum_from_one n x j
sums n x j = by_weights 1 n x j (λ i. 3 ^ (i * j)) (λ i. weight-one i j)

at_one : (s : Shape) (x : List ℕ) (j : ℕ) → s.exponent ≡ 1 → check_sum s.exponent s.columns x j ≡ sum_from_one s.columns x j
at_one s x j e = ap (λ (b : ℕ). check_sum b s.columns x j) e ∙ sums s.columns x j

never_32 : (k : ℕ) → First k (exponent_reason 1 ∷ []) → ⊥
never_32 k (inl (h, e)) = omega arith
never_32 k (inr (n, f)) = f

pub exponent-one : ExponentOne
exponent-one = record {
  weights = weight-one;
  sums = sums;
  coded = λ s f e. (
    (λ l. (l.well_formed, λ h j r one within. sym (at_one s (row s.columns f h) j e) ∙ l.codeword h j r one within)),
    (λ (w, zeros). record { well_formed = w; codeword = λ h j r one within. at_one s (row s.columns f h) j e ∙ zeros h j r one within }),
  );
  refused = λ n checks k. (
    first-front (rows_reason checks ∷ columns_reason n ∷ checks_reason n checks ∷ []) (exponent_reason 1 ∷ []) k (never_32 k),
    first-before (rows_reason checks ∷ columns_reason n ∷ checks_reason n checks ∷ []) (exponent_reason 1 ∷ []) k,
  );
}
