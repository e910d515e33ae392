-- The values of a row whose symbols were multiplied by the powers of 3^b are its check sums from the exponent b on.
use mathlib.Core.Path.{◌≡◌, ap, ◌∙◌}
use mathlib.Core.List.{List}
use Prim.Native.Nat.{ℕ, suc, ◌+◌, ◌-◌, ◌*◌, ◌%◌, ◌^◌, ◌≤◌}
use native.Mathlib.Nat.{zero-mul}
use native.Mathlib.Omega.{arith}
use lib.ListN.{length, get_or, get_or-eq_default}
use Rattle.field257.specs.Powers.{power_of3}
use Rattle.frame.specs.Frame.{check_sum, check_sums, weight}
use Rattle.lists.proofs.BlockSums.{total-rest}
use Rattle.lists.proofs.Tabulated.{tabulate_ext}
use Rattle.factors.specs.Table.{Weights}
use Rattle.transform.specs.Stages.{weighed_sum, weighed_sums}
use Rattle.butterflies.proofs.StageSums.{total-same, same-times}
use Rattle.transform.proofs.StagedSums.{power-product}

weighed-sum : (b : ℕ) (t x : List ℕ) → Weights b t → length x ≤ 256 → (k : ℕ) → weighed_sum t x k ≡ check_sum b (length x) x (suc k)
unfolding weighed_sum check_sum weight
weighed-sum b t x w narrow k =
    total-same 256 (λ i. get_or x i 0 * (get_or t i 0 * 3 ^ (i * k))) (λ i. get_or x i 0 * weight b i (suc k))
    (λ i h. same-times (get_or x i 0) (get_or t i 0 * 3 ^ (i * k)) (weight b i (suc k))
    (ap (λ (v : ℕ). (v * 3 ^ (i * k)) % 257) (w.columns i h) ∙ power-product (b * i) (i * k) ∙ ap power_of3 (exponents i)))
    ∙ ap (λ (s : ℕ). s % 257)
    (total-rest (length x) 256 (λ i. get_or x i 0 * weight b i (suc k)) narrow
    (λ i h. ap (λ (v : ℕ). v * weight b i (suc k)) (get_or-eq_default x 0 h) ∙ zero-mul (weight b i (suc k))))
  where
    exponents : (i : ℕ) → b * i + i * k ≡ i * (b + suc k - 1)
    exponents i =
        (let e : b * i + i * k ≡ i * (b + k) = omega arith in e) ∙ ap (λ (e : ℕ). i * e) (let e : b + k ≡ b + suc k - 1 = omega arith in e)

pub weighed-sums : (b : ℕ) (t x : List ℕ) (m : ℕ) → Weights b t → length x ≤ 256 → weighed_sums t m x ≡ check_sums b (length x) m x
unfolding weighed_sums check_sums
weighed-sums b t x m w narrow = tabulate_ext m (weighed_sum t x) (λ j. check_sum b (length x) x (suc j)) (λ k h. weighed-sum b t x w narrow k)
