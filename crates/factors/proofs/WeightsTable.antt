-- The table of factors: its length, and what it is once the powers of 3^b are written over its first part.
use mathlib.Core.Path.{◌≡◌, ap₂, ◌∙◌}
use mathlib.Core.List.{List}
use Prim.Native.Nat.{ℕ, ◌+◌, ◌*◌, ◌/◌, ◌%◌, ◌^◌, ◌≤◌, ◌<◌}
use native.Mathlib.Omega.{arith}
use lib.ListN.{length, get_or}
use Rattle.field257.specs.Powers.{power_of3}
use Rattle.lists.proofs.Filling.{Filled, filled-entry, filled-rest}
use Rattle.lists.proofs.Tabulated.{get_d_tabulate, length-tabulate}
use Rattle.transform.specs.Stages.{factor_of}
use Rattle.factors.specs.Table.{Weights, factor_table}

pub length-factors : length factor_table ≡ 1024
unfolding factor_table
length-factors = length-tabulate 1024 (λ k. factor_of (4 ^ (k / 256)) (k % 256))

pub weights-all : (b i : ℕ) (t : List ℕ) → Filled (λ k. power_of3 (b * k)) factor_table i t → i ≡ 256 → Weights b t
unfolding factor_table
weights-all b i t a e = record {
  staging = record {
    size = a.size ∙ length-factors;
    small = λ k h. let q = columns k h in let l : power_of3 (b * k) ≤ 256 = omega arith in omega arith;
    later = λ s k one four h.
        filled-rest _ _ i t a (256 * s + k) (omega arith) (let l = length-factors in omega arith)
        ∙ get_d_tabulate 1024 (λ k. factor_of (4 ^ (k / 256)) (k % 256)) (256 * s + k) 0 (omega arith)
        ∙ ap₂ (λ (u v : ℕ). factor_of (4 ^ u) v) (let q : (256 * s + k) / 256 ≡ s = omega arith in q) (let q : (256 * s + k) % 256 ≡ k = omega arith in q);
  };
  columns = columns;
}
  where
    columns : (k : ℕ) → k < 256 → get_or t k 0 ≡ power_of3 (b * k)
    columns k h = filled-entry _ _ i t a k (omega arith)
