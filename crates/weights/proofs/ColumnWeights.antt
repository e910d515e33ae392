-- The coefficients of one column, from what the code computes for them, and the part of the array that holds them.
use mathlib.Core.Path.{◌≡◌, ap, ◌∙◌}
use mathlib.Core.List.{List}
use Prim.Native.Nat.{ℕ, suc, ◌-◌, ◌≤◌, ◌<◌}
use native.Mathlib.Omega.{arith}
use lib.ListN.{length, get_or}
use borrow.Rule.Slice.PartMut.{mid_of, put_mid, mid_len}
use Rattle.columns.specs.Columns.{members}
use Rattle.columns.specs.declared.Columns.{Columns}
use Rattle.columns.proofs.Walk.{Walk, walk-member}
use Rattle.field257.specs.LocatorPolynomial.{locator_polynomial}
use Rattle.field257.specs.Powers.{locator_of}
use Rattle.lists.specs.Tabulate.{tabulate}
use Rattle.lists.proofs.Parts.{length-replaced, part-replaced}
use Rattle.lists.proofs.Tabulated.{length-tabulate}
use Rattle.weights.specs.Weights.{carried, coefficient, read_off}
use Rattle.weights.proofs.Quotient.{quotient-others}

abbrev pub coefficients_of : (b : ℕ) → Columns → (i : ℕ) → List ℕ
coefficients_of b J i = tabulate (length (members J)) (coefficient b J i)

-- y, written over the first k of the 64 places of l, holds the coefficients of column i; they are lent on from there
pub record Weighed (b : ℕ) (J : Columns) (i k : ℕ) (l y : List ℕ) : Type 0 where
  pub long : length (put_mid 0 (k - 0) l y) ≡ 64
  pub lent : mid_of 0 (k - 0) (put_mid 0 (k - 0) l y) ≡ coefficients_of b J i
  pub count : length (mid_of 0 (k - 0) (put_mid 0 (k - 0) l y)) ≡ length (members J)

-- a walk over the set, whose locator polynomial is f, stands at column i
module _ (b : ℕ) (J : Columns) (d i : ℕ) (walk : Walk J d i) (inside : i < 256) (f : List ℕ)
    (locator : (k : ℕ) → get_or f k 0 ≡ get_or (locator_polynomial (members J)) k 0) where
  abbrev computed : ℕ → List ℕ
  computed m = tabulate m (read_off b m i (tabulate m (λ t. carried f (locator_of i) (suc t))))

  computed-coefficients : computed (length (members J)) ≡ coefficients_of b J i
  unfolding coefficient
  computed-coefficients =
      let (less, here) = walk-member J d i walk inside in
      ap (λ (z : List ℕ). tabulate (length (members J)) (read_off b (length (members J)) i z)) (quotient-others J d i less here f locator)

  pub weighed-column : (k : ℕ) (l y : List ℕ) → k ≡ length (members J) → k ≤ 64 → length l ≡ 64 → y ≡ computed (length (mid_of 0 (k - 0) l))
      → Weighed b J i k l y
  weighed-column k l y sized few room e = record {
    long = length-replaced 0 (k - 0) l y (omega arith) size ∙ room;
    lent = lent;
    count = ap length lent ∙ length-tabulate (length (members J)) (coefficient b J i);
  }
    where
      part : length (mid_of 0 (k - 0) l) ≡ length (members J)
      part = let q = mid_len 0 k l (omega arith) in omega arith

      is : y ≡ coefficients_of b J i
      is = e ∙ ap computed part ∙ computed-coefficients

      size : length y ≡ k - 0
      size = let q = ap length is ∙ length-tabulate (length (members J)) (coefficient b J i) in omega arith

      lent : mid_of 0 (k - 0) (put_mid 0 (k - 0) l y) ≡ coefficients_of b J i
      lent = part-replaced 0 (k - 0) l y (omega arith) size ∙ is
