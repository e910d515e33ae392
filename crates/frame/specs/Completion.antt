-- Completing a row, whose check sums begin at the exponent b, at a set of columns: the symbols outside the set are kept, and those in the set become the
-- ones with which the first check sums, as many as the set has columns, are 0. What the row holds in the set before plays no part.
use Rattle.std.specs.Prelude.{cond, List, [], ◌∷◌, ℕ, ◌-◌, ◌*◌, ◌%◌, eqb, length, get_or}
use Rattle.columns.specs.Columns.{has, members}
use Rattle.columns.specs.declared.Columns.{Columns}
use Rattle.field.specs.Coefficients.{value}
use Rattle.field.specs.Residue.{minus, times, inverse, quotient}
use Rattle.lists.specs.Total.{total}
use Rattle.field257.specs.LocatorPolynomial.{locator_polynomial}
use Rattle.field257.specs.Powers.{locator_of}
use Rattle.lists.specs.Tabulate.{tabulate}
use Rattle.frame.specs.Frame.{check_sum, weight}

-- the list without its entries that equal i
unfoldable pub without : ℕ → List ℕ → List ℕ
without i [] = []
without i (k ∷ ks) = cond (eqb k i) (without i ks) (k ∷ without i ks)

-- the row with 0 in the columns of the set
unfoldable pub cleared : (n : ℕ) (J : Columns) (x : List ℕ) → List ℕ
cleared n J x = tabulate n (λ i. cond (has J i) 0 (get_or x i 0))

-- The symbol at a column i of the set J of m columns, S being the check sums of the cleared row. With λ the locator polynomial of the other columns,
-- λ_0·S_m + .. + λ_(m−1)·S_1 leaves the part of column i alone, its symbol times its weight in S_m and λ(1 / X_i), since λ vanishes at the others.
unfoldable pub completion : (b n : ℕ) (J : Columns) (x : List ℕ) (i : ℕ) → ℕ
completion b n J x i =
    let m : ℕ = length (members J) in
    let others : List ℕ = locator_polynomial (without i (members J)) in
    let part : ℕ = total m (λ k. get_or others k 0 * check_sum b n (cleared n J x) (m - k)) % 257 in
    let scale : ℕ = times 257 (weight b i m % 257) (value 257 others (inverse 257 (locator_of i))) in
    minus 257 0 (quotient 257 part scale)

unfoldable pub completed : (b n : ℕ) (J : Columns) (x : List ℕ) → List ℕ
completed b n J x = tabulate n (λ i. cond (has J i) (completion b n J x i) (get_or x i 0))
