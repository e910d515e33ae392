-- The coefficients with which the symbols at a set of columns are read off the check sums of a row, which begin at the exponent b. They depend on b and the
-- set alone, so that rows completed at the same set share them.
use Rattle.std.specs.Prelude.{List, ℕ, zero, suc, ◌+◌, ◌-◌, ◌*◌, ◌%◌, length, get_or}
use Rattle.columns.specs.Columns.{members}
use Rattle.columns.specs.declared.Columns.{Columns}
use Rattle.field.specs.Coefficients.{value}
use Rattle.field.specs.Residue.{minus, times, inverse}
use Rattle.field257.specs.LocatorPolynomial.{locator_polynomial}
use Rattle.frame.specs.Completion.{without}
use Rattle.field257.specs.Powers.{locator_of}
use Rattle.frame.specs.Frame.{weight}
use Rattle.lists.specs.Total.{total}

-- Synthetic division of f by 1 − x·z: what is carried to coefficient k is coefficient k − 1 of the quotient. It is Horner's rule at x from the constant
-- coefficient on, so that what is carried past the last coefficient is 0 exactly where the value at the inverse of x is (`carried-root`).
unfoldable pub carried : (f : List ℕ) (x k : ℕ) → ℕ
carried f x zero = 0
carried f x (suc k) = (get_or f k 0 + x * carried f x k) % 257

-- What the coefficients of column i in a set of m columns are multiples of, given the locator polynomial λ of the others: minus the inverse of the weight
-- of i in S_m times λ(1 / X_i).
unfoldable pub factor_of : (b m i : ℕ) (others : List ℕ) → ℕ
factor_of b m i others =
    minus 257 0 (inverse 257 (times 257 (weight b i m % 257) (value 257 others (inverse 257 (locator_of i)))))

-- Coefficient k of column i. The symbol at i is the sum of coefficient k times S_(m − k) over k below m.
unfoldable pub read_off : (b m i : ℕ) (others : List ℕ) (k : ℕ) → ℕ
read_off b m i others k = times 257 (get_or others k 0) (factor_of b m i others)

unfoldable pub coefficient : (b : ℕ) (J : Columns) (i k : ℕ) → ℕ
coefficient b J i k = read_off b (length (members J)) i (locator_polynomial (without i (members J))) k

-- what m coefficients read off check sums: coefficient k times S_(m − k)
unfoldable pub symbol_read : (coefficients sums : List ℕ) → ℕ
symbol_read coefficients sums =
    let m : ℕ = length coefficients in total m (λ k. get_or coefficients k 0 * get_or sums (m - suc k) 0) % 257
