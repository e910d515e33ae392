-- The locator polynomial of a list of columns.
use Rattle.std.specs.Prelude.{List, [], ◌∷◌, ℕ, length}
use Rattle.field.specs.Coefficients.{reduced}
use Rattle.field257.specs.Powers.{locator_of}

-- the coefficients of the product of 1 − 3^i·x over the columns i of a list
unfoldable pub locator_polynomial : List ℕ → List ℕ
locator_polynomial [] = 1 ∷ []
locator_polynomial (i ∷ is) =
    let f : List ℕ = locator_polynomial is in reduced 257 (length f) f (locator_of i) 1 f
