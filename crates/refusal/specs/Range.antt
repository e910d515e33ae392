-- Numbers in a range, as the tests of the input ask for them.
use Rattle.std.specs.Prelude.{Bool, ◌&&◌, ℕ, leb}

-- n is lo at least and hi at most
abbrev pub in_range : (lo hi n : ℕ) → Bool
in_range lo hi n = leb lo n && leb n hi
