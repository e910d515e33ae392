-- The powers of 3 modulo 257, and the locators of the columns among them (SPECIFICATION.md, "Frames").
use Rattle.std.specs.Prelude.{ℕ}
use Rattle.field.specs.Residue.{power}

-- 3^e modulo 257
abbrev pub power_of3 : ℕ → ℕ
power_of3 e = power 257 3 e

-- the locator of column i
abbrev pub locator_of : ℕ → ℕ
locator_of i = power_of3 i
