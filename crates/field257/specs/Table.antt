-- The constant table of the powers of 3 (SPECIFICATION.md, "Frames").
use Rattle.std.specs.Prelude.{List, ℕ, zero, suc, ◌*◌, ◌%◌}
use Rattle.lists.specs.Tabulate.{tabulate}

-- "entry 0 is 1, each other entry is 3 times the one before it, modulo 257"
unfoldable pub entry_of : ℕ → ℕ
entry_of zero = 1
entry_of (suc k) = (3 * entry_of k) % 257

-- the powers of 3 for exponents 0 to 255
unfoldable pub table : List ℕ
table = tabulate 256 entry_of
