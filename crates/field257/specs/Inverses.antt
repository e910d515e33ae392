-- The constant table of the inverses modulo 257.
use Rattle.std.specs.Prelude.{List, ℕ}
use Rattle.field.specs.Residue.{inverse}
use Rattle.lists.specs.Tabulate.{tabulate}

-- the inverse of each residue, at its place; that of 0 is 0
unfoldable pub inverse_table : List ℕ
inverse_table = tabulate 257 (inverse 257)
