-- The register of sequences modulo 257, and the columns that it names (SPECIFICATION.md, "Jobs").
use Rattle.std.specs.Prelude.{Bool, not, ◌&&◌, List, ℕ, leb, ltb, eqb}
use Rattle.columns.specs.Columns.{columns_of}
use Rattle.columns.specs.Listed.{count}
use Rattle.columns.specs.declared.Columns.{Columns}
use Rattle.field.specs.Coefficients.{value}
use Rattle.field.specs.Residue.{inverse}
use Rattle.field257.specs.Powers.{locator_of}
use Rattle.frame.specs.Shape.{checks_of}
use Rattle.frame.specs.declared.Shape.{Shape}
use Rattle.lists.specs.Tabulate.{every}
use Rattle.register.specs.Algorithm4.{found, found_alone}
use Rattle.register.specs.Sequences.{longest}

-- the shortest register of sequences: its length c, its taps, and whether it is alone
unfoldable pub size_of : (ss : List (List ℕ)) → ℕ
size_of ss = (found 257 ss (longest ss)).size

unfoldable pub taps_of : (ss : List (List ℕ)) → List ℕ
taps_of ss = (found 257 ss (longest ss)).taps

unfoldable pub alone_of : (ss : List (List ℕ)) → Bool
alone_of ss = found_alone 257 ss (longest ss)

-- whether every row has at least c checks
unfoldable pub rows_reach : Shape → (c : ℕ) → Bool
rows_reach s c = every s.rows (λ h. leb c (checks_of s h))

-- the inverse of the locator of column i is a root of the taps σ
abbrev pub is_root : (σ : List ℕ) (i : ℕ) → Bool
is_root σ i = eqb (value 257 σ (inverse 257 (locator_of i))) 0

-- the specification's term: column i is named by the taps σ
unfoldable pub named : Shape → (σ : List ℕ) (i : ℕ) → Bool
named s σ i = ltb i s.columns && is_root σ i

unfoldable pub named_columns : Shape → (σ : List ℕ) → Columns
named_columns s σ = columns_of (named s σ)

-- whether the taps name as many columns as the register is long
unfoldable pub names_all : Shape → (σ : List ℕ) (c : ℕ) → Bool
names_all s σ c = not (ltb (count s.columns (named s σ)) c)
