-- Which columns can be declared of a row (SPECIFICATION.md, "Declared cells").
use Rattle.std.specs.Prelude.{Bool, not, ◌&&◌, ◌||◌, ℕ, leb, ltb, length}
use Rattle.columns.specs.Columns.{has, members}
use Rattle.columns.specs.declared.Columns.{Columns}
use Rattle.frame.specs.Shape.{checks_of}
use Rattle.frame.specs.declared.Shape.{Shape}
use Rattle.lists.specs.Tabulate.{every}

-- row h has the marks of J within the shape, and no more of them than checks where it is a row of the shape
unfoldable pub row_declarable : Shape → (J : Columns) (h : ℕ) → Bool
row_declarable s J h =
    every 256 (λ i. not (has J i) || (ltb h s.rows && ltb i s.columns)) && (leb s.rows h || leb (length (members J)) (checks_of s h))
