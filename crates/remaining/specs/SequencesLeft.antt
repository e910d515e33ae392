-- What is left of the check sums of all rows, as it is lent to the search for a register (SPECIFICATION.md, "Declared cells"): the lengths of the sequences,
-- and their symbols, one sequence after the other.
use Rattle.std.specs.Prelude.{◌≡◌, List, [], ℕ, ◌<◌, get_or, take, drop}
use Rattle.decoding.specs.Remaining.{all_remaining}
use Rattle.frame.specs.DeclaredCells.{Declared, checks_left}
use Rattle.frame.specs.Frame.{held_sequences}
use Rattle.frame.specs.declared.Shape.{Shape}
use Rattle.lists.specs.Total.{total}
use Rattle.remaining.specs.declared.rows.Left.{Left}

-- r holds what is left of held sums when the declared cells of each row are taken out
pub record SequencesLeft (s : Shape) (D : Declared) (sums : List ℕ) (r : Left) : Type 0 where
  pub count : r.count ≡ total s.rows (checks_left s D)
  pub lengths : (h : ℕ) → h < s.rows → get_or r.lengths h 0 ≡ checks_left s D h
  pub symbols : (h : ℕ) → h < s.rows
      → take (checks_left s D h) (drop (total h (checks_left s D)) r.symbols) ≡ get_or (all_remaining s D (held_sequences s sums)) h []
  pub below : (k : ℕ) → get_or r.symbols k 0 < 257
