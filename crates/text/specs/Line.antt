-- The lines of answers (SPECIFICATION.md, "Records and lines").
use Rattle.std.specs.Prelude.{Bool, true, false, List, [], ◌∷◌, ℕ}
use Rattle.columns.specs.Columns.{members}
use Rattle.columns.specs.declared.Columns.{Columns}
use Rattle.finder.specs.Finder as Finder
use Rattle.job.specs.Calls as Calls
use Rattle.text.specs.Text.{line}

-- `E` and the number of a refusal
unfoldable pub refusal_line : ℕ → List ℕ
refusal_line k = line 69 (k ∷ [])

abbrev pub mark_of : Bool → ℕ
mark_of true = 1
mark_of false = 0

-- `R`, the length, 1 where the register is alone, else 0, and the taps
unfoldable pub register_line : Finder.Answer → (taps : List ℕ) → List ℕ
register_line (Finder.register l a) taps = line 82 (l ∷ mark_of a ∷ taps)
register_line (Finder.refused k) taps = refusal_line k

-- `F`, the number of columns, and the columns rising
unfoldable pub columns_line : Calls.Answer → Columns → List ℕ
columns_line Calls.done J = []
columns_line (Calls.columns c) J = line 70 (c ∷ members J)
columns_line Calls.unfinished J = []
columns_line (Calls.shortest l) J = []
columns_line (Calls.refused k) J = refusal_line k
