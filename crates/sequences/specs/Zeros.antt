-- Symbols that are all 0.
use Rattle.std.specs.Prelude.{Bool, List, ℕ, eqb, length, get_or}
use Rattle.lists.specs.Tabulate.{every}

-- every entry is 0
abbrev pub all_zero : (x : List ℕ) → Bool
all_zero x = every (length x) (λ k. eqb (get_or x k 0) 0)
