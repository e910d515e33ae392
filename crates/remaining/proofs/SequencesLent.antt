-- What is left of the check sums of all rows, lent as lengths and symbols, is read as the sequences that a register is sought for.
use mathlib.Core.Path.{◌≡◌, ap₂, ◌∙◌}
use mathlib.Core.Bool.{true}
use mathlib.Core.List.{List, []}
use Prim.Native.Nat.{ℕ}
use native.Mathlib.Omega.{arith}
use lib.ListN.{length, get_or, take}
use Rattle.decoding.specs.Remaining.{remaining, all_remaining}
use Rattle.frame.specs.DeclaredCells.{Declared, checks_left}
use Rattle.frame.specs.Frame.{held_sequences}
use Rattle.frame.specs.Shape.{is_shape}
use Rattle.frame.specs.declared.Shape.{Shape}
use Rattle.frame.proofs.Shapes.{shape-ranges}
use Rattle.lists.specs.Tabulate.{tabulate}
use Rattle.lists.proofs.Filling.{take-tabulate}
use Rattle.lists.proofs.Tabulated.{tabulate_ext, get_d_tabulate}
use Rattle.register.specs.Sequences.{split}
use Rattle.register.proofs.Splitting.{split-first}
use Rattle.remaining.specs.SequencesLeft.{SequencesLeft}
use Rattle.remaining.specs.declared.rows.Left.{Left}

module _ (s : Shape) (D : Declared) (sums : List ℕ) (r : Left) (left : SequencesLeft s D sums r) where
  pub lengths-left : is_shape s ≡ true → length r.lengths ≡ 8 → take s.rows r.lengths ≡ tabulate s.rows (checks_left s D)
  lengths-left shape eight =
      take-tabulate s.rows r.lengths (let m = (shape-ranges s shape).rows-most in omega arith) ∙ tabulate_ext s.rows _ _ left.lengths

  pub split-left : is_shape s ≡ true → length r.lengths ≡ 8
      → split (take s.rows r.lengths) (take r.count r.symbols) ≡ all_remaining s D (held_sequences s sums)
  unfolding all_remaining
  split-left shape eight =
      ap₂ (λ (l : List ℕ) (n : ℕ). split l (take n r.symbols)) (lengths-left shape eight) left.count
      ∙ split-first s.rows (checks_left s D) r.symbols
      ∙ tabulate_ext s.rows _ _ (λ h l.
      left.symbols h l ∙ get_d_tabulate s.rows (λ k. remaining (D k) (get_or (held_sequences s sums) k [])) h [] l)
