-- The register of what is left of held sums is no longer than a row has checks, 64.
use mathlib.Core.Path.{◌≡◌, ap}
use mathlib.Core.Bool.{true}
use mathlib.Core.List.{List, []}
use Prim.Native.Nat.{ℕ, ◌≤◌, ◌<◌}
use native.Mathlib.Omega.{arith}
use lib.ListN.{length, get_or}
use Rattle.decoding.specs.Locating.{size_of}
use Rattle.decoding.specs.Remaining.{remaining, all_remaining}
use Rattle.decoding.proofs.RemainingSums.{length-remaining}
use Rattle.frame.specs.DeclaredCells.{Declared}
use Rattle.frame.specs.Frame.{held_sequences}
use Rattle.frame.specs.Shape.{is_shape}
use Rattle.frame.specs.declared.Shape.{Shape}
use Rattle.frame.proofs.HeldSequences.{length-held, held-short}
use Rattle.frame.proofs.Shapes.{shape-ranges}
use Rattle.lists.proofs.Tabulated.{length-tabulate, get_d_tabulate}
use Rattle.register.specs.Algorithm4.{found}
use Rattle.register.specs.Sequences.{longest, ordered}
use Rattle.register.proofs.Bounds.{bounded-rounds}
use Rattle.register.proofs.Ordering.{longest-least}

module _ (s : Shape) (D : Declared) (sums : List ℕ) (shape : is_shape s ≡ true) where
  abbrev ss : List (List ℕ)
  ss = all_remaining s D (held_sequences s sums)

  short : (h : ℕ) → h < length ss → length (get_or ss h []) ≤ 64
  unfolding all_remaining
  short h l =
      let S = held_sequences s sums in
      let b : h < s.rows = let e = length-tabulate s.rows (λ h. remaining (D h) (get_or S h [])) in omega arith in
      omega (
        arith,
        ap length (get_d_tabulate s.rows (λ h. remaining (D h) (get_or S h [])) h [] b),
        length-remaining (D h) (get_or S h []),
        held-short s sums h (let e = length-held s sums in let r : h < length S = omega arith in r),
        ((shape-ranges s shape).checks h b).most,
      )

  pub size-most : size_of (all_remaining s D (held_sequences s sums)) ≤ 64
  unfolding size_of found
  size-most =
      let b = (bounded-rounds 257 (longest ss) (ordered ss) (omega arith) (longest ss)).size in
      omega (arith, longest-least 64 ss short)
