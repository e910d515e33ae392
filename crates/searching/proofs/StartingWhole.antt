-- A start of which nothing is declared goes on: each row has at least one check, so that some sequence has a symbol.
use mathlib.Core.Path.{◌≡◌, ap, ◌∙◌}
use mathlib.Core.Bool.{true, false}
use mathlib.Core.List.{List}
use Prim.Native.Nat.{ℕ, ◌≤◌, ◌<◌}
use native.Mathlib.Omega.{arith}
use lib.ListN.{length, get_or}
use borrow.Author.Tests.{ne_eqb}
use Rattle.frame.specs.DeclaredCells.{nothing_declared}
use Rattle.frame.specs.Frame.{held_sequences}
use Rattle.frame.specs.Shape.{is_shape}
use Rattle.frame.specs.declared.Shape.{Shape}
use Rattle.frame.proofs.HeldRows.{length_part, part_held}
use Rattle.frame.proofs.HeldSequences.{length-held}
use Rattle.frame.proofs.Shapes.{shape-ranges}
use Rattle.job.specs.declared.Answered.{Answered}
use Rattle.locating.proofs.Lending.{none-taken}
use Rattle.register.specs.Sequences.{longest}
use Rattle.register.proofs.Ordering.{longest-bounds}
use Rattle.slices.specs.Synthesis.{Synthesis, ended, begun}
use Rattle.searching.specs.Arriving.{StartDoes, all_arrays, arriving, goes_on}
use Rattle.searching.proofs.Arriving.{goes-on-given}

module _ (s : Shape) (shape : is_shape s ≡ true) (sums : List ℕ) (width : length sums ≡ 512) where
  -- the first row has a check
  some-long : 1 ≤ longest (held_sequences s sums)
  some-long =
      let r = shape-ranges s shape in
      let first = ap length (part_held s sums 0 r.rows-least) ∙ length_part s shape sums width 0 r.rows-least in
      omega (arith, first, (r.checks 0 r.rows-least).least, longest-bounds (held_sequences s sums) 0 (omega (arith, length-held s sums, r.rows-least)))

  whole-begun : (old : Synthesis) → ended (begun (held_sequences s sums) old) ≡ false
  unfolding begun
  whole-begun old = ne_eqb 0 (longest (held_sequences s sums)) (λ e. omega (arith, e, some-long))

  pub whole-starts : ((k : ℕ) → get_or sums k 0 < 257) → (old : Synthesis) {y : Synthesis} {r : Answered} → y ≡ begun (held_sequences s sums) old → r ≡ goes_on s
      → (declared taps : List ℕ) → nothing_declared declared ≡ true → StartDoes s declared sums taps old r taps y
  whole-starts small old {y} e g declared taps nothing f =
      goes-on-given s (all_arrays sums taps declared y) f (ap ended e ∙ whole-begun old) g
      ∙ ap (λ (z : Synthesis). arriving s (all_arrays sums taps declared z) f)
      (e ∙ ap (λ (ss : List (List ℕ)). begun ss old) (none-taken s shape sums small declared nothing))
