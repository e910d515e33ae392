-- A multiple of check sums added to totals, total after total.
use mathlib.Core.Path.{◌≡◌, ap₂, ◌∙◌}
use mathlib.Core.List.{List}
use Prim.Native.Nat.{ℕ, ◌+◌, ◌*◌, ◌≤◌, ◌<◌}
use native.Mathlib.Omega.{arith}
use mir.Syntax.{w32}
use mir.Val.{Fits}
use lib.ListN.{get_or, set}
use Rattle.lists.proofs.Filling.{Filled, filled_more, filled-entry, filled-rest}
use Rattle.remaining.specs.Multiples.{Totals, grown, Addable}

module _ {before : List ℕ} {c : ℕ} {sums : List ℕ} {from count : ℕ} (a : Addable before c sums from count) {j : ℕ} {totals : List ℕ}
    (so_far : Filled (grown before c sums from) before j totals) where
  module _ (inside : j < count) {r : ℕ} (product : r ≡ c * get_or sums (from + j) 0) where
    next : get_or totals j 0 + r ≡ grown before c sums from j
    next = ap₂ ◌+◌ (let s = a.size in let few = a.few in filled-rest _ _ j totals so_far j (omega arith) (omega arith)) product

    pub next_fits : Fits w32 (get_or totals j 0 + r)
    next_fits = omega (arith, next, a.fits j inside)

    pub adding_more : Filled (grown before c sums from) before (j + 1) (set totals j (get_or totals j 0 + r))
    adding_more = filled_more _ _ j _ totals so_far (let s = so_far.size in let w = a.size in let few = a.few in omega arith) next

  pub adding_all : count ≤ j → Totals count (grown before c sums from) totals
  adding_all le = record {
    size = so_far.size ∙ a.size;
    each = λ i l. filled-entry _ _ j totals so_far i (omega arith);
  }
