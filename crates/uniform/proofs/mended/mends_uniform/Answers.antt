-- `uniform::mended::mends_uniform` meets its contract.
use mathlib.Core.Path.{◌≡◌, refl, sym, ap, ap₂, ◌∙◌}
use mathlib.Core.Bool.{false, not, ◌&&◌}
use Prim.Native.Nat.{◌<◌}
use native.Mathlib.Omega.{arith}
use Rattle.columns.specs.Columns.{either, has}
use Rattle.columns.specs.Listed.{least}
use Rattle.columns.specs.declared.Columns.{Columns}
use Rattle.decoding.proofs.UniformMended.{uniform-mended}
use Rattle.frame.specs.DeclaredCells.{declared_by}
use Rattle.frame.proofs.RowPlace.{row-place}
use Rattle.frame.proofs.Shapes.{shape-ranges}
use Rattle.columns.proofs.FirstOutside.{first-inside, first_out}
use Rattle.uniform.proofs.MendedColumns.{fewer, read, summed_sets}
use Rattle.uniform.proofs.mended.mends_uniform.Goals as goal
use Rattle.uniform.proofs.mended.mends_uniform.Goals.{After-first_outside}

-- the cell that is looked at first: within row 0, and neither marked nor declared
first : (c : After-first_outside) →
    let args = c.args in
    c.first_outside.result ≡ least args.s.columns (λ k. not (has (either args.marked (declared_by args.declared.now 0)) k))
first c =
    let args = c.args in
    c.first_outside.ensures
    ∙ ap (λ (J : Columns). least args.s.columns (λ k. not (has J k)))
    (c.either.ensures ∙ ap (either args.marked) c.cells_of.ensures)

inside : (c : After-first_outside) → c.first_outside.result < c.args.s.columns
inside c =
    let asked = c.requires in
    first-inside _ _ (shape-ranges _ asked.shape).columns-most (fewer _ _ _ _ asked) _ (first c)

out : (c : After-first_outside) →
    let args = c.args in
    has (either args.marked (declared_by args.declared.now 0)) c.first_outside.result ≡ false
out c =
    let asked = c.requires in
    first_out _ _ (shape-ranges _ asked.shape).columns-most (fewer _ _ _ _ asked) _ (first c)

pub offset_bounds-frame-first_outside : goal.offset_bounds-frame-first_outside
offset_bounds-frame-first_outside c = omega (arith, inside c, (shape-ranges _ c.requires.shape).columns-most)

pub bounds-frame-first_outside : goal.bounds-frame-first_outside
bounds-frame-first_outside c =
    let asked = c.requires in
    omega (arith, inside (goal.at.bounds-frame-first_outside c).After-first_outside, (row-place _ _ 0 asked.shape asked.whole (shape-ranges _ asked.shape).rows-least).inside)

pub rows_hold-requires : goal.rows_hold-requires
rows_hold-requires c = c.requires

pub sets_coded-requires : goal.sets_coded-requires
sets_coded-requires c =
    summed_sets _ _ _ _ c.requires _ (inside (goal.at.sets_coded-requires c).After-first_outside) (out (goal.at.sets_coded-requires c).After-first_outside)

pub returns-then-rows_hold : goal.returns-then-rows_hold
returns-then-rows_hold c =
    let asked = c.requires in
    let at = (goal.at.returns-then-rows_hold c).After-first_outside in
    sym (uniform-mended _ asked.shape _ _ (read _ _ _ _ asked) _ asked.below _ (inside at) (out at)
    ∙ ap₂ ◌&&◌ (sym c.rows_hold.ensures ∙ c.if-rows_hold.true) (sym c.sets_coded.ensures))

pub returns-else-rows_hold : goal.returns-else-rows_hold
returns-else-rows_hold c =
    let asked = c.requires in
    let at = (goal.at.returns-else-rows_hold c).After-first_outside in
    c.if-rows_hold.false
    ∙ sym (uniform-mended _ asked.shape _ _ (read _ _ _ _ asked) _ asked.below _ (inside at) (out at)
    ∙ ap₂ ◌&&◌ (sym c.rows_hold.ensures ∙ c.if-rows_hold.false) refl)
