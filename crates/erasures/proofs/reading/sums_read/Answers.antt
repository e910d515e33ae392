-- `erasures::reading::sums_read` meets its contract.
use mathlib.Core.Path.{sym, ap, subst⁻¹, ◌∙◌}
use native.Mathlib.Omega.{arith}
use lib.ListN.{length}
use Rattle.frame.specs.DeclaredCells.{declared_by}
use Rattle.frame.proofs.ReadFrames.{length-read}
use Rattle.frame.specs.Frame.{WellFormed, held_sums}
use Rattle.frame.proofs.RowPlace.{frame_small}
use Rattle.frame.proofs.Symbols.{read_well_formed}
use Rattle.erasures.proofs.reading.sums_read.Goals as goal

pub read_into-requires : goal.read_into-requires
read_into-requires c = record { shape = c.requires.0; whole = c.requires.1.size }

pub slice_bounds-read-end : goal.slice_bounds-read-end
slice_bounds-read-end c = omega (arith, frame_small _ c.requires.0, c.requires.1.size)

pub slice_bounds-frame_sums-end : goal.slice_bounds-frame_sums-end
slice_bounds-frame_sums-end c =
    let whole = c.requires.1.size in
    whole ∙ sym (ap length c.read_into.ensures ∙ length-read c.args.s (declared_by c.args.declared.now) c.args.frame.now whole)

pub frame_sums-requires : goal.frame_sums-requires
frame_sums-requires c = (c.requires.0, subst⁻¹ (WellFormed c.args.s) c.read_into.ensures (read_well_formed _ _ _ c.requires.1))

pub returns : goal.returns
returns c = c.frame_sums.ensures ∙ ap (held_sums c.args.s) c.read_into.ensures
