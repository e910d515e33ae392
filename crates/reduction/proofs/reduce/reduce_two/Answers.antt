use mathlib.Core.Path.{ap, ◌∙◌}
use Prim.Native.Nat.{ℕ, suc, ◌+◌, ◌*◌, ◌%◌}
use native.Mathlib.Omega.{arith}
use lib.ListN.{get_or, take}
use Rattle.field.specs.Residue.{minus}
use Rattle.field.proofs.Remainders.{mul-mod-mod}
use Rattle.reduction.specs.Reductions.{block}
use Rattle.reduction.proofs.Blocks.{saved-at}
use Rattle.field.proofs.Reduction.{reduced-none, tap-less, turn_reduces}
use Rattle.reduction.proofs.reduce.reduce_two.Goals as goal

pub loop-i-init : goal.loop-i-init
loop-i-init c = reduced-none 2 143 _ _ _ c.requires.1.width c.requires.1.residues

pub difference-requires : goal.difference-requires
difference-requires c =
    let args = c.args in
    let r = c.requires.1 in (
      tap-less 2 143 args.taps.now args.q args.e (take (suc args.m) (block args.h args.saved.now)) c.loop-i.i c.loop-i.invariant
          (omega (arith, r.reach)) (r.residues (args.e + c.loop-i.i)),
      omega arith,
    )

pub loop-i-preserved : goal.loop-i-preserved
loop-i-preserved c =
    let args = c.args in
    let r = c.requires.1 in
    let i = c.loop-i.i in
    let y = get_or args.saved.now (args.h * 144 + i) 0 in
    turn_reduces 2 143 args.taps.now args.q args.e (take (suc args.m) (block args.h args.saved.now)) i c.loop-i.invariant
    (omega (arith, r.reach)) (r.residues (args.e + i)) (saved-at args.saved.now args.h args.m i r.zeros (omega arith) (omega (arith, r.reach)))
    (c.difference.ensures.equals ∙ ap (λ (x : ℕ). minus 2 (get_or c.loop-i.taps (args.e + i) 0) x) (ap (λ (x : ℕ). (args.q * x) % 2) c.from.ensures ∙ mul-mod-mod args.q y 2))
