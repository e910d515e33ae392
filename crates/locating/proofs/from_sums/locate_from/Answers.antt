-- `locating::from_sums::locate_from` meets its contract.
use mathlib.Core.Path.{refl, ◌∙◌}
use Rattle.locating.proofs.Locating.{held-register, located_so}
use Rattle.locating.proofs.from_sums.locate_from.Goals as goal

pub register_of-found-requires : goal.register_of-found-requires
register_of-found-requires c =
    let pre = c.requires in
    record { shape = pre.shape; flag = pre.flag; declarable = pre.declarable; small = pre.small; zeros = refl }

pub locate_by-requires : goal.locate_by-requires
locate_by-requires c = held-register c.args.s c.args.declared.now c.args.sums.now _ _ c.register_of-found.ensures _ c.requires

pub returns : goal.returns
returns c =
    λ a f. c.locate_by.ensures a f
    ∙ located_so c.args.s c.args.declared.now c.args.sums.now _ _ c.register_of-found.ensures c.requires.shape _ f
