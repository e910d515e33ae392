-- `field::montgomery::odd_inverse` meets its contract.
use Rattle.field.proofs.NewtonInverse.{inverse-is}
use Rattle.field.proofs.montgomery.odd_inverse.Goals as goal

pub returns : goal.returns
returns c =
    inverse-is c.args.p _ _ _ _ c.ranges.p.fits c.requires c.better.ensures c.better-2.ensures
    c.better-3.ensures c.better-4.ensures
