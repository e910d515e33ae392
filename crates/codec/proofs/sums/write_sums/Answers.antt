-- `codec::sums::write_sums` meets its contract.
use Rattle.frame.proofs.Shapes.{shape-ranges}
use Rattle.codec.proofs.sums.write_sums.Goals as goal

pub weights-requires : goal.weights-requires
weights-requires c = (shape-ranges c.args.s c.requires.0).exponent-most
