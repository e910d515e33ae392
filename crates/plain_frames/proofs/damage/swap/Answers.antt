-- `plain_frames::damage::swap` meets its contract.
use Rattle.plain_frames.proofs.damage.swap.Goals as goal

pub returns : goal.returns
returns c = cc
