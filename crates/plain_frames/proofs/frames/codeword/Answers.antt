-- `plain_frames::frames::codeword` meets its contract.
use Rattle.plain_frames.proofs.CheckSums.{codeword-told}
use Rattle.plain_frames.proofs.frames.codeword.Goals as goal

pub returns : goal.returns
returns c = codeword-told _ _ _ _ _ _ _ c.check_sums.ensures c.all_zero.ensures
