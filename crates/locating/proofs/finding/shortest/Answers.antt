-- `locating::finding::shortest` meets its contract.
use Rattle.locating.proofs.finding.shortest.Goals as goal

pub synthesize-requires : goal.synthesize-requires
synthesize-requires c = c.requires.accepted
