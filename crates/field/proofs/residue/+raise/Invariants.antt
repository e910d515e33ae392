-- The measure is the exponent, which is halved at each call.
use Rattle.field.proofs.residue.+raise.Given as goal

abbrev pub decreases-raise : goal.decreases-raise
decreases-raise l = l.e
