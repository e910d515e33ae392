-- The parts of a state, by the name of the code.
use Rattle.register_step.specs.Parts.{Parts, parts}
use Rattle.register_step.specs.declared.State.{State}

abbrev pub parts_of : State → Parts
parts_of s = parts s.length s.places s.sizes s.discs s.quotients s.taps s.saved
