-- `window::input::refilled` meets its contract.
use Rattle.window.proofs.Filling.{refills}
use Rattle.window.proofs.input.refilled.Goals as goal

pub returns : goal.returns
returns c =
    refills c.args.w c.args.buffer.now c.requires c.move_down.new.buffer c.read-got.new.part c.read-got.result c.move_down.auto.buffer c.read-got.auto.part
    c.read-got.ensures c.move_down.ensures
