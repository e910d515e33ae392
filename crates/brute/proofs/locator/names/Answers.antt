-- `brute::locator::names` meets its contract.
use Rattle.std.proofs.Common.{ℕ, ◌%◌, ◌^◌, ap, ◌∙◌}
use Rattle.brute.proofs.Naming.{naming}
use Rattle.brute.proofs.locator.names.Goals as goal

pub returns : goal.returns
returns c =
    let inverse = c.power-y.ensures ∙ ap (λ (x : ℕ). x ^ 255 % 257) (rw c.from.ensures at c.power.ensures) in
    naming _ _ _ _ _ _ inverse c.pose_root.ensures _ c.add.ensures _ c.follows.ensures
