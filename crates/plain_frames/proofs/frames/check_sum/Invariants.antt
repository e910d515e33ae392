-- `plain_frames::frames::check_sum` meets its contract.
use mathlib.Core.Path.{◌≡◌}
use Prim.Native.Nat.{◌+◌, ◌*◌, ◌-◌, ◌%◌, ◌^◌}
use lib.ListN.{get_or}
use Rattle.plain.specs.Plain as Plain
use Rattle.plain_frames.proofs.frames.check_sum.Given as goal

abbrev pub invariant-loop-x : goal.invariant-loop-x
invariant-loop-x l =
    (l.weight ≡ 3 ^ ((l.exponent + l.j - 1) * l.x-index) % 257)
    × (l.sum ≡ Plain.sum l.x-index (λ k. get_or l.row k 0 * 3 ^ ((l.exponent + l.j - 1) * k)) % 257)
