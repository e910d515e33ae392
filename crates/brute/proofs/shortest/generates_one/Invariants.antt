-- `brute::shortest::generates_one` meets its contract.
use Rattle.std.proofs.Common.{◌≡◌, ◌+◌, ◌≤◌, length}
use Rattle.plain.specs.Plain.{Each, discrepancy}
use Rattle.brute.proofs.shortest.generates_one.Given as goal

abbrev pub invariant-loop-j : goal.invariant-loop-j
invariant-loop-j l = (l.j-end ≡ length l.s) × (l.l ≤ l.j) × Each l.l l.j (λ k. discrepancy l.p l.s l.taps (l.l + 1) k ≡ 0)
