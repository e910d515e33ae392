-- `brute::shortest::generates` meets its contract.
use Rattle.std.proofs.Common.{◌≡◌, ◌+◌, length}
use Rattle.plain.specs.Plain.{Each, discrepancy, sequence}
use Rattle.brute.proofs.shortest.generates.Given as goal

abbrev pub invariant-loop-h : goal.invariant-loop-h
invariant-loop-h l =
    (l.h-end ≡ length l.lengths)
    × Each 0 l.h (λ g. Each l.l (length (sequence l.lengths l.symbols g)) (λ j. discrepancy l.p (sequence l.lengths l.symbols g) l.taps (l.l + 1) j ≡ 0))
