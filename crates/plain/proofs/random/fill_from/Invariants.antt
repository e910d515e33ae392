-- `plain::random::fill_from` meets its contract.
use Rattle.std.proofs.Common.{◌≡◌, suc, ◌≤◌}
use Rattle.plain.specs.Drawn.{drawn_from, later}
use Rattle.plain.specs.Written.{Wrote}
use Rattle.plain.proofs.random.fill_from.Given as goal

abbrev pub invariant-loop-i : goal.invariant-loop-i
invariant-loop-i l =
    (l.i ≤ l.n) × (l.state ≡ later l.i l.initial.state) × Wrote l.initial.a l.a 0 l.i (λ k. drawn_from (later (suc k) l.initial.state) l.least l.p)
