-- `uniform::constant::rows_coded` meets its contract.
use Rattle.std.proofs.Common.{◌≡◌, ℕ, ◌<◌, ◌≤◌}
use Rattle.lists.proofs.Largest.{Largest}
use Rattle.uniform.proofs.constant.rows_coded.Given as goal

abbrev pub invariant-loop-h : goal.invariant-loop-h
invariant-loop-h g l =
    record {
      few : l.most ≤ 64;
      largest : (m : ℕ → ℕ) → ((h n : ℕ) → h < l.s.rows → goal.F-post g l.count h n → n ≡ m h) → Largest l.s.rows m l.h l.most;
    }
