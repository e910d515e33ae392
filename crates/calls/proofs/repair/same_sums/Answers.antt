use mathlib.Core.Path.{◌≡◌, sym, ap, ◌∙◌}
use Prim.Native.Nat.{ℕ}
use native.Mathlib.Omega.{arith}
use lib.Dec.{eqb}
use lib.ListN.{get_or}
use Rattle.job.specs.Calls.{same_sums}
use Rattle.lists.specs.Tabulate.{every}
use Rattle.lists.proofs.Tabulated.{every-zero}
use Rattle.lists.proofs.Every.{every-next}
use Rattle.calls.proofs.repair.same_sums.Goals as goal

pub loop-k-init : goal.loop-k-init
loop-k-init c = sym (every-zero _)

pub loop-k-preserved : goal.loop-k-preserved
loop-k-preserved c = every-next _ _ _ c.loop-k.invariant

pub returns : goal.returns
unfolding same_sums
returns c =
    c.loop-k.invariant
    ∙ ap (λ (n : ℕ). every n (λ k. eqb (get_or c.args.a.now k 0) (get_or c.args.b.now k 0))) (let all : c.loop-k.k ≡ 512 = omega arith in all)
