use mathlib.Core.Bool.{cond}
use mathlib.Core.Path.{ap₂, ◌∙◌}
use Prim.Native.Nat.{ℕ}
use native.Mathlib.Nat.{div-le_self, mod-le}
use native.Mathlib.Omega.{arith}
use lib.Dec.{eqb}
use borrow.Author.Rules.{rules}
use Rattle.plain.proofs.Writing.{wrote_none, wrote-put, wrote-all}
use Rattle.plain_frames.proofs.cells.clear.Goals as goal

pub returns-then-columns-eq0 : goal.returns-then-columns-eq0
returns-then-columns-eq0 c = λ some. absurd (let z : ⊥ = omega arith in z)

pub loop-k-init : goal.loop-k-init
loop-k-init c = (omega arith, c.from-n.ensures, wrote_none _ 0 _)

pub overflow_mul-k : goal.overflow_mul-k
overflow_mul-k c = let le = div-le_self c.loop-k.k c.args.columns in search rules

pub overflow_add-k : goal.overflow_add-k
overflow_add-k c =
    let n = c.args.columns in
    let rows = div-le_self c.loop-k.k n in
    let columns = mod-le c.loop-k.k n in search rules

pub loop-k-preserved : goal.loop-k-preserved
loop-k-preserved c = (
  omega arith,
  c.loop-k.invariant.1,
  wrote-put 0 c.loop-k.k _ c.loop-k.invariant.2 (omega arith) c.put.ensures
      (c.read-v.ensures
      ∙ ap₂ (λ (m v : ℕ). cond (eqb m 1) 0 v) (rw c.from-n.ensures at c.mark.ensures)
      (c.get.ensures ∙ c.loop-k.invariant.2.after c.loop-k.k (omega arith))),
)

pub returns : goal.returns
returns c = λ some. wrote-all 0 _ _ c.loop-k.invariant.2 c.loop-k.invariant.0 (omega arith)
