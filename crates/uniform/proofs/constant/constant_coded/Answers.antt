use mathlib.Core.Path.{refl, sym, ap, ◌∙◌}
use mathlib.Core.Bool.{true}
use Prim.Native.Nat.{ℕ}
use native.Mathlib.Omega.{arith}
use lib.Dec.{eqb}
use lib.ListN.{replicate}
use lib.Seq.{length-take-le}
use borrow.Author.Tests.{eq-eqb, ne_eqb}
use Rattle.lists.proofs.Testing.{tested-none, tested_out, tested-pass, tested-all}
use Rattle.uniform.proofs.ConstantRows.{evaluable, sum-value, zeros-coded}
use Rattle.uniform.proofs.constant.constant_coded.Goals as goal

pub returns-then-a-eq0 : goal.returns-then-a-eq0
returns-then-a-eq0 c = zeros-coded _ _ _ _ c.if-a-eq0.true

pub loop-j-init : goal.loop-j-init
loop-j-init c = tested-none _ _

pub value_at-requires : goal.value_at-requires
value_at-requires c = evaluable _ _ _ _ c.requires _ c.powers-powers.ensures _ c.loop-j-test.true

pub returns-then-value_at-ne0 : goal.returns-then-value_at-ne0
returns-then-value_at-ne0 c =
    tested_out _ _ c.loop-j.j c.loop-j-test.true
    (ap (λ (x : ℕ). eqb x 0) (sum-value _ _ _ _ c.requires _ _ c.value_at.ensures.equals) ∙ ne_eqb _ 0 c.if-value_at-ne0.true)

pub loop-j-preserved : goal.loop-j-preserved
loop-j-preserved c =
    let at = c.loop-j in
    tested-pass _ _ at.j true at.invariant c.loop-j-test.true true refl
    (ap (λ (x : ℕ). eqb x 0) (sum-value _ _ _ _ c.requires _ _ c.value_at.ensures.equals) ∙ eq-eqb _ 0 c.if-value_at-ne0.false)
