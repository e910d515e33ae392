use mathlib.Core.Bool.{Bool}
use mathlib.Core.Path.{refl, sym, subst, ◌≡◌}
use Prim.Native.Nat.{ℕ}
use native.Mathlib.Omega.{arith}
use Rattle.plain.proofs.Tests.{flags_agree, flags_differ, eqb-told, each_none, each_more, each-fails, each_holds}
use Rattle.columns.specs.Columns.{has}
use Rattle.columns.specs.declared.Columns.{Columns}
use Rattle.plain_frames.specs.Frames.{marked}
use Rattle.plain.specs.Plain.{Tells}
use Rattle.plain_frames.proofs.compare.same_columns.Goals as goal

pub loop-i-init : goal.loop-i-init
loop-i-init c = (omega arith, each_none _ _)

marked-told : (set : Columns) (i : ℕ) (b : Bool) → b ≡ has set i → Tells b (marked set.words i ≡ 1)
unfolding has
marked-told set i b e = subst (λ (x : Bool). Tells x (marked set.words i ≡ 1)) (sym e) (eqb-told _ _ 1 refl)

pub returns-then-contains-get : goal.returns-then-contains-get
returns-then-contains-get c =
    each-fails _ _ _ c.loop-i.i (omega arith) (omega arith)
    (flags_differ _ _ (marked-told _ _ _ c.contains.ensures) (eqb-told _ _ 1 c.get.ensures) c.if-contains-get.true)

pub loop-i-preserved : goal.loop-i-preserved
loop-i-preserved c = (
  omega arith,
  each_more _ _ _ c.loop-i.invariant.1
      (flags_agree _ _ (marked-told _ _ _ c.contains.ensures) (eqb-told _ _ 1 c.get.ensures) c.if-contains-get.false),
)

pub returns : goal.returns
returns c = each_holds _ _ _ _ (omega arith) c.loop-i.invariant.1
