use mathlib.Core.Path.{◌≡◌, subst}
use Prim.Native.Nat.{◌+◌, ◌-◌, ◌*◌, ◌%◌}
use native.Mathlib.Omega.{arith}
use borrow.Author.Rules.{rules}
use Rattle.columns.proofs.Marks.{sound}
use Rattle.columns.proofs.Words.{Passed, pass-word, none_left, found}
use Rattle.columns.proofs.next.Goals as goal

pub loop-w-init : goal.loop-w-init
loop-w-init c = (record { within = omega arith; none = λ k f l. absurd (let z : ⊥ = omega arith in z) }, search rules)

pub returns-then-left-ne0 : goal.returns-then-left-ne0
returns-then-left-ne0 c =
    let m = c.loop-w in
    rw (← m.invariant.1)
    (found c.args.c (sound c.args.c (search rules) (λ w. search rules)) c.args.from m.at m.invariant.0 (omega arith) (rw m.invariant.1 c.if-left-ne0.true))

pub loop-w-preserved : goal.loop-w-preserved
loop-w-preserved c =
    let m = c.loop-w in (
      subst (Passed c.args.c c.args.from) (let e : m.at + (64 - m.at % 64) ≡ 64 * (m.w + 1) = omega arith in e)
          (pass-word c.args.c c.args.from m.at m.invariant.0 (rw m.invariant.1 c.if-left-ne0.false)),
      omega arith,
    )

pub returns : goal.returns
returns c = none_left c.args.c c.args.from c.loop-w.at c.loop-w.invariant.0 (omega arith)
