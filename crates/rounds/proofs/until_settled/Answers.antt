use mathlib.Core.Path.{sym, ◌∙◌}
use mathlib.Core.List.{[], ◌∷◌}
use Prim.Native.Nat.{ℕ, zero, suc, ◌<◌}
use native.Mathlib.Omega.{arith}
use lib.ListN.{get_or}
use Rattle.rounds.proofs.Running.{found_within}
use Rattle.rounds.proofs.Settling.{testable, settles}
use Rattle.rounds.proofs.until_settled.Goals as goal

-- fewer rounds than all are made at a look
fewer : (N i : ℕ) → 17 < N → i < 3 → get_or (0 ∷ 9 ∷ 17 ∷ N ∷ []) i 0 < N
fewer N zero long few = omega arith
fewer N (suc zero) long few = omega arith
fewer N (suc (suc zero)) long few = omega arith
fewer N (suc (suc (suc i))) long few = absurd (let no : ⊥ = omega arith in no)

pub overflow_mul-state : goal.overflow_mul-state
overflow_mul-state c =
    let r = c.requires.posed.running in
    record { fits = omega (arith, found_within r _ c.loop-to.invariant.1, r.longest, fewer _ _ c.requires.fact.1 c.loop-to-test.true) }

pub is_settled-requires : goal.is_settled-requires
is_settled-requires c =
    let pre = c.requires in
    let x = pre.posed in
    let few = fewer _ _ pre.fact.1 c.loop-to-test.true in
    (x.running.count, testable x.worked_out pre.fact.0 x.moduli x.running (omega (arith, few)) c.loop-to.invariant.1)

pub returns-then-is_settled : goal.returns-then-is_settled
returns-then-is_settled c =
    let few = fewer _ _ c.requires.fact.1 c.loop-to-test.true in
    settles c.requires.posed.running _ (omega (arith, few)) (sym c.is_settled.ensures ∙ c.if-is_settled.true) c.loop-to.invariant.1
