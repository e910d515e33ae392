use mathlib.Core.Path.{refl}
use mathlib.Core.Bool.{cond}
use Prim.Native.Nat.{ℕ, ◌+◌, ◌-◌, ◌≤◌, ◌<◌}
use native.Mathlib.Omega.{arith}
use lib.Dec.{eqb}
use Rattle.std.proofs.lemmas.Bool.Decides.{nat_tests}
use Rattle.decoding.proofs.Searching.{trying-all}
use Rattle.search.proofs.Answers.{ended, nothing-sought}
use Rattle.search.proofs.Trials.{searching-starts}
use Rattle.search.proofs.roots.sought_columns.Goals as goal

-- with columns left to find the next to try is further on
falls : (n i left i' left' : ℕ) → 0 < left → i < n → (0 < left' → (i < i') × (i' ≤ n))
    → cond (eqb left' 0) 0 (1 + (n - i')) < cond (eqb left 0) 0 (1 + (n - i))
falls n i left i' left' some more on = grind (arith, nat_tests)

pub returns-then-taps-lt2 : goal.returns-then-taps-lt2
returns-then-taps-lt2 c = rw c.empty.ensures (nothing-sought _ _ (let short = c.if-taps-lt2.true in omega arith))

pub loop-left-init : goal.loop-left-init
loop-left-init c =
    let starts = searching-starts c.args.taps.now c.args.columns (omega (arith, c.if-taps-lt2.false)) in
    record { marked = starts.marked; ends = λ none. absurd (omega (arith, c.if-taps-lt2.false)); goes_on = λ some. starts }

pub loop-left-smaller : goal.loop-left-smaller
loop-left-smaller c =
    falls _ _ _ _ _ c.loop-left-test.true c.if-tried-columns.true
    (λ some. let on = c.try_block-trial.ensures.goes_on some in (on.0, on.1.within))

pub returns-else-tried-columns : goal.returns-else-tried-columns
returns-else-tried-columns c =
    let at = c.loop-left in
    let on = at.invariant.goes_on c.loop-left-test.true in
    let all = trying-all _ _ at.tried at.left on.trying c.if-tried-columns.false in
    ended _ _ at.tried at.invariant.marked refl (omega (arith, on.within, c.if-tried-columns.false))

pub returns-after-loop-left : goal.returns-after-loop-left
returns-after-loop-left c =
    let at = c.loop-left in
    ended _ _ at.tried at.invariant.marked refl (at.invariant.ends (omega (arith, c.loop-left-test.false)))
