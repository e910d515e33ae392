use mathlib.Core.Path.{sym}
use native.Mathlib.Nat.{mul-le-mul}
use native.Mathlib.Omega.{arith}
use Rattle.field.proofs.Fits.{root-small}
use Rattle.field.proofs.Modulus.{modulus-taken, modulus-refused, even-modulus}
use Rattle.field.proofs.PrimeTest.{undivided-two-more, undivided-to-root, divided_below-root}
use Rattle.field.proofs.prime.is_modulus.Goals as goal

pub returns-then-p-lt2 : goal.returns-then-p-lt2
returns-then-p-lt2 c = sym (modulus-refused _ (λ prime le. let two = prime.two_or_more in omega arith))

pub returns-then-p-gt65521 : goal.returns-then-p-gt65521
returns-then-p-gt65521 c = sym (modulus-refused _ (λ prime le. omega arith))

pub returns-then-p-eq0 : goal.returns-then-p-eq0
returns-then-p-eq0 c = sym (even-modulus _ c.if-p-eq0.true)

pub returns-then-p-d-eq0 : goal.returns-then-p-d-eq0
returns-then-p-d-eq0 c =
    sym (modulus-refused _ (λ prime le. divided_below-root _ _ (omega (arith, c.loop-d.invariant.0)) (omega arith) c.if-p-d-eq0.true prime))

pub loop-d-preserved : goal.loop-d-preserved
loop-d-preserved c =
    let small = root-small c.loop-d.d (omega arith) in
    let more = undivided-two-more _ _ c.if-p-eq0.false c.loop-d.invariant.2 c.loop-d.invariant.3 c.if-p-d-eq0.false in
    (omega arith, omega (arith, c.loop-d.invariant.2), omega (arith, c.loop-d.invariant.2), more)

pub returns-then-d-p : goal.returns-then-d-p
returns-then-d-p c =
    let prime = undivided-to-root _ _ c.if-p-lt2.false c.if-d-p.true c.loop-d.invariant.3 in
    sym (modulus-taken _ prime c.if-p-gt65521.false)

pub returns-after-loop-d : goal.returns-after-loop-d
returns-after-loop-d c =
    let past = mul-le-mul c.loop-d-test.false c.loop-d-test.false in
    let prime = undivided-to-root _ _ c.if-p-lt2.false (omega (arith, past, c.if-p-gt65521.false)) c.loop-d.invariant.3 in
    sym (modulus-taken _ prime c.if-p-gt65521.false)
