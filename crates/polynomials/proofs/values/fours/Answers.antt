use mathlib.Core.Path.{◌≡◌, ap, subst, ◌∙◌}
use Prim.Native.Nat.{ℕ, ◌+◌, ◌*◌, ◌/◌}
use native.Mathlib.Omega.{arith}
use lib.ListN.{length, get_or}
use Rattle.polynomials.specs.Evaluable.{linear_at}
use Rattle.field257.specs.Powers.{power_of3}
use Rattle.field257.proofs.Halves.{Beside, beside_none, beside-more, beside-fits, halves_joined}
use Rattle.polynomials.proofs.values.fours.Goals as goal
use Rattle.polynomials.proofs.values.fours.Goals.{After-from}

pub loop-b-init : goal.loop-b-init
loop-b-init c = beside_none _ _ _

-- one block more
grown : (c : After-from) →
    let loop = c.loop-b in
    let args = c.args in
    let f = args.f.now in
    Beside (λ k. get_or f k 0) (λ k. get_or f (2 * (length f / 4) + k) 0) args.e (2 * (loop.b + 1)) (loop.exponent + 2 * args.e)
    (loop.total + c.linear.result * c.from.result)
grown c =
    let f = c.args.f.now in
    let k : ℕ = 2 * c.loop-b.b in
    let half : ℕ = 2 * (length f / 4) in
    beside-more _ _ _ c.loop-b.b _ _ c.from.result _ c.loop-b.invariant (c.from.ensures ∙ c.entry-in-loop-b.ensures.power c.requires.powers_known)
    (let t = c.loop-b-test.true in omega (arith, c.requires.few)) c.requires.below (λ i. c.requires.below (half + i))
    (c.linear.ensures
    ∙ ap (λ (y : ℕ). linear_at f k y + 4294967296 * linear_at f (half + k) y) (c.from-y.ensures ∙ c.entry.ensures.power c.requires.powers_known)
    ∙ ap (λ (n : ℕ). linear_at f k (power_of3 c.args.e) + 4294967296 * (get_or f (half + k) 0 + power_of3 c.args.e * get_or f n 0))
    (let e : half + k + 1 ≡ half + (k + 1) = omega arith in e))

pub overflow_add-total : goal.overflow_add-total
overflow_add-total c = beside-fits _ _ _ _ _ _ (grown c) (let t = c.loop-b-test.true in omega (arith, c.requires.few))

-- the values of the block times the power looked up
pub overflow_mul-total : goal.overflow_mul-total
overflow_mul-total c = let g = overflow_add-total c in record { fits = omega arith }

pub loop-b-preserved : goal.loop-b-preserved
loop-b-preserved c = grown c

pub returns-clause-equals : goal.returns-clause-equals
returns-clause-equals c =
    let f = c.args.f.now in
    let half : ℕ = 2 * (length f / 4) in
    let over = c.loop-b-test.false in
    rw (let e : 4 * (length f / 4) ≡ half + half = omega arith in e)
    (halves_joined f c.args.e half _ _ c.from-2.result
    (subst (λ (i : ℕ). Beside (λ k. get_or f k 0) (λ k. get_or f (half + k) 0) c.args.e i c.loop-b.exponent c.loop-b.total)
    (let e : 2 * c.loop-b.b ≡ half = omega arith in e) c.loop-b.invariant)
    (c.from-2.ensures ∙ c.entry-2.ensures.power c.requires.powers_known)).0
