-- `field::montgomery::less_product` meets its contract.
use mathlib.Core.Path.{◌≡◌}
use Prim.Native.Nat.{◌*◌, ◌%◌, ◌≤◌}
use native.Mathlib.Omega.{arith}
use Rattle.field.proofs.MontgomeryProducts.{top_below, less-product-is}
use Rattle.field.proofs.montgomery.less_product.Goals as goal
use Rattle.field.proofs.montgomery.less_product.Goals.{After-top, After-top-2}

-- the first top is at most p
first-within : (c : After-top) → c.top.result ≤ c.args.p
first-within c =
    let below = top_below c.ranges.y.fits (let e : c.args.u ≤ c.args.p = omega (arith, c.requires.1) in e) (omega (arith, c.requires.0)) in
    omega (arith, c.top.ensures, below)

-- and so is the second
second-within : (c : After-top-2) → c.top-2.result ≤ c.args.p
second-within c =
    let p = c.args.p in
    let small = c.bottom.ensures in
    let below = top_below {x = c.bottom.result} {y = p} {p = p} (omega (arith, small)) (omega arith) (omega (arith, c.requires.0)) in
    omega (arith, c.top-2.ensures, below)

pub returns-clause-equals : goal.returns-clause-equals
returns-clause-equals c =
    let second = c.before in
    let rest = second.before.before in
    let first = rest.before in
    let companion : (first.args.v * first.args.p) % 65536 ≡ first.args.u % 65536 = omega (arith, first.requires.2) in
    less-product-is first.args.y first.args.u first.args.v first.args.p second.bottom.ensures companion first.args.x first.top.ensures
    second.top-2.ensures (first-within first) (second-within second) rest.difference-rest.ensures.equals c.difference.ensures.equals
