-- `polynomials::values::linear` meets its contract.
use mathlib.Core.Path.{◌≡◌, ap₂, ◌∙◌}
use Prim.Native.Nat.{ℕ, ◌+◌, ◌*◌}
use native.Mathlib.Omega.{arith}
use lib.ListN.{get_or}
use Rattle.polynomials.proofs.values.linear.Goals as goal
use Rattle.polynomials.proofs.values.linear.Goals.{After-beside-2}

regrouped : (a b c d y : ℕ) → a + 4294967296 * b + y * (c + 4294967296 * d) ≡ a + y * c + 4294967296 * (b + y * d)
regrouped a b c d y = omega arith

pub returns : goal.returns
returns c =
    let f = c.args.f.now in
    let k = c.args.k in
    let j = c.args.j in
    ap₂ (λ (m n : ℕ). m + c.args.y * n) c.beside.ensures c.beside-2.ensures
    ∙ regrouped (get_or f k 0) (get_or f j 0) (get_or f (k + 1) 0) (get_or f (j + 1) 0) c.args.y
