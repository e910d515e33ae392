-- `lanes::symbols::symbol` meets its contract.
use mathlib.Core.Path.{ap, ◌∙◌}
use Prim.Native.Nat.{ℕ, ◌*◌, ◌%◌}
use Rattle.field.specs.Residue.{inverse, minus}
use Rattle.lanes.proofs.symbols.symbol.Goals as goal

pub returns : goal.returns
returns c =
    let total = c.args.total in
    ap (λ (f : ℕ). (total % 257 * f) % 257)
    (c.difference-factor.ensures.equals ∙ ap (λ (u : ℕ). minus 257 0 u)
    (c.inverse.ensures.equals ∙ ap (λ (p : ℕ). inverse 257 (p % 257)) c.product.ensures))
