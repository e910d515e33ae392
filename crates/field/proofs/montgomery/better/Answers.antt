-- `field::montgomery::better` meets its contract.
use mathlib.Core.Path.{ap, ◌∙◌}
use Prim.Native.Nat.{ℕ, ◌-◌, ◌*◌, ◌%◌}
use Rattle.field.proofs.NewtonInverse.{better_is}
use Rattle.field.proofs.montgomery.better.Goals as goal

pub returns : goal.returns
returns c =
    let p = c.args.p in
    let v = c.args.v in
    let product = c.bottom-2.ensures ∙ ap (λ (x : ℕ). (v * ((65538 - x) % 65536)) % 65536) (c.from.ensures ∙ c.bottom.ensures) in
    ap (λ (x : ℕ). (p * x) % 65536) product ∙ better_is p v
