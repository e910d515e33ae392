-- `elimination::cancel_value` meets its contract.
use mathlib.Core.Path.{sym, ap, ap₂, ◌∙◌}
use Prim.Native.Nat.{ℕ, ◌+◌, ◌*◌}
use Rattle.plain.specs.Plain.{rem}
use Rattle.elimination.proofs.cancel_value.Goals as goal

pub returns : goal.returns
returns c =
    let args = c.args in
    let p = args.p in
    record {
      v = c.cross-v.result;
      wrote = c.put.ensures;
      crossed =
          ap (λ (y : ℕ). rem (c.cross-v.result + y * args.x) p) (sym c.value.ensures) ∙ c.cross-v.ensures.0
          ∙ ap₂ (λ (a b : ℕ). rem (a * b) p) c.get.ensures c.value-lead.ensures;
      residue = c.cross-v.ensures.1;
    }
