-- `plain_frames::cells::mark` meets its contract.
use mathlib.Core.Path.{sym, ap, ◌∙◌}
use Prim.Native.Nat.{ℕ, ◌/◌, ◌%◌, ◌^◌}
use native.Mathlib.Nat.{zero-div, zero-mod}
use native.Mathlib.Omega.{arith}
use lib.ListN.{get_or-eq_default}
use Rattle.plain_frames.proofs.cells.mark.Goals as goal

pub returns-in-Some : goal.returns-in-Some
returns-in-Some c = ap (λ (x : ℕ). x / 2 ^ (c.args.k % 64) % 2) (c.in-Some.ensures.lookup.3.1 0)

pub returns-in-None : goal.returns-in-None
returns-in-None c =
    let k = c.args.k in
    sym
    (ap (λ (x : ℕ). x / 2 ^ (k % 64) % 2) (get_or-eq_default c.args.words.now 0 (omega (arith, c.in-None.ensures.lookup.3)))
    ∙ ap (λ (x : ℕ). x % 2) (zero-div (2 ^ (k % 64))) ∙ zero-mod 2)
