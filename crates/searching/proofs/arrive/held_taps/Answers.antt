-- `searching::arrive::held_taps` meets its contract.
use Prim.Native.Nat.{◌+◌}
use native.Mathlib.Omega.{arith}
use borrow.Author.Rules.{rules}
use mathlib.Core.Path.{◌∙◌}
use Rattle.searching.proofs.Arriving.{copies}
use Rattle.searching.proofs.arrive.held_taps.Goals as goal

pub returns : goal.returns
returns c =
    let args = c.args in
    let all = copies args.l (args.l + 1) args.register.now (omega arith) c.requires (search rules) in
    record { value = c.padded.ensures ∙ all.0; register_len = all.1 }
