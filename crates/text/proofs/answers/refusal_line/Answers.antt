-- `text::answers::refusal_line` meets its contract.
use mathlib.Core.Path.{ap}
use mathlib.Core.List.{[], ◌∷◌}
use Prim.Native.Nat.{ℕ}
use native.Mathlib.Omega.{arith}
use Rattle.text.specs.Line.{refusal_line}
use Rattle.text.specs.Text.{line}
use Rattle.text.proofs.Lines.{number_small, line-end}
use Rattle.text.proofs.Writing.{written_as}
use Rattle.text.proofs.answers.refusal_line.Goals as goal

pub overflow_cast-from : goal.overflow_cast-from
overflow_cast-from c = omega (arith, c.from.ensures, number_small c.args.k)

pub returns : goal.returns
unfolding refusal_line
returns c =
    let head = c.put_head-end.ensures in
    let byte = c.put_byte.ensures in
    record {
      written = written_as _ _ _ _ _ _ (ap (λ (k : ℕ). line 69 (k ∷ [])) c.from.ensures)
          (line-end _ _ _ _ _ _ (omega arith) head.written _ _ byte);
      upper_bound = omega (arith, byte.place, head.upper_bound);
    }
