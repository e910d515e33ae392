-- `text::answers::taps_line` meets its contract.
use mathlib.Core.Path.{◌≡◌, refl, ap, ◌∙◌}
use mathlib.Core.Bool.{Bool, true, false}
use mathlib.Core.List.{◌∷◌}
use Prim.Native.Nat.{ℕ}
use native.Mathlib.Omega.{arith}
use Rattle.std.specs.Int.{from_bool}
use Rattle.text.specs.Line.{mark_of, register_line}
use Rattle.text.specs.Text.{line}
use Rattle.text.proofs.Lines.{line-more, line-end}
use Rattle.text.proofs.Writing.{written_as}
use Rattle.text.proofs.answers.taps_line.Goals as goal

marked : (b : Bool) → from_bool b ≡ mark_of b
marked true = refl
marked false = refl

pub returns : goal.returns
unfolding register_line
returns c =
    let head = c.put_head-head.ensures in
    let mark = c.put_number-mark.ensures in
    let taps = c.put_numbers-end.ensures in
    let byte = c.put_byte.ensures in
    let given = c.args in
    record {
      written = written_as _ _ _ _ _ _ (ap (λ (k : ℕ). line 82 (given.size ∷ k ∷ given.taps.now)) (c.from.ensures ∙ marked given.alone))
          (line-end _ _ _ _ _ _ (omega arith)
          (line-more _ _ _ _ _ _ (omega arith) (line-more _ _ _ _ _ _ (omega arith) head.written _ _ _ mark.written) _ _ _ taps.written) _ _ byte);
      upper_bound = omega (arith, byte.place);
    }
