-- The line of a record of sequences, by what the finder answers and leaves in its tap buffer.
use mathlib.Core.Path.{◌≡◌, sym, ap, ap₂, ◌∙◌}
use mathlib.Core.Bool.{Bool}
use mathlib.Core.List.{List}
use Prim.Native.Nat.{ℕ, suc, ◌+◌, ◌≤◌}
use native.Mathlib.Numerals.{add-one}
use native.Mathlib.Omega.{arith}
use lib.ListN.{length, take, drop, length-append}
use Rattle.std.specs.Prelude.{Result, Ok, Err}
use Rattle.finder.specs.Finder.{Answer, register, refused, answer_of, answer, taps_left}
use Rattle.finder.specs.declared.Register.{Register}
use Rattle.finder.proofs.Demands.{tap-count, taps-left, first-left}
use Rattle.refusal.specs.Number.{number}
use Rattle.refusal.specs.declared.Refusal.{Refusal}
use Rattle.register.specs.Algorithm4.{found}
use Rattle.register.specs.Sequences.{longest, split}
use Rattle.text.specs.Line.{refusal_line, register_line}
use Rattle.record.specs.Line.{output_of}
use Rattle.record.specs.Record.{sequences}
use Rattle.text.specs.Answered.{tap_count, found_line}

module _ (p : ℕ) (lengths symbols : List ℕ) where
  abbrev ss : List (List ℕ)
  ss = split lengths symbols

  abbrev taps : List ℕ
  taps = (found p ss (longest ss)).taps

  module _ (buffer left : List ℕ) (width : length buffer ≡ 129) (kept : length left ≡ length buffer)
      (written : left ≡ taps_left p lengths symbols buffer) where
    refused-line : (k : ℕ) → refused k ≡ answer p lengths symbols (length buffer) → output_of (sequences p lengths symbols) ≡ refusal_line k
    unfolding output_of register_line
    refused-line k a = ap (λ (x : Answer). register_line x taps) (ap (answer p lengths symbols) (sym width) ∙ sym a)

    module _ (l : ℕ) (a : Bool) (answered : register l a ≡ answer p lengths symbols (length buffer)) where
      taps-written : take (l + 1) left ≡ taps
      taps-written = ap₂ take (add-one l) written ∙ first-left p lengths symbols buffer l a (sym answered)

      register-line : output_of (sequences p lengths symbols) ≡ register_line (register l a) (take (l + 1) left)
      unfolding output_of
      register-line = ap₂ register_line (ap (answer p lengths symbols) (sym width) ∙ sym answered) (sym taps-written)

      taps_fit : l + 1 ≤ length left
      taps_fit =
          let e = ap length (written ∙ taps-left p lengths symbols buffer l a (sym answered)) ∙ length-append taps (drop (suc l) buffer) in
          omega (arith, tap-count p lengths symbols buffer l a (sym answered))

    pub found-taps : (r : Result Register Refusal) → answer_of r ≡ answer p lengths symbols (length buffer) → tap_count r ≤ length left
    found-taps (Ok r) e = taps_fit r.length r.alone e
    found-taps (Err k) e = omega arith

    pub found_output : (r : Result Register Refusal) → answer_of r ≡ answer p lengths symbols (length buffer) → found_line r left ≡ output_of (sequences p lengths symbols)
    found_output (Ok r) e = sym (register-line r.length r.alone e)
    found_output (Err k) e = sym (refused-line (number k) e)
