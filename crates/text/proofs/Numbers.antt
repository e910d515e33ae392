-- The line of a refusal tells its number; lines of other letters are not of refusals.
use mathlib.Core.Path.{◌≡◌, sym, ap, ◌∙◌}
use mathlib.Core.List.{List, [], ◌∷◌, ◌++◌}
use Prim.Native.Nat.{ℕ, ◌+◌, ◌*◌, ◌^◌, ◌<◌}
use native.Mathlib.Omega.{arith}
use lib.ListN.{drop, get_or}
use Rattle.text.specs.Line.{refusal_line}
use Rattle.text.specs.Numerals.{read_from}
use Rattle.text.specs.Text.{decimal, line}
use Rattle.text.proofs.Digits.{spaced-one}
use Rattle.text.proofs.Numerals.{read-last, numerals}

-- the newline after the digits reads as a digit 0
read-line : (k : ℕ) → k < 10 ^ 20 → read_from 0 (drop 2 (refusal_line k)) ≡ 10 * k
unfolding refusal_line line
read-line k s =
    ap (λ (t : List ℕ). read_from 0 (drop 2 (69 ∷ (t ++ (10 ∷ []))))) (spaced-one k) ∙ read-last 0 (decimal k) 10 ∙
    ap (λ (m : ℕ). 10 * m + 0) (numerals k s).reads ∙ (let d : 10 * k + 0 ≡ 10 * k = omega arith in d)

pub tells-number : (m k : ℕ) → m < 10 ^ 20 → k < 10 ^ 20 → refusal_line m ≡ refusal_line k → m ≡ k
tells-number m k a b e =
    let d : 10 * m ≡ 10 * k = sym (read-line m a) ∙ ap (λ (t : List ℕ). read_from 0 (drop 2 t)) e ∙ read-line k b in
    omega arith

pub other_letter : (letter : ℕ) (ns : List ℕ) (k : ℕ) → (letter ≡ 69 → ⊥) → line letter ns ≡ refusal_line k → ⊥
unfolding refusal_line line
other_letter letter ns k n e = n (ap (λ (t : List ℕ). get_or t 0 0) e)
