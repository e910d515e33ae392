-- Lines have a newline at their end and no other: digits and spaces are none.
use mathlib.Core.Path.{◌≡◌, refl}
use mathlib.Core.Bool.{Bool, true, false, cond}
use mathlib.Core.List.{List, [], ◌∷◌, ◌++◌}
use Prim.Native.Nat.{ℕ, zero, suc, ◌+◌, ◌/◌, ◌%◌}
use native.Mathlib.Omega.{arith}
use lib.Dec.{ltb}
use Rattle.text.specs.Line.{refusal_line}
use Rattle.text.specs.Text.{decimal_up_to, decimal, spaced, line}
use Rattle.lines.specs.Demands.{NoNewline, IsLine}

none-append : (xs ys : List ℕ) → NoNewline xs → NoNewline ys → NoNewline (xs ++ ys)
none-append [] ys a b = b
none-append (x ∷ xs) ys (n, a) b = (n, none-append xs ys a b)

none_in_digits : (k n : ℕ) → NoNewline (decimal_up_to k n)
unfolding decimal_up_to
none_in_digits zero n = tt
none_in_digits (suc k) n =
    none-append (cond (ltb n 10) [] (decimal_up_to k (n / 10))) ((48 + n % 10) ∷ []) (pick (ltb n 10) (none_in_digits k (n / 10)))
    (λ e. let z : ⊥ = omega arith in z, tt)
  where
    pick : (b : Bool) → NoNewline (decimal_up_to k (n / 10)) → NoNewline (cond b [] (decimal_up_to k (n / 10)))
    pick true a = tt
    pick false a = a

none_in_numbers : (ns : List ℕ) → NoNewline (spaced ns)
unfolding spaced decimal
none_in_numbers [] = tt
none_in_numbers (n ∷ ns) =
    (λ e. let z : ⊥ = omega arith in z, none-append (decimal n) (spaced ns) (none_in_digits 20 n) (none_in_numbers ns))

pub line-is-one : (letter : ℕ) (ns : List ℕ) → (letter ≡ 10 → ⊥) → IsLine (line letter ns)
unfolding line
line-is-one letter ns h = (letter ∷ spaced ns, refl, (h, none_in_numbers ns))

pub refusal-is-one : (k : ℕ) → IsLine (refusal_line k)
unfolding refusal_line
refusal-is-one k = line-is-one 69 (k ∷ []) (λ e. let z : ⊥ = omega arith in z)
