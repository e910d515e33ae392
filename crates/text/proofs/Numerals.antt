-- The digits of a number are its numeral, one digit more at each step.
use mathlib.Core.Path.{◌≡◌, refl, sym, ap, subst, ◌∙◌}
use mathlib.Core.List.{List, [], ◌∷◌, ◌++◌}
use Prim.Native.Nat.{ℕ, zero, suc, ◌+◌, ◌-◌, ◌*◌, ◌/◌, ◌%◌, ◌^◌, ◌≤◌, ◌<◌}
use native.Mathlib.Nat.{pow-suc}
use native.Mathlib.Decide.{dec_lt}
use native.Mathlib.Omega.{arith}
use lib.ListN.{length, get_or, length-append, get_or-append}
use lib.Seq.{get_or_at}
use Rattle.text.specs.Numerals.{read_from, IsNumeral, Numerals}
use Rattle.text.specs.Text.{decimal}
use Rattle.text.proofs.Digits.{decimal-small, decimal-large}

pub read-last : (n : ℕ) (ds : List ℕ) (d : ℕ) → read_from n (ds ++ (d ∷ [])) ≡ 10 * read_from n ds + (d - 48)
unfolding read_from
read-last n [] d = refl
read-last n (c ∷ ds) d = read-last (10 * n + (c - 48)) ds d

digit : (d : ℕ) → d < 10 → IsNumeral d ((48 + d) ∷ [])
unfolding read_from
digit d h = record { some = omega arith; digits = only; no-zero-first = λ l. absurd (let z : ⊥ = omega arith in z); reads = omega arith }
  where
    only : (i : ℕ) → i < 1 → (48 ≤ get_or ((48 + d) ∷ []) i 0) × (get_or ((48 + d) ∷ []) i 0 ≤ 57)
    only zero l = (omega arith, omega arith)
    only (suc i) l = absurd (let z : ⊥ = omega arith in z)

-- a numeral of a number that is not 0 does not start with 0, even where it is one digit
starts : (m : ℕ) (t : List ℕ) → 1 ≤ m → IsNumeral m t → get_or t 0 0 ≡ 48 → ⊥
unfolding read_from
starts m [] h is e = let l = is.some in omega arith
starts m (c ∷ []) h is e = let r = is.reads in omega arith
starts m (c ∷ d ∷ t) h is e = is.no-zero-first (omega arith) e

module _ (m d : ℕ) (h : 1 ≤ m) (l : d < 10) (t : List ℕ) (is : IsNumeral m t) where
  abbrev longer : List ℕ
  longer = t ++ ((48 + d) ∷ [])

  size : length longer ≡ length t + 1
  size = length-append t ((48 + d) ∷ [])

  digits_more : (i : ℕ) → i < length longer → (48 ≤ get_or longer i 0) × (get_or longer i 0 ≤ 57)
  digits_more i b = pick (dec_lt i (length t))
    where
      pick : Dec (i < length t) → (48 ≤ get_or longer i 0) × (get_or longer i 0 ≤ 57)
      pick (yes a) =
          let e = get_or-append t ((48 + d) ∷ []) 0 i a in let q = is.digits i a in (omega arith, omega arith)
      pick (no a) =
          let e = get_or_at t (48 + d) [] 0 i (let s : length t ≡ i = omega (arith, size) in s) in (omega arith, omega arith)

  one_more : IsNumeral (10 * m + d) longer
  one_more =
      record {
        some = omega (arith, size);
        digits = digits_more;
        no-zero-first = λ b e. starts m t h is (sym (get_or-append t ((48 + d) ∷ []) 0 0 is.some) ∙ e);
        reads =
            read-last 0 t (48 + d) ∙ ap (λ (n : ℕ). 10 * n + (48 + d - 48)) is.reads
            ∙ (let e : 10 * m + (48 + d - 48) ≡ 10 * m + d = omega arith in e);
      }

small : (n : ℕ) → n < 10 → IsNumeral n (decimal n)
small n h =
    subst (IsNumeral n) (sym (decimal-small n h ∙ ap (λ (d : ℕ). (48 + d) ∷ []) (let e : n % 10 ≡ n = omega arith in e))) (digit n h)

of_size : (j n : ℕ) → n < 10 ^ suc j → n < 10 ^ 20 → IsNumeral n (decimal n)
of_size zero n h s = small n (omega (arith, pow-suc 10 0))
of_size (suc j) n h s = pick (dec_lt n 10) (of_size j (n / 10) (let e = pow-suc 10 (suc j) in omega arith) (omega arith))
  where
    pick : Dec (n < 10) → IsNumeral (n / 10) (decimal (n / 10)) → IsNumeral n (decimal n)
    pick (yes l) is = small n l
    pick (no l) is =
        subst (λ (m : ℕ). IsNumeral m (decimal n)) (let e : 10 * (n / 10) + n % 10 ≡ n = omega arith in e)
        (subst (IsNumeral (10 * (n / 10) + n % 10)) (sym (decimal-large n (omega arith) s))
        (one_more (n / 10) (n % 10) (omega arith) (omega arith) (decimal (n / 10)) is))

pub numerals : Numerals
numerals n s = of_size 19 n s s
