-- A test of a range by its comparisons, and that it says its reason: it fails exactly where the number is outside of the range.
use mathlib.Core.Path.{◌≡◌, sym, ap, ap₂, ◌∙◌}
use mathlib.Core.Logic.{◌⊎◌, inl, inr}
use mathlib.Core.Bool.{Bool, true, false, not, ◌&&◌, and-eq-true_iff, and-false, false≢true}
use Prim.Native.Nat.{ℕ, ◌≤◌, ◌<◌}
use native.Mathlib.Decide.{dec_lt}
use native.Mathlib.Omega.{arith}
use borrow.Author.Tests.{leb-true, le-leb, lt-leb}
use lib.Dec.{leb}
use Rattle.refusal.specs.Range.{in_range}
use Rattle.refusal.proofs.Orders.{Says, says-not}

module _ (lo hi n : ℕ) where
  pub below_range : n < lo → in_range lo hi n ≡ false
  below_range h = ap (λ (b : Bool). b && leb n hi) (lt-leb lo n h)

  pub above_range : hi < n → in_range lo hi n ≡ false
  above_range h = ap (λ (b : Bool). leb lo n && b) (lt-leb n hi h) ∙ and-false (leb lo n)

  pub in_range_lem : lo ≤ n → n ≤ hi → in_range lo hi n ≡ true
  in_range_lem a b = ap₂ ◌&&◌ (le-leb lo n a) (le-leb n hi b)

  pub range_most : in_range lo hi n ≡ true → n ≤ hi
  range_most e = leb-true n hi ((and-eq-true_iff (leb lo n) (leb n hi)).0 e).1

pub outside-says : (k lo hi n : ℕ)
    → Says (record { number = k; fails = not (in_range lo hi n) }) (record { number = k; holds = (n < lo) ⊎ (hi < n) })
outside-says k lo hi n = says-not k (in_range lo hi n) ((n < lo) ⊎ (hi < n)) never (λ e. pick e (dec_lt n lo) (dec_lt hi n))
  where
    never : in_range lo hi n ≡ true → (n < lo) ⊎ (hi < n) → ⊥
    never e o = let (l, h) = (and-eq-true_iff (leb lo n) (leb n hi)).0 e in off (leb-true lo n l) (leb-true n hi h) o
      where
        off : lo ≤ n → n ≤ hi → (n < lo) ⊎ (hi < n) → ⊥
        off a b (inl c) = omega arith
        off a b (inr c) = omega arith

    pick : in_range lo hi n ≡ false → Dec (n < lo) → Dec (hi < n) → (n < lo) ⊎ (hi < n)
    pick e (yes l) d = inl l
    pick e (no l) (yes h) = inr h
    pick e (no l) (no h) =
        absurd (false≢true (sym e ∙ in_range_lem lo hi n (omega arith) (omega arith)))
