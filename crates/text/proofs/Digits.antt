-- The decimal digits of a number: those of its tenth and its last; how many they are; numbers after spaces, one after another.
use mathlib.Core.Path.{◌≡◌, refl, sym, ap, ◌∙◌}
use mathlib.Core.List.{List, [], ◌∷◌, ◌++◌, append_assoc, append-nil}
use Prim.Native.Nat.{ℕ, zero, suc, ◌+◌, ◌*◌, ◌/◌, ◌%◌, ◌^◌, ◌≤◌, ◌<◌}
use native.Mathlib.Nat.{pow-suc}
use native.Mathlib.Decide.{dec_lt}
use native.Mathlib.Omega.{arith}
use lib.ListN.{length, get_or, length-append}
use borrow.Author.Tests.{lt-ltb, le-ltb}
use Rattle.text.specs.Text.{decimal_up_to, decimal, spaced}
use Rattle.text.specs.Written.{Written}
use Rattle.text.proofs.Writing.{written_as, written_then}

abbrev last : ℕ → List ℕ
last n = (48 + n % 10) ∷ []

up-to-small : (k n : ℕ) → n < 10 → decimal_up_to (suc k) n ≡ last n
unfolding decimal_up_to
up-to-small k n h = rw (lt-ltb n 10 h) refl

up-to-large : (k n : ℕ) → 10 ≤ n → decimal_up_to (suc k) n ≡ decimal_up_to k (n / 10) ++ last n
unfolding decimal_up_to
up-to-large k n h = rw (le-ltb n 10 h) refl

tenth_less : (k n : ℕ) → n < 10 ^ suc k → n / 10 < 10 ^ k
tenth_less k n h = let e = pow-suc 10 k in omega arith

-- digits enough for n are all of its digits
enough : (k n : ℕ) → n < 10 ^ suc k → decimal_up_to (suc (suc k)) n ≡ decimal_up_to (suc k) n
enough zero n h = up-to-small 1 n h ∙ sym (up-to-small 0 n h)
enough (suc k) n h = pick (dec_lt n 10) (enough k (n / 10) (tenth_less (suc k) n h))
  where
    pick : Dec (n < 10) → decimal_up_to (suc (suc k)) (n / 10) ≡ decimal_up_to (suc k) (n / 10)
        → decimal_up_to (suc (suc (suc k))) n ≡ decimal_up_to (suc (suc k)) n
    pick (yes a) e = up-to-small (suc (suc k)) n a ∙ sym (up-to-small (suc k) n a)
    pick (no a) e =
        let l : 10 ≤ n = omega arith in
        up-to-large (suc (suc k)) n l ∙ ap (λ (x : List ℕ). x ++ last n) e ∙ sym (up-to-large (suc k) n l)

pub decimal-small : (n : ℕ) → n < 10 → decimal n ≡ (48 + n % 10) ∷ []
unfolding decimal
decimal-small n h = up-to-small 19 n h

pub decimal-large : (n : ℕ) → 10 ≤ n → n < 10 ^ 20 → decimal n ≡ decimal (n / 10) ++ ((48 + n % 10) ∷ [])
unfolding decimal
decimal-large n l h =
    up-to-large 19 n l ∙ ap (λ (x : List ℕ). x ++ last n) (sym (enough 18 (n / 10) (tenth_less 19 n h)))

up-to-length : (k j n : ℕ) → Dec (n < 10) → n < 10 ^ suc j → length (decimal_up_to k n) ≤ suc j
unfolding decimal_up_to
up-to-length zero j n d h = omega arith
up-to-length (suc k) j n (yes a) h = rw (up-to-small k n a) (omega arith)
up-to-length (suc k) zero n (no a) h = absurd (a h)
up-to-length (suc k) (suc j) n (no a) h =
    let e = up-to-length k j (n / 10) (dec_lt (n / 10) 10) (tenth_less (suc j) n h) in
    rw (up-to-large k n (omega arith)) (simp length-append (omega arith))

pub decimal-length : (n : ℕ) → n < 2 ^ 16 → length (decimal n) ≤ 5
unfolding decimal
decimal-length n h = up-to-length 20 4 n (dec_lt n 10) (omega arith)

pub spaced-one : (n : ℕ) → spaced (n ∷ []) ≡ 32 ∷ decimal n
unfolding spaced
spaced-one n = ap (λ (x : List ℕ). 32 ∷ x) (append-nil (decimal n))

pub spaced-append : (xs ys : List ℕ) → spaced (xs ++ ys) ≡ spaced xs ++ spaced ys
unfolding spaced
spaced-append [] ys = refl
spaced-append (x ∷ xs) ys =
    ap (λ (t : List ℕ). 32 ∷ (decimal x ++ t)) (spaced-append xs ys) ∙
    ap (λ (t : List ℕ). 32 ∷ t) (sym (append_assoc (decimal x) (spaced xs) (spaced ys)))

-- six bytes are enough for each number of 16 bits
spaced-length : (xs : List ℕ) → ((i : ℕ) → get_or xs i 0 < 2 ^ 16) → length (spaced xs) ≤ 6 * length xs
unfolding spaced
spaced-length [] h = omega arith
spaced-length (x ∷ xs) h =
    let e = spaced-length xs (λ i. h (suc i)) in
    let d = decimal-length x (h 0) in
    simp length-append (omega arith)

-- the digits of a number of one digit are written by its byte, those of another by those of its tenth and the last byte
module _ (n : ℕ) (b : ℕ) (digit : b ≡ 48 + n % 10) where
  pub one-digit : (l : List ℕ) (at : ℕ) (m : List ℕ) (e : ℕ) → n < 10 → Written l at (b ∷ []) m e → Written l at (decimal n) m e
  one-digit l at m e h w = written_as l at (b ∷ []) (decimal n) m e (ap (λ (d : ℕ). d ∷ []) digit ∙ sym (decimal-small n h)) w

  module _ (large : 10 ≤ n) (fits : n < 2 ^ 16) where
    digits : decimal n ≡ decimal (n / 10) ++ (b ∷ [])
    digits = decimal-large n large (omega arith) ∙ ap (λ (d : ℕ). decimal (n / 10) ++ (d ∷ [])) (sym digit)

    pub last-room : length (decimal n) ≡ length (decimal (n / 10)) + 1
    last-room = ap length digits ∙ length-append (decimal (n / 10)) (b ∷ [])

    pub more-digits : (l : List ℕ) (at : ℕ) (m : List ℕ) (e : ℕ) (q : List ℕ) (f : ℕ) → e ≤ length l → Written l at (decimal (n / 10)) m e
        → Written m e (b ∷ []) q f → Written l at (decimal n) q f
    more-digits l at m e q f h w v =
        written_as l at (decimal (n / 10) ++ (b ∷ [])) (decimal n) q f (sym digits) (written_then l at (decimal (n / 10)) m e w h (b ∷ []) q f v)

pub space_then : (l : List ℕ) (at : ℕ) (m : List ℕ) (e n : ℕ) (q : List ℕ) (f : ℕ) → e ≤ length l → Written l at (32 ∷ []) m e → Written m e (decimal n) q f
    → Written l at (spaced (n ∷ [])) q f
space_then l at m e n q f h w v =
    written_as l at (32 ∷ decimal n) (spaced (n ∷ [])) q f (sym (spaced-one n)) (written_then l at (32 ∷ []) m e w h (decimal n) q f v)
