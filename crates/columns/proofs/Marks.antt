-- Laws of sets of columns: a value of four 64-bit words is told by its marks, `columns_of` makes the one with given marks, and its members are listed
-- rising, as many as there are marks.
use mathlib.Core.Path.{◌≡◌, refl, sym, ap, ap₂, ◌∙◌, subst⁻¹}
use mathlib.Core.Bool.{Bool, true, false, ◌||◌, or-true, or-false}
use mathlib.Core.List.{List, [], ◌∷◌}
use mathlib.Core.Logic.{◌≢◌}
use Prim.Native.Nat.{ℕ, zero, suc, ◌+◌, ◌*◌, ◌/◌, ◌%◌, ◌^◌, ◌≤◌, ◌<◌}
use native.Mathlib.Nat.{div-add-mod}
use native.Mathlib.Decide.{dec_lt, ℕ_discrete}
use native.Mathlib.Omega.{arith}
use mir.Syntax.{w64}
use mir.Val.{Fits}
use lib.Dec.{eqb, lit<}
use lib.ListN.{length, get_or, get_or-eq_default}
use lib.Seq.{ext_get_or}
use borrow.Author.Tests.{eq-eqb, ne_eqb}
use Rattle.columns.specs.declared.Columns.{Columns}
use Rattle.columns.specs.Listed.{listed}
use Rattle.columns.specs.Columns.{bit, number, has, marking, columns_of, members, Sound}
use Rattle.columns.proofs.Bits.{bit_of_zero, bit-number, number_lt, number_ext, number_bit}
use Rattle.columns.proofs.Listing.{count-le, length-listed, listed_ext}

-- from what a function is told of its parameter: `sound c (search needs) (λ w. search needs)`
pub sound : (c : Columns) → length c.words ≡ 4 → ((w : ℕ) → Fits w64 (get_or c.words w 0)) → Sound c
sound c four fits = record { four = four; small = λ w. (fits w).fits }

-- word w of the value with given marks
pub word : (P : ℕ → Bool) (w : ℕ) → w < 4 → get_or (columns_of P).words w 0 ≡ number 64 (λ k. P (64 * w + k))
unfolding columns_of
word P zero h = refl
word P (suc zero) h = refl
word P (suc (suc zero)) h = refl
word P (suc (suc (suc zero))) h = refl
word P (suc (suc (suc (suc w)))) h = absurd (let z : ⊥ = omega arith in z)

-- with no marks it is 0
pub none-marked : marking (0 ∷ 0 ∷ 0 ∷ 0 ∷ []) ≡ columns_of (λ k. false)
unfolding number columns_of
none-marked = refl

pub columns_of-sound : (P : ℕ → Bool) → Sound (columns_of P)
unfolding columns_of
columns_of-sound P = record { four = refl; small = λ w. small w (dec_lt w 4) }
  where
    small : (w : ℕ) → Dec (w < 4) → get_or (columns_of P).words w 0 < 2 ^ 64
    small w (yes h) = subst⁻¹ (λ (x : ℕ). x < 2 ^ 64) (word P w h) (number_lt 64 (λ k. P (64 * w + k)))
    small w (no h) =
        subst⁻¹ (λ (x : ℕ). x < 2 ^ 64) (get_or-eq_default (columns_of P).words 0 {n = w} (let l : 4 ≤ w = omega arith in l)) (lit< tt)

pub has-columns_of : (P : ℕ → Bool) (k : ℕ) → k < 256 → has (columns_of P) k ≡ P k
unfolding has
has-columns_of P k h =
    let w : k / 64 < 4 = omega arith in
    ap (λ (x : ℕ). bit x (k % 64)) (word P (k / 64) w)
    ∙ bit-number 64 (λ j. P (64 * (k / 64) + j)) (k % 64) (omega arith) ∙ ap P (div-add-mod k 64)

-- no column from 256 on is marked
pub has-past : (c : Columns) → Sound c → (k : ℕ) → 256 ≤ k → has c k ≡ false
unfolding has
has-past c s k h =
    ap (λ (x : ℕ). bit x (k % 64)) (get_or-eq_default c.words 0 {n = k / 64} (let f = s.four in omega arith))
    ∙ bit_of_zero (k % 64)

-- two values with the same four words are equal
by-words : (c d : Columns) → Sound c → Sound d → ((w : ℕ) → w < 4 → get_or c.words w 0 ≡ get_or d.words w 0) → c ≡ d
by-words c d s t h =
    let of-list : List ℕ → Columns = λ l. record { words = l } in
    ap of-list (ext_get_or 0 c.words d.words (s.four ∙ sym t.four) (λ w l. h w (let f = s.four in omega arith)))

-- marks that agree make the same value
pub columns_of_ext : (P Q : ℕ → Bool) → ((k : ℕ) → k < 256 → P k ≡ Q k) → columns_of P ≡ columns_of Q
columns_of_ext P Q h =
    by-words (columns_of P) (columns_of Q) (columns_of-sound P) (columns_of-sound Q) (λ w l.
    word P w l ∙ number_ext 64 (λ k. P (64 * w + k)) (λ k. Q (64 * w + k)) (λ k m. h (64 * w + k) (omega arith)) ∙ sym (word Q w l))

-- the marks of a word
pub has_word : (c : Columns) (w k : ℕ) → k < 64 → has c (64 * w + k) ≡ bit (get_or c.words w 0) k
unfolding has
has_word c w k h =
    let p : (64 * w + k) / 64 ≡ w = omega arith in
    let q : (64 * w + k) % 64 ≡ k = omega arith in
    ap₂ (λ (v j : ℕ). bit (get_or c.words v 0) j) p q

-- a value is made by its marks
pub columns_of-has : (c : Columns) → Sound c → columns_of (has c) ≡ c
columns_of-has c s =
    by-words (columns_of (has c)) c (columns_of-sound (has c)) s (λ w l.
    word (has c) w l ∙ number_ext 64 (λ k. has c (64 * w + k)) (bit (get_or c.words w 0)) (λ k m. has_word c w k m)
    ∙ number_bit 64 (get_or c.words w 0) (s.small w))

-- ---- members

pub members-columns_of : (P : ℕ → Bool) → members (columns_of P) ≡ listed 256 P
members-columns_of P = listed_ext 256 (has (columns_of P)) P (has-columns_of P)

pub size-most : (c : Columns) → length (members c) ≤ 256
size-most c = omega (arith, length-listed 256 (has c), count-le 256 (has c))

-- ---- adding a column

-- i joins the columns with P, and these are now the columns with Q
pub columns_of-add : (r : Columns) (P Q : ℕ → Bool) (i : ℕ) → r ≡ columns_of P → Q i ≡ true → ((k : ℕ) → k ≢ i → P k ≡ Q k)
    → columns_of (λ k. has r k || eqb k i) ≡ columns_of Q
columns_of-add r P Q i p e h = columns_of_ext (λ k. has r k || eqb k i) Q (λ k l. at k l (ℕ_discrete k i))
  where
    at : (k : ℕ) → k < 256 → Dec (k ≡ i) → (has r k || eqb k i) ≡ Q k
    at k l (yes q) = ap (λ (b : Bool). has r k || b) (eq-eqb k i q) ∙ or-true (has r k) ∙ sym e ∙ ap Q (sym q)
    at k l (no q) =
        ap₂ (λ (d : Columns) (b : Bool). has d k || b) p (ne_eqb k i q) ∙ or-false (has (columns_of P) k) ∙ has-columns_of P k l ∙ h k q
