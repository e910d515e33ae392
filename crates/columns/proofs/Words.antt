-- What shifts, masks, counts of ones and trailing zeros of the four words tell of the marks: the laws that the functions cite.
use mathlib.Core.Path.{◌≡◌, sym, ap, ap₂, ◌∙◌, subst⁻¹}
use mathlib.Core.Bool.{Bool, false, ◌&&◌, ◌||◌, or-false}
use mathlib.Core.Logic.{◌≢◌}
use Prim.Native.Nat.{ℕ, ◌+◌, ◌*◌, ◌-◌, ◌/◌, ◌%◌, ◌^◌, ◌≤◌, ◌<◌}
use native.Mathlib.Nat.{one-mul, pos_of_ne-zero}
use native.Mathlib.Decide.{dec_le, dec_lt, ℕ_discrete}
use native.Mathlib.Omega.{arith}
use lib.Dec.{eqb, leb}
use lib.Bits.{bit_and, bit_or, and_mask, or_lt}
use lib.Count.{count_trailing_zeros}
use lib.ListN.{get_or, set, length-set}
use lib.Seq.{get_or-set_same, get_or-set_other}
use lib.Pow.{shl_exact, shr_lt, pow-lt}
use borrow.Author.Tests.{le-leb, lt-leb, eq-eqb, ne_eqb}
use Rattle.columns.specs.declared.Columns.{Columns}
use Rattle.columns.specs.Listed.{count, least}
use Rattle.columns.specs.Columns.{bit, has, columns_of, Sound}
use Rattle.columns.proofs.Bits.{bit_shr, bit_of_zero, bit-or, bit-power, least_lt, trailing_least}
use Rattle.columns.proofs.Least.{Least, least-is, least_unique}
use Rattle.columns.proofs.Listing.{count_ext, count-split}
use Rattle.columns.proofs.Marks.{columns_of_ext, columns_of-has, has_word}

-- ---- testing a mark

pub tested : (c : Columns) (i : ℕ) → eqb (bit_and (get_or c.words (i / 64) 0 / 2 ^ (i % 64)) 1) 1 ≡ has c i
unfolding has
tested c i = ap (λ (x : ℕ). eqb x 1) (and_mask (get_or c.words (i / 64) 0 / 2 ^ (i % 64)) 1)

-- ---- setting a mark

-- c with column i set in its word
abbrev pub marked : Columns → ℕ → Columns
marked c i = record {
  words = set c.words (i / 64) (bit_or (get_or c.words (i / 64) 0) ((1 * 2 ^ (i % 64)) % 2 ^ 64));
}

module _ (c : Columns) (s : Sound c) (i : ℕ) (h : i < 256) where
  same_word : get_or (marked c i).words (i / 64) 0 ≡ bit_or (get_or c.words (i / 64) 0) (2 ^ (i % 64))
  same_word =
      get_or-set_same c.words (i / 64) (bit_or (get_or c.words (i / 64) 0) ((1 * 2 ^ (i % 64)) % 2 ^ 64)) 0 (omega (arith, s.four))
      ∙ ap (bit_or (get_or c.words (i / 64) 0)) (shl_exact {a = 1} 1 (i % 64) 64 (omega arith) (omega arith) ∙ one-mul (2 ^ (i % 64)))

  other_word : (w : ℕ) → w ≢ i / 64 → get_or (marked c i).words w 0 ≡ get_or c.words w 0
  other_word w q = get_or-set_other c.words (i / 64) w (bit_or (get_or c.words (i / 64) 0) ((1 * 2 ^ (i % 64)) % 2 ^ 64)) 0 q

  marked-sound : Sound (marked c i)
  marked-sound = record { four = length-set c.words (i / 64) _ ∙ s.four; small = λ w. small w (ℕ_discrete w (i / 64)) }
    where
      small : (w : ℕ) → Dec (w ≡ i / 64) → get_or (marked c i).words w 0 < 2 ^ 64
      small w (yes q) =
          subst⁻¹ (λ (x : ℕ). x < 2 ^ 64) (ap (λ (v : ℕ). get_or (marked c i).words v 0) q ∙ same_word)
          (or_lt 64 (get_or c.words (i / 64) 0) (2 ^ (i % 64)) (s.small (i / 64)) (pow-lt (let l : i % 64 < 64 = omega arith in l)))
      small w (no q) = subst⁻¹ (λ (x : ℕ). x < 2 ^ 64) (other_word w q) (s.small w)

  -- the marks of the value: those of c, and i
  has-marked : (k : ℕ) → has (marked c i) k ≡ (has c k || eqb k i)
  unfolding has
  has-marked k = by_word (ℕ_discrete (k / 64) (i / 64))
    where
      place : k / 64 ≡ i / 64 → Dec (k % 64 ≡ i % 64) → eqb (k % 64) (i % 64) ≡ eqb k i
      place q (yes r) = eq-eqb (k % 64) (i % 64) r ∙ sym (eq-eqb k i (omega arith))
      place q (no r) = ne_eqb (k % 64) (i % 64) r ∙ sym (ne_eqb k i (λ e. r (ap (λ (n : ℕ). n % 64) e)))

      by_word : Dec (k / 64 ≡ i / 64) → has (marked c i) k ≡ (has c k || eqb k i)
      by_word (yes q) =
          ap (λ (x : ℕ). bit x (k % 64)) (ap (λ (v : ℕ). get_or (marked c i).words v 0) q ∙ same_word)
          ∙ bit-or (get_or c.words (i / 64) 0) (2 ^ (i % 64)) (k % 64)
          ∙ ap₂ (λ (a b : Bool). a || b) (ap (λ (v : ℕ). bit (get_or c.words v 0) (k % 64)) (sym q))
          (bit-power (i % 64) (k % 64) ∙ place q (ℕ_discrete (k % 64) (i % 64)))
      by_word (no q) =
          ap (λ (x : ℕ). bit x (k % 64)) (other_word (k / 64) q) ∙ sym (or-false (has c k))
          ∙ ap (λ (b : Bool). has c k || b) (sym (ne_eqb k i (λ e. q (ap (λ (n : ℕ). n / 64) e))))

  pub marked-is : marked c i ≡ columns_of (λ k. has c k || eqb k i)
  marked-is =
      sym (columns_of-has (marked c i) marked-sound)
      ∙ columns_of_ext (has (marked c i)) (λ k. has c k || eqb k i) (λ k l. has-marked k)

-- ---- counting marks

-- one word further
pub count_word : (c : Columns) (w : ℕ) → count (64 * (w + 1)) (has c) ≡ count (64 * w) (has c) + count 64 (bit (get_or c.words w 0))
count_word c w =
    ap (λ (n : ℕ). count n (has c)) (let e : 64 * (w + 1) ≡ 64 * w + 64 = omega arith in e) ∙ count-split (64 * w) 64 (has c)
    ∙ ap (λ (n : ℕ). count (64 * w) (has c) + n) (count_ext 64 (λ k. has c (64 * w + k)) (bit (get_or c.words w 0)) (has_word c w))

-- ---- the next mark

-- no column from `from` up to `at` is marked
pub record Passed (c : Columns) (from at : ℕ) : Type 0 where
  pub within : from ≤ at
  pub none : (k : ℕ) → from ≤ k → k < at → has c k ≡ false

-- what is left of the word in which column `at` stands, shifted down to it
abbrev pub left : Columns → ℕ → ℕ
left c at = get_or c.words (at / 64) 0 / 2 ^ (at % 64)

-- its bits are the marks of the columns that follow in that word
has_left : (c : Columns) (at j : ℕ) → at % 64 + j < 64 → has c (at + j) ≡ bit (left c at) j
unfolding has
has_left c at j h =
    let p : (at + j) / 64 ≡ at / 64 = omega arith in
    let q : (at + j) % 64 ≡ at % 64 + j = omega arith in
    ap₂ (λ (v i : ℕ). bit (get_or c.words v 0) i) p q ∙ sym (bit_shr (get_or c.words (at / 64) 0) (at % 64) j)

-- the columns up to at + t are passed where the t bits above `at` are clear
further : (c : Columns) (from at t : ℕ) → Passed c from at → at % 64 + t ≤ 64 → ((j : ℕ) → j < t → bit (left c at) j ≡ false)
    → Passed c from (at + t)
further c from at t p h clear = record { within = (let w = p.within in omega arith); none = λ k f l. none k f l (dec_lt k at) }
  where
    none : (k : ℕ) → from ≤ k → k < at + t → Dec (k < at) → has c k ≡ false
    none k f l (yes b) = p.none k f b
    none k f l (no b) =
        ap (has c) (let e : k ≡ at + (k - at) = omega arith in e) ∙ has_left c at (k - at) (omega arith) ∙ clear (k - at) (omega arith)

-- a column passed is no answer
unmarked : (c : Columns) (from at : ℕ) → Passed c from at → (k : ℕ) → k < at → (leb from k && has c k) ≡ false
unmarked c from at p k l = test (dec_le from k)
  where
    test : Dec (from ≤ k) → (leb from k && has c k) ≡ false
    test (yes h) = ap₂ (λ (a b : Bool). a && b) (le-leb from k h) (p.none k h l)
    test (no h) = ap (λ (a : Bool). a && has c k) (lt-leb from k (omega arith))

pub pass-word : (c : Columns) (from at : ℕ) → Passed c from at → left c at ≡ 0 → Passed c from (at + (64 - at % 64))
pass-word c from at p e = further c from at (64 - at % 64) p (omega arith) (λ j l. ap (λ (x : ℕ). bit x j) e ∙ bit_of_zero j)

-- where all columns are passed there is no next one
pub none_left : (c : Columns) (from at : ℕ) → Passed c from at → 256 ≤ at → 256 ≡ least 256 (λ k. leb from k && has c k)
none_left c from at p h =
    least_unique 256 (λ k. leb from k && has c k) 256
    (record { within = omega arith; before = λ k l. unmarked c from at p k (omega arith); here = λ l. absurd (let z : ⊥ = omega arith in z) })

-- the trailing zeros of what is left lead to the next mark
pub found : (c : Columns) → Sound c → (from at : ℕ) → Passed c from at → at < 256 → left c at ≢ 0
    → at + count_trailing_zeros 64 (left c at) ≡ least 256 (λ k. leb from k && has c k)
found c s from at p h n =
    ap (λ (t : ℕ). at + t) zeros ∙ least_unique 256 (λ k. leb from k && has c k) (at + r)
    (record {
      within = omega (arith, in_word);
      before = λ k l. unmarked c from (at + r) (further c from at r p (omega (arith, in_word)) lowest.before) k l;
      here = λ l. ap₂ (λ (a b : Bool). a && b) (le-leb from (at + r) (let w = p.within in omega arith))
          (has_left c at r (omega (arith, in_word)) ∙ lowest.here in_word);
    })
  where
    room : ℕ
    room = 64 - at % 64

    r : ℕ
    r = least room (bit (left c at))

    lowest : Least room (bit (left c at)) r
    lowest = least-is room (bit (left c at))

    in_word : r < room
    in_word =
        let e : room + at % 64 ≡ 64 = omega arith in
        least_lt room (left c at)
        (shr_lt room (at % 64) (subst⁻¹ (λ (m : ℕ). get_or c.words (at / 64) 0 < 2 ^ m) e (s.small (at / 64))))
        (pos_of_ne-zero n)

    zeros : count_trailing_zeros 64 (left c at) ≡ r
    zeros =
        trailing_least 64 (left c at)
        ∙ sym (least_unique 64 (bit (left c at)) r (record {
          within = omega (arith, in_word);
          before = lowest.before;
          here = λ l. lowest.here in_word;
        }))
