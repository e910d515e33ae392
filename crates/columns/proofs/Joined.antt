-- The columns of either of two sets: its marks, its four words, and its size by inclusion and exclusion; two sets are apart where the sizes add up.
use mathlib.Core.Path.{◌≡◌, refl, sym, ap, ap₂, ◌∙◌, subst⁻¹}
use mathlib.Core.Bool.{Bool, true, false, ◌&&◌, ◌||◌, or-true, or-false, false≢true}
use mathlib.Core.List.{List, [], ◌∷◌}
use mathlib.Core.Logic.{◌⊎◌, inl, inr}
use Prim.Native.Nat.{ℕ, zero, suc, ◌+◌, ◌/◌, ◌%◌, ◌^◌, ◌≤◌, ◌<◌, zero-le}
use native.Mathlib.Decide.{dec_lt}
use native.Mathlib.Omega.{arith}
use lib.Bits.{bit_or, or_lt}
use lib.Dec.{lit<}
use lib.ListN.{length, get_or, get_or-eq_default}
use Rattle.columns.specs.declared.Columns.{Columns}
use Rattle.columns.specs.Listed.{count}
use Rattle.lists.specs.Tabulate.{tabulate}
use Rattle.lists.proofs.Filling.{by_entries}
use Rattle.columns.specs.Columns.{Apart, bit, has, marking, members, either, Sound}
use Rattle.columns.proofs.Bits.{bit-or}
use Rattle.columns.proofs.Listing.{by-test, count-zero, count-pass, count_fail, count_skip, count-lt, length-listed}
use Rattle.columns.proofs.Marks.{has-columns_of, has-past, columns_of-sound, columns_of_ext, columns_of-has, members-columns_of}

-- ---- its marks

module _ (J K : Columns) where
  pub either-sound : Sound (either J K)
  unfolding either
  either-sound = columns_of-sound (λ i. has J i || has K i)

  pub has_either : (i : ℕ) → i < 256 → has (either J K) i ≡ (has J i || has K i)
  unfolding either
  has_either i h = has-columns_of (λ i. has J i || has K i) i h

  pub either_left : (i : ℕ) → i < 256 → has J i ≡ true → has (either J K) i ≡ true
  either_left i h e = has_either i h ∙ ap (λ (b : Bool). b || has K i) e

  pub either-right : (i : ℕ) → i < 256 → has K i ≡ true → has (either J K) i ≡ true
  either-right i h e = has_either i h ∙ ap (λ (b : Bool). has J i || b) e ∙ or-true (has J i)

  pub either-neither : (i : ℕ) → i < 256 → has (either J K) i ≡ false → (has J i ≡ false) × (has K i ≡ false)
  either-neither i h e = (pick (by-test (has J i)) (either_left i h), pick (by-test (has K i)) (either-right i h))
    where
      pick : {b : Bool} → (b ≡ true) ⊎ (b ≡ false) → (b ≡ true → has (either J K) i ≡ true) → b ≡ false
      pick (inl t) marked = absurd (false≢true (sym e ∙ marked t))
      pick (inr f) marked = f

  -- of columns below n; marks from 256 on, which no value of the type has, do not matter
  pub either-below : (n : ℕ) → ((i : ℕ) → i < 256 → has J i ≡ true → i < n) → ((i : ℕ) → i < 256 → has K i ≡ true → i < n)
      → (i : ℕ) → has (either J K) i ≡ true → i < n
  either-below n bJ bK i e = pick (dec_lt i 256)
    where
      of_test : i < 256 → (has J i ≡ true) ⊎ (has J i ≡ false) → (has J i || has K i) ≡ true → i < n
      of_test low (inl t) o = bJ i low t
      of_test low (inr f) o = bK i low (sym (ap (λ (b : Bool). b || has K i) f) ∙ o)

      pick : Dec (i < 256) → i < n
      pick (yes h) = of_test h (by-test (has J i)) (sym (has_either i h) ∙ e)
      pick (no h) = absurd (false≢true (sym (has-past (either J K) either-sound i (omega arith)) ∙ e))

-- with a set that marks nothing, the columns are those of the other
pub either-none : (J K : Columns) → Sound J → ((i : ℕ) → i < 256 → has K i ≡ false) → either J K ≡ J
unfolding either
either-none J K s none =
    columns_of_ext (λ i. has J i || has K i) (has J) (λ i h. ap (λ (b : Bool). has J i || b) (none i h) ∙ or-false (has J i))
    ∙ columns_of-has J s

-- ---- its words

-- the value whose words are the `or` of the words
abbrev pub joined : Columns → Columns → Columns
joined a b = record {
  words =
      bit_or (get_or a.words 0 0) (get_or b.words 0 0) ∷ bit_or (get_or a.words 1 0) (get_or b.words 1 0)
      ∷ bit_or (get_or a.words 2 0) (get_or b.words 2 0) ∷ bit_or (get_or a.words 3 0) (get_or b.words 3 0) ∷ [];
}

module _ (a b : Columns) where
  word-joined : (w : ℕ) → w < 4 → get_or (joined a b).words w 0 ≡ bit_or (get_or a.words w 0) (get_or b.words w 0)
  word-joined zero h = refl
  word-joined (suc zero) h = refl
  word-joined (suc (suc zero)) h = refl
  word-joined (suc (suc (suc zero))) h = refl
  word-joined (suc (suc (suc (suc w)))) h = absurd (let z : ⊥ = omega arith in z)

  -- four words, each the `or` of the words there
  pub joined-words : (l : List ℕ) → length l ≡ 4 → ((w : ℕ) → w < 4 → get_or l w 0 ≡ bit_or (get_or a.words w 0) (get_or b.words w 0)) → marking l ≡ joined a b
  unfolding tabulate
  joined-words l e each = ap marking (by_entries 4 (λ w. bit_or (get_or a.words w 0) (get_or b.words w 0)) l e each)

  joined-sound : Sound a → Sound b → Sound (joined a b)
  joined-sound s t = record { four = refl; small = λ w. small w (dec_lt w 4) }
    where
      small : (w : ℕ) → Dec (w < 4) → get_or (joined a b).words w 0 < 2 ^ 64
      small w (yes h) =
          subst⁻¹ (λ (x : ℕ). x < 2 ^ 64) (word-joined w h) (or_lt 64 (get_or a.words w 0) (get_or b.words w 0) (s.small w) (t.small w))
      small w (no h) =
          subst⁻¹ (λ (x : ℕ). x < 2 ^ 64) (get_or-eq_default (joined a b).words 0 {n = w} (let l : 4 ≤ w = omega arith in l)) (lit< tt)

  has-joined : (i : ℕ) → i < 256 → has (joined a b) i ≡ (has a i || has b i)
  unfolding has
  has-joined i h =
      ap (λ (x : ℕ). bit x (i % 64)) (word-joined (i / 64) (omega arith)) ∙ bit-or (get_or a.words (i / 64) 0) (get_or b.words (i / 64) 0) (i % 64)

  pub joined_is : Sound a → Sound b → joined a b ≡ either a b
  unfolding either
  joined_is s t =
      sym (columns_of-has (joined a b) (joined-sound s t)) ∙ columns_of_ext (has (joined a b)) (λ i. has a i || has b i) has-joined

-- ---- its size

-- inclusion and exclusion: what passes either test and what passes both are together as many as pass the one and the other
pub count-either : (n : ℕ) (P Q : ℕ → Bool) → count n (λ i. P i || Q i) + count n (λ i. P i && Q i) ≡ count n P + count n Q
count-either zero P Q = omega (arith, count-zero (λ i. P i || Q i), count-zero (λ i. P i && Q i), count-zero P, count-zero Q)
count-either (suc n) P Q = step (count-either n P Q) (by-test (P n)) (by-test (Q n))
  where
    some : ℕ → Bool
    some i = P i || Q i

    both : ℕ → Bool
    both i = P i && Q i

    step : count n some + count n both ≡ count n P + count n Q → (P n ≡ true) ⊎ (P n ≡ false) → (Q n ≡ true) ⊎ (Q n ≡ false)
        → count (suc n) some + count (suc n) both ≡ count (suc n) P + count (suc n) Q
    step ih (inl p) (inl q) =
        omega (arith, count-pass n P p, count-pass n Q q, count-pass n some (ap₂ ◌||◌ p q), count-pass n both (ap₂ ◌&&◌ p q))
    step ih (inl p) (inr q) =
        omega (arith, count-pass n P p, count_fail n Q q, count-pass n some (ap₂ ◌||◌ p q), count_fail n both (ap₂ ◌&&◌ p q))
    step ih (inr p) (inl q) =
        omega (arith, count_fail n P p, count-pass n Q q, count-pass n some (ap₂ ◌||◌ p q), count_fail n both (ap₂ ◌&&◌ p q))
    step ih (inr p) (inr q) =
        omega (arith, count_fail n P p, count_fail n Q q, count_fail n some (ap₂ ◌||◌ p q), count_fail n both (ap₂ ◌&&◌ p q))

module _ (J K : Columns) where
  sizes : length (members (either J K)) + count 256 (λ i. has J i && has K i) ≡ length (members J) + length (members K)
  unfolding either
  sizes =
      omega (
        arith,
        ap length (members-columns_of (λ i. has J i || has K i)),
        length-listed 256 (λ i. has J i || has K i),
        length-listed 256 (has J),
        length-listed 256 (has K),
        count-either 256 (has J) (has K),
      )

  pub size-either : length (members (either J K)) ≤ length (members J) + length (members K)
  size-either = omega (arith, sizes)

  -- the sizes add up exactly where the sets are apart
  pub size-apart : Apart J K → length (members (either J K)) ≡ length (members J) + length (members K)
  size-apart apart = omega (arith, sizes, count_skip 0 256 (λ i. has J i && has K i) zero-le none, count-zero (λ i. has J i && has K i))
    where
      none : (i : ℕ) → 0 ≤ i → i < 256 → (has J i && has K i) ≡ false
      none i l h = pick (by-test (has J i))
        where
          pick : (has J i ≡ true) ⊎ (has J i ≡ false) → (has J i && has K i) ≡ false
          pick (inl e) = ap₂ ◌&&◌ e (apart i h e)
          pick (inr e) = ap (λ (b : Bool). b && has K i) e

  pub apart_of_size : length (members J) + length (members K) ≤ length (members (either J K)) → Apart J K
  apart_of_size many i h e = pick (by-test (has K i))
    where
      pick : (has K i ≡ true) ⊎ (has K i ≡ false) → has K i ≡ false
      pick (inl t) = absurd (let z : ⊥ = omega (arith, sizes, count-lt i 256 (λ i. has J i && has K i) h (ap₂ ◌&&◌ e t)) in z)
      pick (inr f) = f
