-- The check sums of a frame in the field of residues modulo 257, as power sums of a word for each row, and what it means there that a frame is a codeword.
-- The word of a row is its symbols, each scaled so that the sum S_j weighs it with power j of its locator. The sequences have these sums as symbols.
use mathlib.Core.Path.{◌≡◌, sym, ap, ap₂, ◌∙◌}
use mathlib.Core.Logic.{◌≢◌}
use mathlib.Core.List.{List, [], ◌∷◌}
use Prim.Native.Nat.{ℕ, zero, suc, ◌-◌, ◌≤◌, ◌<◌}
use native.Mathlib.Omega.{arith}
use lib.Dec.{lit<}
use lib.ListN.{length, get_or}
use Rattle.algebra.specs.Sum.{pow}
use Rattle.algebra.proofs.FieldLaws.{mul-cancel, mul-nonzero, power-nonzero, inv-nonzero}
use Rattle.algebra.proofs.Powers.{pow-add, pow-suc}
use Rattle.algebra.proofs.RingLaws.{eq_of_sub-zero}
use Rattle.algebra.proofs.Solver.{:1, ◌:-◌, ◌:·◌, :neg, ◌:=◌, ◌:×◌:≡◌:⇒◌, solve}
use Rattle.algebra.proofs.Sums.{sum_ext, sum-add, sum-neg}
use Rattle.decoding.proofs.Recurrence.{power_sum}
use Rattle.decoding.proofs.RegisterPolynomial.{Symbols}
use Rattle.field.proofs.Bridge.{res-zero}
use Rattle.field.proofs.Prime257.{prime_257}
use Rattle.frame.specs.Frame.{row, cell, check_sum, check_sums, row_sums, sequences, Codeword}
use Rattle.frame.specs.Shape.{checks_of}
use Rattle.frame.specs.declared.Shape.{Shape}
use Rattle.frame.proofs.CheckSums.{check_sum-below, res-check_sum}
use Rattle.field257.proofs.Field257.{F257, R257, res257, res-tells, res-tells-zero, locator_at}
use Rattle.frame.proofs.HeldSums.{length-row_sums}
use Rattle.field257.proofs.Locators.{locator-nonzero}
use Rattle.frame.proofs.Rows.{row-cell}
use Rattle.lists.proofs.Joined.{tabulate-each}
use Rattle.lists.proofs.Tabulated.{get_d_tabulate}
use Rattle.register.specs.Sequences.{symbol}
open F257 use {inv, mul-inv}
open R257 use {car, zero as 𝟘, add as ◌⊕◌, mul as ◌⊗◌, neg, add-neg, mul_comm}

infixl 60 ◌⊕◌
infixl 70 ◌⊗◌
-- ---- the word of a row

scale : (b i : ℕ) → car
scale b i = pow R257 (locator_at i) b ⊗ inv (locator_at i)

scale-nonzero : (b i : ℕ) → scale b i ≢ 𝟘
unfolding scale
scale-nonzero b i =
    mul-nonzero F257 _ _ (power-nonzero F257 (locator_at i) (locator-nonzero i) b) (inv-nonzero F257 (locator_at i) (locator-nonzero i))

-- the symbol of row h at column i, scaled
word : (b n : ℕ) (f : List ℕ) (h i : ℕ) → car
word b n f h i = res257 (cell n f h i) ⊗ scale b i

pub sums : (b n : ℕ) (f : List ℕ) (h : ℕ) → ℕ → car
sums b n f h = power_sum R257 n locator_at (word b n f h)

pub res-sums : (b n : ℕ) (f : List ℕ) (h j : ℕ) → 1 ≤ j → res257 (check_sum b n (row n f h) j) ≡ sums b n f h j
unfolding word sums scale
res-sums b n f h zero l = absurd (let z : ⊥ = omega arith in z)
res-sums b n f h (suc j) l =
    res-check_sum b n (row n f h) j
    ∙ sum_ext R257 n _ _ (λ i below.
    let X : car = locator_at i in
    ap₂ ◌⊗◌ (ap res257 (row-cell n f h i below)) (pow-add R257 X b j)
    ∙ solve R257 (res257 (cell n f h i) ∷ pow R257 X b ∷ pow R257 X j ∷ X ∷ inv X ∷ [])
    (λ c q p x y. :neg (c :· q :· p) :× x :· y :≡ :1 :⇒ c :· (q :· p) := c :· (q :· y) :· (p :· x)) tt (mul-inv X (locator-nonzero i))
    ∙ ap (λ y. word b n f h i ⊗ y) (sym (pow-suc R257 X j)))

-- ---- the difference of two frames

pub error : (b n : ℕ) (f g : List ℕ) (h i : ℕ) → car
error b n f g h i = word b n f h i ⊕ neg (word b n g h i)

pub error-sums : (b n : ℕ) (f g : List ℕ) (h j : ℕ)
    → sums b n f h j ⊕ neg (sums b n g h j) ≡ power_sum R257 n locator_at (error b n f g h) j
unfolding sums error
error-sums b n f g h j =
    ap (λ x. sums b n f h j ⊕ x) (sym (sum-neg R257 n (λ i. word b n g h i ⊗ pow R257 (locator_at i) j)))
    ∙ sym (sum-add R257 n _ _)
    ∙ sum_ext R257 n _ _ (λ i _.
    solve R257 (word b n f h i ∷ word b n g h i ∷ pow R257 (locator_at i) j ∷ []) (λ a c p. a :· p :- c :· p := (a :- c) :· p) tt)

pub same-cell-error : (b n : ℕ) (f g : List ℕ) (h i : ℕ) → cell n f h i ≡ cell n g h i → error b n f g h i ≡ 𝟘
unfolding word error
same-cell-error b n f g h i e = ap (λ x. word b n f h i ⊕ neg (res257 x ⊗ scale b i)) (sym e) ∙ add-neg (word b n f h i)

pub error-same-cell : (b n : ℕ) (f g : List ℕ) (h i : ℕ) → cell n f h i < 257 → cell n g h i < 257
    → error b n f g h i ≡ 𝟘 → cell n f h i ≡ cell n g h i
unfolding word error
error-same-cell b n f g h i lf lg e =
    res-tells (cell n f h i) (cell n g h i) lf lg
    (mul-cancel F257 (scale b i) _ _ (scale-nonzero b i) (mul_comm _ _ ∙ eq_of_sub-zero R257 (word b n f h i) (word b n g h i) e ∙ mul_comm _ _))

-- ---- codewords

pub codeword-sums : (s : Shape) (f : List ℕ) → Codeword s f
    → (h j : ℕ) → h < s.rows → 1 ≤ j → j ≤ checks_of s h → sums s.exponent s.columns f h j ≡ 𝟘
codeword-sums s f code h j below one within =
    sym (res-sums s.exponent s.columns f h j one) ∙ ap res257 (code h j below one within) ∙ res-zero 257 prime_257

pub sums-codeword : (s : Shape) (f : List ℕ)
    → ((h j : ℕ) → h < s.rows → 1 ≤ j → j ≤ checks_of s h → sums s.exponent s.columns f h j ≡ 𝟘) → Codeword s f
sums-codeword s f zeros h j below one within =
    res-tells-zero _ (check_sum-below s.exponent s.columns (row s.columns f h) j)
    (res-sums s.exponent s.columns f h j one ∙ zeros h j below one within)

-- ---- the sequences of a frame

module _ (s : Shape) (f : List ℕ) (h : ℕ) (below : h < s.rows) where
  abbrev b : ℕ
  b = s.exponent

  abbrev n : ℕ
  n = s.columns

  sequence-at : get_or (sequences s f) h [] ≡ row_sums s f h
  unfolding sequences
  sequence-at = get_d_tabulate s.rows (row_sums s f) h [] below

  pub sequence-length : length (get_or (sequences s f) h []) ≡ checks_of s h
  sequence-length = ap length sequence-at ∙ length-row_sums s f h

  sequence-symbol : (j : ℕ) → 1 ≤ j → j ≤ checks_of s h → symbol (get_or (sequences s f) h []) j ≡ check_sum b n (row n f h) j
  unfolding row_sums check_sums
  sequence-symbol j one within =
      ap (λ x. symbol x j) sequence-at
      ∙ get_d_tabulate (checks_of s h) (λ k. check_sum b n (row n f h) (suc k)) (j - 1) 0 (omega arith)
      ∙ ap (check_sum b n (row n f h)) (let e : suc (j - 1) ≡ j = omega arith in e)

  pub sequence-sums : Symbols (get_or (sequences s f) h []) (sums s.exponent s.columns f h)
  sequence-sums j one within =
      ap res257 (sequence-symbol j one (let e = sequence-length in omega arith)) ∙ res-sums b n f h j one

  pub sequence-below : (j : ℕ) → get_or (get_or (sequences s f) h []) j 0 < 257
  unfolding row_sums check_sums
  sequence-below j =
      rw sequence-at (tabulate-each (λ x. x < 257) 0 (lit< tt) (checks_of s h) _ (λ k. check_sum-below b n (row n f h) (suc k)) j)
