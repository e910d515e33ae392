-- A row that completes another one at a set J of columns, that is, agrees with it outside J and has its first check sums, as many as J has columns, 0: all its
-- check sums are 0 exactly where nothing is left of the other's when J is taken out.
use mathlib.Core.Path.{◌≡◌, refl, sym, ap, ◌∙◌}
use mathlib.Core.Bool.{true, false}
use mathlib.Core.List.{List, [], ◌∷◌}
use Prim.Native.Nat.{ℕ, zero, suc, ◌-◌, ◌≤◌, ◌<◌}
use native.Mathlib.Omega.{arith}
use lib.ListN.{length, get_or}
use Rattle.algebra.specs.Polynomial.{conv}
use Rattle.algebra.proofs.Convolution.{conv_ext, conv-add-right, conv_degree}
use Rattle.algebra.proofs.RingLaws.{mul-zero}
use Rattle.algebra.proofs.Solver.{:1, :neg, ◌:+◌, ◌:-◌, ◌:=◌, ◌:×◌:≡◌:⇒◌, solve}
use Rattle.algebra.proofs.Sums.{sum_zeros}
use Rattle.columns.specs.Columns.{has}
use Rattle.columns.specs.declared.Columns.{Columns}
use Rattle.decoding.specs.Remaining.{remaining}
use Rattle.decoding.proofs.FrameSums.{sums, error, error-sums, same-cell-error, res-sums, sequence-length, sequence-sums}
use Rattle.decoding.proofs.NamedColumns.{columns_distinct, columns-nonzero}
use Rattle.decoding.proofs.Recurrence.{power_sum, roots_generate, zeros-go-on}
use Rattle.decoding.proofs.RegisterPolynomial.{entries}
use Rattle.decoding.proofs.RemainingSums.{product-same, none_left, left-none}
use Rattle.field.proofs.Bridge.{res-zero}
use Rattle.field.proofs.Prime257.{prime_257}
use Rattle.frame.specs.Frame.{row, cell, check_sum, sequences}
use Rattle.frame.specs.Shape.{is_shape, checks_of}
use Rattle.frame.specs.declared.Shape.{Shape}
use Rattle.field257.proofs.Field257.{F257, R257, res257, locator_at}
use Rattle.field257.proofs.Members.{size}
use Rattle.field257.proofs.SetLocator.{set_locator, set-locator_degree, set-locator-constant, set-locator-root}
use Rattle.frame.proofs.Shapes.{shape-ranges}
open R257 use {car, zero as 𝟘, add as ◌⊕◌, mul as ◌⊗◌, neg, add-zero}

infixl 60 ◌⊕◌
infixl 70 ◌⊗◌
module _ (s : Shape) (shape : is_shape s ≡ true) (f e : List ℕ) (h : ℕ) (below : h < s.rows) (J : Columns)
    (kept : (i : ℕ) → i < s.columns → has J i ≡ false → cell s.columns e h i ≡ cell s.columns f h i) where
  abbrev b : ℕ
  b = s.exponent

  abbrev n : ℕ
  n = s.columns

  narrow : n ≤ 256
  narrow = (shape-ranges s shape).columns-most

  errors : ℕ → car
  errors = power_sum R257 n locator_at (error b n f e h)

  errors_generated : (j : ℕ) → size J < j → conv R257 (set_locator J) errors j ≡ 𝟘
  unfolding errors
  errors_generated j after =
      roots_generate F257 n locator_at (columns_distinct s shape) (columns-nonzero s shape) (has J) (error b n f e h)
      (λ i inside out. same-cell-error b n f e h i (sym (kept i inside out))) (size J) (set_locator J) (set-locator_degree J)
      (λ i inside mem. let few = narrow in set-locator-root J i (omega arith) mem) j after

  -- the products of the locator polynomial with the sums of both are the same
  same-products : (j : ℕ) → size J < j → conv R257 (set_locator J) (sums b n e h) j ≡ conv R257 (set_locator J) (sums b n f h) j
  unfolding errors
  same-products j after =
      sym (add-zero _) ∙ ap (λ x. conv R257 (set_locator J) (sums b n e h) j ⊕ x) (sym (errors_generated j after))
      ∙ sym (conv-add-right R257 (set_locator J) (sums b n e h) errors j)
      ∙ conv_ext R257 (set_locator J) (set_locator J) (λ k. sums b n e h k ⊕ errors k) (sums b n f h) j (λ _ _. refl) (λ k _.
      solve R257 (sums b n f h k ∷ sums b n e h k ∷ errors k ∷ []) (λ a c d. :neg :1 :× a :- c :≡ d :⇒ c :+ d := a) tt (error-sums b n f e h k))

  seq_length : length (get_or (sequences s f) h []) ≡ checks_of s h
  seq_length = sequence-length s f h below

  pub row-codeword : ((j : ℕ) → j < size J → check_sum s.exponent s.columns (row s.columns e h) (suc j) ≡ 0)
      → ((j : ℕ) → j < length (remaining J (get_or (sequences s f) h [])) → get_or (remaining J (get_or (sequences s f) h [])) j 0 ≡ 0)
      → (j : ℕ) → 1 ≤ j → j ≤ checks_of s h → sums s.exponent s.columns e h j ≡ 𝟘
  row-codeword zeros nothing =
      zeros-go-on R257 (size J) (checks_of s h) (set_locator J) (sums b n e h) (set-locator_degree J) (set-locator-constant J) start (λ j after within.
      same-products j after
      ∙ sym (product-same (size J) (set_locator J) (entries (get_or (sequences s f) h [])) (sums b n f h) (set-locator_degree J) j after
      (λ k one low. sequence-sums s f h below k one (let q = seq_length in omega arith)))
      ∙ none_left J (get_or (sequences s f) h []) nothing j after (let q = seq_length in omega arith))
    where
      start : (j : ℕ) → 1 ≤ j → j ≤ size J → sums b n e h j ≡ 𝟘
      start zero one few = absurd (let z : ⊥ = omega arith in z)
      start (suc j) one few = sym (res-sums b n e h (suc j) one) ∙ ap res257 (zeros j few) ∙ res-zero 257 prime_257

  pub codeword-row : ((j : ℕ) → 1 ≤ j → j ≤ checks_of s h → sums s.exponent s.columns e h j ≡ 𝟘)
      → (j : ℕ) → j < length (remaining J (get_or (sequences s f) h [])) → get_or (remaining J (get_or (sequences s f) h [])) j 0 ≡ 0
  codeword-row zero-sums =
      left-none J (get_or (sequences s f) h []) (λ j after within.
      let inside : j ≤ checks_of s h = (let q = seq_length in omega arith) in
      product-same (size J) (set_locator J) (entries (get_or (sequences s f) h [])) (sums b n f h) (set-locator_degree J) j after
      (λ k one low. sequence-sums s f h below k one (let q = seq_length in omega arith))
      ∙ sym (same-products j after)
      ∙ conv_degree R257 (size J) (set_locator J) (sums b n e h) j (set-locator_degree J) (omega arith)
      ∙ sum_zeros R257 (suc (size J)) _ (λ i few.
      ap (λ x. set_locator J i ⊗ x) (zero-sums (j - i) (omega arith) (omega arith)) ∙ mul-zero R257 (set_locator J i)))
