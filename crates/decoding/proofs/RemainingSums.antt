-- What is left of a row's check sums when the cells of a set J are taken out: the product with the locator polynomial of J. Power sums of a word become power
-- sums of the word with other weights, which are 0 exactly in J.
use mathlib.Core.Path.{◌≡◌, refl, sym, ap, ◌∙◌}
use mathlib.Core.Logic.{◌≢◌}
use mathlib.Core.Bool.{true, false}
use mathlib.Core.List.{List, [], ◌∷◌}
use Prim.Native.Nat.{ℕ, suc, ◌+◌, ◌-◌, ◌≤◌, ◌<◌}
use native.Mathlib.Omega.{arith}
use lib.Dec.{lit<}
use lib.ListN.{length, get_or}
use Rattle.algebra.specs.Sum.{pow}
use Rattle.algebra.specs.Polynomial.{Degree, conv, eval}
use Rattle.algebra.proofs.Convolution.{conv_degree}
use Rattle.algebra.proofs.Evaluation.{evaluation}
use Rattle.algebra.proofs.FieldLaws.{mul-nonzero, power-nonzero}
use Rattle.algebra.proofs.Powers.{pow-add}
use Rattle.algebra.proofs.RingLaws.{zero-mul}
use Rattle.algebra.proofs.Solver.{◌:·◌, ◌:=◌, solve}
use Rattle.algebra.proofs.Sums.{sum_ext}
use Rattle.columns.specs.Columns.{has, members}
use Rattle.columns.specs.declared.Columns.{Columns}
use Rattle.decoding.specs.Remaining.{remaining}
use Rattle.decoding.proofs.Recurrence.{power_sum}
use Rattle.decoding.proofs.RegisterPolynomial.{Symbols, entries, res-discrepancy}
use Rattle.field.proofs.Bridge.{res-zero}
use Rattle.field.proofs.Prime257.{prime_257}
use Rattle.field257.specs.LocatorPolynomial.{locator_polynomial}
use Rattle.field257.proofs.Field257.{F257, R257, res257, res-tells-zero, locator_at}
use Rattle.field257.proofs.LocatorPolynomial.{length-locator_polynomial}
use Rattle.field257.proofs.Locators.{locator-nonzero}
use Rattle.field257.proofs.Members.{size}
use Rattle.field257.proofs.SetLocator.{set_locator, set-locator_degree, set-locator-root, set-locator-no-root}
use Rattle.lists.proofs.Joined.{tabulate-each}
use Rattle.lists.proofs.Tabulated.{length-tabulate, get_d_tabulate}
use Rattle.register.specs.Register.{discrepancy}
use Rattle.register.specs.Sequences.{symbol}
use Rattle.register.proofs.Bounds.{discrepancy-less}
open F257 use {inv, mul-inv}
open R257 use {car, zero as 𝟘, mul as ◌⊗◌}

infixl 70 ◌⊗◌
-- the product past the degree looks at entries from 1 on only
pub product-same : (l : ℕ) (φ a b : ℕ → car) → Degree R257 l φ → (j : ℕ) → l < j → ((k : ℕ) → 1 ≤ k → k ≤ j → a k ≡ b k)
    → conv R257 φ a j ≡ conv R257 φ b j
product-same l φ a b degree j after same =
    conv_degree R257 l φ a j degree (omega arith)
    ∙ sum_ext R257 (suc l) _ (λ i. φ i ⊗ b (j - i)) (λ i h. ap (λ x. φ i ⊗ x) (same (j - i) (omega arith) (omega arith)))
    ∙ sym (conv_degree R257 l φ b j degree (omega arith))

-- what column i's part is multiplied with when the cells of J are taken out
pub left_weight : Columns → ℕ → car
left_weight J i = eval R257 (size J) (set_locator J) (inv (locator_at i)) ⊗ pow R257 (locator_at i) (size J)

pub left_weight-zero : (J : Columns) (i : ℕ) → i < 256 → has J i ≡ true → left_weight J i ≡ 𝟘
unfolding left_weight
left_weight-zero J i h e = ap (λ x. x ⊗ pow R257 (locator_at i) (size J)) (set-locator-root J i h e) ∙ zero-mul R257 _

pub left_weight-nonzero : (J : Columns) (i : ℕ) → i < 256 → has J i ≡ false → left_weight J i ≢ 𝟘
unfolding left_weight
left_weight-nonzero J i h e =
    mul-nonzero F257 _ _ (set-locator-no-root J i h e) (power-nonzero F257 (locator_at i) (locator-nonzero i) (size J))

module _ (J : Columns) (x : List ℕ) where
  pub length-remaining : length (remaining J x) ≡ length x - size J
  unfolding remaining
  length-remaining = length-tabulate (length x - size J) _

  pub remaining-below : (i : ℕ) → get_or (remaining J x) i 0 < 257
  unfolding remaining
  remaining-below =
      tabulate-each (λ a. a < 257) 0 (lit< tt) (length x - size J) _
      (λ j. discrepancy-less 257 (size J) (locator_polynomial (members J)) x (size J + suc j) (lit< tt))

  remaining-symbol : (j : ℕ) → 1 ≤ j → j ≤ length x - size J
      → symbol (remaining J x) j ≡ discrepancy 257 (size J) (locator_polynomial (members J)) x (size J + j)
  unfolding remaining
  remaining-symbol j one within =
      get_d_tabulate (length x - size J) (λ j. discrepancy 257 (size J) (locator_polynomial (members J)) x (size J + suc j)) (j - 1) 0 (omega arith)
      ∙ ap (λ k. discrepancy 257 (size J) (locator_polynomial (members J)) x (size J + k)) (let e : suc (j - 1) ≡ j = omega arith in e)

  pub remaining-product : (j : ℕ) → 1 ≤ j → j ≤ length x - size J
      → entries (remaining J x) j ≡ conv R257 (set_locator J) (entries x) (size J + j)
  remaining-product j one within =
      ap res257 (remaining-symbol j one within)
      ∙ res-discrepancy (size J) (locator_polynomial (members J)) (length-locator_polynomial (members J)) x (entries x) (λ _ _ _. refl) (size J + j) (omega arith)
      (omega arith)

  -- nothing is left exactly where the locator polynomial generates the sums
  pub none_left : ((j : ℕ) → j < length (remaining J x) → get_or (remaining J x) j 0 ≡ 0)
      → (j : ℕ) → size J < j → j ≤ length x → conv R257 (set_locator J) (entries x) j ≡ 𝟘
  none_left zeros j after within =
      let q : size J + (j - size J) ≡ j = omega arith in
      ap (conv R257 (set_locator J) (entries x)) (sym q)
      ∙ sym (remaining-product (j - size J) (omega arith) (omega arith))
      ∙ ap res257 (zeros (j - size J - 1) (let e = length-remaining in omega arith)) ∙ res-zero 257 prime_257

  pub left-none : ((j : ℕ) → size J < j → j ≤ length x → conv R257 (set_locator J) (entries x) j ≡ 𝟘)
      → (j : ℕ) → j < length (remaining J x) → get_or (remaining J x) j 0 ≡ 0
  left-none products j inside =
      let e = length-remaining in
      res-tells-zero _ (remaining-below j)
      (ap (λ k. res257 (get_or (remaining J x) k 0)) (let q : j ≡ suc j - 1 = omega arith in q)
      ∙ remaining-product (suc j) (omega arith) (omega arith) ∙ products (size J + suc j) (omega arith) (omega arith))

  -- power sums stay power sums
  pub remaining-power : (n : ℕ) (w : ℕ → car)
      → Symbols x (power_sum R257 n locator_at w) → Symbols (remaining J x) (power_sum R257 n locator_at (λ i. w i ⊗ left_weight J i))
  unfolding left_weight
  remaining-power n w sums j one inside =
      let within : j ≤ length x - size J = (let e = length-remaining in omega arith) in
      remaining-product j one within
      ∙ evaluation R257 n (size J) w locator_at (λ i. inv (locator_at i)) (set_locator J) (entries x) (λ i _. mul-inv (locator_at i) (locator-nonzero i))
      (set-locator_degree J) (size J + j) (omega arith) (λ k near below. sums k (omega arith) (omega arith))
      ∙ sum_ext R257 n _ _ (λ i _.
      ap (λ p. w i ⊗ eval R257 (size J) (set_locator J) (inv (locator_at i)) ⊗ p) (pow-add R257 (locator_at i) (size J) j)
      ∙ solve R257 (w i ∷ eval R257 (size J) (set_locator J) (inv (locator_at i)) ∷ pow R257 (locator_at i) (size J) ∷ pow R257 (locator_at i) j ∷ [])
      (λ a v p q. a :· v :· (p :· q) := a :· (v :· p) :· q) tt)
