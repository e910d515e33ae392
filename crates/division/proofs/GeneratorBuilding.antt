-- The generator polynomial built factor after factor: after j of them it is that of j checks. Each factor z − 3^(b + j) keeps the values at the roots so far
-- at 0, and makes that at its own root 0.
use mathlib.Core.Path.{◌≡◌, refl, sym, ap, ap₂, subst, ◌∙◌}
use mathlib.Core.List.{List, ◌∷◌}
use Prim.Native.Nat.{ℕ, zero, suc, ◌+◌, ◌-◌, ◌*◌, ◌%◌, ◌≤◌, ◌<◌}
use native.Mathlib.Decide.{dec_lt, ℕ_discrete}
use native.Mathlib.Nat.{mod-lt, one-mul, mul-zero as n-mul-zero}
use native.Mathlib.Numerals.{add-one}
use native.Mathlib.Omega.{arith}
use borrow.Rule.Slice.PartMut.{mid_of, put_mid}
use lib.Dec.{lit<}
use lib.ListN.{length, get_or}
use Rattle.algebra.proofs.RingLaws.{mul-zero, zero-mul}
use Rattle.field.proofs.Multiplication.{made, shifted-zero, shifted-suc, front_length, front-made, front_rest}
use Rattle.field.specs.Coefficients.{shifted}
use Rattle.field.proofs.Bridge.{res-zero, res-mod, res-add, res-mul}
use Rattle.field.proofs.Prime257.{prime_257}
use Rattle.frame.specs.Frame.{check_sum}
use Rattle.field257.specs.Powers.{power_of3}
use Rattle.field257.proofs.PowerTable.{power-suc}
use Rattle.frame.proofs.Weights.{weight_at, weight_at-add, res-root}
use Rattle.frame.proofs.CheckSums.{row_sum, sum-is-zero, zero_in_field}
use Rattle.field257.proofs.Field257.{symbols, R257, res257, res-negative}
use Rattle.lists.specs.Tabulate.{tabulate}
use Rattle.lists.proofs.Zeros.{zeros, zeros-entry}
use Rattle.division.specs.GeneratorPolynomial.{GeneratorPolynomial}
use Rattle.algebra.proofs.WeighedSums.{factor_multiplied}
open R257 use {zero as 𝟘, add as ◌⊕◌, mul as ◌⊗◌, neg, add-neg}

infixl 60 ◌⊕◌
infixl 70 ◌⊗◌
pub generator-none : (b : ℕ) → GeneratorPolynomial b 0 (256 ∷ zeros 64)
generator-none b = record {
  divisor = record { size = omega arith; below = small; leading = refl; past = past };
  sums = λ i h. absurd (let z : ⊥ = omega arith in z);
}
  where
    small : (k : ℕ) → get_or (256 ∷ zeros 64) k 0 < 257
    small zero = lit< tt
    small (suc k) = rw (zeros-entry 64 k) (lit< tt)

    past : (k : ℕ) → 0 < k → get_or (256 ∷ zeros 64) k 0 ≡ 0
    past zero h = absurd (let z : ⊥ = omega arith in z)
    past (suc k) h = zeros-entry 64 k

module _ (b j root : ℕ) (f : List ℕ) (a : GeneratorPolynomial b j f) (room : j + 2 - 0 ≤ length f) (power : root ≡ power_of3 (b + j)) where
  -- the root of the next factor
  pub next-root : (3 * root) % 257 ≡ power_of3 (b + (j + 1))
  next-root = ap (λ (r : ℕ). (3 * r) % 257) power ∙ power-suc (b + j) ∙ ap power_of3 (let q : suc (b + j) ≡ b + (j + 1) = omega arith in q)

  -- the coefficients that are not 0 by then
  abbrev part : List ℕ
  part = mid_of 0 (j + 2 - 0) f

  module _ (y : List ℕ) (e : y ≡ tabulate (length part) (made 257 1 (257 - root) part)) where
    abbrev after : List ℕ
    after = put_mid 0 (j + 2 - 0) f y

    pub same_length : length after ≡ length f
    same_length = front_length 257 1 (257 - root) (j + 2 - 0) f room y e

    after-entry : (k : ℕ) → k < j + 2 → get_or after k 0 ≡ made 257 1 (257 - root) f k
    after-entry k h = front-made 257 1 (257 - root) (j + 2 - 0) f room y e k (omega arith)

    after-past : (k : ℕ) → j + 2 ≤ k → get_or after k 0 ≡ 0
    after-past k h = front_rest 257 1 (257 - root) (j + 2 - 0) f room y e k (omega arith) ∙ a.divisor.past k (omega arith)

    after-below : (k : ℕ) → Dec (k < j + 2) → get_or after k 0 < 257
    after-below k (yes h) = rw (after-entry k h) (mod-lt _ (lit< tt))
    after-below k (no h) = let z = after-past k (omega arith) in omega arith

    after-leading : get_or after (suc j) 0 ≡ 256
    after-leading =
        after-entry (suc j) (omega arith)
        ∙ ap₂ (λ (below own : ℕ). (1 * below + (257 - root) * own) % 257) (shifted-suc f j ∙ a.divisor.leading) (a.divisor.past (suc j) (omega arith))
        ∙ rw (n-mul-zero (257 - root)) refl

    after-symbol : (k : ℕ) → k < suc (suc j) → symbols after k ≡ res257 (shifted 1 f k) ⊕ neg (res257 root) ⊗ symbols f k
    after-symbol k h =
        ap res257 (after-entry k (omega arith) ∙ ap (λ (n : ℕ). (n + (257 - root) * get_or f k 0) % 257) (one-mul (shifted 1 f k)))
        ∙ res-mod 257 prime_257 _ ∙ res-add 257 prime_257 (shifted 1 f k) ((257 - root) * get_or f k 0)
        ∙ ap (λ z. res257 (shifted 1 f k) ⊕ z)
        (res-mul 257 prime_257 (257 - root) (get_or f k 0)
        ∙ ap (λ z. z ⊗ symbols f k) (res-negative root (omega arith)))

    vanishes : (i : ℕ) → i < suc j → Dec (i ≡ j) → (weight_at b 1 i ⊕ neg (res257 root)) ⊗ row_sum b (suc j) (symbols f) i ≡ 𝟘
    vanishes i h (yes q) =
        ap (λ z. (weight_at b 1 i ⊕ neg z) ⊗ row_sum b (suc j) (symbols f) i)
        (ap res257 power ∙ res-root b j ∙ ap (weight_at b 1) (sym q))
        ∙ ap (λ z. z ⊗ row_sum b (suc j) (symbols f) i) (add-neg (weight_at b 1 i)) ∙ zero-mul R257 (row_sum b (suc j) (symbols f) i)
    vanishes i h (no q) =
        ap (λ z. (weight_at b 1 i ⊕ neg (res257 root)) ⊗ z) (zero_in_field b (suc j) f i (a.sums i (omega arith)))
        ∙ mul-zero R257 (weight_at b 1 i ⊕ neg (res257 root))

    after-sums : (i : ℕ) → i < suc j → check_sum b (suc (suc j)) after (suc i) ≡ 0
    after-sums i h =
        sum-is-zero b (suc (suc j)) after i
        (factor_multiplied R257 (λ k. weight_at b k i) (weight_at-add b i) (suc j) (res257 root) (symbols f) (λ k. res257 (shifted 1 f k)) (symbols after)
        (ap res257 (a.divisor.past (suc j) (omega arith)) ∙ res-zero 257 prime_257)
        (ap res257 (shifted-zero f) ∙ res-zero 257 prime_257)
        (λ k l. ap res257 (shifted-suc f k))
        after-symbol
        ∙ vanishes i h (ℕ_discrete i j))

    pub generator-more : GeneratorPolynomial b (j + 1) after
    generator-more = subst (λ (i : ℕ). GeneratorPolynomial b i after) (sym (add-one j)) (record {
      divisor = record {
        size = (let s = same_length in omega arith);
        below = λ k. after-below k (dec_lt k (j + 2));
        leading = after-leading;
        past = λ k h. after-past k (omega arith);
      };
      sums = after-sums;
    })
