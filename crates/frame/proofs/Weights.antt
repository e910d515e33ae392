-- The weights of the columns in check sums that begin at the exponent b: each is a power of the column's locator, and that of column a + k is the product of
-- those of a and of k. That of column 1 in S_j is 3^(b + j − 1).
use mathlib.Core.Path.{◌≡◌, refl, sym, ap, ap₂, ◌∙◌}
use Prim.Native.Nat.{ℕ, suc, ◌+◌, ◌-◌, ◌*◌, ◌%◌, ◌^◌}
use native.Mathlib.Nat.{add-mul}
use native.Mathlib.Omega.{arith}
use lib.Pow.{pow-add}
use Rattle.algebra.specs.Sum.{pow}
use Rattle.algebra.proofs.Powers.{pow-pow}
use Rattle.field.proofs.Bridge.{res-mod, res-mul, res-pow}
use Rattle.field.proofs.Prime257.{prime_257}
use Rattle.field257.specs.Powers.{power_of3}
use Rattle.field257.proofs.Field257.{R257, res257, locator_at}
use Rattle.frame.specs.Frame.{weight}
open R257 use {mul as ◌⊗◌}

infixl 70 ◌⊗◌
-- the power of column i's locator in check sum j + 1
abbrev pub weight_at : (b i j : ℕ) → R257.car
weight_at b i j = pow R257 (locator_at i) (b + j)

-- a weight is the power of 3 that is looked up
pub weight_is : (b i j : ℕ) → weight b i j % 257 ≡ power_of3 (i * (b + j - 1))
unfolding weight
weight_is b i j = refl

pub weight-power : (b i j : ℕ) → weight b i (suc j) % 257 ≡ power_of3 (i * (b + j))
weight-power b i j = weight_is b i (suc j) ∙ ap (λ (e : ℕ). power_of3 (i * e)) (let q : b + suc j - 1 ≡ b + j = omega arith in q)

-- what a weight is in the field: all else that is proved of check sums and completion cites these laws and does not look into `weight`
pub res-weight : (b i j : ℕ) → res257 (weight b i (suc j)) ≡ weight_at b i j
res-weight b i j =
    sym (res-mod 257 prime_257 (weight b i (suc j))) ∙ ap res257 (weight-power b i j) ∙ res-mod 257 prime_257 (3 ^ (i * (b + j)))
    ∙ res-pow 257 prime_257 3 (i * (b + j)) ∙ pow-pow R257 (res257 3) i (b + j)

pub weight-zero : (i : ℕ) → weight 0 i 1 ≡ 1
unfolding weight
weight-zero i = ap (λ (e : ℕ). 3 ^ e) (let q : i * (0 + 1 - 1) ≡ 0 = omega arith in q)

pub weight-one : (i j : ℕ) → weight 1 i j ≡ 3 ^ (i * j)
unfolding weight
weight-one i j = ap (λ (e : ℕ). 3 ^ (i * e)) (let q : 1 + j - 1 ≡ j = omega arith in q)

-- in the next check sum, or at the next exponent
pub weight-next : (b i j : ℕ) → weight (suc b) i j ≡ weight b i (suc j)
unfolding weight
weight-next b i j = ap (λ (e : ℕ). 3 ^ (i * e)) (let q : suc b + j - 1 ≡ b + suc j - 1 = omega arith in q)

weight-add : (b i k j : ℕ) → weight b (i + k) j ≡ weight b i j * weight b k j
unfolding weight
weight-add b i k j = rw (add-mul i k (b + j - 1), pow-add 3 (i * (b + j - 1)) (k * (b + j - 1)))

pub weight_at-add : (b j a k : ℕ) → weight_at b (a + k) j ≡ weight_at b a j ⊗ weight_at b k j
weight_at-add b j a k =
    sym (res-weight b (a + k) j) ∙ ap res257 (weight-add b a k (suc j)) ∙ res-mul 257 prime_257 (weight b a (suc j)) (weight b k (suc j))
    ∙ ap₂ ◌⊗◌ (res-weight b a j) (res-weight b k j)

-- the root that a row has as a polynomial where check sum j + 1 is 0
pub res-root : (b j : ℕ) → res257 (power_of3 (b + j)) ≡ weight_at b 1 j
res-root b j =
    ap (λ (e : ℕ). res257 (power_of3 e)) (let q : b + j ≡ 1 * (b + j) = omega arith in q) ∙ ap res257 (sym (weight-power b 1 j))
    ∙ res-mod 257 prime_257 (weight b 1 (suc j)) ∙ res-weight b 1 j
