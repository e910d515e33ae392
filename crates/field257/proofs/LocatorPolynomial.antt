-- The locator polynomial of columns, a list of coefficients, is in the field that of their locators; its value is the polynomial's value there.
use mathlib.Core.Path.{◌≡◌, refl, sym, ap, fun_ext, ◌∙◌}
use mathlib.Core.List.{List, [], ◌∷◌, map}
use Prim.Native.Nat.{ℕ, zero, suc, ◌-◌, ◌*◌, ◌^◌, ◌<◌}
use native.Mathlib.Nat.{mod-lt, le_of_lt}
use native.Mathlib.Decide.{dec_lt}
use native.Mathlib.Omega.{arith}
use lib.Dec.{lit<}
use borrow.Author.Tests.{le-ltb}
use lib.ListN.{length, get_or, length-map, get_or-eq_default}
use Rattle.algebra.specs.Locator.{unit, factor, locator}
use Rattle.algebra.specs.Polynomial.{eval}
use Rattle.algebra.specs.Sum.{sum}
use Rattle.algebra.proofs.Evaluation.{eval-sum}
use Rattle.algebra.proofs.LocatorLaws.{locator_degree}
use Rattle.algebra.proofs.Solver.{:0, ◌:-◌, ◌:·◌, ◌:=◌, solve}
use Rattle.algebra.proofs.Sums.{sum_ext}
use Rattle.field.specs.Coefficients.{shifted, reduced, value}
use Rattle.field.specs.Residue.{minus, times}
use Rattle.field.proofs.Bridge.{res-zero, res_one, res-mod, res-mul, res-pow, res-total, res-minus, res-times}
use Rattle.field.proofs.Prime257.{prime_257}
use Rattle.lists.proofs.Tabulated.{length-tabulate, get_d_tabulate}
use Rattle.field257.proofs.Field257.{symbols, R257, res257, locator_at, res-locator}
use Rattle.field257.specs.LocatorPolynomial.{locator_polynomial}
use Rattle.field257.specs.Powers.{locator_of}
open R257 use {add as ◌⊕◌, mul as ◌⊗◌, neg}

infixl 60 ◌⊕◌
infixl 70 ◌⊗◌
pub length-locator_polynomial : (is : List ℕ) → length (locator_polynomial is) ≡ suc (length is)
unfolding locator_polynomial reduced
length-locator_polynomial [] = refl
length-locator_polynomial (i ∷ is) = length-tabulate (suc (length (locator_polynomial is))) _ ∙ ap suc (length-locator_polynomial is)

-- coefficient k of f times 1 − x·z, where k is at most l
pub factor-entry : (i l : ℕ) (f : List ℕ) (k : ℕ) → k < suc l
    → symbols (reduced 257 l f (locator_of i) 1 f) k ≡ factor R257 (locator_at i) (symbols f) k
unfolding reduced shifted factor
factor-entry i l f k h =
    ap res257 (get_d_tabulate (suc l) (λ k. minus 257 (get_or f k 0) (times 257 (locator_of i) (shifted 1 f k))) k 0 h)
    ∙ res-minus 257 prime_257 (get_or f k 0) (times 257 (locator_of i) (shifted 1 f k)) (le_of_lt (mod-lt (locator_of i * shifted 1 f k) (lit< tt)))
    ∙ ap (λ x. symbols f k ⊕ neg x) (res-times 257 prime_257 (locator_of i) (shifted 1 f k) ∙ ap (λ x. x ⊗ res257 (shifted 1 f k)) (res-locator i))
    ∙ of_place k
  where
    of_place : (k : ℕ) → symbols f k ⊕ neg (locator_at i ⊗ res257 (shifted 1 f k)) ≡ factor R257 (locator_at i) (symbols f) k
    of_place zero =
        ap (λ x. symbols f 0 ⊕ neg (locator_at i ⊗ x)) (res-zero 257 prime_257)
        ∙ solve R257 (symbols f 0 ∷ locator_at i ∷ []) (λ c x. c :- x :· :0 := c) tt
    of_place (suc k) =
        ap (λ x. symbols f (suc k) ⊕ neg (locator_at i ⊗ res257 x))
        (rw (le-ltb (suc k) 1 (omega arith)) (ap (λ (j : ℕ). get_or f j 0) (let q : suc k - 1 ≡ k = omega arith in q)))

pub locator-coefficients : (is : List ℕ) (k : ℕ) → symbols (locator_polynomial is) k ≡ locator R257 (map locator_at is) k
unfolding locator_polynomial locator unit
locator-coefficients [] zero = res_one 257 prime_257
locator-coefficients [] (suc k) = res-zero 257 prime_257
locator-coefficients (i ∷ is) k = pick (fun_ext (locator-coefficients is)) (dec_lt k (suc (length f)))
  where
    f : List ℕ
    f = locator_polynomial is

    pick : symbols f ≡ locator R257 (map locator_at is) → Dec (k < suc (length f))
        → symbols (locator_polynomial (i ∷ is)) k ≡ locator R257 (map locator_at (i ∷ is)) k
    pick ih (yes h) = factor-entry i (length f) f k h ∙ ap (λ g. factor R257 (locator_at i) g k) ih
    pick ih (no past) =
        ap res257 (get_or-eq_default (locator_polynomial (i ∷ is)) 0 {n = k}
        (let e = length-locator_polynomial (i ∷ is) in let q = length-locator_polynomial is in omega arith))
        ∙ res-zero 257 prime_257
        ∙ sym (locator_degree R257 (map locator_at (i ∷ is)) k (let e = length-map (i ∷ is) locator_at in let q = length-locator_polynomial is in omega arith))

pub res-value : (l : ℕ) (σ : List ℕ) (y : ℕ) → length σ ≡ suc l → res257 (value 257 σ y) ≡ eval R257 l (symbols σ) (res257 y)
unfolding value
res-value l σ y e =
    res-mod 257 prime_257 _ ∙ res-total 257 prime_257 (length σ) (λ k. get_or σ k 0 * y ^ k)
    ∙ ap (λ m. sum R257 m (λ k. res257 (get_or σ k 0 * y ^ k))) e
    ∙ sum_ext R257 (suc l) _ _ (λ k _. res-mul 257 prime_257 (get_or σ k 0) (y ^ k) ∙ ap (λ x. symbols σ k ⊗ x) (res-pow 257 prime_257 y k))
    ∙ sym (eval-sum R257 l (symbols σ) (res257 y))
