-- What is read off check sums with the coefficients of a column is the symbol in closed form.
use mathlib.Core.Path.{◌≡◌, sym, ap, ap₂, ◌∙◌}
use mathlib.Core.List.{[], ◌∷◌}
use Prim.Native.Nat.{ℕ, ◌-◌, ◌*◌, ◌%◌, ◌≤◌}
use native.Mathlib.Nat.{le_of_lt, mod-lt, mul_assoc, mul_comm}
use lib.Dec.{lit<}
use lib.ListN.{length, get_or}
use Rattle.algebra.proofs.Solver.{:0, ◌:-◌, ◌:·◌, ◌:=◌, solve}
use Rattle.columns.specs.Columns.{members}
use Rattle.columns.specs.declared.Columns.{Columns}
use Rattle.field.specs.Residue.{minus, times}
use Rattle.lists.specs.Total.{total}
use Rattle.field.proofs.Bridge.{res-zero, res-minus, res-times}
use Rattle.field.proofs.Prime257.{prime_257}
use Rattle.field.proofs.Remainders.{mod-mul-mod}
use Rattle.lists.proofs.Totals.{total_ext, total-mod, total-mul}
use Rattle.frame.proofs.ClosedForm.{other_columns, symbol_for}
use Rattle.field257.proofs.Field257.{R257, res257, res-tells}
use Rattle.weights.specs.Weights.{coefficient, factor_of, read_off}
open R257 use {add as ◌⊕◌, mul as ◌⊗◌, neg}

infixl 60 ◌⊕◌
infixl 70 ◌⊗◌
-- a factor of the sum, and its sign
negated : (p u : ℕ) → u ≤ 257 → minus 257 0 (times 257 p u) ≡ times 257 p (minus 257 0 u)
negated p u h =
    res-tells _ _ (mod-lt _ (lit< tt)) (mod-lt _ (lit< tt))
    (res-minus 257 prime_257 0 (times 257 p u) (le_of_lt (mod-lt (p * u) (lit< tt)))
    ∙ ap₂ (λ z x. z ⊕ neg x) (res-zero 257 prime_257) (res-times 257 prime_257 p u)
    ∙ solve R257 (res257 p ∷ res257 u ∷ []) (λ a b. :0 :- a :· b := a :· (:0 :- b)) tt
    ∙ sym (res-times 257 prime_257 p (minus 257 0 u)
    ∙ ap (λ x. res257 p ⊗ x) (res-minus 257 prime_257 0 u h ∙ ap (λ z. z ⊕ neg (res257 u)) (res-zero 257 prime_257))))

pub factored : (m c : ℕ) (f s : ℕ → ℕ) → total m (λ k. times 257 (f k) c * s k) % 257 ≡ times 257 (total m (λ k. f k * s k) % 257) c
factored m c f s =
    sym (total-mod m 257 (λ k. times 257 (f k) c * s k))
    ∙ ap (λ (t : ℕ). t % 257) (total_ext m (λ k. (times 257 (f k) c * s k) % 257) (λ k. (f k * s k * c) % 257) (λ k _. at k))
    ∙ total-mod m 257 (λ k. f k * s k * c) ∙ ap (λ (t : ℕ). t % 257) (total-mul m c (λ k. f k * s k))
    ∙ sym (mod-mul-mod (total m (λ k. f k * s k)) 257 c)
  where
    at : (k : ℕ) → (times 257 (f k) c * s k) % 257 ≡ (f k * s k * c) % 257
    at k =
        mod-mul-mod (f k * c) 257 (s k)
        ∙ ap (λ (t : ℕ). t % 257) (mul_assoc (f k) c (s k) ∙ ap (λ (t : ℕ). f k * t) (mul_comm c (s k)) ∙ sym (mul_assoc (f k) (s k) c))

pub symbol_form : (b : ℕ) (J : Columns) (s : ℕ → ℕ) (i : ℕ)
    → (let m = length (members J) in total m (λ k. coefficient b J i k * s (m - k)) % 257) ≡ symbol_for b J s (length (members J)) i
unfolding coefficient read_off factor_of
symbol_form b J s i =
    factored m (factor_of b m i (other_columns b J s i)) (λ k. get_or (other_columns b J s i) k 0) (λ k. s (m - k))
    ∙ sym (negated _ _ (le_of_lt (mod-lt _ (lit< tt))))
  where
    m : ℕ
    m = length (members J)
