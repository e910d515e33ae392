-- A row y that is x with the symbols of a set of columns, in closed form, added in the set: its first check sums, as many as the set has columns, are 0.
use mathlib.Core.Path.{◌≡◌, refl, sym, ap, ◌∙◌}
use mathlib.Core.Bool.{true, false}
use mathlib.Core.List.{List, [], ◌∷◌}
use Prim.Native.Nat.{ℕ, zero, suc, ◌+◌, ◌%◌, ◌≤◌, ◌<◌}
use native.Mathlib.Decide.{dec_lt}
use native.Mathlib.Omega.{arith}
use lib.ListN.{length, get_or, get_or-eq_default}
use Rattle.algebra.proofs.Solver.{:0, :1, ◌:+◌, ◌:-◌, :neg, ◌:=◌, ◌:×◌:≡◌:⇒◌, solve}
use Rattle.columns.specs.Columns.{has}
use Rattle.columns.specs.declared.Columns.{Columns}
use Rattle.field.proofs.Bridge.{res-add, res_same}
use Rattle.field.proofs.Prime257.{prime_257}
use Rattle.field257.proofs.Field257.{R257, res257, symbols}
use Rattle.field257.proofs.Members.{size, Below}
use Rattle.frame.specs.Frame.{check_sum}
use Rattle.frame.proofs.CheckSums.{row_sum, res-check_sum, row_sum-sub, sum-is-zero}
use Rattle.frame.proofs.ClosedForm.{symbol_for, symbols-sum}
open R257 use {car, zero as 𝟘, add as ◌⊕◌, neg, add-neg}

infixl 60 ◌⊕◌
module _ (b n : ℕ) (J : Columns) (narrow : n ≤ 256) (below : Below n J) (x y : List ℕ) (x-size : length x ≡ n) (y-size : length y ≡ n)
    (outside : (i : ℕ) → i < n → has J i ≡ false → get_or y i 0 ≡ get_or x i 0)
    (inside : (i : ℕ) → i < n → has J i ≡ true → get_or y i 0 % 257 ≡ (get_or x i 0 + symbol_for b J (check_sum b n x) (size J) i) % 257) where
  -- what is put into the columns of the set
  abbrev put : ℕ → car
  put i = symbols y i ⊕ neg (symbols x i)

  put-outside : (i : ℕ) → has J i ≡ false → put i ≡ 𝟘
  put-outside i f = ap (λ (c : ℕ). res257 c ⊕ neg (symbols x i)) (same (dec_lt i n)) ∙ add-neg (symbols x i)
    where
      same : Dec (i < n) → get_or y i 0 ≡ get_or x i 0
      same (yes h) = outside i h f
      same (no h) = get_or-eq_default y 0 (omega arith) ∙ sym (get_or-eq_default x 0 (omega arith))

  put-inside : (i : ℕ) → has J i ≡ true → put i ≡ res257 (symbol_for b J (check_sum b n x) (size J) i)
  put-inside i t =
      let s : ℕ = symbol_for b J (check_sum b n x) (size J) i in
      ap (λ c. c ⊕ neg (symbols x i)) ((res_same 257 prime_257 (get_or y i 0) (get_or x i 0 + s)).1 (inside i (below i t) t) ∙ res-add 257 prime_257 (get_or x i 0) s)
      ∙ solve R257 (symbols x i ∷ res257 s ∷ []) (λ a c. a :+ c :- a := c) tt

  pub sums_gone : (j : ℕ) → j < size J → check_sum b n y (suc j) ≡ 0
  sums_gone j h = pick (size J) refl h
    where
      pick : (m : ℕ) → size J ≡ m → j < m → check_sum b n y (suc j) ≡ 0
      pick zero e l = absurd (let z : ⊥ = omega arith in z)
      pick (suc d) e l =
          sum-is-zero b n y j
          (solve R257 (row_sum b n (symbols y) j ∷ row_sum b n (symbols x) j ∷ row_sum b n put j ∷ [])
          (λ c a p. :neg :1 :× p :≡ c :- a :⇒ :1 :× p :≡ :neg a :⇒ c := :0) tt
          (row_sum-sub b n (symbols y) (symbols x) j)
          (symbols-sum b J (check_sum b n x) d e n narrow below put put-outside put-inside j l ∙ ap neg (res-check_sum b n x j)))
