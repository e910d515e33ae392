-- Synthetic division of the locator polynomial of a set by the factor of a member gives the locator polynomial of the other members.
use mathlib.Core.Path.{◌≡◌, sym, ap, ap₂, fun_ext, ◌∙◌}
use mathlib.Core.List.{List, [], ◌∷◌, ◌++◌, map}
use Prim.Native.Nat.{ℕ, zero, suc, ◌+◌, ◌*◌, ◌<◌}
use native.Mathlib.Nat.{mod-lt}
use native.Mathlib.Omega.{arith}
use lib.Dec.{lit<}
use lib.ListN.{length, get_or, take, drop, length-append, length-drop}
use lib.Seq.{length-take-le, split_at}
use Rattle.algebra.specs.Locator.{factor, locator}
use Rattle.algebra.proofs.Solver.{:0, ◌:+◌, ◌:-◌, ◌:·◌, ◌:=◌, solve}
use Rattle.columns.specs.Columns.{members}
use Rattle.columns.specs.declared.Columns.{Columns}
use Rattle.field.proofs.Bridge.{res-zero, res-mod, res-add, res-mul}
use Rattle.field.proofs.Prime257.{prime_257}
use Rattle.field257.specs.LocatorPolynomial.{locator_polynomial}
use Rattle.frame.specs.Completion.{without}
use Rattle.field257.specs.Powers.{locator_of}
use Rattle.field257.proofs.Field257.{symbols, R257, res257, res-tells, locator_at, res-locator}
use Rattle.field257.proofs.LocatorPolynomial.{length-locator_polynomial, locator-coefficients}
use Rattle.field257.proofs.Members.{members_distinct}
use Rattle.frame.proofs.Others.{without-one}
use Rattle.lists.specs.Tabulate.{tabulate}
use Rattle.lists.proofs.Filling.{by_entries}
use Rattle.weights.specs.Weights.{carried}
use Rattle.weights.proofs.Division.{carried-zero, carried-suc}
use Rattle.field257.proofs.LocatorBuilding.{polynomial_below}
use Rattle.algebra.proofs.LocatorOrder.{locator-middle}
open R257 use {car, add as ◌⊕◌, mul as ◌⊗◌, neg}

infixl 60 ◌⊕◌
infixl 70 ◌⊗◌
-- what is carried is the quotient, where f is the product
carried-quotient : (f : List ℕ) (i : ℕ) (q : ℕ → R257.car) → ((k : ℕ) → symbols f k ≡ factor R257 (locator_at i) q k)
    → (k : ℕ) → res257 (carried f (locator_of i) (suc k)) ≡ q k
unfolding factor
carried-quotient f i q e zero =
    ap res257 (carried-suc f (locator_of i) 0) ∙ res-mod 257 prime_257 _ ∙ res-add 257 prime_257 _ _
    ∙ ap₂ ◌⊕◌ (e 0) (res-mul 257 prime_257 _ _ ∙ ap₂ ◌⊗◌ (res-locator i) (ap res257 (carried-zero f (locator_of i)) ∙ res-zero 257 prime_257))
    ∙ solve R257 (q 0 ∷ locator_at i ∷ []) (λ a x. a :+ x :· :0 := a) tt
carried-quotient f i q e (suc k) =
    ap res257 (carried-suc f (locator_of i) (suc k)) ∙ res-mod 257 prime_257 _ ∙ res-add 257 prime_257 _ _
    ∙ ap₂ ◌⊕◌ (e (suc k)) (res-mul 257 prime_257 _ _ ∙ ap₂ ◌⊗◌ (res-locator i) (carried-quotient f i q e k))
    ∙ solve R257 (q (suc k) ∷ locator_at i ∷ q k ∷ []) (λ a x b. a :- x :· b :+ x :· b := a) tt

carried-below : (f : List ℕ) (x k : ℕ) → carried f x (suc k) < 257
carried-below f x k = rw (carried-suc f x k) (mod-lt (get_or f k 0 + x * carried f x k) (lit< tt))

module _ (J : Columns) (a i : ℕ) (h : a < length (members J)) (here : get_or (members J) a 0 ≡ i) where
  abbrev others : List ℕ
  others = without i (members J)

  gap : others ≡ take a (members J) ++ drop (suc a) (members J)
  gap = without-one i (members J) a h here (λ p l n e. n (members_distinct J p a l h (e ∙ sym here)))

  length-others : suc (length others) ≡ length (members J)
  length-others =
      let q = ap length gap ∙ length-append (take a (members J)) (drop (suc a) (members J)) in
      let t = length-take-le a (members J) (omega arith) in
      let d = length-drop (suc a) (members J) in
      omega arith

  -- the factor of the member is taken out
  taken_out : (k : ℕ) → symbols (locator_polynomial (members J)) k ≡ factor R257 (locator_at i) (symbols (locator_polynomial others)) k
  taken_out k =
      locator-coefficients (members J) k
      ∙ ap (λ (l : List ℕ). locator R257 (map locator_at l) k)
      (split_at (members J) a 0 h ∙ ap (λ (m : ℕ). take a (members J) ++ m ∷ drop (suc a) (members J)) here)
      ∙ ap (λ g. g k) (locator-middle R257 locator_at (take a (members J)) i (drop (suc a) (members J)))
      ∙ ap (λ (l : List ℕ). factor R257 (locator_at i) (locator R257 (map locator_at l)) k) (sym gap)
      ∙ ap (λ g. factor R257 (locator_at i) g k) (sym (fun_ext (locator-coefficients others)))

  pub quotient-others : (f : List ℕ) → ((k : ℕ) → get_or f k 0 ≡ get_or (locator_polynomial (members J)) k 0)
      → tabulate (length (members J)) (λ k. carried f (locator_of i) (suc k)) ≡ locator_polynomial others
  quotient-others f e =
      sym (by_entries (length (members J)) (λ k. carried f (locator_of i) (suc k)) (locator_polynomial others)
      (length-locator_polynomial others ∙ length-others) (λ k l.
      res-tells _ _ (polynomial_below others k) (carried-below f (locator_of i) k)
      (sym (carried-quotient f i (symbols (locator_polynomial others)) (λ k. ap res257 (e k) ∙ taken_out k) k))))
