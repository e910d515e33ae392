-- The locator polynomial of a set of columns: its constant term is 1, its degree at most their number, and it vanishes at the inverse of a column's locator
-- exactly where the column is in the set.
use mathlib.Core.Path.{◌≡◌, sym, ap, ap₂, fun_ext, subst, ◌∙◌}
use mathlib.Core.Logic.{◌≢◌}
use mathlib.Core.Bool.{true, false, false≢true}
use mathlib.Core.List.{List, map}
use Prim.Native.Nat.{ℕ, ◌<◌}
use native.Mathlib.Omega.{arith}
use lib.ListN.{length, length-map}
use Rattle.algebra.specs.Locator.{locator}
use Rattle.algebra.specs.Polynomial.{Degree, eval}
use Rattle.algebra.proofs.FieldLaws.{mul-cancel, inv-nonzero}
use Rattle.algebra.proofs.LocatorLaws.{locator-constant, locator_degree, locator-root, locator-roots-only}
use Rattle.columns.specs.Columns.{has, members}
use Rattle.columns.specs.Listed.{count}
use Rattle.columns.specs.declared.Columns.{Columns}
use Rattle.columns.proofs.Listing.{count-lt, length-listed, listed_at}
use Rattle.field257.proofs.Field257.{F257, R257, symbols, locator_at}
use Rattle.field257.proofs.LocatorPolynomial.{locator-coefficients}
use Rattle.field257.proofs.Locators.{locators_distinct, locator-nonzero}
use Rattle.field257.proofs.Members.{size, member, member_below, member-has}
use Rattle.field257.specs.LocatorPolynomial.{locator_polynomial}
use Rattle.lists.proofs.Mapped.{get_or_mapped}
open F257 use {inv, mul-inv}
open R257 use {car, zero as 𝟘, one as 𝟙, mul as ◌⊗◌, mul_comm}

infixl 70 ◌⊗◌
module _ (J : Columns) where
  -- its coefficients in the field
  abbrev pub set_locator : ℕ → R257.car
  set_locator = symbols (locator_polynomial (members J))

  abbrev locs : List car
  locs = map locator_at (members J)

  locs-size : length locs ≡ size J
  locs-size = length-map (members J) locator_at

  pub set-locator-constant : set_locator 0 ≡ 𝟙
  set-locator-constant = locator-coefficients (members J) 0 ∙ locator-constant R257 locs

  pub set-locator_degree : Degree R257 (size J) set_locator
  set-locator_degree i h = locator-coefficients (members J) i ∙ locator_degree R257 locs i (let q = locs-size in omega arith)

  at-locs : (y : car) → eval R257 (size J) set_locator y ≡ eval R257 (length locs) (locator R257 locs) y
  at-locs y = ap₂ (λ m f. eval R257 m f y) (sym locs-size) (fun_ext (locator-coefficients (members J)))

  pub set-locator-root : (i : ℕ) → i < 256 → has J i ≡ true → eval R257 (size J) set_locator (inv (locator_at i)) ≡ 𝟘
  set-locator-root i h e =
      let inside : count i (has J) < size J = (let a = count-lt i 256 (has J) h e in let b = length-listed 256 (has J) in omega arith) in
      at-locs (inv (locator_at i))
      ∙ locator-root R257 locs (inv (locator_at i)) (count i (has J)) (let q = locs-size in omega arith)
      (ap (λ x. x ⊗ inv (locator_at i)) (get_or_mapped locator_at (members J) (count i (has J)) 𝟘 inside ∙ ap locator_at (listed_at i 256 (has J) h e))
      ∙ mul-inv (locator_at i) (locator-nonzero i))

  pub set-locator-no-root : (i : ℕ) → i < 256 → has J i ≡ false → eval R257 (size J) set_locator (inv (locator_at i)) ≢ 𝟘
  set-locator-no-root i h out e =
      let (p, short, root) = locator-roots-only F257 locs (inv (locator_at i)) (sym (at-locs (inv (locator_at i))) ∙ e) in
      let inside : p < size J = (let q = locs-size in omega arith) in
      let same : member J p ≡ i = locators_distinct (member J p) i (member_below J p inside) h
      (mul-cancel F257 (inv (locator_at i)) (locator_at (member J p)) (locator_at i) (inv-nonzero F257 (locator_at i) (locator-nonzero i))
      (mul_comm _ _ ∙ ap (λ x. x ⊗ inv (locator_at i)) (sym (get_or_mapped locator_at (members J) p 𝟘 inside)) ∙ root
      ∙ sym (mul-inv (locator_at i) (locator-nonzero i)) ∙ mul_comm _ _)) in
      false≢true (sym out ∙ subst (λ (k : ℕ). has J k ≡ true) same (member-has J p inside))
