-- The columns of a shape have distinct locators that are not 0. The columns that taps name are the roots of their polynomial at the inverses of the
-- locators: never more than the register is long, unless all taps are 0.
use mathlib.Core.Path.{◌≡◌, sym, ap, ◌∙◌}
use mathlib.Core.Bool.{Bool, true, false, not, ◌&&◌, and-eq-true_iff, false≢true}
use mathlib.Core.List.{List}
use mathlib.Core.Logic.{◌↔◌, ◌≢◌}
use Prim.Native.Nat.{ℕ, suc, ◌≤◌, ◌<◌}
use native.Mathlib.Nat.{mod-lt}
use native.Mathlib.Decide.{dec_lt}
use native.Mathlib.Omega.{arith}
use lib.Dec.{ltb, lit<}
use lib.ListN.{length}
use borrow.Author.Tests.{ltb-false, lt-ltb, le-ltb, eqb-true, eq-eqb, not-true}
use Rattle.algebra.specs.Locator.{Distinct, Nonzero}
use Rattle.algebra.specs.Polynomial.{eval}
use Rattle.columns.specs.Columns.{columns_of, has, members}
use Rattle.columns.specs.Listed.{count}
use Rattle.columns.proofs.Listing.{count_ext, count_skip, length-listed}
use Rattle.columns.proofs.Marks.{has-columns_of, has-past, columns_of-sound, members-columns_of}
use Rattle.decoding.specs.Locating.{is_root, named, named_columns, names_all}
use Rattle.decoding.specs.NamedAlike.{NamedAlike}
use Rattle.decoding.proofs.ColumnRoots.{Roots, roots-at-most}
use Rattle.decoding.proofs.RegisterPolynomial.{poly257, register-nonzero}
use Rattle.field.specs.Coefficients.{value}
use Rattle.field.specs.Residue.{inverse}
use Rattle.field.proofs.Bridge.{res-zero, res-inverse}
use Rattle.field.proofs.Polynomials.{poly_degree}
use Rattle.field.proofs.Prime257.{prime_257}
use Rattle.field257.specs.Powers.{locator_of}
use Rattle.frame.specs.Shape.{is_shape}
use Rattle.frame.specs.declared.Shape.{Shape}
use Rattle.field257.proofs.Field257.{F257, R257, res257, res-tells-zero, locator_at, res-locator}
use Rattle.field257.proofs.LocatorPolynomial.{res-value}
use Rattle.field257.proofs.Locators.{locators_distinct, locator-nonzero}
use Rattle.field257.proofs.Members.{Below}
use Rattle.frame.proofs.Shapes.{shape-ranges}
use Rattle.register.specs.Register.{Register}
open F257 use {inv}
open R257 use {zero as 𝟘}

pub named_alike : NamedAlike
unfolding named_columns named
named_alike s t same σ = ap (λ (n : ℕ). columns_of (λ i. ltb i n && is_root σ i)) same

-- the locators of up to 256 columns
below_distinct : (n : ℕ) → n ≤ 256 → Distinct R257 n locator_at
below_distinct n few i j hi hj = locators_distinct i j (omega arith) (omega arith)

module _ (s : Shape) (shape : is_shape s ≡ true) where
  pub columns_distinct : Distinct R257 s.columns locator_at
  columns_distinct = below_distinct s.columns (shape-ranges s shape).columns-most

  pub columns-nonzero : Nonzero R257 s.columns locator_at
  columns-nonzero i _ = locator-nonzero i

-- ---- roots of taps, one more than the length c

module _ (c : ℕ) (σ : List ℕ) (taps : length σ ≡ suc c) where
  -- the value of the polynomial at the inverse of a locator
  res-root : (i : ℕ) → res257 (value 257 σ (inverse 257 (locator_of i))) ≡ eval R257 c (poly257 σ) (inv (locator_at i))
  res-root i =
      res-value c σ (inverse 257 (locator_of i)) taps
      ∙ ap (eval R257 c (poly257 σ)) (res-inverse 257 prime_257 (locator_of i) ∙ ap inv (res-locator i))

  roots-at : (n : ℕ) → Roots F257 n locator_at (is_root σ) c (poly257 σ)
  roots-at n i below e = sym (res-root i) ∙ ap res257 (eqb-true _ 0 e) ∙ res-zero 257 prime_257

  -- taps that are not all 0 have no more roots than the length
  pub roots-most : (n k : ℕ) → n ≤ 256 → poly257 σ k ≢ 𝟘 → count n (is_root σ) ≤ c
  roots-most n k few apart =
      roots-at-most F257 n locator_at (below_distinct n few) (λ i _. locator-nonzero i) (is_root σ) c (poly257 σ)
      (poly_degree 257 prime_257 c σ taps) (roots-at n) k apart

module _ (s : Shape) (c : ℕ) (σ : List ℕ) (register : Register 257 c σ) where
  taps : length σ ≡ suc c
  taps = omega (arith, register.taps)

  pub named-roots : Roots F257 s.columns locator_at (named s σ) c (poly257 σ)
  unfolding named
  named-roots i below e = roots-at c σ taps s.columns i below ((and-eq-true_iff (ltb i s.columns) _).0 e).1

  pub root-named : (i : ℕ) → i < s.columns → eval R257 c (poly257 σ) (inv (locator_at i)) ≡ 𝟘 → named s σ i ≡ true
  unfolding named value
  root-named i below e =
      (and-eq-true_iff (ltb i s.columns) _).1
      (lt-ltb i s.columns below, eq-eqb _ 0 (res-tells-zero _ (mod-lt _ (lit< tt)) (res-root c σ taps i ∙ e)))

  named_count : count s.columns (named s σ) ≡ count s.columns (is_root σ)
  unfolding named
  named_count = count_ext s.columns _ (is_root σ) (λ i below. ap (λ (b : Bool). b && is_root σ i) (lt-ltb i s.columns below))

  pub names-at-most : is_shape s ≡ true → count s.columns (named s σ) ≤ c
  names-at-most shape =
      omega (arith, named_count, roots-most c σ taps s.columns 0 (shape-ranges s shape).columns-most (register-nonzero c σ register))

  pub names-all : is_shape s ≡ true → (names_all s σ c ≡ true) ↔ (count s.columns (named s σ) ≡ c)
  unfolding names_all
  names-all shape = (
    λ e. (let least = ltb-false _ c (not-true _ e) in omega (arith, names-at-most shape)),
    λ e. ap not (le-ltb _ c (omega arith)),
  )

-- ---- the set

module _ (s : Shape) (σ : List ℕ) where
  pub named_past : (i : ℕ) → s.columns ≤ i → named s σ i ≡ false
  unfolding named
  named_past i past = ap (λ (b : Bool). b && is_root σ i) (le-ltb i s.columns past)

  pub has_named : (i : ℕ) → i < 256 → has (named_columns s σ) i ≡ named s σ i
  unfolding named_columns
  has_named i h = has-columns_of (named s σ) i h

  pub size-named : is_shape s ≡ true → length (members (named_columns s σ)) ≡ count s.columns (named s σ)
  unfolding named_columns
  size-named shape =
      let few = (shape-ranges s shape).columns-most in
      ap length (members-columns_of (named s σ)) ∙ length-listed 256 (named s σ)
      ∙ count_skip s.columns 256 (named s σ) few (λ i past _. named_past i past)

  pub named-below : Below s.columns (named_columns s σ)
  unfolding named_columns
  named-below i e = elim (dec_lt i s.columns) [
    | yes below ↦ below
    | no past ↦ absurd (false≢true (sym (outside i (omega arith) (dec_lt i 256)) ∙ e))
  ]
    where
      outside : (i : ℕ) → s.columns ≤ i → Dec (i < 256) → has (named_columns s σ) i ≡ false
      outside i past (yes h) = has_named i h ∙ named_past i past
      outside i past (no h) = has-past (named_columns s σ) (columns_of-sound (named s σ)) i (omega arith)
