-- Two sets of columns that have none in common are taken out of check sums one after the other. So where a register names as many columns as it is long,
-- nothing is left of a sequence that it generates when these are taken out, and a row none of whose declared columns is named can be completed.
use mathlib.Core.Path.{◌≡◌, refl, sym, ap, ◌∙◌}
use mathlib.Core.Bool.{Bool, true, false, ◌||◌}
use mathlib.Core.List.{List, [], ◌++◌, map}
use mathlib.Core.Logic.{◌⊎◌, inl, inr}
use Prim.Native.Nat.{ℕ, suc, ◌+◌, ◌-◌, ◌≤◌, ◌<◌}
use native.Mathlib.Omega.{arith}
use lib.ListN.{length, get_or, length-map, length-append, get_or-append}
use lib.Seq.{ext_get_or, get_or-append-add}
use Rattle.algebra.specs.Locator.{locator}
use Rattle.algebra.specs.Polynomial.{Degree, conv, eval}
use Rattle.algebra.proofs.Convolution.{conv_degree, conv_ext}
use Rattle.algebra.proofs.LocatorLaws.{locator-constant, locator_degree, locator-root}
use Rattle.algebra.proofs.LocatorProducts.{locator-append}
use Rattle.algebra.proofs.Sums.{sum_ext}
use Rattle.columns.specs.Columns.{has, either, members}
use Rattle.columns.specs.Listed.{count}
use Rattle.columns.specs.declared.Columns.{Columns}
use Rattle.columns.proofs.Joined.{has_either, size-apart}
use Rattle.columns.proofs.Listing.{by-test, count-lt, length-listed, listed_at}
use Rattle.decoding.specs.Locating.{size_of, taps_of, named_columns, names_all}
use Rattle.decoding.specs.Remaining.{remaining}
use Rattle.decoding.proofs.ColumnRoots.{roots-same}
use Rattle.decoding.proofs.NamedColumns.{named-roots, names-all, has_named, size-named, named-below}
use Rattle.decoding.proofs.RegisterPolynomial.{poly257, entries, register_degree, register-constant, generates-products}
use Rattle.decoding.proofs.RemainingSums.{length-remaining, remaining-below, remaining-product, left-none}
use Rattle.decoding.proofs.SequenceRegister.{generator_of}
use Rattle.field257.proofs.Field257.{F257, R257, res257, res-tells, locator_at}
use Rattle.field257.proofs.LocatorPolynomial.{locator-coefficients}
use Rattle.field257.proofs.Locators.{locators_distinct, locator-nonzero}
use Rattle.field257.proofs.Members.{size}
use Rattle.field257.proofs.SetLocator.{set_locator, set-locator_degree, set-locator-constant, set-locator-root}
use Rattle.frame.specs.Shape.{is_shape}
use Rattle.frame.specs.declared.Shape.{Shape}
use Rattle.lists.proofs.Mapped.{get_or_mapped}
open F257 use {inv, mul-inv}
open R257 use {car, zero as 𝟘, one as 𝟙, mul as ◌⊗◌}

infixl 70 ◌⊗◌
-- a polynomial of constant term 1, no longer than the set has columns, that vanishes at the inverse of each locator of the set is its locator polynomial
pub only-locator : (J : Columns) (φ : ℕ → car) → Degree R257 (size J) φ → φ 0 ≡ 𝟙
    → ((i : ℕ) → i < 256 → has J i ≡ true → eval R257 (size J) φ (inv (locator_at i)) ≡ 𝟘) → (k : ℕ) → φ k ≡ set_locator J k
only-locator J φ degree constant roots =
    let q : size J ≡ count 256 (has J) = length-listed 256 (has J) in
    roots-same F257 256 locator_at locators_distinct (λ i _. locator-nonzero i) (has J) φ (set_locator J)
    (λ i past. degree i (omega arith)) (λ i past. set-locator_degree J i (omega arith)) constant (set-locator-constant J)
    (λ i few e. ap (λ m. eval R257 m φ (inv (locator_at i))) (sym q) ∙ roots i few e)
    (λ i few e. ap (λ m. eval R257 m (set_locator J) (inv (locator_at i))) (sym q) ∙ set-locator-root J i few e)

module _ (J K : Columns) (apart : (i : ℕ) → i < 256 → has J i ≡ true → has K i ≡ false) where
  abbrev locs : List car
  locs = map locator_at (members J) ++ map locator_at (members K)

  sizes : size (either J K) ≡ size J + size K
  sizes = size-apart J K apart

  locs-length : length locs ≡ size (either J K)
  locs-length =
      omega (
        arith,
        length-append (map locator_at (members J)) (map locator_at (members K)),
        length-map (members J) locator_at,
        length-map (members K) locator_at,
        sizes,
      )

  -- the place of a column's locator among those of its set
  place : (L : Columns) (i : ℕ) → i < 256 → has L i ≡ true → (count i (has L) < size L) × (get_or (map locator_at (members L)) (count i (has L)) 𝟘 ≡ locator_at i)
  place L i few e =
      let inside : count i (has L) < size L = (let a = count-lt i 256 (has L) few e in let b = length-listed 256 (has L) in omega arith) in
      (inside, get_or_mapped locator_at (members L) (count i (has L)) 𝟘 inside ∙ ap locator_at (listed_at i 256 (has L) few e))

  root-at : (i k : ℕ) → k < length locs → get_or locs k 𝟘 ≡ locator_at i → eval R257 (size (either J K)) (locator R257 locs) (inv (locator_at i)) ≡ 𝟘
  root-at i k inside e =
      ap (λ m. eval R257 m (locator R257 locs) (inv (locator_at i))) (sym locs-length)
      ∙ locator-root R257 locs (inv (locator_at i)) k inside (ap (λ x. x ⊗ inv (locator_at i)) e ∙ mul-inv (locator_at i) (locator-nonzero i))

  root : (i : ℕ) → i < 256 → (has J i ≡ true) ⊎ (has K i ≡ true) → eval R257 (size (either J K)) (locator R257 locs) (inv (locator_at i)) ≡ 𝟘
  root i few (inl e) =
      let (inside, at) = place J i few e in
      let l = length-map (members J) locator_at in
      let a = length-append (map locator_at (members J)) (map locator_at (members K)) in
      root-at i (count i (has J)) (omega arith)
      (get_or-append (map locator_at (members J)) (map locator_at (members K)) 𝟘 (count i (has J)) (omega arith) ∙ at)
  root i few (inr e) =
      let (inside, at) = place K i few e in
      let l = length-map (members K) locator_at in
      let a = length-append (map locator_at (members J)) (map locator_at (members K)) in
      root-at i (length (map locator_at (members J)) + count i (has K)) (omega arith)
      (get_or-append-add (map locator_at (members J)) (map locator_at (members K)) (count i (has K)) 𝟘 ∙ at)

  both : (k : ℕ) → locator R257 locs k ≡ set_locator (either J K) k
  both =
      only-locator (either J K) (locator R257 locs) (λ i past. locator_degree R257 locs i (let q = locs-length in omega arith)) (locator-constant R257 locs)
      (λ i few e. root i few (one (by-test (has J i)) (sym (has_either J K i few) ∙ e)))
    where
      one : {a b : Bool} → (a ≡ true) ⊎ (a ≡ false) → (a || b) ≡ true → (a ≡ true) ⊎ (b ≡ true)
      one (inl t) e = inl t
      one {b = b} (inr f) e = inr (sym (ap (λ (x : Bool). x || b) f) ∙ e)

  module _ (x : List ℕ) where
    product : (m : ℕ) → conv R257 (set_locator (either J K)) (entries x) m ≡ conv R257 (set_locator J) (conv R257 (set_locator K) (entries x)) m
    product m =
        conv_ext R257 (set_locator (either J K)) (locator R257 locs) (entries x) (entries x) m (λ k _. sym (both k)) (λ _ _. refl)
        ∙ locator-append R257 (map locator_at (members J)) (map locator_at (members K)) (entries x) m
        ∙ conv_ext R257 _ (set_locator J) _ (conv R257 (set_locator K) (entries x)) m (λ k _. sym (locator-coefficients (members J) k)) (λ k _.
        conv_ext R257 _ (set_locator K) (entries x) (entries x) k (λ i _. sym (locator-coefficients (members K) i)) (λ _ _. refl))

    lengths : length (remaining (either J K) x) ≡ length (remaining J (remaining K x))
    lengths =
        omega (arith, length-remaining (either J K) x, length-remaining J (remaining K x), length-remaining K x, sizes)

    same-entry : (j : ℕ) → 1 ≤ j → j ≤ length x - size (either J K) → entries (remaining (either J K) x) j ≡ entries (remaining J (remaining K x)) j
    same-entry j one within =
        let q = sizes in
        let k = length-remaining K x in
        remaining-product (either J K) x j one within ∙ product (size (either J K) + j)
        ∙ conv_degree R257 (size J) (set_locator J) _ (size (either J K) + j) (set-locator_degree J) (omega arith)
        ∙ sum_ext R257 (suc (size J)) _ (λ i. set_locator J i ⊗ entries (remaining K x) (size J + j - i)) (λ i few.
        ap (λ y. set_locator J i ⊗ y) (ap (conv R257 (set_locator K) (entries x))
        (let e : size (either J K) + j - i ≡ size K + (size J + j - i) = omega arith in e)
        ∙ sym (remaining-product K x (size J + j - i) (omega arith) (omega arith))))
        ∙ sym (conv_degree R257 (size J) (set_locator J) (entries (remaining K x)) (size J + j) (set-locator_degree J) (omega arith))
        ∙ sym (remaining-product J (remaining K x) j one (omega arith))

    pub remaining-apart : remaining (either J K) x ≡ remaining J (remaining K x)
    remaining-apart =
        ext_get_or 0 _ _ lengths (λ j inside.
        let l = length-remaining (either J K) x in
        res-tells _ _ (remaining-below (either J K) x j) (remaining-below J (remaining K x) j)
        (ap (λ k. res257 (get_or (remaining (either J K) x) k 0)) (let e : j ≡ suc j - 1 = omega arith in e) ∙ same-entry (suc j) (omega arith) (omega arith)
        ∙ ap (λ k. res257 (get_or (remaining J (remaining K x)) k 0)) (let e : suc j - 1 ≡ j = omega arith in e)))

-- ---- the columns that a register names

module _ (s : Shape) (shape : is_shape s ≡ true) (ss : List (List ℕ)) (enough : names_all s (taps_of ss) (size_of ss) ≡ true) where
  abbrev σ : List ℕ
  σ = taps_of ss

  abbrev M : Columns
  M = named_columns s σ

  named-size : size M ≡ size_of ss
  named-size = size-named s σ shape ∙ (names-all s (size_of ss) σ (generator_of ss).register shape).0 enough

  -- its polynomial is the locator polynomial of the columns
  named-locator : (k : ℕ) → poly257 σ k ≡ set_locator M k
  named-locator =
      let g = (generator_of ss).register in
      let q = named-size in
      only-locator M (poly257 σ) (λ i past. register_degree (size_of ss) σ g i (omega arith)) (register-constant (size_of ss) σ g) (λ i few e.
      ap (λ m. eval R257 m (poly257 σ) (inv (locator_at i))) q
      ∙ named-roots s (size_of ss) σ g i (named-below s σ i e) (sym (has_named s σ i few) ∙ e))

  none-left_of : (h : ℕ) → h < length ss → (j : ℕ) → j < length (remaining M (get_or ss h [])) → get_or (remaining M (get_or ss h [])) j 0 ≡ 0
  none-left_of h inside =
      let g = generator_of ss in
      left-none M (get_or ss h []) (λ j after within.
      conv_ext R257 (set_locator M) (poly257 σ) (entries (get_or ss h [])) (entries (get_or ss h [])) j (λ k _. sym (named-locator k)) (λ _ _. refl)
      ∙ generates-products (size_of ss) σ g.register (get_or ss h []) (entries (get_or ss h [])) (λ _ _ _. refl) (g.generates h inside) j
      (let q = named-size in omega arith) within)

  -- sums of which the sequence h is left when K is taken out, and no column of K is named
  pub apart-left : (h : ℕ) → h < length ss → (K : Columns) (x : List ℕ) → get_or ss h [] ≡ remaining K x
      → ((i : ℕ) → i < 256 → has (named_columns s (taps_of ss)) i ≡ true → has K i ≡ false)
      → (j : ℕ) → j < length (remaining (either (named_columns s (taps_of ss)) K) x) → get_or (remaining (either (named_columns s (taps_of ss)) K) x) j 0 ≡ 0
  apart-left h inside K x left apart j short =
      let e : remaining (either M K) x ≡ remaining M (get_or ss h []) = remaining-apart M K apart x ∙ ap (remaining M) (sym left) in
      ap (λ (l : List ℕ). get_or l j 0) e ∙ none-left_of h inside j (let q = ap length e in omega arith)
