-- Sequences that are power sums of words on the columns, one word for each sequence, which vanish outside a set P of columns. The locator polynomial of P
-- generates them, so their register is no longer than P has columns; where it is alone and as long, it names exactly P; and where each column of P is shown
-- by a sequence of twice as many symbols, it is alone and as long. Frames are not spoken of here.
use mathlib.Core.Path.{◌≡◌, sym, ap, ap₂, fun_ext, subst, ◌∙◌}
use mathlib.Core.Bool.{Bool, true}
use mathlib.Core.List.{List, []}
use Prim.Native.Nat.{ℕ, ◌*◌, ◌≤◌, ◌<◌}
use native.Mathlib.Decide.{dec_lt}
use native.Mathlib.Nat.{le_refl}
use native.Mathlib.Omega.{arith}
use lib.ListN.{length, get_or}
use Rattle.algebra.specs.Polynomial.{Degree, eval}
use Rattle.algebra.proofs.FieldLaws.{no-zero_divisors}
use Rattle.columns.specs.Listed.{count}
use Rattle.columns.proofs.Subset.{Within, within-le, within_same}
use Rattle.decoding.specs.Locating.{size_of, taps_of, alone_of, named, names_all}
use Rattle.decoding.proofs.ColumnRoots.{Roots, roots-at-most, roots-same, locator_of_lem, locator_of_degree, locator_of_constant, locator_of_roots}
use Rattle.decoding.proofs.NamedColumns.{columns_distinct, columns-nonzero, root-named, names-at-most, names-all}
use Rattle.decoding.proofs.Recurrence.{power_sum, roots_generate, generates-roots}
use Rattle.decoding.proofs.RegisterPolynomial.{poly257, Symbols, register_degree, register-constant, register-nonzero, register-same}
use Rattle.decoding.proofs.RegisterPolynomial.{generates-products, polynomial_generator}
use Rattle.decoding.proofs.SequenceRegister.{register_of, generator_of, same_size, alone-marked}
use Rattle.field.proofs.Polynomials.{coefficients, poly-coefficients}
use Rattle.field.proofs.Prime257.{prime_257}
use Rattle.frame.specs.Shape.{is_shape}
use Rattle.frame.specs.declared.Shape.{Shape}
use Rattle.field257.proofs.Field257.{F257, R257, locator_at}
use Rattle.field257.proofs.Words.{Outside}
use Rattle.register.specs.Register.{Register, Generator, Shortest, Alone}
open F257 use {inv}
open R257 use {car}

-- the sequences are the power sums of the words w on n columns, which vanish outside P
pub record PowerSums (n : ℕ) (P : ℕ → Bool) (w : ℕ → ℕ → R257.car) (ss : List (List ℕ)) : Type 0 where
  pub outside : (h : ℕ) → h < length ss → Outside R257 n P (w h)
  pub sums : (h : ℕ) → h < length ss → Symbols (get_or ss h []) (power_sum R257 n locator_at (w h))

-- each column of P is shown: it is in the word of a sequence that has twice as many symbols as P has columns
abbrev pub Shows : (n : ℕ) (P : ℕ → Bool) (w : ℕ → ℕ → R257.car) (ss : List (List ℕ)) → Type 0
Shows n P w ss =
    (i : ℕ) → i < n → P i ≡ true → (h : ℕ) × (h < length ss) × (w h i ≡ R257.zero → ⊥) × (2 * count n P ≤ length (get_or ss h []))

module _ (s : Shape) (shape : is_shape s ≡ true) (ss : List (List ℕ))
    {P : ℕ → Bool} {w : ℕ → ℕ → car} (power : PowerSums s.columns P w ss) where
  abbrev n : ℕ
  n = s.columns

  abbrev d : ℕ
  d = count n P

  abbrev c : ℕ
  c = size_of ss

  abbrev σ : List ℕ
  σ = taps_of ss

  -- ---- the locator polynomial of P

  abbrev Λ : ℕ → car
  Λ = locator_of_lem F257 n locator_at (columns_distinct s shape) (columns-nonzero s shape) P

  Λ-degree : Degree R257 d Λ
  Λ-degree = locator_of_degree F257 n locator_at (columns_distinct s shape) (columns-nonzero s shape) P

  Λ-roots : Roots F257 n locator_at P d Λ
  Λ-roots = locator_of_roots F257 n locator_at (columns_distinct s shape) (columns-nonzero s shape) P

  abbrev Λ-taps : List ℕ
  Λ-taps = coefficients 257 prime_257 d Λ

  Λ-generator : Generator 257 d ss Λ-taps
  Λ-generator =
      polynomial_generator d Λ Λ-degree (locator_of_constant F257 n locator_at (columns_distinct s shape) (columns-nonzero s shape) P) ss
      (λ h. power_sum R257 n locator_at (w h)) power.sums (λ h inside j after _.
      roots_generate F257 n locator_at (columns_distinct s shape) (columns-nonzero s shape) P (w h) (power.outside h inside) d Λ Λ-degree Λ-roots j after)

  pub size-at-most : size_of ss ≤ count s.columns P
  size-at-most = elim (dec_lt d c) [
    | yes nearer ↦ absurd ((register_of ss).shortest.least d nearer Λ-taps Λ-generator)
    | no farther ↦ omega arith
  ]

  -- ---- alone and as long as P has columns

  module _ (alone : alone_of ss ≡ true) (near : count s.columns P ≤ size_of ss) where
    at_c : d ≡ c
    at_c = omega (arith, size-at-most)

    same-taps : Λ-taps ≡ σ
    same-taps = (register_of ss).alone alone Λ-taps (subst (λ m. Generator 257 m ss Λ-taps) at_c Λ-generator)

    all_named : Within n P (named s σ)
    all_named i inside e = root-named s c σ (generator_of ss).register i inside
        (ap₂ (λ m τ. eval R257 m (poly257 τ) (inv (locator_at i))) (sym at_c) (sym same-taps)
        ∙ ap (λ φ. eval R257 d φ (inv (locator_at i))) (fun_ext (poly-coefficients 257 prime_257 d Λ Λ-degree)) ∙ Λ-roots i inside e)

    pub names-count : count s.columns (named s (taps_of ss)) ≡ size_of ss
    names-count = omega (arith, within-le n P (named s σ) all_named, names-at-most s c σ (generator_of ss).register shape, at_c)

    pub names_P : (i : ℕ) → i < s.columns → P i ≡ named s (taps_of ss) i
    names_P = within_same n P (named s σ) all_named (at_c ∙ sym names-count)

    pub names-enough : names_all s (taps_of ss) (size_of ss) ≡ true
    names-enough = (names-all s c σ (generator_of ss).register shape).1 names-count

  -- ---- shown by long sequences

  module _ (shown : Shows s.columns P w ss) where
    -- a register that is not longer has a root at every column of P
    roots : (l : ℕ) → l ≤ d → (τ : List ℕ) → Generator 257 l ss τ → Roots F257 n locator_at P l (poly257 τ)
    roots l short τ generator i inside e =
        let (h, row, apart, twice) = shown i inside e in
        no-zero_divisors F257 (w h i) _ apart
        (generates-roots F257 n locator_at (columns_distinct s shape) (columns-nonzero s shape) P (w h) (power.outside h row) l (poly257 τ)
        (register_degree l τ generator.register) (length (get_or ss h [])) (omega arith)
        (generates-products l τ generator.register (get_or ss h []) _ (power.sums h row) (generator.generates h row)) i inside)

    shortest : Shortest 257 d ss Λ-taps
    shortest =
        record {
          generator = Λ-generator;
          least = λ l less τ a.
              let many : d ≤ l = roots-at-most F257 n locator_at (columns_distinct s shape) (columns-nonzero s shape) P l (poly257 τ)
              (register_degree l τ a.register) (roots l (omega arith) τ a) 0 (register-nonzero l τ a.register) in
              omega arith;
        }

    only-register : Alone 257 d ss Λ-taps
    only-register τ a =
        let Λ-register : Register 257 d Λ-taps = Λ-generator.register in
        register-same d τ a.register Λ-taps Λ-register
        (roots-same F257 n locator_at (columns_distinct s shape) (columns-nonzero s shape) P (poly257 τ) (poly257 Λ-taps)
        (register_degree d τ a.register) (register_degree d Λ-taps Λ-register)
        (register-constant d τ a.register) (register-constant d Λ-taps Λ-register)
        (roots d (le_refl d) τ a) (roots d (le_refl d) Λ-taps Λ-generator))

    pub size-shown : size_of ss ≡ count s.columns P
    size-shown = sym (same_size ss d Λ-taps shortest)

    pub alone-shown : alone_of ss ≡ true
    alone-shown = alone-marked ss d Λ-taps shortest only-register
