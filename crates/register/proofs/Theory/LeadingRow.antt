-- Pivots: for each L < l a polynomial of degree at most L with constant term 1, and the symbol at which it fails with length L.
-- Its row is the position of that symbol less L; different pivots of one sequence have different rows.
-- The leading row: a polynomial of degree at most L < l is 0, or it fails with length L in the row of some pivot j ≤ L;
-- and if its constant term is not 0, not after the symbol of pivot L.
use mathlib.Core.Path.{◌≡◌, refl, sym, ap, ap₂, subst, fun_ext, ◌∙◌}
use mathlib.Core.Logic.{◌≢◌, ◌⊎◌, inl, inr, ⊎_map}
use mathlib.Core.List.{[], ◌∷◌}
use Prim.Native.Nat.{ℕ, zero, suc, ◌+◌, ◌*◌, ◌≤◌, ◌<◌}
use native.Mathlib.Decide.{dec_lt}
use native.Mathlib.Numerals.{add-one}
use native.Mathlib.Omega.{arith}
use Rattle.algebra.specs.Ring.{Field}
use Rattle.algebra.specs.Polynomial.{Degree, shift}
use Rattle.algebra.proofs.RingLaws.{neg-zero, mul-zero, zero-mul}
use Rattle.algebra.proofs.Solver.{:0, ◌:+◌, ◌:-◌, ◌:·◌, ◌:=◌, ◌:×◌:≡◌:⇒◌, solve}
use Rattle.algebra.proofs.Convolution.{shift-below, shift-tail, shift-zeros}
use Rattle.register.proofs.Theory.Places.{same-position, same-sequence}
use Rattle.register.proofs.Theory.Generates.{Sequences, Fails, gen-longer, fails-mul, fails-add, fails-shift}

module _ (F : Field) (Q : Sequences F.ring.car) where
  open F use {ring, decide}
  open F.ring use {car, zero as 𝟘, one as 𝟙, add as ◌⊕◌, mul as ◌⊗◌, neg, add-zero, add-neg, add_comm, mul-one}
  open Q use {count as t}

  infixl 60 ◌⊕◌
  infixl 70 ◌⊗◌
  -- pivots below l, of symbols before the place s
  pub record Pivots (l s : ℕ) : Type 0 where
    pub poly : ℕ → ℕ → car
    pub position : ℕ → ℕ
    pub sequence : ℕ → ℕ
    pub one : (L : ℕ) → L < l → poly L 0 ≡ 𝟙
    pub degree : (L : ℕ) → L < l → Degree ring L (poly L)
    pub fails : (L : ℕ) → L < l → Fails F Q (poly L) L (position L) (sequence L)
    pub placed : (L : ℕ) → L < l → position L * t + sequence L < s
    pub apart : (j L : ℕ) → j < L → L < l → sequence j ≡ sequence L → position j + L ≢ position L + j

  -- f is f 0 · τ plus the variable times the rest
  rest : (ℕ → car) → (ℕ → car) → ℕ → car
  rest f τ i = f (suc i) ⊕ neg (f 0 ⊗ τ (suc i))

  rest-split : (f τ : ℕ → car) → τ 0 ≡ 𝟙 → (i : ℕ) → f i ≡ f 0 ⊗ τ i ⊕ shift ring 1 (rest f τ) i
  unfolding rest
  rest-split f τ one i =
      sym (ap (λ x. f 0 ⊗ τ i ⊕ x)
      (shift-tail ring (λ j. f j ⊕ neg (f 0 ⊗ τ j))
      (ap (λ x. f 0 ⊕ neg x) (ap (λ x. f 0 ⊗ x) one ∙ mul-one (f 0)) ∙ add-neg (f 0)) i)
      ∙ solve ring (f 0 ⊗ τ i ∷ f i ∷ []) (λ a b. a :+ (b :- a) := b) tt)

  rest-zero : (f τ : ℕ → car) (i : ℕ) → f (suc i) ≡ 𝟘 → τ (suc i) ≡ 𝟘 → rest f τ i ≡ 𝟘
  unfolding rest
  rest-zero f τ i zf zτ =
      ap₂ (λ x y. x ⊕ neg (f 0 ⊗ y)) zf zτ ∙ ap (λ x. 𝟘 ⊕ neg x) (mul-zero ring (f 0)) ∙ ap (λ x. 𝟘 ⊕ x) (neg-zero ring)
      ∙ add-zero 𝟘

  module _ (l s : ℕ) (P : Pivots l s) where
    open P use {poly, position, sequence}

    -- f fails with length L at position `at`, in the row of a pivot
    pub record Leading (f : ℕ → car) (L : ℕ) : Type 0 where
      pub pivot : ℕ
      pub at : ℕ
      pub short : pivot ≤ L
      pub row : at + pivot ≡ position pivot + L
      pub fails : Fails F Q f L at (sequence pivot)
      pub early : f 0 ≢ 𝟘 → at * t + sequence pivot ≤ position L * t + sequence L

    -- f = f 0 · τ + x, where τ is the pivot L and x is 0 or fails in the row of a lower pivot
    module _ (L : ℕ) (below : L < l) (f x : ℕ → car) (parts : (i : ℕ) → f i ≡ f 0 ⊗ poly L i ⊕ x i) where
      leading-own : Fails F Q f L (position L) (sequence L) → Leading f L
      leading-own fails =
          record { pivot = L; at = position L; short = omega arith; row = refl; fails = fails; early = λ _. omega arith }

      leading-lower : (r : Leading x L) → Fails F Q f L r.at (sequence r.pivot)
          → (f 0 ≢ 𝟘 → r.at * t + sequence r.pivot ≤ position L * t + sequence L) → Leading f L
      leading-lower r fails early =
          record { pivot = r.pivot; at = r.at; short = r.short; row = r.row; fails = fails; early = early }

      own : f 0 ≢ 𝟘 → Fails F Q (λ i. f 0 ⊗ poly L i) L (position L) (sequence L)
      own nonzero = fails-mul F Q (f 0) (poly L) L (position L) (sequence L) nonzero (P.fails L below)

      -- of two parts that fail in different rows, the sum fails in the earlier one
      leading-of-sum : (r : Leading x L) → r.pivot < L → f 0 ≢ 𝟘 → Leading f L
      leading-of-sum r lower nonzero = go (dec_lt A B) (dec_lt B A)
        where
          A : ℕ
          A = position L * t + sequence L

          B : ℕ
          B = r.at * t + sequence r.pivot

          go : Dec (A < B) → Dec (B < A) → Leading f L
          go (yes h) _ =
              leading-own (subst (λ g. Fails F Q g L (position L) (sequence L)) (fun_ext (λ i. sym (parts i)))
              (fails-add F Q (λ i. f 0 ⊗ poly L i) x L (position L) (sequence L) (own nonzero)
              (gen-longer F Q x L L B (suc A) r.fails.before (omega arith) h)))
          go (no _) (yes h) =
              leading-lower r
              (subst (λ g. Fails F Q g L r.at (sequence r.pivot))
              (fun_ext (λ i. add_comm (x i) (f 0 ⊗ poly L i) ∙ sym (parts i)))
              (fails-add F Q x (λ i. f 0 ⊗ poly L i) L r.at (sequence r.pivot) r.fails
              (gen-longer F Q (λ i. f 0 ⊗ poly L i) L L A (suc B) (own nonzero).before (omega arith) h)))
              (λ _. omega arith)
          go (no h) (no k) =
              let e : r.at * t + sequence r.pivot ≡ position L * t + sequence L = omega arith in
              let hr : sequence r.pivot < t = r.fails.sequence in
              let hL : sequence L < t = (P.fails L below).sequence in
              let q : r.at ≡ position L = same-position t r.at (position L) (sequence r.pivot) (sequence L) hr hL e in
              let row : r.at + r.pivot ≡ position r.pivot + L = r.row in
              absurd (P.apart r.pivot L lower below
              (same-sequence t r.at (position L) (sequence r.pivot) (sequence L) hr hL e) (omega arith))

      leading-of-parts : ((i : ℕ) → x i ≡ 𝟘) ⊎ ((r : Leading x L) × (r.pivot < L)) → Dec (f 0 ≡ 𝟘)
          → ((i : ℕ) → f i ≡ 𝟘) ⊎ Leading f L
      leading-of-parts (inl z) (yes c) =
          inl (λ i. parts i ∙ ap₂ (λ y w. y ⊗ poly L i ⊕ w) c (z i) ∙ add-zero (𝟘 ⊗ poly L i) ∙ zero-mul ring (poly L i))
      leading-of-parts (inl z) (no c) =
          inr (leading-own (subst (λ g. Fails F Q g L (position L) (sequence L))
          (fun_ext (λ i. sym (parts i ∙ ap (λ w. f 0 ⊗ poly L i ⊕ w) (z i) ∙ add-zero (f 0 ⊗ poly L i))))
          (own c)))
      leading-of-parts (inr (r, h)) (yes c) =
          inr (leading-lower r
          (subst (λ g. Fails F Q g L r.at (sequence r.pivot))
          (fun_ext (λ i. sym (parts i
          ∙ solve ring (f 0 ∷ poly L i ∷ x i ∷ []) (λ a b w. b :× a :≡ :0 :⇒ a :· b :+ w := w) tt c)))
          r.fails)
          (λ n. absurd (n c)))
      leading-of-parts (inr (r, h)) (no c) = inr (leading-of-sum r h c)

    -- by parts, for the rest divided by the variable
    leading_step : (L : ℕ) → L < l → (f : ℕ → car)
        → ((i : ℕ) → rest f (poly L) i ≡ 𝟘) ⊎ ((r : Leading (shift ring 1 (rest f (poly L))) L) × (r.pivot < L))
        → ((i : ℕ) → f i ≡ 𝟘) ⊎ Leading f L
    leading_step L below f r =
        leading-of-parts L below f (shift ring 1 (rest f (poly L))) (rest-split f (poly L) (P.one L below))
        (⊎_map (shift-zeros ring 1 (rest f (poly L))) (λ x. x) r) (decide (f 0) 𝟘)

    leading-shift : (L : ℕ) (f : ℕ → car) → Leading f L → (r : Leading (shift ring 1 f) (suc L)) × (r.pivot < suc L)
    leading-shift L f r =
        let short : r.pivot ≤ L = r.short in
        let row : r.at + r.pivot ≡ position r.pivot + L = r.row in (
          record {
            pivot = r.pivot;
            at = r.at + 1;
            short = omega arith;
            row = omega arith;
            fails =
                subst (λ n. Fails F Q (shift ring 1 f) n (r.at + 1) (sequence r.pivot)) (add-one L)
                (fails-shift F Q 1 f L r.at (sequence r.pivot) r.fails);
            early = λ n. absurd (n (shift-below ring 1 f 0 (omega arith)));
          },
          omega arith,
        )

    pub leading : (L : ℕ) → L < l → (f : ℕ → car) → Degree ring L f → ((i : ℕ) → f i ≡ 𝟘) ⊎ Leading f L
    leading zero below f d =
        leading_step 0 below f
        (inl (λ i. rest-zero f (poly 0) i (d (suc i) (omega arith)) (P.degree 0 below (suc i) (omega arith))))
    leading (suc L) below f d =
        leading_step (suc L) below f (⊎_map (λ z. z) (leading-shift L (rest f (poly (suc L))))
        (leading L (omega arith) (rest f (poly (suc L)))
        (λ i h. rest-zero f (poly (suc L)) i (d (suc i) (omega arith)) (P.degree (suc L) below (suc i) (omega arith)))))
