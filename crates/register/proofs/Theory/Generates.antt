-- A polynomial f generates sequences with length l up to a place: its products with the sequences vanish at all symbols before
-- that place which length l asks for. It fails at a symbol where it generates up to that symbol and its product there is not 0.
-- Both are kept by multiples, by a shift (length and place grow with it), and failing by adding what generates further.
use mathlib.Core.Path.{◌≡◌, sym, ap, ap₂, subst₂, ◌∙◌}
use mathlib.Core.Logic.{◌≢◌}
use Prim.Native.Nat.{ℕ, suc, ◌+◌, ◌-◌, ◌*◌, ◌≤◌, ◌<◌}
use native.Mathlib.Nat.{add-mul}
use native.Mathlib.Decide.{dec_lt}
use native.Mathlib.Omega.{arith}
use Rattle.algebra.specs.Ring.{Field}
use Rattle.algebra.specs.Polynomial.{Degree, conv, shift}
use Rattle.algebra.proofs.RingLaws.{neg-zero, mul-zero}
use Rattle.algebra.proofs.FieldLaws.{mul-nonzero}
use Rattle.algebra.proofs.Convolution.{conv-add, conv-mul, conv-sub, conv-shift}
use Rattle.register.proofs.Theory.Places.{same-position, same-sequence}

-- Sequences that end at the same position: sequence h < count starts after position lag h.
pub record Sequences (A : Type 0) : Type 0 where
  pub count : ℕ
  pub lag : ℕ → ℕ
  pub symbol : ℕ → ℕ → A

module _ (F : Field) (Q : Sequences F.ring.car) where
  open F use {ring}
  open F.ring use {car, zero as 𝟘, one as 𝟙, add as ◌⊕◌, mul as ◌⊗◌, neg, add-zero}
  open Q use {count as t, lag, symbol}

  infixl 60 ◌⊕◌
  infixl 70 ◌⊗◌
  -- the discrepancy of f at position m of sequence g
  abbrev pub disc : (ℕ → car) → ℕ → ℕ → car
  disc f g m = conv ring f (symbol g) m

  abbrev pub Gen : (ℕ → car) → ℕ → ℕ → Type 0
  Gen f l s = (g m : ℕ) → g < t → l + lag g < m → m * t + g < s → disc f g m ≡ 𝟘

  -- f is a register of length l that generates up to the place s
  pub record Register (f : ℕ → car) (l s : ℕ) : Type 0 where
    pub one : f 0 ≡ 𝟙
    pub degree : Degree ring l f
    pub gen : Gen f l s

  -- with length l it fails first at position n of sequence h
  pub record Fails (f : ℕ → car) (l n h : ℕ) : Type 0 where
    pub sequence : h < t
    pub asked : l + lag h < n
    pub before : Gen f l (n * t + h)
    pub nonzero : disc f h n ≢ 𝟘

  pub gen-longer : (f : ℕ → car) (l l' s s' : ℕ) → Gen f l s → l ≤ l' → s' ≤ s → Gen f l' s'
  gen-longer f l l' s s' gen hl hs g m hg hm h = gen g m hg (omega arith) (omega arith)

  -- one symbol further
  pub gen-next : (f : ℕ → car) (l n h : ℕ) → h < t → Gen f l (n * t + h) → (l + lag h < n → disc f h n ≡ 𝟘)
      → Gen f l (suc (n * t + h))
  gen-next f l n h sequence gen here g m hg hm q = go (dec_lt (m * t + g) (n * t + h))
    where
      go : Dec (m * t + g < n * t + h) → disc f g m ≡ 𝟘
      go (yes b) = gen g m hg hm b
      go (no b) =
          let same : m * t + g ≡ n * t + h = omega arith in
          let p : m ≡ n = same-position t m n g h hg sequence same in
          let r : g ≡ h = same-sequence t m n g h hg sequence same in
          ap₂ (λ x y. disc f x y) r p ∙ here (subst₂ (λ x y. l + lag x < y) r p hm)

  pub gen-add : (f f' : ℕ → car) (l s : ℕ) → Gen f l s → Gen f' l s → Gen (λ i. f i ⊕ f' i) l s
  gen-add f f' l s gen gen' g m hg hm h =
      conv-add ring f f' (symbol g) m ∙ ap₂ ◌⊕◌ (gen g m hg hm h) (gen' g m hg hm h) ∙ add-zero 𝟘

  pub gen-mul : (c : car) (f : ℕ → car) (l s : ℕ) → Gen f l s → Gen (λ i. c ⊗ f i) l s
  gen-mul c f l s gen g m hg hm h =
      conv-mul ring c f (symbol g) m ∙ ap (λ x. c ⊗ x) (gen g m hg hm h) ∙ mul-zero ring c

  pub gen-sub : (f f' : ℕ → car) (l s : ℕ) → Gen f l s → Gen f' l s → Gen (λ i. f i ⊕ neg (f' i)) l s
  gen-sub f f' l s gen gen' g m hg hm h =
      conv-sub ring f f' (symbol g) m ∙ ap₂ (λ x y. x ⊕ neg y) (gen g m hg hm h) (gen' g m hg hm h)
      ∙ ap (λ x. 𝟘 ⊕ x) (neg-zero ring) ∙ add-zero 𝟘

  pub gen-shift : (e : ℕ) (f : ℕ → car) (l s : ℕ) → Gen f l s → Gen (shift ring e f) (l + e) (s + e * t)
  gen-shift e f l s gen g m hg hm h =
      conv-shift ring e f (symbol g) m (omega arith)
      ∙ gen g (m - e) hg (omega arith)
      (omega (arith, ap (λ x. x * t) (let q : m ≡ m - e + e = omega arith in q), add-mul (m - e) e t))

  pub fails-gen : (f : ℕ → car) (l n h s : ℕ) → Fails f l n h → Gen f l s → n * t + h < s → ⊥
  fails-gen f l n h s fails gen q = fails.nonzero (gen h n fails.sequence fails.asked q)

  pub fails-longer : (f : ℕ → car) (l l' n h : ℕ) → Fails f l n h → l ≤ l' → l' + lag h < n → Fails f l' n h
  fails-longer f l l' n h fails hl q =
      record {
        sequence = fails.sequence;
        asked = q;
        before = gen-longer f l l' (n * t + h) (n * t + h) fails.before hl (omega arith);
        nonzero = fails.nonzero;
      }

  pub fails-mul : (c : car) (f : ℕ → car) (l n h : ℕ) → c ≢ 𝟘 → Fails f l n h → Fails (λ i. c ⊗ f i) l n h
  fails-mul c f l n h hc fails =
      record {
        sequence = fails.sequence;
        asked = fails.asked;
        before = gen-mul c f l (n * t + h) fails.before;
        nonzero = λ e. mul-nonzero F c (disc f h n) hc fails.nonzero (sym (conv-mul ring c f (symbol h) n) ∙ e);
      }

  pub fails-add : (f f' : ℕ → car) (l n h : ℕ) → Fails f l n h → Gen f' l (suc (n * t + h)) → Fails (λ i. f i ⊕ f' i) l n h
  fails-add f f' l n h fails gen =
      record {
        sequence = fails.sequence;
        asked = fails.asked;
        before =
            gen-add f f' l (n * t + h) fails.before
            (gen-longer f' l l (suc (n * t + h)) (n * t + h) gen (omega arith) (omega arith));
        nonzero = λ e. fails.nonzero
            (sym (add-zero (disc f h n))
            ∙ ap (λ x. disc f h n ⊕ x) (sym (gen h n fails.sequence fails.asked (omega arith)))
            ∙ sym (conv-add ring f f' (symbol h) n) ∙ e);
      }

  pub fails-shift : (e : ℕ) (f : ℕ → car) (l n h : ℕ) → Fails f l n h → Fails (shift ring e f) (l + e) (n + e) h
  fails-shift e f l n h fails =
      let q : l + lag h < n = fails.asked in
      record {
        sequence = fails.sequence;
        asked = omega arith;
        before =
            gen-longer (shift ring e f) (l + e) (l + e) (n * t + h + e * t) ((n + e) * t + h)
            (gen-shift e f l (n * t + h) fails.before) (omega arith) (omega (arith, add-mul n e t));
        nonzero = λ z. fails.nonzero
            (ap (disc f h) (let r : n ≡ n + e - e = omega arith in r)
            ∙ sym (conv-shift ring e f (symbol h) (n + e) (omega arith)) ∙ z);
      }
