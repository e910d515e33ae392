-- What Algorithm 4 has found after each round n: a register that generates the symbols up to position n; no shorter one does; and
-- it is alone exactly when n_h − l_h is at most n − l or the sequence's lag, for every sequence h.
-- Stated of every state that meets the invariant; `rounds-keep` (Preserved) says that the state after n rounds does.
use mathlib.Core.Path.{◌≡◌, refl, sym, ap, ap₂, subst₂, fun_ext, ◌∙◌}
use mathlib.Core.Logic.{◌≢◌, ◌⊎◌, inl, inr, ⊎_elim}
use Prim.Native.Nat.{ℕ, zero, suc, ◌+◌, ◌-◌, ◌*◌, ◌≤◌, ◌<◌, max}
use native.Mathlib.Nat.{add-mul, mul-le-mul_right, sub_self}
use native.Mathlib.Omega.{arith}
use Rattle.algebra.specs.Ring.{Field}
use Rattle.algebra.specs.Polynomial.{Degree, shift}
use Rattle.algebra.proofs.RingLaws.{eq_of_sub-zero, add-cancel}
use Rattle.algebra.proofs.Convolution.{shift-below, shift-above, shift-tail, shift_degree}
use Rattle.register.proofs.Theory.Places.{place-in-round, position-in-round}
use Rattle.register.proofs.Theory.Generates.{
  Sequences,
  disc,
  Gen,
  Register,
  Fails,
  gen-longer,
  gen-add,
  gen-sub,
  gen-shift,
  fails-gen,
  fails-shift,
}
use Rattle.register.proofs.Theory.LeadingRow.{Pivots, Leading, leading}
use Rattle.register.proofs.Theory.Step.{Saved, State}
use Rattle.register.proofs.Theory.Invariant.{FreshOrKept, Invariant, size-le}

module _ (F : Field) (Q : Sequences F.ring.car) where
  open F use {ring, one_ne_zero}
  open F.ring use {car, zero as 𝟘, one as 𝟙, add as ◌⊕◌, neg, add-zero, add-neg}
  open Q use {count as t, lag}

  infixl 60 ◌⊕◌
  -- f is a register of length l that generates the symbols up to position n
  pub record Generates (f : ℕ → car) (l n : ℕ) : Type 0 where
    pub one : f 0 ≡ 𝟙
    pub degree : Degree ring l f
    pub zero : (h m : ℕ) → h < t → l + lag h < m → m ≤ n → disc F Q f h m ≡ 𝟘

  generates-gen : (f : ℕ → car) (l n : ℕ) → Generates f l n → Gen F Q f l (suc n * t + 0)
  generates-gen f l n G h m hh hm q = G.zero h m hh hm (position-in-round t m n h (omega arith))

  register-generates : (f : ℕ → car) (l n : ℕ) → Register F Q f l (suc n * t + 0) → Generates f l n
  register-generates f l n r =
      record {
        one = r.one;
        degree = r.degree;
        zero = λ h m hh hm q. r.gen h m hh hm (omega (arith, place-in-round t m n h hh q));
      }

  module _ (n : ℕ) (st : State car) (I : Invariant F Q st (suc n * t + 0)) where
    abbrev l : ℕ
    l = st.size

    abbrev σ : ℕ → car
    σ = st.taps

    abbrev P : Pivots F Q l (suc n * t + 0)
    P = I.pivots

    pub generates : Generates σ l n
    generates = register-generates σ l n I.register

    pub least : (L : ℕ) (f : ℕ → car) → L < l → Generates f L n → ⊥
    least L f below G = go (leading F Q l (suc n * t + 0) P L below f G.degree)
      where
        constant : f 0 ≢ 𝟘
        constant e = one_ne_zero (sym G.one ∙ e)

        go : ((i : ℕ) → f i ≡ 𝟘) ⊎ Leading F Q l (suc n * t + 0) P f L → ⊥
        go (inl z) = constant (z 0)
        go (inr r) =
            fails-gen F Q f L r.at (P.sequence r.pivot) (suc n * t + 0) r.fails (generates-gen f L n G)
            (omega (arith, r.early constant, P.placed L below))

    -- the test on the state: n_h − l_h ≤ max (n − l) (lag h), said without subtracting l_h
    abbrev pub Alone : Type 0
    Alone = (h : ℕ) → h < t → (st.saved h).place ≤ (st.saved h).size + max (n - l) (lag h)

    pub alone-unique : Alone → (f : ℕ → car) → Generates f l n → (i : ℕ) → f i ≡ σ i
    alone-unique alone f G = equal
      where
        δ : ℕ → car
        δ i = f i ⊕ neg (σ i)

        δ-zero : δ 0 ≡ 𝟘
        δ-zero = ap₂ (λ x y. x ⊕ neg y) G.one I.register.one ∙ add-neg 𝟙

        δ-gen : Gen F Q δ l (suc n * t + 0)
        δ-gen = gen-sub F Q f σ l (suc n * t + 0) (generates-gen f l n G) I.register.gen

        δ-degree : Degree ring l δ
        δ-degree i q =
            ap₂ (λ x y. x ⊕ neg y) (G.degree i q) (I.register.degree i q) ∙ add-neg 𝟘

        fails : (L : ℕ) → l ≡ suc L → Leading F Q l (suc n * t + 0) P (λ i. δ (suc i)) L → ⊥
        fails L e r =
            let h : ℕ = P.sequence r.pivot in
            let hh : h < t = r.fails.sequence in
            let short : r.pivot ≤ L = r.short in
            let row : r.at + r.pivot ≡ P.position r.pivot + L = r.row in
            let asked : L + lag h < r.at = r.fails.asked in
            let kept : P.position r.pivot + (st.saved h).size ≤ (st.saved h).place + r.pivot
            = I.row r.pivot (omega arith) in
            let most : (st.saved h).place ≤ (st.saved h).size + max (n - l) (lag h) = alone h hh in
            let early : r.at + 1 ≤ n = omega (arith, size-le F Q (suc n * t + 0) n st (omega arith) I) in
            fails-gen F Q δ l (r.at + 1) h (suc n * t + 0)
            (subst₂ (λ x y. Fails F Q x y (r.at + 1) h) (fun_ext (shift-tail ring δ δ-zero)) (omega arith)
            (fails-shift F Q 1 (λ i. δ (suc i)) L r.at h r.fails))
            δ-gen (omega (arith, place-in-round t (r.at + 1) n h hh early))

        tail : (k : ℕ) → l ≡ k → (i : ℕ) → δ (suc i) ≡ 𝟘
        tail zero e = λ i. δ-degree (suc i) (omega arith)
        tail (suc L) e =
            ⊎_elim (λ z. z) (λ r. absurd (fails L e r))
            (leading F Q l (suc n * t + 0) P L (omega arith) (λ i. δ (suc i)) (λ i q. δ-degree (suc i) (omega arith)))

        equal : (i : ℕ) → f i ≡ σ i
        equal zero = G.one ∙ sym I.register.one
        equal (suc i) = eq_of_sub-zero ring (f (suc i)) (σ (suc i)) (tail l refl i)

    -- another register of the same length
    pub record Other : Type 0 where
      pub taps : ℕ → car
      pub generates : Generates taps l n
      pub index : ℕ
      pub differs : taps index ≢ σ index

    pub not-alone : (h : ℕ) → h < t → (st.saved h).size + max (n - l) (lag h) < (st.saved h).place → Other
    not-alone h hh q = go (I.saved h hh)
      where
        v : Saved car
        v = st.saved h

        go : FreshOrKept F Q l (suc n * t + 0) h v → Other
        go (inl r) =
            let p : v.place ≡ lag h = r.place in let z : v.size ≡ 0 = r.size in absurd (let b : ⊥ = omega arith in b)
        go (inr k) =
            let e : ℕ = l - v.size in
            let shorter : v.size < l = k.shorter in
            let late : suc n ≤ v.place + e = omega arith in
            let added : ℕ → car = shift ring e v.taps in
            record {
              taps = λ i. σ i ⊕ added i;
              generates =
                  register-generates (λ i. σ i ⊕ added i) l n (record {
                    one = ap₂ ◌⊕◌ I.register.one (shift-below ring e v.taps 0 (omega arith)) ∙ add-zero 𝟙;
                    degree = λ i b.
                        ap₂ ◌⊕◌ (I.register.degree i b) (shift_degree ring e v.size v.taps k.degree i (omega arith))
                        ∙ add-zero 𝟘;
                    gen =
                        gen-add F Q σ added l (suc n * t + 0) I.register.gen
                        (gen-longer F Q added (v.size + e) l (v.place * t + h + e * t) (suc n * t + 0)
                        (gen-shift F Q e v.taps v.size (v.place * t + h) k.fails.before) (omega arith)
                        (omega (arith, mul-le-mul_right t late, add-mul v.place e t)));
                  });
              index = e;
              differs = λ z.
                  one_ne_zero
                  (sym (shift-above ring e v.taps e (omega arith) ∙ ap v.taps (sub_self e) ∙ k.one)
                  ∙ add-cancel ring (σ e) (added e) 𝟘 (z ∙ sym (add-zero (σ e))));
            }
