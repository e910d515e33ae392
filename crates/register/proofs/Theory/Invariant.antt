-- What holds of Algorithm 4's state before the symbol at place s is read: its register generates up to s; what is kept for each
-- sequence is as at the start, or is a register that failed there; and there are pivots for all lengths below the register's.
use mathlib.Core.Path.{◌≡◌, refl}
use mathlib.Core.Logic.{◌⊎◌, inl, inr, ⊎_map}
use Prim.Native.Nat.{ℕ, zero, suc, ◌+◌, ◌*◌, ◌≤◌, ◌<◌}
use native.Mathlib.Omega.{arith}
use Rattle.algebra.specs.Ring.{Field}
use Rattle.algebra.specs.Polynomial.{Degree}
use Rattle.algebra.proofs.Convolution.{conv-zero}
use Rattle.register.proofs.Theory.Places.{position-lt, position-in-round}
use Rattle.register.proofs.Theory.Generates.{Sequences, disc, Gen, Register, Fails}
use Rattle.register.proofs.Theory.LeadingRow.{Pivots}
use Rattle.register.proofs.Theory.Step.{Saved, State}

module _ (F : Field) (Q : Sequences F.ring.car) where
  open F use {ring}
  open F.ring use {car, zero as 𝟘, one as 𝟙}
  open Q use {count as t, lag, symbol}

  -- nothing was kept for h yet
  pub record Fresh (h : ℕ) (v : Saved car) : Type 0 where
    pub place : v.place ≡ lag h
    pub size : v.size ≡ 0
    pub taps : (i : ℕ) → v.taps i ≡ 𝟘

  -- a register was kept for h, shorter than l, which failed at a symbol of h before place s
  pub record Kept (l s h : ℕ) (v : Saved car) : Type 0 where
    pub one : v.taps 0 ≡ 𝟙
    pub degree : Degree ring v.size v.taps
    pub fails : Fails F Q v.taps v.size v.place h
    pub value : v.disc ≡ disc F Q v.taps h v.place
    pub shorter : v.size < l
    pub placed : v.place * t + h < s

  abbrev pub FreshOrKept : (l s h : ℕ) → Saved car → Type 0
  FreshOrKept l s h v = Fresh h v ⊎ Kept l s h v

  pub record Invariant (st : State car) (s : ℕ) : Type 0 where
    pub register : Register F Q st.taps st.size s
    pub saved : (h : ℕ) → h < t → FreshOrKept st.size s h (st.saved h)
    pub pivots : Pivots F Q st.size s
    -- no pivot's row is after that of the register kept for its sequence
    pub row : (L : ℕ) → L < st.size
        → pivots.position L + (st.saved (pivots.sequence L)).size ≤ (st.saved (pivots.sequence L)).place + L

  module _ (l s h : ℕ) (v : Saved car) where
    pub saved-reach : FreshOrKept l s h v → v.size + lag h ≤ v.place
    saved-reach (inl r) = let p : v.place ≡ lag h = r.place in let z : v.size ≡ 0 = r.size in omega arith
    saved-reach (inr k) = let p : v.size + lag h < v.place = k.fails.asked in omega arith

    pub saved-degree : FreshOrKept l s h v → Degree ring v.size v.taps
    saved-degree (inl r) = λ i _. r.taps i
    saved-degree (inr k) = k.degree

    pub saved-gen : FreshOrKept l s h v → Gen F Q v.taps v.size (v.place * t + h)
    saved-gen (inl r) = λ g m _ _ _. conv-zero ring v.taps (symbol g) m (λ i _. r.taps i)
    saved-gen (inr k) = k.fails.before

  pub saved-later : (l l' s s' h : ℕ) (v : Saved car) → l ≤ l' → s ≤ s' → FreshOrKept l s h v → FreshOrKept l' s' h v
  saved-later l l' s s' h v hl hs =
      ⊎_map (λ r. r) (λ k. record {
        one = k.one;
        degree = k.degree;
        fails = k.fails;
        value = k.value;
        shorter = omega (arith, k.shorter);
        placed = omega (arith, k.placed);
      })

  -- a step (n, h) that asks for its symbol comes after n_h
  pub saved-before : (l n h : ℕ) (v : Saved car) → h < t → l + lag h < n → FreshOrKept l (n * t + h) h v → v.place < n
  saved-before l n h v hh q (inl r) = let p : v.place ≡ lag h = r.place in omega arith
  saved-before l n h v hh q (inr k) = position-lt t v.place n h hh k.placed

  pub size-le : (s n : ℕ) (st : State car) → s ≤ suc n * t → Invariant st s → st.size ≤ n
  size-le s n st q I = go st.size refl
    where
      P : Pivots F Q st.size s
      P = I.pivots

      go : (l : ℕ) → st.size ≡ l → l ≤ n
      go zero e = omega arith
      go (suc L) e =
          let below : L < st.size = omega arith in
          let early : P.position L ≤ n
          = position-in-round t (P.position L) n (P.sequence L) (omega (arith, P.placed L below)) in
          omega (arith, (P.fails L below).asked)
