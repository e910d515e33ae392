-- Algorithm 4 of Schmidt and Sidorenko over an abstract field: its state, one step, a round, and all rounds up to n.
-- A polynomial is a function of its index, so that nothing need be said of lists; the names are those of `specs/Algorithm4.antt`.
use mathlib.Core.Bool.{cond}
use mathlib.Core.Logic.{ite}
use Prim.Native.Nat.{ℕ, zero, suc, ◌+◌, ◌-◌}
use lib.Dec.{ltb, eqb}
use Rattle.algebra.specs.Ring.{Field}
use Rattle.algebra.specs.Polynomial.{shift}
use Rattle.register.proofs.Theory.Generates.{Sequences, disc}

-- what is kept for a sequence h: n_h, l_h, d_h and σ of h
pub record Saved (A : Type 0) : Type 0 where
  pub place : ℕ
  pub size : ℕ
  pub disc : A
  pub taps : ℕ → A

-- the register found so far, l and σ; and what is kept for each h
pub record State (A : Type 0) : Type 0 where
  pub size : ℕ
  pub taps : ℕ → A
  pub saved : ℕ → Saved A

-- what is kept, with v in the place of what was kept for h
unfoldable pub with_saved : {A : Type 0} → (ℕ → Saved A) → ℕ → Saved A → ℕ → Saved A
with_saved saved h v g = cond (eqb g h) v (saved g)

module _ (F : Field) where
  open F use {ring, inv, decide}
  open F.ring use {car, zero as 𝟘, one as 𝟙, add as ◌⊕◌, mul as ◌⊗◌, neg}

  infixl 60 ◌⊕◌
  infixl 70 ◌⊗◌
  -- the polynomial 1
  unfoldable pub unit : ℕ → car
  unit zero = 𝟙
  unit (suc i) = 𝟘

  -- σ − q·x^e·τ
  abbrev pub reduced : (σ : ℕ → car) (q : car) (e : ℕ) (τ : ℕ → car) → ℕ → car
  reduced σ q e τ i = σ i ⊕ neg (q ⊗ shift ring e τ i)

  -- the register changed by a discrepancy d ≠ 0 at (n, h)
  unfoldable pub changed : (n h : ℕ) (d : car) → State car → State car
  changed n h d st =
      let v : Saved car = st.saved h in
      let taps : ℕ → car = reduced st.taps (d ⊗ inv v.disc) (n - v.place) v.taps in
      cond (ltb (v.place + st.size) (n + v.size))
      (record {
        size = n + v.size - v.place;
        taps = taps;
        saved = with_saved st.saved h (record { place = n; size = st.size; disc = d; taps = st.taps });
      })
      (record { size = st.size; taps = taps; saved = st.saved })

  module _ (Q : Sequences F.ring.car) where
    unfoldable pub start : State car
    start =
        record { size = 0; taps = unit; saved = λ h. record { place = Q.lag h; size = 0; disc = 𝟙; taps = λ i. 𝟘 } }

    unfoldable pub step : (n h : ℕ) → State car → State car
    step n h st =
        let d : car = disc F Q st.taps h n in
        cond (ltb (st.size + Q.lag h) n) (ite (decide d 𝟘) st (changed n h d st)) st

    -- the steps (n, 0) .. (n, h − 1)
    unfoldable pub turn : (n h : ℕ) → State car → State car
    turn n zero st = st
    turn n (suc h) st = step n h (turn n h st)

    -- the rounds 1 .. n
    unfoldable pub rounds : ℕ → State car
    rounds zero = start
    rounds (suc n) = turn (suc n) Q.count (rounds n)
