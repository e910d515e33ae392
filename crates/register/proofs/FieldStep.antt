-- A step of Algorithm 4 over a field, by its cases: nothing is asked for at (n, h); the discrepancy is 0; the length grows; the length stays.
use mathlib.Core.Path.{◌≡◌}
use mathlib.Core.Logic.{◌≢◌, if_pos, if_neg}
use Prim.Native.Nat.{ℕ, ◌+◌, ◌-◌, ◌≤◌, ◌<◌}
use borrow.Author.Tests.{lt-ltb, le-ltb}
use Rattle.algebra.specs.Ring.{Field}
use Rattle.register.proofs.Theory.Generates.{Sequences, disc}
use Rattle.register.proofs.Theory.Step

module _ (F : Field) (n h : ℕ) (st : Step.State F.ring.car) where
  open F.ring use {car, zero as 𝟘, mul as ◌⊗◌}
  open F use {inv, decide}

  infixl 70 ◌⊗◌
  -- σ changed by a discrepancy d
  abbrev pub changed_poly : car → ℕ → car
  changed_poly d = Step.reduced F st.taps (d ⊗ inv (st.saved h).disc) (n - (st.saved h).place) (st.saved h).taps

  pub grows : (d : car) → (st.saved h).place + st.size < n + (st.saved h).size
      → Step.changed F n h d st ≡ record {
        size = n + (st.saved h).size - (st.saved h).place;
        taps = changed_poly d;
        saved = Step.with_saved st.saved h (record { place = n; size = st.size; disc = d; taps = st.taps });
      }
  unfolding Step.changed
  grows d e = rw (lt-ltb ((st.saved h).place + st.size) (n + (st.saved h).size) e)

  pub stays : (d : car) → n + (st.saved h).size ≤ (st.saved h).place + st.size
      → Step.changed F n h d st ≡ record { size = st.size; taps = changed_poly d; saved = st.saved }
  unfolding Step.changed
  stays d e = rw (le-ltb ((st.saved h).place + st.size) (n + (st.saved h).size) e)

  module _ (Q : Sequences F.ring.car) where
    pub idle : n ≤ st.size + Q.lag h → Step.step F Q n h st ≡ st
    unfolding Step.step
    idle e = rw (le-ltb (st.size + Q.lag h) n e)

    pub satisfied : st.size + Q.lag h < n → disc F Q st.taps h n ≡ 𝟘 → Step.step F Q n h st ≡ st
    unfolding Step.step
    satisfied asked e =
        rw (lt-ltb (st.size + Q.lag h) n asked) (if_pos (decide (disc F Q st.taps h n) 𝟘) e st (Step.changed F n h (disc F Q st.taps h n) st))

    pub fails : st.size + Q.lag h < n → disc F Q st.taps h n ≢ 𝟘
        → Step.step F Q n h st ≡ Step.changed F n h (disc F Q st.taps h n) st
    unfolding Step.step
    fails asked e =
        rw (lt-ltb (st.size + Q.lag h) n asked) (if_neg (decide (disc F Q st.taps h n) 𝟘) e st (Step.changed F n h (disc F Q st.taps h n) st))
