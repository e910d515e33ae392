-- Algorithm 4 keeps its invariant: it holds at the start, each step takes it to the next place, each round to the next position.
use mathlib.Core.Path.{◌≡◌, refl, sym, subst}
use mathlib.Core.Bool.{Bool, true, false, cond}
use mathlib.Core.Logic.{◌≢◌, inl, ite}
use Prim.Native.Nat.{ℕ, zero, suc, ◌+◌, ◌-◌, ◌*◌, ◌≤◌, ◌<◌}
use native.Mathlib.Nat.{add-suc, mul-le-mul_right}
use native.Mathlib.Omega.{arith}
use lib.Dec.{ltb}
use borrow.Author.Tests.{ltb-true, ltb-false}
use Rattle.algebra.specs.Ring.{Field}
use Rattle.algebra.specs.Polynomial.{Degree}
use Rattle.register.proofs.Theory.Generates.{Sequences, disc, Register, gen-next}
use Rattle.register.proofs.Theory.LeadingRow.{Pivots}
use Rattle.register.proofs.Theory.Step.{Saved, State, with_saved, reduced, unit, changed, start, step, turn, rounds}
use Rattle.register.proofs.Theory.Invariant.{Invariant, saved-later}
use Rattle.register.proofs.Theory.Update.{updated}
use Rattle.register.proofs.Theory.Growth.{growth-keeps}

module _ (F : Field) (Q : Sequences F.ring.car) where
  open F use {ring, decide, inv}
  open F.ring use {car, zero as 𝟘, mul as ◌⊗◌}
  open Q use {count as t, lag}

  infixl 70 ◌⊗◌
  pivots-later : (l s s' : ℕ) → s ≤ s' → Pivots F Q l s → Pivots F Q l s'
  pivots-later l s s' hs P =
      record {
        poly = P.poly;
        position = P.position;
        sequence = P.sequence;
        one = P.one;
        degree = P.degree;
        fails = P.fails;
        placed = λ L q. omega (arith, P.placed L q);
        apart = P.apart;
      }

  -- another register of the same length, with what is kept as it was
  stays : (st : State car) (σ : ℕ → car) (s : ℕ) → Invariant F Q st s → Register F Q σ st.size (suc s)
      → Invariant F Q (record { size = st.size; taps = σ; saved = st.saved }) (suc s)
  unfolding pivots-later
  stays st σ s inv register =
      record {
        register = register;
        saved = λ h hh.
            saved-later F Q st.size st.size s (suc s) h (st.saved h) (omega arith) (omega arith) (inv.saved h hh);
        pivots = pivots-later st.size s (suc s) (omega arith) inv.pivots;
        row = inv.row;
      }

  module _ (n h : ℕ) (st : State car) (I : Invariant F Q st (n * t + h)) (sequence : h < t) where
    abbrev s : ℕ
    s = n * t + h

    abbrev l : ℕ
    l = st.size

    abbrev d : car
    d = disc F Q st.taps h n

    changed-keeps : l + lag h < n → d ≢ 𝟘 → Invariant F Q (changed F n h d st) (suc s)
    unfolding changed
    changed-keeps asked nonzero = go (ltb (v.place + l) (n + v.size)) refl
      where
        v : Saved car
        v = st.saved h

        σ' : ℕ → car
        σ' = reduced F st.taps (d ⊗ inv v.disc) (n - v.place) v.taps

        now : (l' : ℕ) → l ≤ l' → n + v.size ≤ l' + v.place → Register F Q σ' l' (suc s)
        now l' = updated F Q n h l l' st.taps v sequence asked I.register (I.saved h sequence)

        go : (b : Bool) → ltb (v.place + l) (n + v.size) ≡ b
            → Invariant F Q (cond b
            (record {
              size = n + v.size - v.place;
              taps = σ';
              saved = with_saved st.saved h (record { place = n; size = l; disc = d; taps = st.taps });
            })
            (record { size = l; taps = σ'; saved = st.saved })) (suc s)
        go true e =
            let grows : v.place + l < n + v.size = ltb-true (v.place + l) (n + v.size) e in
            growth-keeps F Q n h st I sequence asked nonzero grows σ' (now (n + v.size - v.place) (omega arith) (omega arith))
        go false e =
            let enough : n + v.size ≤ v.place + l = ltb-false (v.place + l) (n + v.size) e in
            stays st σ' s I (now l (omega arith) (omega arith))

    step_keeps : Invariant F Q (step F Q n h st) (suc s)
    unfolding step
    step_keeps = asks (ltb (l + lag h) n) refl
      where
        idle : (l + lag h < n → d ≡ 𝟘) → Invariant F Q st (suc s)
        idle z =
            stays st st.taps s I (record {
              one = I.register.one;
              degree = I.register.degree;
              gen = gen-next F Q st.taps l n h sequence I.register.gen z;
            })

        meets : l + lag h < n → (x : Dec (d ≡ 𝟘)) → Invariant F Q (ite x st (changed F n h d st)) (suc s)
        meets q (yes z) = idle (λ _. z)
        meets q (no z) = changed-keeps q z

        asks : (b : Bool) → ltb (l + lag h) n ≡ b
            → Invariant F Q (cond b (ite (decide d 𝟘) st (changed F n h d st)) st) (suc s)
        asks true e = meets (ltb-true (l + lag h) n e) (decide d 𝟘)
        asks false e =
            let q : n ≤ l + lag h = ltb-false (l + lag h) n e in
            idle (λ r. absurd (let z : ⊥ = omega arith in z))

  start-keeps : Invariant F Q (start F Q) (1 * t + 0)
  unfolding start unit
  start-keeps =
      record {
        register =
            record {
              one = refl;
              degree = degree;
              gen = λ g m hg hm q.
                  let pos : 1 ≤ m = omega arith in
                  absurd (let z : ⊥ = omega (arith, mul-le-mul_right t pos) in z);
            };
        saved = λ h _. inl (record { place = refl; size = refl; taps = λ i. refl });
        pivots =
            record {
              poly = λ _. unit F;
              position = λ _. 0;
              sequence = λ _. 0;
              one = λ L q. none L q;
              degree = λ L q. none L q;
              fails = λ L q. none L q;
              placed = λ L q. none L q;
              apart = λ j L _ q. none L q;
            };
        row = λ L q. none L q;
      }
    where
      degree : Degree ring 0 (unit F)
      degree zero q = absurd (let z : ⊥ = omega arith in z)
      degree (suc i) q = refl

      none : {A : Type 0} (L : ℕ) → L < 0 → A
      none L q = absurd (let z : ⊥ = omega arith in z)

  -- after h steps of round n
  turn-keeps : (n h : ℕ) (st : State car) → h ≤ t → Invariant F Q st (n * t + 0) → Invariant F Q (turn F Q n h st) (n * t + h)
  unfolding turn
  turn-keeps n zero st q I = I
  turn-keeps n (suc h) st q I =
      subst (λ x. Invariant F Q (step F Q n h (turn F Q n h st)) x) (sym (add-suc (n * t) h))
      (step_keeps n h (turn F Q n h st) (turn-keeps n h st (omega arith) I) q)

  -- after n rounds
  pub rounds-keep : (n : ℕ) → Invariant F Q (rounds F Q n) (suc n * t + 0)
  unfolding rounds
  rounds-keep zero = start-keeps
  rounds-keep (suc n) =
      subst (λ x. Invariant F Q (turn F Q (suc n) t (rounds F Q n)) x) (omega arith)
      (turn-keeps (suc n) t (rounds F Q n) (omega arith) (rounds-keep n))
