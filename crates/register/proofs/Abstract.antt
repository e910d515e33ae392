-- The state of Algorithm 4 on lists, seen over the field of residues, goes through the steps of Algorithm 4 over a field.
use mathlib.Core.Path.{◌≡◌, refl, sym, ap, ap₂, fun_ext, ◌∙◌}
use mathlib.Core.Bool.{Bool, true, false, cond}
use mathlib.Core.List.{List, [], ◌∷◌}
use Prim.Native.Nat.{ℕ, zero, suc, ◌+◌, ◌-◌, ◌≤◌, ◌<◌}
use native.Mathlib.Omega.{arith}
use lib.Dec.{eqb}
use lib.ListN.{length, get_or}
use Rattle.register.proofs.Theory.Generates.{Sequences}
use Rattle.register.proofs.Theory.Step
use Rattle.field.specs.Prime.{Prime}
use Rattle.field.specs.Residue.{quotient}
use Rattle.field.proofs.Bridge.{res, res-zero, res_one, res-quotient}
use Rattle.field.proofs.Instance.{residues}
use Rattle.field.proofs.Polynomials.{poly, poly-reduced}
use Rattle.register.specs.Algorithm4.{Saved, State, start, with_saved, changed, step, turn, rounds}
use Rattle.register.specs.Register.{discrepancy}
use Rattle.register.proofs.Aligned.{sequences, disc-aligned, disc-zero, zero-disc}
use Rattle.register.proofs.Bounds.{Bounded, bounded-turn, bounded-later, bounded-rounds}
use Rattle.register.proofs.Cases.{changed_taps, changed_cases, step_cases}
use Rattle.register.proofs.FieldStep.{changed_poly, grows, stays, idle, satisfied, fails}

module _ (p : ℕ) (prime : Prime p) where
  abbrev pub abs_saved : Saved → Step.Saved (residues p prime).ring.car
  abs_saved v = record { place = v.place; size = v.size; disc = res p prime v.disc; taps = poly p prime v.taps }

  abbrev pub abs : State → Step.State (residues p prime).ring.car
  abs st = record { size = st.size; taps = poly p prime st.taps; saved = λ h. abs_saved (st.saved h) }

  poly-one : (i : ℕ) → poly p prime (1 ∷ []) i ≡ Step.unit (residues p prime) i
  unfolding Step.unit
  poly-one zero = res_one p prime
  poly-one (suc i) = res-zero p prime

  poly-zero : (i : ℕ) → poly p prime (0 ∷ []) i ≡ (residues p prime).ring.zero
  poly-zero zero = res-zero p prime
  poly-zero (suc i) = res-zero p prime

  abs_with_saved : (saved : ℕ → Saved) (h : ℕ) (v : Saved) (g : ℕ)
      → abs_saved (with_saved saved h v g) ≡ Step.with_saved (λ g. abs_saved (saved g)) h (abs_saved v) g
  unfolding with_saved Step.with_saved
  abs_with_saved saved h v g = pick (eqb g h)
    where
      pick : (b : Bool) → abs_saved (cond b v (saved g)) ≡ cond b (abs_saved v) (abs_saved (saved g))
      pick true = refl
      pick false = refl

  module _ (N : ℕ) (ss : List (List ℕ)) (fits : (h : ℕ) → length (get_or ss h []) ≤ N) where
    module _ (n h : ℕ) (st : State) (b : Bounded p N ss n st) (begun : N - length (get_or ss h []) < n) (d : ℕ) where
      abs-taps : (l : ℕ) → st.size ≤ l → n + (st.saved h).size ≤ (st.saved h).place + l
          → poly p prime (changed_taps p n h d st l) ≡ changed_poly (residues p prime) n h (abs st) (res p prime d)
      abs-taps l le room =
          let v : Saved = st.saved h in
          poly-reduced p prime l st.taps (quotient p d v.disc) (n - v.place) v.taps (omega (arith, b.taps))
          (omega (arith, b.saved-taps h, b.place h))
          ∙ ap (λ q. Step.reduced (residues p prime) (poly p prime st.taps) q (n - v.place) (poly p prime v.taps))
          (res-quotient p prime d v.disc)

      abs-changed : abs (changed p n h d st) ≡ Step.changed (residues p prime) n h (res p prime d) (abs st)
      abs-changed =
          changed_cases p n h d st (λ x. abs x ≡ Step.changed (residues p prime) n h (res p prime d) (abs st))
          (λ grow.
          let l : ℕ = n + (st.saved h).size - (st.saved h).place in
          ap₂ {C = Step.State (residues p prime).ring.car} (λ t s. record { size = l; taps = t; saved = s }) (abs-taps l (omega arith) (omega arith))
          (fun_ext (abs_with_saved st.saved h (record { place = n; size = st.size; disc = d; taps = st.taps })))
          ∙ sym (grows (residues p prime) n h (abs st) (res p prime d) grow))
          (λ stay.
          ap (λ t. record { size = st.size; taps = t; saved = λ g. abs_saved (st.saved g) }) (abs-taps st.size (omega arith) stay)
          ∙ sym (stays (residues p prime) n h (abs st) (res p prime d) stay))

    abs-step : (n h : ℕ) (st : State) → Bounded p N ss n st
        → abs (step p N (get_or ss h []) n h st) ≡ Step.step (residues p prime) (sequences p prime N ss) n h (abs st)
    abs-step n h st b =
        let s : List ℕ = get_or ss h [] in
        let Q : Sequences (residues p prime).ring.car = sequences p prime N ss in
        step_cases p N s n h st (λ x. abs x ≡ Step.step (residues p prime) Q n h (abs st))
        (λ e. sym (idle (residues p prime) n h (abs st) Q e))
        (λ asked e. sym (satisfied (residues p prime) n h (abs st) Q asked
        (disc-zero p prime N st.size st.taps s b.taps (fits h) n asked e)))
        (λ asked e.
        let d : ℕ = discrepancy p st.size st.taps s (n + length s - N) in
        abs-changed n h st b (omega arith) d
        ∙ ap (λ x. Step.changed (residues p prime) n h x (abs st))
        (disc-aligned p prime N st.size st.taps s b.taps (fits h) n asked)
        ∙ sym (fails (residues p prime) n h (abs st) Q asked
        (λ z. e (zero-disc p prime N st.size st.taps s b.taps (fits h) n asked z))))

    abs-turn : (n h : ℕ) (st : State) → Bounded p N ss n st
        → abs (turn p N ss n h st) ≡ Step.turn (residues p prime) (sequences p prime N ss) n h (abs st)
    unfolding turn Step.turn
    abs-turn n zero st b = refl
    abs-turn n (suc h) st b =
        abs-step n h (turn p N ss n h st) (bounded-turn p N ss prime.two_or_more n h st b)
        ∙ ap (Step.step (residues p prime) (sequences p prime N ss) n h) (abs-turn n h st b)

    abs-start : abs (start N ss) ≡ Step.start (residues p prime) (sequences p prime N ss)
    unfolding start Step.start
    abs-start =
        ap₂ {C = Step.State (residues p prime).ring.car} (λ t s. record { size = 0; taps = t; saved = s }) (fun_ext poly-one)
        (fun_ext (λ h.
        ap₂ {C = Step.Saved (residues p prime).ring.car} (λ d t. record { place = N - length (get_or ss h []); size = 0; disc = d; taps = t })
        (res_one p prime) (fun_ext poly-zero)))

    pub abs-rounds : (n : ℕ) → abs (rounds p N ss n) ≡ Step.rounds (residues p prime) (sequences p prime N ss) n
    unfolding rounds Step.rounds
    abs-rounds zero = abs-start
    abs-rounds (suc n) =
        abs-turn (suc n) (length ss) (rounds p N ss n)
        (bounded-later p N ss prime.two_or_more n (suc n) (rounds p N ss n) (omega arith) (bounded-rounds p N ss prime.two_or_more n))
        ∙ ap (Step.turn (residues p prime) (sequences p prime N ss) (suc n) (length ss)) (abs-rounds n)
