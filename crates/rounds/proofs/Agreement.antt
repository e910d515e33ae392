-- A step at a sequence below k looks at nothing that is kept for other sequences, so states that agree on the first k sequences agree after it.
use mathlib.Core.Path.{◌≡◌, refl, sym, ap, ap₂, subst, ◌∙◌}
use mathlib.Core.Bool.{Bool, true, false, cond}
use mathlib.Core.List.{List}
use Prim.Native.Nat.{ℕ, ◌+◌, ◌-◌, ◌<◌}
use lib.Dec.{ltb, eqb}
use lib.ListN.{length}
use Rattle.field.specs.Coefficients.{reduced}
use Rattle.field.specs.Residue.{quotient}
use Rattle.register.specs.Algorithm4.{Saved, State, step, changed, with_saved}
use Rattle.register.specs.Register.{discrepancy}
use Rattle.rounds.specs.Rounds.{Agree}

-- what a step does: nothing, other taps, or a longer register and something new kept
data Effect : Type 0 where
  rests : Effect
  stays : List ℕ → Effect
  grows : ℕ → List ℕ → Saved → Effect

-- it goes by the register and by what is kept for the sequence of the step
effect : (p N : ℕ) (s : List ℕ) (n l : ℕ) (σ : List ℕ) (v : Saved) → Effect
effect p N s n l σ v =
    let d : ℕ = discrepancy p l σ s (n + length s - N) in
    let taps : ℕ → List ℕ = λ m. reduced p m σ (quotient p d v.disc) (n - v.place) v.taps in
    let grown : ℕ = n + v.size - v.place in
    cond (ltb (l + (N - length s)) n)
    (cond (eqb d 0) rests
    (cond (ltb (v.place + l) (n + v.size)) (grows grown (taps grown) (record { place = n; size = l; disc = d; taps = σ })) (stays (taps l))))
    rests

made : Effect → ℕ → State → State
made rests h st = st
made (stays σ) h st = record { size = st.size; taps = σ; saved = st.saved }
made (grows l σ v) h st = record { size = l; taps = σ; saved = with_saved st.saved h v }

cond-made : (b : Bool) (x y : Effect) (h : ℕ) (st : State) → made (cond b x y) h st ≡ cond b (made x h st) (made y h st)
cond-made true x y h st = refl
cond-made false x y h st = refl

step-made : (p N : ℕ) (s : List ℕ) (n h : ℕ) (st : State) → step p N s n h st ≡ made (effect p N s n st.size st.taps (st.saved h)) h st
unfolding step changed effect made
step-made p N s n h st = simp cond-made

agree-made : (k : ℕ) (x : Effect) (h : ℕ) (st su : State) → Agree k st su → Agree k (made x h st) (made x h su)
unfolding made with_saved
agree-made k rests h st su a = a
agree-made k (stays σ) h st su a = record { size = a.size; taps = refl; saved = a.saved }
agree-made k (grows l σ v) h st su a = record { size = refl; taps = refl; saved = λ g b. ap (cond (eqb g h) v) (a.saved g b) }

pub agree-step : (k p N : ℕ) (s : List ℕ) (n h : ℕ) (st su : State) → h < k → Agree k st su → Agree k (step p N s n h st) (step p N s n h su)
agree-step k p N s n h st su b a =
    let x : Effect = effect p N s n su.size su.taps (su.saved h) in
    let same : effect p N s n st.size st.taps (st.saved h) ≡ x =
    ap₂ (λ (l : ℕ) (σ : List ℕ). effect p N s n l σ (st.saved h)) a.size a.taps ∙ ap (effect p N s n su.size su.taps) (a.saved h b)
    in
    rw (step-made p N s n h st, step-made p N s n h su)
    (subst (λ (y : Effect). Agree k (made y h st) (made x h su)) (sym same) (agree-made k x h st su a))
