-- A step of Algorithm 4 by its cases: nothing is asked for at (n, h); the discrepancy is 0; the length grows; the length stays.
use mathlib.Core.Path.{◌≡◌, refl}
use mathlib.Core.Logic.{◌≢◌}
use mathlib.Core.Bool.{Bool, true, false, cond}
use mathlib.Core.List.{List}
use Prim.Native.Nat.{ℕ, ◌+◌, ◌-◌, ◌≤◌, ◌<◌}
use lib.Dec.{ltb, eqb}
use lib.ListN.{length}
use borrow.Author.Tests.{ltb-true, ltb-false, eqb-true, eqb-false, eq-eqb, ne_eqb}
use Rattle.field.specs.Coefficients.{reduced}
use Rattle.field.specs.Residue.{quotient}
use Rattle.register.specs.Algorithm4.{Saved, State, with_saved, changed, step}
use Rattle.register.specs.Register.{discrepancy}

-- what holds of both values holds of the one that a test picks
pub cond_cases {ℓ κ} : {A : Type ℓ} (P : A → Type κ) (b : Bool) (x y : A) → (b ≡ true → P x) → (b ≡ false → P y) → P (cond b x y)
cond_cases P true x y f g = f refl
cond_cases P false x y f g = g refl

-- what is kept for h, and for another
pub saved-at : (saved : ℕ → Saved) (h : ℕ) (v : Saved) → with_saved saved h v h ≡ v
unfolding with_saved
saved-at saved h v = rw (eq-eqb h h refl)

pub saved-beside : (saved : ℕ → Saved) (h : ℕ) (v : Saved) (k : ℕ) → k ≢ h → with_saved saved h v k ≡ saved k
unfolding with_saved
saved-beside saved h v k ne = rw (ne_eqb k h ne)

module _ (p n h d : ℕ) (st : State) where
  abbrev pub changed_taps : ℕ → List ℕ
  changed_taps l =
      reduced p l st.taps (quotient p d (st.saved h).disc) (n - (st.saved h).place) (st.saved h).taps

  -- the state where the length grows: the old register is saved for sequence h
  abbrev pub grown : State
  grown =
      let l : ℕ = n + (st.saved h).size - (st.saved h).place in
      record {
        size = l;
        taps = changed_taps l;
        saved = with_saved st.saved h (record { place = n; size = st.size; disc = d; taps = st.taps });
      }

  abbrev pub stayed : State
  stayed = record { size = st.size; taps = changed_taps st.size; saved = st.saved }

  pub changed_cases {ℓ} : (P : State → Type ℓ) → ((st.saved h).place + st.size < n + (st.saved h).size → P grown)
      → (n + (st.saved h).size ≤ (st.saved h).place + st.size → P stayed) → P (changed p n h d st)
  unfolding changed
  changed_cases P f g =
      cond_cases P (ltb ((st.saved h).place + st.size) (n + (st.saved h).size)) grown stayed (λ e. f (ltb-true _ _ e)) (λ e. g (ltb-false _ _ e))

module _ (p N : ℕ) (s : List ℕ) (n h : ℕ) (st : State) where
  pub step_cases {ℓ} : (P : State → Type ℓ) → (n ≤ st.size + (N - length s) → P st)
      → (st.size + (N - length s) < n → discrepancy p st.size st.taps s (n + length s - N) ≡ 0 → P st)
      → (st.size + (N - length s) < n → discrepancy p st.size st.taps s (n + length s - N) ≢ 0
      → P (changed p n h (discrepancy p st.size st.taps s (n + length s - N)) st))
      → P (step p N s n h st)
  unfolding step
  step_cases P f g k =
      let d : ℕ = discrepancy p st.size st.taps s (n + length s - N) in
      cond_cases P (ltb (st.size + (N - length s)) n) (cond (eqb d 0) st (changed p n h d st)) st
      (λ e. let asked = ltb-true _ _ e in
      cond_cases P (eqb d 0) st (changed p n h d st) (λ z. g asked (eqb-true _ _ z)) (λ z. k asked (eqb-false _ _ z)))
      (λ e. f (ltb-false _ _ e))
