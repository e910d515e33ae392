-- When Algorithm 4's register becomes longer, from l to l', its old self is kept for the sequence at which it failed and is
-- the pivot of all lengths from l to l' − 1, in rows after that of what was kept before. The invariant goes on to the next place.
use mathlib.Core.Path.{◌≡◌, refl, sym, subst}
use mathlib.Core.Bool.{Bool, true, false, cond}
use mathlib.Core.Logic.{◌≢◌, inr}
use Prim.Native.Nat.{ℕ, suc, ◌+◌, ◌-◌, ◌*◌, ◌≤◌, ◌<◌}
use native.Mathlib.Omega.{arith}
use lib.Dec.{ltb, eqb}
use borrow.Author.Tests.{ltb-true, ltb-false, eqb-true, eqb-false}
use Rattle.algebra.specs.Ring.{Field}
use Rattle.algebra.specs.Polynomial.{Degree}
use Rattle.register.proofs.Theory.Generates.{Sequences, disc, Register, Fails, fails-longer}
use Rattle.register.proofs.Theory.LeadingRow.{Pivots}
use Rattle.register.proofs.Theory.Step.{Saved, State, with_saved}
use Rattle.register.proofs.Theory.Invariant.{Kept, FreshOrKept, Invariant, saved-reach, saved-later}

-- what is kept after a replacement
replaced-cases : {A : Type 0} (T : Saved A → Type 0) (saved : ℕ → Saved A) (h : ℕ) (v : Saved A) (g : ℕ)
    → (g ≡ h → T v) → (g ≢ h → T (saved g)) → T (with_saved saved h v g)
unfolding with_saved
replaced-cases T saved h v g new old = go (eqb g h) refl
  where
    go : (b : Bool) → eqb g h ≡ b → T (cond b v (saved g))
    go true e = new (eqb-true g h e)
    go false e = old (eqb-false g h e)

-- the step at (n, h) meets a discrepancy that is not 0, and n − l > n_h − l_h
module _ (F : Field) (Q : Sequences F.ring.car) (n h : ℕ) (st : State F.ring.car)
    (I : Invariant F Q st (n * Q.count + h))
    (sequence : h < Q.count) (asked : st.size + Q.lag h < n) (nonzero : disc F Q st.taps h n ≢ F.ring.zero)
    (grows : (st.saved h).place + st.size < n + (st.saved h).size) where
  open F use {ring}
  open F.ring use {car, one as 𝟙}
  open Q use {count as t}

  abbrev s : ℕ
  s = n * t + h

  abbrev l : ℕ
  l = st.size

  abbrev σ : ℕ → car
  σ = st.taps

  abbrev v : Saved car
  v = st.saved h

  abbrev P : Pivots F Q l s
  P = I.pivots

  -- what is now kept for h
  abbrev kept : Saved car
  kept = record { place = n; size = l; disc = disc F Q σ h n; taps = σ }

  fails-here : Fails F Q σ l n h
  fails-here = record { sequence = sequence; asked = asked; before = I.register.gen; nonzero = nonzero }

  abbrev l' : ℕ
  l' = n + v.size - v.place

  -- the old pivots below l, and the old register from l on
  grown-poly : ℕ → ℕ → car
  grown-poly L = cond (ltb L l) (P.poly L) σ

  grown-position : ℕ → ℕ
  grown-position L = cond (ltb L l) (P.position L) n

  grown-sequence : ℕ → ℕ
  grown-sequence L = cond (ltb L l) (P.sequence L) h

  grown-cases : (T : (ℕ → car) → ℕ → ℕ → Type 0) (L : ℕ) → (L < l → T (P.poly L) (P.position L) (P.sequence L))
      → (l ≤ L → T σ n h) → T (grown-poly L) (grown-position L) (grown-sequence L)
  unfolding grown-poly grown-position grown-sequence
  grown-cases T L old new = go (ltb L l) refl
    where
      go : (b : Bool) → ltb L l ≡ b → T (cond b (P.poly L) σ) (cond b (P.position L) n) (cond b (P.sequence L) h)
      go true e = old (ltb-true L l e)
      go false e = new (ltb-false L l e)

  old_row : (L : ℕ) → L < l → P.sequence L ≡ h → P.position L + v.size ≤ v.place + L
  old_row L b e = subst (λ g. P.position L + (st.saved g).size ≤ (st.saved g).place + L) e (I.row L b)

  grown-apart : (j L : ℕ) → j < L → L < l' → grown-sequence j ≡ grown-sequence L
      → grown-position j + L ≢ grown-position L + j
  grown-apart j L jL Ll =
      grown-cases (λ _ m g. g ≡ grown-sequence L → m + L ≢ grown-position L + j) j
      (λ hj. grown-cases (λ _ m g. P.sequence j ≡ g → P.position j + L ≢ m + j) L (λ hL. P.apart j L jL hL)
      (λ hL e. omega (arith, old_row j hj e)))
      (λ hj. grown-cases (λ _ m g. h ≡ g → n + L ≢ m + j) L
      (λ hL. absurd (let z : ⊥ = omega arith in z)) (λ hL e. omega arith))

  grown-pivots : Pivots F Q l' (suc s)
  grown-pivots =
      record {
        poly = grown-poly;
        position = grown-position;
        sequence = grown-sequence;
        one = λ L q. grown-cases (λ τ _ _. τ 0 ≡ 𝟙) L (P.one L) (λ _. I.register.one);
        degree = λ L q. grown-cases (λ τ _ _. Degree ring L τ) L (P.degree L) (λ b i r. I.register.degree i (omega arith));
        fails = λ L q. grown-cases (λ τ m g. Fails F Q τ L m g) L (P.fails L)
            (λ b. fails-longer F Q σ l L n h fails-here b (omega (arith, saved-reach F Q l s h v (I.saved h sequence))));
        placed = λ L q. grown-cases (λ _ m g. m * t + g < suc s) L (λ b. omega (arith, P.placed L b)) (λ b. omega arith);
        apart = grown-apart;
      }

  grown-row : (L : ℕ) → L < l'
      → grown-position L + (with_saved st.saved h kept (grown-sequence L)).size
      ≤ (with_saved st.saved h kept (grown-sequence L)).place + L
  grown-row L q =
      grown-cases (λ _ m g. m + (with_saved st.saved h kept g).size ≤ (with_saved st.saved h kept g).place + L) L
      (λ b. replaced-cases (λ x. P.position L + x.size ≤ x.place + L) st.saved h kept (P.sequence L)
      (λ e. omega (arith, old_row L b e)) (λ _. I.row L b))
      (λ b. replaced-cases (λ x. n + x.size ≤ x.place + L) st.saved h kept h
      (λ _. omega arith) (λ e. absurd (e refl)))

  kept_here : Kept F Q l' (suc s) h kept
  kept_here =
      record {
        one = I.register.one;
        degree = I.register.degree;
        fails = fails-here;
        value = refl;
        shorter = omega arith;
        placed = omega arith;
      }

  grown-saved : (g : ℕ) → g < t → FreshOrKept F Q l' (suc s) g (with_saved st.saved h kept g)
  grown-saved g hg =
      replaced-cases (λ x. FreshOrKept F Q l' (suc s) g x) st.saved h kept g
      (λ e. subst (λ x. FreshOrKept F Q l' (suc s) x kept) (sym e) (inr kept_here))
      (λ _. saved-later F Q l l' s (suc s) g (st.saved g) (omega arith) (omega arith) (I.saved g hg))

  pub growth-keeps : (σ' : ℕ → car) → Register F Q σ' l' (suc s)
      → Invariant F Q (record { size = l'; taps = σ'; saved = with_saved st.saved h kept }) (suc s)
  unfolding grown-pivots
  growth-keeps σ' register = record { register = register; saved = grown-saved; pivots = grown-pivots; row = grown-row }
