-- The place that a turn finds: the first in circular order.
use mathlib.Core.Path.{◌≡◌, refl, sym, ap, ◌∙◌}
use mathlib.Core.Bool.{Bool, true, false, cond}
use mathlib.Core.Option.{Option, none, some}
use Prim.Native.Nat.{ℕ, zero, suc, ◌+◌, ◌%◌, ◌<◌}
use native.Mathlib.Omega.{arith}
use Rattle.turns.specs.Dispatcher.{Kind, Jobs, seek, served}

-- u holds at place j, one of n from `from` on, and at none before
pub record Found (u : ℕ → Bool) (from n j : ℕ) : Type 0 where
  pub steps : ℕ
  pub within : steps < n
  pub place : j ≡ (from + steps) % 8
  pub holds : u j ≡ true
  pub first : (i : ℕ) → i < steps → u ((from + i) % 8) ≡ false

abbrev pub Sought : (ℕ → Bool) → (from n : ℕ) → Option ℕ → Type 0
Sought u from n none = (i : ℕ) → i < n → u ((from + i) % 8) ≡ false
Sought u from n (some j) = Found u from n j

sought : (u : ℕ → Bool) (from n : ℕ) → Sought u from n (seek u from n)
unfolding seek
sought u from zero = λ i b. absurd (let z : ⊥ = omega arith in z)
sought u from (suc n) = pick (u (from % 8)) refl (seek u (suc from) n) (sought u (suc from) n)
  where
    here : from % 8 ≡ (from + 0) % 8
    here = omega arith

    later : (i : ℕ) → (suc from + i) % 8 ≡ (from + suc i) % 8
    later i = omega arith

    before : u (from % 8) ≡ false → (m : ℕ) → ((i : ℕ) → i < m → u ((suc from + i) % 8) ≡ false) → (i : ℕ) → i < suc m → u ((from + i) % 8) ≡ false
    before e m f zero b = ap u (sym here) ∙ e
    before e m f (suc i) b = ap u (sym (later i)) ∙ f i (omega arith)

    onward : u (from % 8) ≡ false → (r : Option ℕ) → Sought u (suc from) n r → Sought u from (suc n) r
    onward e none f = before e n f
    onward e (some j) f =
        record {
          steps = suc f.steps;
          within = (let b = f.within in omega arith);
          place = f.place ∙ later f.steps;
          holds = f.holds;
          first = before e f.steps f.first;
        }

    pick : (t : Bool) → u (from % 8) ≡ t → (r : Option ℕ) → Sought u (suc from) n r → Sought u from (suc n) (cond t (some (from % 8)) r)
    pick true e r f = record { steps = 0; within = omega arith; place = here; holds = e; first = λ i b. absurd (let z : ⊥ = omega arith in z) }
    pick false e r f = onward e r f

module _ (K : Kind) (d : Jobs K) where
  -- r is what a turn finds that looks for an unfinished job
  abbrev pub Looked : (r : Option ℕ) → Type 0
  Looked r = Sought (λ i. K.unfinished (d.at i)) (suc d.last) 8 r

  pub looked : Looked (served K d)
  unfolding served
  looked = sought (λ i. K.unfinished (d.at i)) (suc d.last) 8

  -- whom it finds is one of the eight
  pub found_below : (k : ℕ) → Looked (some k) → k < 8
  found_below k f = let p = f.place in omega arith
