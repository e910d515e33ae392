-- Looking for the next unfinished job, place after place.
use mathlib.Core.Path.{◌≡◌, refl, ap, ◌∙◌}
use mathlib.Core.Bool.{Bool, true, false, cond}
use mathlib.Core.Option.{none, some}
use Prim.Native.Nat.{ℕ, suc, ◌+◌, ◌-◌, ◌%◌, ◌≤◌, ◌<◌}
use native.Mathlib.Omega.{arith}
use lib.Dec.{eqb}
use borrow.Author.Tests.{ne_eqb}
use Rattle.job.specs.Job.{is_unfinished_phase}
use Rattle.job.specs.declared.Phase.TheVariants.{Empty, Shaped, Located}
use Rattle.mirror.specs.Mirror.{phase_of, head_of}
use Rattle.mirror.specs.declared.CHead.{CHead}
use Rattle.turns.specs.Dispatcher.{seek}

-- of the numbers of a phase 3 alone is unfinished
pub three_unfinished : (m : CHead) → m.phase ≡ 3 → is_unfinished_phase (head_of m).phase ≡ true
three_unfinished m e = ap (λ (n : ℕ). is_unfinished_phase (phase_of n m.length m.alone)) e

pub others-not : (m : CHead) → (m.phase ≡ 3 → ⊥) → is_unfinished_phase (head_of m).phase ≡ false
others-not m other = rw (ne_eqb m.phase 3 other) (pick (eqb m.phase 1) (eqb m.phase 2))
  where
    pick : (x y : Bool) → is_unfinished_phase (cond x Shaped (cond y (Located m.length (eqb m.alone 1)) Empty)) ≡ false
    pick true y = refl
    pick false true = refl
    pick false false = refl

seek-suc : (u : ℕ → Bool) (from n : ℕ) → seek u from (suc n) ≡ cond (u (from % 8)) (some (from % 8)) (seek u (suc from) n)
unfolding seek
seek-suc u from n = refl

seek-none : (u : ℕ → Bool) (from : ℕ) → seek u from 0 ≡ none
unfolding seek
seek-none u from = refl

module _ (u : ℕ → Bool) (last : ℕ) where
  abbrev place : ℕ → ℕ
  place i = (last % 8 + 1 + i) % 8

  -- u holds at none of the first i places
  abbrev pub Looking : ℕ → Type 0
  Looking i = seek u (suc last) 8 ≡ seek u (suc last + i) (8 - i)

  pub looks_first : seek u (suc last) 8 ≡ seek u (suc last + 0) (8 - 0)
  looks_first = ap (λ (n : ℕ). seek u n 8) (let e : suc last ≡ suc last + 0 = omega arith in e)

  module _ {i : ℕ} (looking : seek u (suc last) 8 ≡ seek u (suc last + i) (8 - i)) (more : i < 8) where
    one_more : seek u (suc last) 8 ≡ cond (u (place i)) (some (place i)) (seek u (suc last + (i + 1)) (8 - (i + 1)))
    one_more =
        looking ∙ ap (seek u (suc last + i)) (let e : 8 - i ≡ suc (8 - (i + 1)) = omega arith in e) ∙ seek-suc u (suc last + i) (8 - (i + 1))
        ∙ ap (λ (n : ℕ). cond (u n) (some n) (seek u (suc (suc last + i)) (8 - (i + 1)))) (let e : (suc last + i) % 8 ≡ place i = omega arith in e)
        ∙ ap (λ (n : ℕ). cond (u (place i)) (some (place i)) (seek u n (8 - (i + 1)))) (let e : suc (suc last + i) ≡ suc last + (i + 1) = omega arith in e)

    pub looks_here : u ((last % 8 + 1 + i) % 8) ≡ true → seek u (suc last) 8 ≡ some ((last % 8 + 1 + i) % 8)
    looks_here e = one_more ∙ ap (λ (b : Bool). cond b (some (place i)) (seek u (suc last + (i + 1)) (8 - (i + 1)))) e

    pub looks_on : u ((last % 8 + 1 + i) % 8) ≡ false → seek u (suc last) 8 ≡ seek u (suc last + (i + 1)) (8 - (i + 1))
    looks_on e = one_more ∙ ap (λ (b : Bool). cond b (some (place i)) (seek u (suc last + (i + 1)) (8 - (i + 1)))) e

  pub looks_through : {i : ℕ} → seek u (suc last) 8 ≡ seek u (suc last + i) (8 - i) → 8 ≤ i → seek u (suc last) 8 ≡ none
  looks_through {i} looking all =
      looking ∙ ap (seek u (suc last + i)) (let e : 8 - i ≡ 0 = omega arith in e) ∙ seek-none u (suc last + i)
