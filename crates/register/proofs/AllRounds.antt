-- What Algorithm 4 has found after all of its rounds: a shortest register of the sequences themselves.
use mathlib.Core.Path.{◌≡◌, refl, ap, ap₂, subst, ◌∙◌}
use mathlib.Core.Bool.{false}
use mathlib.Core.List.{List, [], ◌∷◌}
use Prim.Native.Nat.{ℕ, ◌-◌}
use native.Mathlib.Nat.{le_refl, sub_self, sub-zero}
use lib.ListN.{length, take}
use lib.Seq.{take-length}
use Rattle.field.specs.Prime.{Prime}
use Rattle.register.proofs.EachRound.{each-round, found-other}
use Rattle.register.specs.Algorithm4.{found, found_alone}
use Rattle.register.specs.EachRound.{IsShortest}
use Rattle.register.specs.Register.{Generator}
use Rattle.register.specs.Sequences.{longest, shortened}

-- without their last 0 symbols the sequences are as they were
shortened-none : (ss : List (List ℕ)) → shortened 0 ss ≡ ss
unfolding shortened
shortened-none [] = refl
shortened-none (s ∷ ss) = ap₂ ◌∷◌ (ap (λ (n : ℕ). take n s) (sub-zero (length s)) ∙ take-length s) (shortened-none ss)

after-all : (ss : List (List ℕ)) → shortened (longest ss - longest ss) ss ≡ ss
after-all ss = ap (λ (k : ℕ). shortened k ss) (sub_self (longest ss)) ∙ shortened-none ss

pub all-rounds : (p : ℕ) (ss : List (List ℕ)) → Prime p →
    IsShortest p (found p ss (longest ss)).size ss (found p ss (longest ss)).taps (found_alone p ss (longest ss))
all-rounds p ss prime =
    subst (λ (rest : List (List ℕ)). IsShortest p (found p ss (longest ss)).size rest (found p ss (longest ss)).taps (found_alone p ss (longest ss)))
    (after-all ss) (each-round p ss (longest ss) prime (le_refl (longest ss)))

-- where it is not alone there is another one
pub all-rounds-other : (p : ℕ) (ss : List (List ℕ)) → Prime p → found_alone p ss (longest ss) ≡ false →
    (τ : List ℕ) × Generator p (found p ss (longest ss)).size ss τ × (τ ≡ (found p ss (longest ss)).taps → ⊥)
all-rounds-other p ss prime e =
    subst (λ (rest : List (List ℕ)). (τ : List ℕ) × Generator p (found p ss (longest ss)).size rest τ × (τ ≡ (found p ss (longest ss)).taps → ⊥))
    (after-all ss) (found-other p ss (longest ss) prime (le_refl (longest ss)) e)
