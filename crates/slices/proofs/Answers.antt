-- How the answers of tests that are made one after the other come together.
use mathlib.Core.Path.{◌≡◌, sym, ap, ◌∙◌}
use mathlib.Core.Bool.{Bool, true, false, ◌&&◌, ◌||◌}
use Prim.Native.Nat.{ℕ, ◌≤◌}
use native.Mathlib.Omega.{arith}
use Rattle.slices.specs.Synthesis.{Synthesis, counts_sound}
use Rattle.slices.proofs.Tests.{counts_say}

module _ (a b : Bool) where
  -- one that fails decides it
  pub fails : a ≡ false → false ≡ (a && b)
  fails e = sym (ap (λ (t : Bool). t && b) e)

  -- after one that passes the others do
  pub passes : {r : Bool} → a ≡ true → r ≡ b → r ≡ (a && b)
  passes e rest = rest ∙ sym (ap (λ (t : Bool). t && b) e)

  -- one that is enough
  pub suffices : a ≡ true → true ≡ (a || b)
  suffices e = sym (ap (λ (t : Bool). t || b) e)

  -- after one that is not enough the others decide it
  pub remains : {r : Bool} → a ≡ false → r ≡ b → r ≡ (a || b)
  remains e rest = rest ∙ sym (ap (λ (t : Bool). t || b) e)

-- ---- the numbers

-- sound for some of the eight sequences, they are so for all
pub counts-eight : (k : ℕ) (x : Synthesis) → k ≤ 8 → counts_sound k x ≡ true → counts_sound 8 x ≡ true
counts-eight k x few e =
    let c = (counts_say k x).0 e in
    (counts_say 8 x).1 record { few = c.few; round = c.round; step = omega (arith, c.step); grown = c.grown; shorter = c.shorter }
