-- Between two steps the length kept of the last finished round is that of a shortest register of the sequences without the symbols that are still to come.
use mathlib.Core.Path.{◌≡◌, sym, subst}
use mathlib.Core.List.{List}
use Prim.Native.Nat.{ℕ, ◌-◌, ◌≤◌}
use Rattle.field.proofs.Prime257.{prime_257}
use Rattle.register.proofs.EachRound.{each-round}
use Rattle.register.specs.Algorithm4.{found as foundAfter}
use Rattle.register.specs.Register.{Shortest}
use Rattle.register.specs.Sequences.{longest, shortened}
use Rattle.slices.specs.Kept.{Kept}
use Rattle.slices.specs.Synthesis.{Synthesis, found}
use Rattle.slices.proofs.Advancing.{kept-found}

module _ {ss : List (List ℕ)} {n h : ℕ} {x : Synthesis} (kept : Kept ss n h x) where
  found-is : found x ≡ (foundAfter 257 ss n).size
  unfolding foundAfter
  found-is = kept-found kept

  pub kept-shortest : n ≤ longest ss → (σ : List ℕ) × Shortest 257 (found x) (shortened (longest ss - n) ss) σ
  kept-shortest within = (
    (foundAfter 257 ss n).taps,
    subst (λ (l : ℕ). Shortest 257 l (shortened (longest ss - n) ss) (foundAfter 257 ss n).taps) (sym found-is)
        (each-round 257 ss n prime_257 within).shortest,
  )
