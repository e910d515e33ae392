-- A turn looks past no unfinished job: it finds one where there is one, and of them the closest after the one served last.
use mathlib.Core.Path.{◌≡◌, sym, ap, ◌∙◌}
use mathlib.Core.Bool.{true, false, false≢true}
use mathlib.Core.Option.{none, some}
use Prim.Native.Nat.{ℕ, suc, ◌+◌, ◌%◌, ◌≤◌, ◌<◌}
use native.Mathlib.Decide.{dec_le}
use native.Mathlib.Omega.{arith}
use Rattle.turns.specs.Dispatcher.{Kind, Jobs}
use Rattle.turns.specs.Turning.{between}
use Rattle.turns.proofs.Circle.{between-below, between-place, place_of}
use Rattle.turns.proofs.Seeking.{Looked}

module _ (K : Kind) (d : Jobs K) (l : d.last < 8) (i : ℕ) (b : i < 8) (goes : K.unfinished (d.at i) ≡ true) where
  not-passed : K.unfinished (d.at ((suc d.last + between i d.last) % 8)) ≡ false → ⊥
  not-passed f = false≢true (sym f ∙ ap (λ (i : ℕ). K.unfinished (d.at i)) (sym (place_of i d.last b l)) ∙ goes)

  pub somebody : Looked K d none → ⊥
  somebody f = not-passed (f (between i d.last) (between-below i d.last))

  pub closest : (k : ℕ) → Looked K d (some k) → between k d.last ≤ between i d.last
  closest k f = rw (between-place k d.last f.steps l f.within f.place) (pick (dec_le f.steps (between i d.last)))
    where
      pick : Dec (f.steps ≤ between i d.last) → f.steps ≤ between i d.last
      pick (yes le) = le
      pick (no gt) = absurd (not-passed (f.first (between i d.last) (omega arith)))
