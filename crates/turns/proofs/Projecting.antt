-- Each job by itself sees exactly the list of its own calls.
use mathlib.Core.Path.{◌≡◌, refl, sym, ap, ◌∙◌}
use mathlib.Core.Bool.{Bool, true, false, cond}
use mathlib.Core.List.{List, [], ◌∷◌}
use mathlib.Core.Option.{Option, none, some}
use Prim.Native.Nat.{ℕ, ◌<◌}
use native.Mathlib.Omega.{arith}
use lib.Dec.{eqb}
use borrow.Author.Tests.{eqb-true, eqb-false}
use Rattle.turns.specs.Dispatcher.{Kind, Jobs, Event, on, turn, after, turned, put, run_from, served, call_by, call_on, consed, calls_on, alone}
use Rattle.turns.specs.Turning.{Projection}
use Rattle.turns.proofs.Calling.{calling}
use Rattle.turns.proofs.Putting.{put-there, put_elsewhere}

module _ (K : Kind) where
  -- what no call or one leaves of a job
  abbrev left_by : K.job → Option K.call → K.job
  left_by j none = j
  left_by j (some c) = K.leaves j c

  -- what an event does to job k
  sees : (d : Jobs K) (e : Event K) (k : ℕ) → k < 8 → (after K d e).at k ≡ left_by (d.at k) (call_on K d k e)
  unfolding after call_on
  sees d (on i c) k b = pick (eqb k i) refl
    where
      pick : (t : Bool) → eqb k i ≡ t → (after K d (on i c)).at k ≡ left_by (d.at k) (cond t (some c) none)
      pick true e = let q = eqb-true k i e in rw q ((calling K d i c).job (omega arith))
      pick false e = (calling K d i c).others k (eqb-false k i e)
  sees d turn k b = pick (served K d)
    where
      here : (i : ℕ) (t : Bool) → eqb k i ≡ t → put K d i (K.leaves (d.at i) K.step) k ≡ left_by (d.at k) (cond t (some K.step) none)
      here i true e = rw (eqb-true k i e) (put-there K d i (K.leaves (d.at i) K.step))
      here i false e = put_elsewhere K d i (K.leaves (d.at i) K.step) k (eqb-false k i e)

      pick : (r : Option ℕ) → (turned K d r).at k ≡ left_by (d.at k) (call_by K k r)
      pick none = refl
      pick (some i) = here i (eqb k i) refl

  alone-consed : (j : K.job) (c : Option K.call) (cs : List K.call) → alone K j (consed K c cs) ≡ alone K (left_by j c) cs
  unfolding alone
  alone-consed j none cs = refl
  alone-consed j (some c) cs = refl

  pub projection : Projection K
  unfolding run_from calls_on alone
  projection d [] k b = refl
  projection d (e ∷ es) k b =
      projection (after K d e) es k b
      ∙ ap (λ j. alone K j (calls_on K k (after K d e) es)) (sees d e k b)
      ∙ sym (alone-consed (d.at k) (call_on K d k e) (calls_on K k (after K d e) es))
