-- What a turn answers and leaves.
use mathlib.Core.Path.{◌≡◌, refl, sym, ap, subst, ◌∙◌}
use mathlib.Core.Bool.{true, false, false≢true}
use mathlib.Core.Option.{Option, none, some}
use Prim.Native.Nat.{ℕ, ◌<◌}
use Rattle.turns.specs.Dispatcher.{Kind, Jobs, turn, refused_33, after, reply, turned, turn_reply, served}
use Rattle.turns.specs.Turning.{Serving, Turning}
use Rattle.turns.proofs.Closest.{closest, somebody}
use Rattle.turns.proofs.Putting.{put-there, put_elsewhere}
use Rattle.turns.proofs.Seeking.{Looked, looked, found_below}

module _ (K : Kind) (d : Jobs K) where
  nobody : ((i : ℕ) → i < 8 → K.unfinished (d.at i) ≡ false) → served K d ≡ none
  nobody all = pick (served K d) (looked K d)
    where
      pick : (r : Option ℕ) → Looked K d r → r ≡ none
      pick none f = refl
      pick (some k) f = absurd (false≢true (sym (all k (found_below K d k f)) ∙ f.holds))

  idle : ((i : ℕ) → i < 8 → K.unfinished (d.at i) ≡ false) → (reply K d turn ≡ refused_33) × (after K d turn ≡ d)
  unfolding reply after
  idle all = let e = nobody all in (ap (turn_reply K d) e, ap (turned K d) e)

  module _ (l : d.last < 8) where
    serves : (i : ℕ) → i < 8 → K.unfinished (d.at i) ≡ true → (k : ℕ) × (served K d ≡ some k)
    serves i b goes = pick (served K d) (looked K d)
      where
        pick : (r : Option ℕ) → Looked K d r → (k : ℕ) × (r ≡ some k)
        pick none f = absurd (somebody K d l i b goes f)
        pick (some k) f = (k, refl)

    serving : (k : ℕ) → served K d ≡ some k → Serving K d k
    unfolding reply after
    serving k e =
        let f : Looked K d (some k) = subst (Looked K d) e (looked K d) in
        record {
          below = found_below K d k f;
          unfinished = f.holds;
          closest = λ i b goes. closest K d l i b goes k f;
          answer = ap (turn_reply K d) e;
          job = ap (λ (r : Option ℕ). (turned K d r).at k) e ∙ put-there K d k (K.leaves (d.at k) K.step);
          others = λ i n. ap (λ (r : Option ℕ). (turned K d r).at i) e ∙ put_elsewhere K d k (K.leaves (d.at k) K.step) i n;
          last = ap (λ (r : Option ℕ). (turned K d r).last) e;
        }

    pub turning : Turning K d
    turning = record { serves = serves; serving = serving; idle = idle }
