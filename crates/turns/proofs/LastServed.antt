-- The one served last stays one of the eight.
use mathlib.Core.List.{List, [], ◌∷◌}
use mathlib.Core.Option.{Option, none, some}
use Prim.Native.Nat.{ℕ, ◌<◌}
use Rattle.turns.specs.Dispatcher.{Kind, Jobs, Event, on, turn, after, turned, run_from, served}
use Rattle.turns.proofs.Calling.{calling}
use Rattle.turns.proofs.Seeking.{Looked, looked, found_below}

module _ (K : Kind) where
  pub event_below : (d : Jobs K) (e : Event K) → d.last < 8 → (after K d e).last < 8
  unfolding after
  event_below d (on k c) l = rw (calling K d k c).no_service l
  event_below d turn l = pick (served K d) (looked K d)
    where
      pick : (r : Option ℕ) → Looked K d r → (turned K d r).last < 8
      pick none f = l
      pick (some k) f = found_below K d k f

  pub last-below : (d : Jobs K) (es : List (Event K)) → d.last < 8 → (run_from K d es).last < 8
  unfolding run_from
  last-below d [] l = l
  last-below d (e ∷ es) l = last-below (after K d e) es (event_below d e l)
