-- Two lists of events one after the other.
use mathlib.Core.Path.{◌≡◌, refl}
use mathlib.Core.List.{List, [], ◌∷◌, ◌++◌}
use Rattle.turns.specs.Dispatcher.{Kind, Jobs, Event, after, run_from}

module _ (K : Kind) where
  pub run-append : (d : Jobs K) (es fs : List (Event K)) → run_from K d (es ++ fs) ≡ run_from K (run_from K d es) fs
  unfolding run_from
  run-append d [] fs = refl
  run-append d (e ∷ es) fs = run-append (after K d e) es fs
