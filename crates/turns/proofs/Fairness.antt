-- While a job is unfinished it is served within any eight turns: each turn that does not serve it serves one closer to it.
use mathlib.Core.Path.{◌≡◌, refl, sym, ap}
use mathlib.Core.Bool.{Bool, true, false, cond}
use mathlib.Core.List.{[], ◌∷◌}
use mathlib.Core.Option.{Option, none, some}
use Prim.Native.Nat.{ℕ, ◌+◌, ◌*◌, ◌<◌}
use native.Mathlib.Omega.{arith}
use lib.Dec.{eqb}
use borrow.Author.Tests.{eqb-false}
use Rattle.turns.specs.Dispatcher.{Kind, Jobs, on, turn, after, turned, served, turns_in, is_served, serves_in}
use Rattle.turns.specs.Turning.{between, FewTurns, Fair}
use Rattle.turns.proofs.Calling.{calling}
use Rattle.turns.proofs.Circle.{nearer}
use Rattle.turns.proofs.Closest.{closest, somebody}
use Rattle.turns.proofs.LastServed.{event_below}
use Rattle.turns.proofs.Seeking.{Looked, looked, found_below}

module _ (K : Kind) where
  module _ (d : Jobs K) (k : ℕ) (l : d.last < 8) (b : k < 8) (goes : K.unfinished (d.at k) ≡ true) where
    closer : (r : Option ℕ) → Looked K d r → between k (turned K d r).last < 8 * is_served K k r + between k d.last
    closer none f = absurd (somebody K d l k b goes f)
    closer (some j) f = pick (eqb k j) refl
      where
        pick : (t : Bool) → eqb k j ≡ t → between k j < 8 * cond t 1 0 + between k d.last
        pick true e = omega arith
        pick false e =
            let n = nearer k j d.last b (found_below K d j f) l (λ q. eqb-false k j e (sym q)) (closest K d l k b goes j f) in
            omega arith

  pub few-turns : FewTurns K
  unfolding turns_in serves_in after
  few-turns d [] k l b u = omega arith
  few-turns d (on i c ∷ es) k l b u =
      let rest = few-turns (after K d (on i c)) es k (event_below K d (on i c) l) b u in
      let same : between k (after K d (on i c)).last ≡ between k d.last = ap (between k) (calling K d i c).no_service in
      omega arith
  few-turns d (turn ∷ es) k l b u =
      let rest = few-turns (after K d turn) es k (event_below K d turn l) b u.1 in
      let less = closer d k l b u.0 (served K d) (looked K d) in
      omega arith

  pub fair : Fair K
  fair d es k l b u eight = let few = few-turns d es k l b u in omega arith
