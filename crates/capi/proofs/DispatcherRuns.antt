-- Lists of calls and turns through the C interface answer and leave what eight jobs do.
use mathlib.Core.Path.{◌≡◌, refl, sym, ap, ap₂, subst, ◌∙◌}
use mathlib.Core.List.{List, [], ◌∷◌}
use Prim.Native.Nat.{ℕ}
use Rattle.dispatch.specs.Calls.{EmptyDoes}
use Rattle.eight_jobs.specs.Eight.{jobs, emptied, dispatched}
use Rattle.job.specs.Calls.{shape, encode, locate, repair, start, next, peek}
use Rattle.kept.specs.Kept.{Heads, Kept, kept, arrays_at, jobs_of}
use Rattle.kept.specs.Runs.{EightKept, Keeps, KeptRuns, kept_run}
use Rattle.kept.proofs.FirstJobs.{starts-empty}
use Rattle.kept.proofs.Runs.{faithful}
use Rattle.turns.specs.Dispatcher.{Event, on, turn, reply}
use Rattle.capi.specs.DispatcherRuns.{number, answer, peeked, turned, DReturn, DStep, DRun, reply_for, frame_for, DGiven, DReturned, DEdge}
use Rattle.capi.proofs.DispatcherTotal.{dispatcher_total}

-- by what the function promises of each struct
given : (p : Kept) (e : Event jobs) (r : DReturn) → DStep p e r → DGiven p e r
given p (on k (shape n checks b)) r (s, hs, does, e) =
    let g = does p.sums p.taps p.declared p.searches p.last in
    rw e (record { answers = ap number g.answers; frame = g.frame; left = g.leaves })
given p (on k (encode f)) r (s, left, does, e) =
    let g = does p.sums p.taps p.declared p.searches p.last in
    rw e (record { answers = ap number g.answers; frame = g.frame; left = g.leaves })
given p (on k (locate words f)) r (s, hs, sums, taps, held, does, e) =
    let g = does p.searches p.last in
    rw e (record { answers = ap answer g.answers; frame = g.frame; left = g.leaves })
given p (on k (repair f)) r (s, hs, left, does, e) =
    let g = does p.taps p.searches p.last in
    rw e (record { answers = ap answer g.answers; frame = g.frame; left = g.leaves })
given p (on k (start words f)) r (s, hs, sums, taps, held, y, does, e) =
    let g = does p.last in
    rw e (record { answers = ap answer g.answers; frame = g.frame; left = g.leaves })
given p (on k next) r (s, hs, taps, y, does, e) =
    let g = does p.last in
    rw e (record { answers = ap answer g.answers; frame = g.frame; left = g.leaves })
given p (on k peek) r (s, does, e) =
    let g = does p.taps p.last in
    rw e (record { answers = ap peeked g.answers; frame = g.frame; left = g.leaves })
given p turn r (s, hs, taps, y, last, g, e) = rw e (record { answers = ap turned g.answers; frame = refl; left = g.leaves })

-- what a list leaves
run-left : (p : Kept) (es : List (Event jobs)) (q : Kept) → DRun p es q → q ≡ kept_run p es
unfolding kept_run
run-left p [] q e = e
run-left p (e ∷ es) q (r, done, rest) = run-left r.left es q rest ∙ ap (λ (p : Kept). kept_run p es) (given p e r done).left

-- the struct that is emptied
first : (p : Kept) → EmptyDoes p.heads p.last → Keeps p (emptied (arrays_at p))
first p empty =
    let e = ap₂ (λ (hs : Heads) (last : ℕ). kept hs p.sums p.taps p.declared p.searches last) empty.heads empty.last-served in
    subst (λ (q : Kept). Keeps q (emptied (arrays_at p))) (sym e) (starts-empty p.sums p.taps p.declared p.searches)

module _ (p : Kept) (es : List (Event jobs)) (q : Kept) (eight : EightKept p) (empty : EmptyDoes p.heads p.last) (ran : DRun p es q) where
  kept_so : KeptRuns p (emptied (arrays_at p)) es
  kept_so = faithful p (emptied (arrays_at p)) es eight (first p empty)

  left : Keeps q (dispatched (arrays_at p) es)
  left = subst (λ (q : Kept). Keeps q (dispatched (arrays_at p) es)) (sym (run-left p es q ran)) kept_so.keeps

  returned : (e : Event jobs) (r : DReturn) → DStep q e r → DReturned (arrays_at p) es e r
  returned e r done =
      let g = given q e r done in
      let same : reply jobs (jobs_of q) e ≡ reply jobs (dispatched (arrays_at p) es) e =
      ap (λ (q : Kept). reply jobs (jobs_of q) e) (run-left p es q ran) ∙ kept_so.answers e in
      record { answers = g.answers ∙ ap (reply_for e) same; frame = g.frame ∙ ap (frame_for e) same }

pub dispatcher_edge : DEdge
dispatcher_edge =
    record {
      total = dispatcher_total;
      given = given;
      left = λ p es q eight empty ran. left p es q eight empty ran;
      returned = λ p es q e r eight empty ran done. returned p es q eight empty ran e r done;
    }
