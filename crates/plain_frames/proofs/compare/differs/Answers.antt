use mathlib.Core.List.{List}
use mathlib.Core.Path.{ap, sym, ◌∙◌}
use Prim.Native.Nat.{ℕ}
use native.Mathlib.Omega.{arith}
use lib.ListN.{get_or}
use Rattle.plain.proofs.Tests.{some-found, none_found, each_none, each_more}
use Rattle.plain_frames.proofs.compare.differs.Goals as goal

pub loop-h-init : goal.loop-h-init
loop-h-init c = (omega arith, each_none _ _)

pub returns-then-get : goal.returns-then-get
returns-then-get c =
    let left = c.get.ensures ∙ ap (λ (l : List ℕ). get_or l c.args.i 0) c.row.ensures in
    let right = c.get-in-loop-h.ensures ∙ ap (λ (l : List ℕ). get_or l c.args.i 0) c.row-in-loop-h.ensures in
    some-found _ _ c.loop-h.h (omega arith) (λ e. c.if-get.true (left ∙ e ∙ sym right))

pub loop-h-preserved : goal.loop-h-preserved
loop-h-preserved c =
    let left = c.get.ensures ∙ ap (λ (l : List ℕ). get_or l c.args.i 0) c.row.ensures in
    let right = c.get-in-loop-h.ensures ∙ ap (λ (l : List ℕ). get_or l c.args.i 0) c.row-in-loop-h.ensures in
    (omega arith, each_more _ _ _ c.loop-h.invariant.1 (sym left ∙ c.if-get.false ∙ right))

pub returns : goal.returns
returns c = none_found _ _ _ (omega arith) (λ k low high n. n (c.loop-h.invariant.1 k low high))
