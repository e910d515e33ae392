-- A step made in place, of a head in numbers: one that goes on is the call, and where it does not go on nothing has changed.
use mathlib.Core.Path.{◌≡◌, sym, ap, ◌∙◌}
use mathlib.Core.Bool.{Bool, true, false, cond, and-eq-true_iff}
use mathlib.Core.List.{List, []}
use Prim.Native.Nat.{ℕ}
use lib.Dec.{eqb}
use borrow.Author.Tests.{eqb-true}
use Rattle.frame.specs.declared.Shape.{Shape}
use Rattle.job.specs.Answers.{answered_outcome}
use Rattle.job.specs.Calls.{step, next}
use Rattle.job.specs.Job.{beside}
use Rattle.job.specs.declared.Head.{Head}
use Rattle.job.specs.declared.Phase.{Phase}
use Rattle.job.specs.declared.Phase.TheVariants.{Unfinished}
use Rattle.mirror.specs.Mirror.{phase_of, head_of}
use Rattle.mirror.specs.declared.CHead.{CHead}
use Rattle.onward.specs.GoingOn.{GoesOn, goes_onward}
use Rattle.onward.proofs.GoingOn.{goes-on-next}
use Rattle.searching.specs.Arriving.{all_arrays, goes_on}
use Rattle.slices.specs.Synthesis.{Synthesis, advanced}

module _ (m : CHead) (x : Synthesis) {r : Bool} {y : Synthesis} (gone : GoesOn (eqb m.phase 3) (head_of m).shape x r y) where
  abbrev s : Shape
  s = (head_of m).shape

  -- nothing is made
  pub as_lent : r ≡ false → y ≡ x
  as_lent e = gone.left ∙ ap (λ (b : Bool). cond b (advanced s.rows x) x) e

  module _ (e : r ≡ true) where
    onward : goes_onward (eqb m.phase 3) s x ≡ true
    onward = sym gone.told ∙ e

    number : eqb m.phase 3 ≡ true
    number = ((and-eq-true_iff (eqb m.phase 3) _).0 onward).0

    -- its phase is unfinished
    own-head : head_of m ≡ record { phase = Unfinished; shape = s; columns = (head_of m).columns }
    own-head =
        ap (λ (p : Phase). record { phase = p; shape = s; columns = (head_of m).columns })
        (ap (λ (k : ℕ). phase_of k m.length m.alone) (eqb-true m.phase 3 number))

    pub gone_on : (sums taps held : List ℕ) → answered_outcome (goes_on s) (all_arrays sums taps held y) [] ≡ step (beside (head_of m) (all_arrays sums taps held x)) next
    gone_on sums taps held =
        ap (λ (y : Synthesis). answered_outcome (goes_on s) (all_arrays sums taps held y) [])
        (gone.left ∙ ap (λ (b : Bool). cond b (advanced s.rows x) x) e)
        ∙ goes-on-next s (head_of m).columns sums taps held x (ap (λ (b : Bool). goes_onward b s x) (sym number) ∙ onward)
        ∙ ap (λ (h : Head). step (beside h (all_arrays sums taps held x)) next) (sym own-head)
