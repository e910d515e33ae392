-- What locate and repair do, by the definitions of the calls, for every value of the arrays that they are not lent; and what is known of a job that is to be
-- repaired.
use Rattle.std.specs.Prelude.{◌≡◌, true, false, List, ℕ}
use Rattle.frame.specs.DeclaredCells.{nothing_declared}
use Rattle.job.specs.Answers.{answered_outcome}
use Rattle.job.specs.Calls.{locate, repair, step}
use Rattle.job.specs.Job.{Arrays, beside, counts_empty, is_located_phase, with_found, with_read}
use Rattle.job.specs.declared.Answered.{Answered}
use Rattle.job.specs.declared.Head.{Head}

-- locate answers r and leaves the arrays
abbrev pub LocateDoes :
    (j : Head) (sums taps held declared frame : List ℕ) (r : Answered) (sumsLeft taps_left heldLeft : List ℕ) → Type 0
LocateDoes j sums taps held declared frame r sumsLeft taps_left heldLeft =
    (a : Arrays) →
    answered_outcome r (with_found a sumsLeft taps_left heldLeft) frame ≡ step (beside j (with_found a sums taps held)) (locate declared frame)

-- repair answers r and leaves the frame
abbrev pub RepairDoes : (j : Head) (sums held frame : List ℕ) (r : Answered) (left : List ℕ) → Type 0
RepairDoes j sums held frame r left =
    (a : Arrays) → answered_outcome r (with_read a sums held) left ≡ step (beside j (with_read a sums held)) (repair frame)

-- a job that is located, as its head says
pub record Repairable (j : Head) : Type 0 where
  pub full : counts_empty j ≡ false
  pub located : is_located_phase j.phase ≡ true

-- the same, and no cell declared
pub record RepairedWhole (j : Head) (held : List ℕ) : Type 0 where
  pub repairable : Repairable j
  pub nothing : nothing_declared held ≡ true
