-- Locating from check sums: what it gives.
use Rattle.std.specs.Prelude.{List, ℕ}
use Rattle.decoding.specs.Remaining.{all_remaining}
use Rattle.frame.specs.DeclaredCells.{Declared, declared_by}
use Rattle.frame.specs.Frame.{held_sequences}
use Rattle.frame.specs.declared.Shape.{Shape}
use Rattle.job.specs.Calls.{Outcome, refusing, mends_uniform, unseen, register_tests, locates}
use Rattle.job.specs.Job.{Arrays, shaped_job}
use Rattle.refusal.specs.Order.{first_of}

-- what locating from the sums alone gives beside the arrays a, after the tests that leave a job as it is; f is the frame that the call was lent
abbrev pub from_sums : Shape → Arrays → (declared sums f : List ℕ) → Outcome
from_sums s a declared sums f =
    let D : Declared = declared_by declared in
    let S : List (List ℕ) = held_sequences s sums in
    first_of (refusing (shaped_job s a) f) (register_tests s D S unseen) (locates s a declared (all_remaining s D S) sums f)

-- and where the cells of the frame are seen
abbrev pub seen_from : Shape → Arrays → (declared sums f : List ℕ) → Outcome
seen_from s a declared sums f =
    let D : Declared = declared_by declared in
    let S : List (List ℕ) = held_sequences s sums in
    first_of (refusing (shaped_job s a) f) (register_tests s D S (mends_uniform s D f)) (locates s a declared (all_remaining s D S) sums f)
