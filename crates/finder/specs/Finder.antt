-- What the finder answers and leaves in the lent tap buffer, for every input (SPECIFICATION.md, "Registers" and the refusals 1, 2, 3, 8, 4 in this order).
use Rattle.std.specs.Prelude.{◌≡◌, Bool, List, ◌++◌, ℕ, Result, Ok, Err, length, drop}
use Rattle.refusal.specs.Number.{number}
use Rattle.refusal.specs.Order.{first_of}
use Rattle.refusal.specs.declared.Refusal.{Refusal}
use Rattle.finder.specs.declared.Register.{Register}
use Rattle.register.specs.Algorithm4.{found, found_alone}
use Rattle.register.specs.Sequences.{longest, split}
use Rattle.sequences.specs.Tests.{tests}

-- the answer in the terms of the specification: a length and the alone mark, or the number of a refusal
pub data Answer : Type 0 where
  register : ℕ → Bool → Answer
  refused : ℕ → Answer

abbrev pub answer_of : Result Register Refusal → Answer
answer_of (Ok r) = register r.length r.alone
answer_of (Err r) = refused (number r)

unfoldable pub answer : (p : ℕ) (lengths symbols : List ℕ) (room : ℕ) → Answer
answer p lengths symbols room =
    let ss : List (List ℕ) = split lengths symbols in
    first_of refused (tests p lengths symbols room) (register (found p ss (longest ss)).size (found_alone p ss (longest ss)))

-- the tap buffer as the finder leaves it: the taps 0 .. l, then what stood there before
unfoldable pub taps_left : (p : ℕ) (lengths symbols buffer : List ℕ) → List ℕ
taps_left p lengths symbols buffer =
    let ss : List (List ℕ) = split lengths symbols in
    let taps : List ℕ = (found p ss (longest ss)).taps in
    first_of (λ k. buffer) (tests p lengths symbols (length buffer)) (taps ++ drop (length taps) buffer)

-- what the finder does: its answer, and the tap buffer that it leaves
pub record Finds (p : ℕ) (lengths symbols buffer left : List ℕ) (r : Result Register Refusal) : Type 0 where
  pub answers : answer_of r ≡ answer p lengths symbols (length buffer)
  pub leaves : left ≡ taps_left p lengths symbols buffer
