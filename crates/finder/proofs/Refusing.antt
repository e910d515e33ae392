-- A refusal of the tests is the finder's answer, and leaves the buffer as it was.
use mathlib.Core.Path.{◌≡◌, sym}
use mathlib.Core.List.{List}
use Prim.Native.Nat.{ℕ}
use lib.ListN.{length}
use Rattle.std.specs.Prelude.{Err}
use Rattle.refusal.proofs.Outcomes.{given-refused}
use Rattle.refusal.specs.Number.{number}
use Rattle.refusal.specs.Outcome.{outcome}
use Rattle.refusal.specs.Outcome as Outcome
use Rattle.refusal.specs.declared.Refusal.{Refusal}
use Rattle.sequences.specs.Tests.{tests}
use Rattle.finder.specs.Finder.{refused, answer, taps_left, Finds}

pub refuses : (p : ℕ) (lengths symbols buffer : List ℕ) (r : Refusal) →
    outcome (tests p lengths symbols (length buffer)) ≡ Outcome.refused (number r) → Finds p lengths symbols buffer buffer (Err r)
unfolding answer taps_left
refuses p lengths symbols buffer r e =
    let ts = tests p lengths symbols (length buffer) in
    record { answers = sym (given-refused refused _ ts (number r) e); leaves = sym (given-refused (λ _. buffer) _ ts (number r) e) }
