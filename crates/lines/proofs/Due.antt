-- A line that is due is not empty: where bytes are to be used for the next line, there is something to be written.
use mathlib.Core.Path.{◌≡◌, refl, ap}
use mathlib.Core.Logic.{inl, inr}
use mathlib.Core.Bool.{Bool, true, false, cond}
use mathlib.Core.List.{List, [], ◌∷◌}
use Prim.Native.Nat.{ℕ, ◌+◌, ◌≤◌, ◌<◌}
use native.Mathlib.Omega.{arith}
use lib.ListN.{length, take, drop, length-append}
use lib.Seq.{length-take-le, take-length}
use borrow.Author.Tests.{leb-true}
use Rattle.reader.specs.Fields.{field_of}
use Rattle.record.specs.Line.{line_of}
use Rattle.record.specs.Record.{claimed_by}
use Rattle.lines.specs.Demands.{OfOneRecord, IsLine}
use Rattle.lines.specs.Lines.{starts_whole, text_of, next_size}
use Rattle.lines.specs.Streams.{EndsInside}
use Rattle.lines.proofs.Demands.{records}
use Rattle.lines.proofs.NextLine.{next-line}
use Rattle.lines.proofs.Streams.{claimed_said, ends-inside, length-kept}

-- the bytes used for the next line are those got of one record
of_one : (b m : Bool) (x : List ℕ) → starts_whole x ≡ b → OfOneRecord (take (cond b (2 + claimed_by x) (cond m 0 (length x))) x)
unfolding starts_whole
of_one true m x e h =
    let fits = leb-true (2 + claimed_by x) (length x) e in
    omega (arith, length-take-le (2 + claimed_by x) x fits, length-kept (2 + claimed_by x) x (omega arith), claimed_said x (omega arith))
of_one false true x e h = absurd (let z : ⊥ = omega arith in z)
of_one false false x e h = rw (take-length x) (pick (ends-inside x e))
  where
    two : 2 ≤ length x
    two = omega (arith, h, ap length (take-length x))

    pick : EndsInside x → length x ≤ 2 + field_of x 0
    pick (inl l) = let t = two in omega arith
    pick (inr l) = omega arith

not-empty : (text : List ℕ) → IsLine text → 0 < length text
not-empty text (body, e, n) = omega (arith, ap length e, length-append body (10 ∷ []))

pub some-due : (more : Bool) (x : List ℕ) → 0 < next_size more x → 0 < length (text_of more x)
unfolding next_size
some-due more x h =
    let first : List ℕ = line_of (take (next_size more x) x) in
    let line = not-empty first (records.one_line (take (next_size more x) x) (of_one (starts_whole x) more x refl)) in
    omega (arith, ap length (next-line more x h), length-append first (text_of more (drop (next_size more x) x)))
