-- What calls leave in the job, place by place: the shape is the one given, the sums held are those of the frame, and the taps those of the register.
use mathlib.Core.Path.{◌≡◌, refl, ◌∙◌}
use mathlib.Core.Bool.{true}
use mathlib.Core.List.{List, ◌++◌}
use Prim.Native.Nat.{ℕ, suc, ◌-◌, ◌≤◌, ◌<◌}
use native.Mathlib.Omega.{arith}
use lib.ListN.{length, replicate, get_or-eq_default}
use borrow.Author.Tests.{leb-true}
use Rattle.decoding.specs.Locating.{rows_reach}
use Rattle.frame.specs.Frame.{held_sums}
use Rattle.frame.specs.Shape.{is_shape, checks_of, shape_of, shape_tests}
use Rattle.frame.specs.declared.Shape.{Shape}
use Rattle.frame.proofs.GivenShapes.{given-checks, no-checks, eight-places}
use Rattle.frame.proofs.HeldEntries.{held-entry, held-rest}
use Rattle.frame.proofs.HeldSums.{held-length}
use Rattle.lists.proofs.Padded.{padded_entry, padded_length}
use Rattle.frame.proofs.Reasons.{shape-passes}
use Rattle.frame.proofs.Shapes.{shape-ranges}
use Rattle.lists.proofs.Tabulated.{every-at}
use Rattle.refusal.proofs.Orders.{Pass}
use Rattle.job.specs.Left.{Given, HoldsSums, HoldsTaps}

pub shape-given : (n : ℕ) (checks : List ℕ) (b : ℕ) → Pass (shape_tests n checks b) → Given n checks b (shape_of n checks b)
unfolding shape_of
shape-given n checks b p = record {
  rows = refl;
  columns = refl;
  each = given-checks n checks b;
  rest = no-checks n checks b;
  places = eight-places n checks b (shape-ranges (shape_of n checks b) (shape-passes n checks b p)).rows-most;
  exponent = refl;
}

pub sums-held : (s : Shape) (f : List ℕ) → is_shape s ≡ true → HoldsSums s f (held_sums s f)
sums-held s f shape = record { places = held-length s f shape; each = held-entry s f; rest = held-rest s f }

-- no register that every row reaches is longer than 64
reached-length : (s : Shape) (c : ℕ) → is_shape s ≡ true → rows_reach s c ≡ true → c ≤ 64
unfolding rows_reach
reached-length s c shape reach =
    let r = shape-ranges s shape in
    let first : 0 < s.rows = omega (arith, r.rows-least) in
    let checks : c ≤ checks_of s 0 = leb-true _ _ (every-at s.rows _ reach 0 first) in
    omega (arith, (r.checks 0 first).most)

pub taps-held : (s : Shape) (c : ℕ) (σ : List ℕ) → is_shape s ≡ true → rows_reach s c ≡ true → length σ ≡ suc c
    → HoldsTaps c σ (σ ++ replicate (65 - length σ) 0)
taps-held s c σ shape reach size = record {
  places = padded_length σ 65 (omega (arith, reached-length s c shape reach));
  each = λ i inside. padded_entry σ (65 - length σ) i;
  rest = λ i past. padded_entry σ (65 - length σ) i ∙ get_or-eq_default σ 0 (let l : length σ ≤ i = omega arith in l);
}
