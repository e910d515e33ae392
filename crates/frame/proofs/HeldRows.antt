-- The check sums of a row among the 512 that are held: they end within them, they are as many as the row has checks, and a row's sequence is a part of them.
use mathlib.Core.Path.{◌≡◌, ap₂}
use mathlib.Core.Bool.{true}
use mathlib.Core.List.{List, []}
use Prim.Native.Nat.{ℕ, ◌+◌, ◌-◌, ◌≤◌, ◌<◌}
use native.Mathlib.Omega.{arith}
use lib.ListN.{length, get_or, take, drop, length-drop}
use lib.Seq.{length-take-le}
use borrow.Rule.Slice.PartMut.{mid_of}
use Rattle.lists.proofs.Tabulated.{get_d_tabulate}
use Rattle.lists.proofs.Totals.{total-within, total-bound}
use Rattle.frame.specs.Frame.{sums_before, held_sequences}
use Rattle.frame.specs.Shape.{checks_of, is_shape}
use Rattle.frame.specs.declared.Shape.{Shape}
use Rattle.frame.proofs.HeldParts.{part_of}
use Rattle.frame.proofs.Shapes.{shape-ranges}

pub sums-room : (s : Shape) → is_shape s ≡ true → (h : ℕ) → h < s.rows → sums_before s h + checks_of s h ≤ 512
sums-room s shape h l =
    let r = shape-ranges s shape in
    let rows = r.rows-most in
    let within = total-within (checks_of s) h s.rows l in
    omega (arith, total-bound s.rows 64 (checks_of s) (λ h l. (r.checks h l).most))

pub length_part : (s : Shape) → is_shape s ≡ true → (sums : List ℕ) → length sums ≡ 512 → (h : ℕ) → h < s.rows → length (part_of s sums h) ≡ checks_of s h
length_part s shape sums sized h l =
    length-take-le (checks_of s h) (drop (sums_before s h) sums) (let r = sums-room s shape h l in omega (arith, length-drop (sums_before s h) sums))

pub part_held : (s : Shape) (sums : List ℕ) (h : ℕ) → h < s.rows → get_or (held_sequences s sums) h [] ≡ part_of s sums h
unfolding held_sequences
part_held s sums h l = get_d_tabulate s.rows _ h [] l

-- the part as it is lent, c sums from place `at` on
pub part-lent : (s : Shape) (sums : List ℕ) (h at c : ℕ) → at ≡ sums_before s h → c ≡ checks_of s h → mid_of at (at + c - at) sums ≡ part_of s sums h
part-lent s sums h at c a e = ap₂ (λ (k p : ℕ). take k (drop p sums)) (let q : at + c - at ≡ checks_of s h = omega arith in q) a
