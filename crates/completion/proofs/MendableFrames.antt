-- What mending row after row uses of a frame that can be mended, and of the sums that are held of it.
use mathlib.Core.Path.{◌≡◌, subst⁻¹, ap, ◌∙◌}
use mathlib.Core.List.{List}
use Prim.Native.Nat.{ℕ, ◌≤◌, ◌<◌}
use native.Mathlib.Omega.{arith}
use lib.ListN.{length, get_or}
use Rattle.columns.specs.Columns.{members}
use Rattle.columns.specs.declared.Columns.{Columns}
use Rattle.lists.proofs.Totals.{total-bound}
use Rattle.frame.specs.Frame.{row_sums}
use Rattle.frame.specs.Shape.{checks_of}
use Rattle.frame.specs.declared.Shape.{Shape}
use Rattle.frame.proofs.HeldParts.{part_of}
use Rattle.frame.proofs.HeldSums.{held_below, held-length, held-row}
use Rattle.frame.proofs.Shapes.{shape-ranges}
use Rattle.completion.specs.Mendable.{MendableFrame, RowsLent}

-- the exponent is in range, the rows are lent with their check sums, and the set has at most 64 columns
pub record MendableRows (s : Shape) (set : Columns) (sums f : List ℕ) : Type 0 where
  pub exponent : s.exponent ≤ 255
  pub lent : RowsLent s sums f
  pub held : (h : ℕ) → h < s.rows → part_of s sums h ≡ row_sums s f h
  pub few : length (members set) ≤ 64

pub held_mendable : (s : Shape) (set : Columns) (sums f : List ℕ) → MendableFrame s set sums f → MendableRows s set sums f
held_mendable s set sums f a =
    let r = shape-ranges s a.shape in
    record {
      exponent = r.exponent-most;
      lent = record {
        rows-most = r.rows-most;
        narrow = r.columns-most;
        checks-most = λ h l. (r.checks h l).most;
        whole = a.whole;
        sums-room = λ h l.
            let rows = r.rows-most in
            let before = total-bound h 64 (checks_of s) (λ k b. (r.checks k (omega arith)).most) in
            let most = (r.checks h l).most in
            let long = ap length a.held ∙ held-length s f a.shape in
            omega arith;
        sums-small = λ k. subst⁻¹ (λ (l : List ℕ). get_or l k 0 < 257) a.held (held_below s f k);
      };
      held = λ h l. ap (λ (z : List ℕ). part_of s z h) a.held ∙ held-row s f h l;
      few = (let e = a.reach 0 r.rows-least in let m = (r.checks 0 r.rows-least).most in omega arith);
    }
