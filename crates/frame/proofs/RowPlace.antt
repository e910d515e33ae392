-- Where row h of a frame lies: within the frame, at numbers that fit every sum and product made of them.
use mathlib.Core.Path.{◌≡◌}
use mathlib.Core.Bool.{true}
use Prim.Native.Nat.{ℕ, suc, ◌+◌, ◌*◌, ◌≤◌, ◌<◌}
use native.Mathlib.Nat.{mul-le-mul, mul-le-mul_right, suc-mul}
use native.Mathlib.Omega.{arith}
use Rattle.frame.specs.Shape.{is_shape}
use Rattle.frame.specs.declared.Shape.{Shape}
use Rattle.frame.proofs.Shapes.{RowRanges, shape-ranges}

pub record RowPlace (s : Shape) (size h : ℕ) : Type 0 where
  pub inside : h * s.columns + s.columns ≤ size
  pub small : size ≤ 2048
  pub wide : s.columns ≤ 256
  pub row_number : h < 8
  pub checks : RowRanges s h

-- a frame has at most 2048 symbols
pub frame_small : (s : Shape) → is_shape s ≡ true → s.rows * s.columns ≤ 8 * 256
frame_small s shape = let r = shape-ranges s shape in mul-le-mul r.rows-most r.columns-most

pub row-place : (s : Shape) (size h : ℕ) → is_shape s ≡ true → size ≡ s.rows * s.columns → h < s.rows → RowPlace s size h
row-place s size h shape e l =
    let r = shape-ranges s shape in
    let rows = r.rows-most in
    let columns = r.columns-most in
    let up : suc h * s.columns ≤ s.rows * s.columns = mul-le-mul_right s.columns l in
    let most = frame_small s shape in
    record {
      inside = (let q = suc-mul h s.columns in omega arith);
      small = omega arith;
      wide = columns;
      row_number = omega arith;
      checks = r.checks h l;
    }
