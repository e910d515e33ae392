-- A copy of a frame with its declared cells cleared: its first part, as it is lent, is the frame as read, and its cells tell whether every undeclared
-- cell holds a symbol.
use mathlib.Core.Path.{◌≡◌, sym, ap, ◌∙◌}
use mathlib.Core.Bool.{Bool}
use mathlib.Core.List.{List}
use Prim.Native.Nat.{ℕ, ◌-◌, ◌*◌, ◌≤◌}
use native.Mathlib.Nat.{sub-zero}
use native.Mathlib.Omega.{arith}
use lib.Dec.{ltb}
use lib.ListN.{length, get_or, take}
use borrow.Rule.Slice.PartMut.{mid_of, put_mid}
use Rattle.frame.specs.DeclaredCells.{Declared, as_read, undeclared_below}
use Rattle.frame.specs.declared.Shape.{Shape}
use Rattle.frame.proofs.ReadFrames.{length-read}
use Rattle.frame.proofs.ReadTests.{symbols-read}
use Rattle.lists.specs.Tabulate.{every}
use Rattle.lists.proofs.Parts.{part-replaced}

-- the first n entries as they are lent
pub first-lent : (n : ℕ) (l : List ℕ) → mid_of 0 (n - 0) l ≡ take n l
first-lent n l = ap (λ (k : ℕ). take k l) (sub-zero n)

module _ (s : Shape) (D : Declared) (f : List ℕ) (whole : length f ≡ s.rows * s.columns) where
  -- y is what clearing leaves of the first part of a copy
  pub copy_read : (copy y : List ℕ) → length f ≤ length copy → take (length f) copy ≡ f → y ≡ as_read s D (mid_of 0 (length f - 0) copy)
      → take (length f) (put_mid 0 (length f - 0) copy y) ≡ as_read s D f
  copy_read copy y room same e =
      ap (λ (k : ℕ). take (length f) (put_mid 0 k copy y)) (sub-zero (length f))
      ∙ part-replaced 0 (length f) copy y (omega arith) (ap length is ∙ length-read s D f whole ∙ sym whole) ∙ is
    where
      is : y ≡ as_read s D f
      is = e ∙ ap (as_read s D) (first-lent (length f) copy ∙ same)

  pub symbols_copied : (part : List ℕ) (all : Bool) → part ≡ as_read s D f → all ≡ every (length part) (λ k. ltb (get_or part k 0) 257)
      → undeclared_below s D f ≡ all
  symbols_copied part all e t =
      symbols-read s D f whole ∙ sym (t ∙ ap (λ (x : List ℕ). every (length x) (λ k. ltb (get_or x k 0) 257)) e)
