-- What is owed of shapes, frames and the encoder.
use mathlib.Core.Path.{◌≡◌, sym, ◌∙◌}
use mathlib.Core.Logic.{◌⊎◌, inl, inr}
use mathlib.Core.Bool.{true, false}
use mathlib.Core.List.{List}
use Prim.Native.Nat.{ℕ, ◌*◌, ◌<◌}
use lib.ListN.{length}
use Rattle.columns.specs.Columns.{has}
use Rattle.columns.proofs.Listing.{by-test}
use Rattle.refusal.proofs.Orders.{outcome_in_turn, outcome-refused, passed-pass}
use Rattle.frame.proofs.Declarable.{read-says}
use Rattle.frame.proofs.Distances.{agree, row_of_difference}
use Rattle.frame.proofs.EncodeReasons.{encode-says, encode-passes, encode-uniform}
use Rattle.frame.proofs.ReadFrames.{length-read, read-declared, read_kept}
use Rattle.frame.proofs.Reasons.{shape-says, frame-says}
use Rattle.frame.specs.DeclaredCells.{Declared, as_read, read_tests, read_reasons, differs_read, DiffersAt, Reading}
use Rattle.frame.specs.Demands.{Demand1, Demand2, shape_reasons, encode_reasons, frame_reasons}
use Rattle.frame.specs.Encode.{encode_tests}
use Rattle.frame.specs.Frame.{cell, frame_tests}
use Rattle.frame.specs.Shape.{shape_tests}
use Rattle.frame.specs.declared.Shape.{Shape}

pub demand_1 : Demand1
demand_1 = record {
  shape = λ n checks b. outcome-refused (shape_tests n checks b) (shape_reasons n checks b) (shape-says n checks b);
  encode = λ s f k shape. outcome_in_turn (encode_tests s f) (encode_reasons s f) (encode-says s f shape) k;
  frame = λ s f. outcome-refused (frame_tests s f) (frame_reasons s f) (frame-says s f);
}

pub demand_2 : Demand2
demand_2 = record { encodes = λ s f shape pass. encode-passes s f shape (passed-pass (encode_tests s f) pass); uniform = λ s f. encode-uniform s f }

-- a column of the frames as read differs exactly where an undeclared cell of it does
module _ (s : Shape) (D : Declared) (f g : List ℕ) (whole : length f ≡ s.rows * s.columns) (sized : length g ≡ s.rows * s.columns) (i : ℕ)
    (inside : i < s.columns) where
  shown : differs_read s D f g i ≡ true → DiffersAt s D f g i
  shown differ =
      let (h, below, apart) = row_of_difference s (as_read s D f) (as_read s D g) i differ in (
        h,
        below,
        pick h below apart (by-test (has (D h) i)),
        λ same. apart (by-cell h below same (by-test (has (D h) i))),
      )
    where
      by-cell : (h : ℕ) → h < s.rows → cell s.columns f h i ≡ cell s.columns g h i → (has (D h) i ≡ true) ⊎ (has (D h) i ≡ false)
          → cell s.columns (as_read s D f) h i ≡ cell s.columns (as_read s D g) h i
      by-cell h below same (inl mem) = read-declared s D f whole h i below inside mem ∙ sym (read-declared s D g sized h i below inside mem)
      by-cell h below same (inr out) = read_kept s D f whole h i below inside out ∙ same ∙ sym (read_kept s D g sized h i below inside out)

      pick : (h : ℕ) → h < s.rows → (cell s.columns (as_read s D f) h i ≡ cell s.columns (as_read s D g) h i → ⊥)
          → (has (D h) i ≡ true) ⊎ (has (D h) i ≡ false) → has (D h) i ≡ false
      pick h below apart (inl mem) = absurd (apart (read-declared s D f whole h i below inside mem ∙ sym (read-declared s D g sized h i below inside mem)))
      pick h below apart (inr out) = out

  counts : DiffersAt s D f g i → differs_read s D f g i ≡ true
  counts (h, below, out, apart) = pick (by-test (differs_read s D f g i))
    where
      pick : (differs_read s D f g i ≡ true) ⊎ (differs_read s D f g i ≡ false) → differs_read s D f g i ≡ true
      pick (inl e) = e
      pick (inr e) =
          absurd (apart (sym (read_kept s D f whole h i below inside out) ∙ agree s (as_read s D f) (as_read s D g) i e h below
          ∙ read_kept s D g sized h i below inside out))

pub reading : Reading
reading = record {
  as_read = λ s D f whole. record { size = length-read s D f whole; declared = read-declared s D f whole; kept = read_kept s D f whole };
  counted = λ s D f g whole sized i inside. (shown s D f g whole sized i inside, counts s D f g whole sized i inside);
  refused = λ s D f. outcome-refused (read_tests s D f) (read_reasons s D f) (read-says s D f);
}
