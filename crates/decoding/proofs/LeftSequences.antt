-- The sequences that are left of a frame with declared cells. They are the power sums of its difference from a codeword in the undeclared cells: the cells
-- that are declared have no weight in them.
use mathlib.Core.Path.{◌≡◌, sym, ap, ◌∙◌}
use mathlib.Core.Bool.{true, false}
use mathlib.Core.List.{List, []}
use mathlib.Core.Logic.{◌⊎◌, inl, inr}
use Prim.Native.Nat.{ℕ, ◌-◌, ◌*◌, ◌≤◌, ◌<◌}
use native.Mathlib.Omega.{arith}
use lib.ListN.{length, get_or}
use Rattle.algebra.proofs.FieldLaws.{mul-nonzero}
use Rattle.algebra.proofs.RingLaws.{zero-mul, mul-zero}
use Rattle.columns.specs.Columns.{has}
use Rattle.columns.proofs.Listing.{by-test}
use Rattle.decoding.specs.Remaining.{remaining, all_remaining, read_sequences}
use Rattle.decoding.proofs.DamageSums.{damage-sums}
use Rattle.decoding.proofs.FrameSums.{error, same-cell-error, sequence-length, sequence-sums}
use Rattle.decoding.proofs.PowerSums.{PowerSums}
use Rattle.decoding.proofs.RemainingSums.{left_weight, left_weight-zero, left_weight-nonzero, length-remaining, remaining-power}
use Rattle.field257.proofs.Field257.{F257, R257, res257}
use Rattle.frame.specs.DeclaredCells.{Declared, erasures, checks_left, as_read, differs_read}
use Rattle.frame.specs.Frame.{cell, sequences, Codeword}
use Rattle.frame.specs.Shape.{is_shape}
use Rattle.frame.specs.declared.Shape.{Shape}
use Rattle.frame.proofs.Distances.{agree}
use Rattle.frame.proofs.ReadFrames.{read_kept}
use Rattle.frame.proofs.Shapes.{shape-ranges}
use Rattle.lists.proofs.Tabulated.{length-tabulate, get_d_tabulate}
use Rattle.register.specs.Sequences.{symbol}
open R257 use {car, zero as 𝟘, mul as ◌⊗◌}

infixl 70 ◌⊗◌
module _ (s : Shape) (D : Declared) (f : List ℕ) where
  abbrev b : ℕ
  b = s.exponent

  abbrev n : ℕ
  n = s.columns

  abbrev F : List ℕ
  F = as_read s D f

  abbrev ss : List (List ℕ)
  ss = read_sequences s D f

  pub rows_left : length (read_sequences s D f) ≡ s.rows
  unfolding all_remaining
  rows_left = length-tabulate s.rows _

  pub left_at : (h : ℕ) → h < s.rows → get_or (read_sequences s D f) h [] ≡ remaining (D h) (get_or (sequences s (as_read s D f)) h [])
  unfolding all_remaining
  left_at h below = get_d_tabulate s.rows (λ h. remaining (D h) (get_or (sequences s F) h [])) h [] below

  pub length-left : (h : ℕ) → h < s.rows → length (get_or (read_sequences s D f) h []) ≡ checks_left s D h
  length-left h below =
      ap length (left_at h below) ∙ length-remaining (D h) (get_or (sequences s F) h [])
      ∙ ap (λ (m : ℕ). m - erasures D h) (sequence-length s F h below)

  -- the difference from g in row h at column i, with its weight in the sequence that is left
  pub part : (g : List ℕ) (h i : ℕ) → car
  part g h i = error b n F g h i ⊗ left_weight (D h) i

  pub part-nonzero : (g : List ℕ) (h i : ℕ) → i < 256 → has (D h) i ≡ false
      → (error s.exponent s.columns (as_read s D f) g h i ≡ 𝟘 → ⊥) → part g h i ≡ 𝟘 → ⊥
  unfolding part
  part-nonzero g h i few out apart = mul-nonzero F257 _ _ apart (left_weight-nonzero (D h) i few out)

  module _ (shape : is_shape s ≡ true) (g : List ℕ) (sized : length g ≡ s.rows * s.columns) where
    pub same-undeclared : (h i : ℕ) → h < s.rows → i < s.columns → has (D h) i ≡ false → differs_read s D g f i ≡ false
        → cell s.columns g h i ≡ cell s.columns (as_read s D f) h i
    same-undeclared h i below inside out same = sym (read_kept s D g sized h i below inside out) ∙ agree s (as_read s D g) F i same h below

    pub left-power : Codeword s g → PowerSums s.columns (differs_read s D g f) (part g) (read_sequences s D f)
    unfolding part
    left-power code =
        record {
          outside = λ h inside i column same.
              let below : h < s.rows = (let q = rows_left in omega arith) in
              pick h below i column same (by-test (has (D h) i));
          sums = λ h inside.
              let below : h < s.rows = (let q = rows_left in omega arith) in
              let long = sequence-length s F h below in
              λ j one within.
              ap (λ x. res257 (symbol x j)) (left_at h below)
              ∙ remaining-power (D h) (get_or (sequences s F) h []) n (error b n F g h) (λ k first last.
              sequence-sums s F h below k first last ∙ damage-sums s g F code h k below first (omega arith)) j one
              (let q = ap length (left_at h below) in omega arith);
        }
      where
        narrow : n ≤ 256
        narrow = (shape-ranges s shape).columns-most

        pick : (h : ℕ) → h < s.rows → (i : ℕ) → i < n → differs_read s D g f i ≡ false → (has (D h) i ≡ true) ⊎ (has (D h) i ≡ false)
            → error b n F g h i ⊗ left_weight (D h) i ≡ 𝟘
        pick h below i column same (inl mem) =
            ap (λ x. error b n F g h i ⊗ x) (left_weight-zero (D h) i (let q = narrow in omega arith) mem) ∙ mul-zero R257 _
        pick h below i column same (inr out) =
            ap (λ x. x ⊗ left_weight (D h) i) (same-cell-error b n F g h i (sym (same-undeclared h i below column out same))) ∙ zero-mul R257 _
