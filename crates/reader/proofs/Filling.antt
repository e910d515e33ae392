-- Fields read into entries: nothing is read yet, and one field more.
use mathlib.Core.Path.{◌≡◌, refl, sym, ap, ap₂, ◌∙◌}
use mathlib.Core.List.{List, [], ◌∷◌, ◌++◌}
use Prim.Native.Nat.{ℕ, ◌+◌, ◌/◌, ◌<◌}
use native.Mathlib.Numerals.{add-one}
use native.Mathlib.Omega.{arith}
use lib.ListN.{length, get_or, drop, set}
use lib.Seq.{take-suc, take-suc-set, drop-set-lt, drop-drop}
use Rattle.lists.proofs.Tabulated.{length-tabulate, get_d_tabulate}
use Rattle.reader.specs.Fields.{field_of, fields_of, Filled}

module _ (bytes : List ℕ) where
  pub length_fields : length (fields_of bytes) ≡ length bytes / 2
  unfolding fields_of
  length_fields = length-tabulate (length bytes / 2) (field_of bytes)

  field-of : (k : ℕ) → k < length bytes / 2 → get_or (fields_of bytes) k 0 ≡ field_of bytes k
  unfolding fields_of
  field-of k h = get_d_tabulate (length bytes / 2) (field_of bytes) k 0 h

  pub filled_none : (before : List ℕ) → Filled bytes before before 0
  filled_none before = record { read = refl; kept = refl }

  pub filled_more : (before after : List ℕ) (k v : ℕ) → k < length bytes / 2 → v ≡ field_of bytes k → k < length after → Filled bytes before after k
      → Filled bytes before (set after k v) (k + 1)
  filled_more before after k v h e w f =
      record {
        read = rw add-one (take-suc-set after k v w ∙ ap₂ (λ (l : List ℕ) (x : ℕ). l ++ (x ∷ [])) f.read (e ∙ sym (field-of k h))
            ∙ sym (take-suc (fields_of bytes) k 0 (rw length_fields h)));
        kept = drop-set-lt (k + 1) after k v (omega arith) ∙ sym (drop-drop 1 k after) ∙ ap (drop 1) f.kept ∙ drop-drop 1 k before;
      }
