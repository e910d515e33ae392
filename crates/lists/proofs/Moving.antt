-- Bytes moved to the front of a buffer one by one.
use mathlib.Core.Path.{◌≡◌, refl, sym, ap, ap₂, ◌∙◌}
use mathlib.Core.List.{List, [], ◌∷◌, ◌++◌}
use Prim.Native.Nat.{ℕ, ◌+◌, ◌<◌}
use native.Mathlib.Nat.{add_comm}
use native.Mathlib.Numerals.{add-one}
use native.Mathlib.Omega.{arith}
use lib.ListN.{length, get_or, take, drop, set, length-set, length-drop}
use lib.Seq.{take-suc, take-suc-set, drop-set-lt, drop-drop, get_or-drop}

module _ (before : List ℕ) (from : ℕ) where
  -- the first i bytes are moved, and those from i on are as they were
  pub record Moved (now : List ℕ) (i : ℕ) : Type 0 where
    pub width : length now ≡ length before
    pub moved : take i now ≡ take i (drop from before)
    pub kept : drop i now ≡ drop i before

  pub moved_none : Moved before 0
  moved_none = record { width = refl; moved = refl; kept = refl }

  pub moved_more : (now : List ℕ) (i : ℕ) → from + i < length before → Moved now i → Moved (set now i (get_or now (from + i) 0)) (i + 1)
  moved_more now i h m =
      let l : i < length (drop from before) = omega (arith, length-drop from before) in
      let k : i < length now = omega (arith, m.width) in
      record {
        width = length-set now i v ∙ m.width;
        moved =
            rw add-one (take-suc-set now i v k ∙ ap₂ (λ (x : List ℕ) (y : ℕ). x ++ (y ∷ [])) m.moved same ∙ sym (take-suc (drop from before) i 0 l));
        kept = drop-set-lt (i + 1) now i v (omega arith) ∙ sym (drop-drop 1 i now) ∙ ap (drop 1) m.kept ∙ drop-drop 1 i before;
      }
    where
      v : ℕ
      v = get_or now (from + i) 0

      same : v ≡ get_or (drop from before) i 0
      same =
          ap (λ (k : ℕ). get_or now k 0) (add_comm from i) ∙ sym (get_or-drop i now from 0) ∙ ap (λ (x : List ℕ). get_or x from 0) m.kept ∙
          get_or-drop i before from 0 ∙ ap (λ (k : ℕ). get_or before k 0) (add_comm i from) ∙ sym (get_or-drop from before i 0)
