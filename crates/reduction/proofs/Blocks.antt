-- The flat array of saved registers: an entry of the block of sequence h, and what the blocks are once one of them is replaced.
use mathlib.Core.Path.{◌≡◌, sym, ap, ◌∙◌}
use mathlib.Core.Logic.{◌≢◌}
use mathlib.Core.List.{List}
use Prim.Native.Nat.{ℕ, suc, ◌+◌, ◌-◌, ◌*◌, ◌≤◌, ◌<◌, min}
use native.Mathlib.Decide.{dec_lt}
use native.Mathlib.Omega.{arith}
use lib.ListN.{length, get_or, take, drop, length-take, length-drop}
use lib.Seq.{ext_get_or, get_or-take}
use Rattle.lists.proofs.Entries.{get_d_part, get_or-take-past}
use Rattle.lists.specs.Parts.{replaced}
use Rattle.lists.proofs.Parts.{length-replaced, part-replaced, replaced-before, replaced_in, replaced-after}
use Rattle.reduction.specs.Reductions.{ZerosAfter, block}

-- entry i of the m + 1 taps that are saved for h, or 0 past them
pub saved-at : (saved : List ℕ) (h m i : ℕ) → ZerosAfter saved h m → i ≤ m + 8 → i < 144 → get_or saved (h * 144 + i) 0 ≡ get_or (take (suc m) (block h saved)) i 0
saved-at saved h m i zeros near inside = pick (dec_lt m i)
  where
    pick : Dec (m < i) → get_or saved (h * 144 + i) 0 ≡ get_or (take (suc m) (block h saved)) i 0
    pick (yes past) = zeros i past near ∙ sym (get_or-take-past (suc m) (block h saved) i 0 past)
    pick (no within) = sym (get_or-take (suc m) (block h saved) i 0 (omega arith) ∙ get_d_part (h * 144) 144 saved i 0 inside)

-- ---- a block replaced

module _ (h : ℕ) (y saved : List ℕ) (len : length y ≡ 144) (whole : length saved ≡ 1152) (below : h < 8) where
  fits : h * 144 + 144 ≤ length saved
  fits = omega arith

  pub block-replaced : block h (replaced (h * 144) 144 saved y) ≡ y
  block-replaced = part-replaced (h * 144) 144 saved y fits len

  pub replaced-whole : length (replaced (h * 144) 144 saved y) ≡ 1152
  replaced-whole = length-replaced (h * 144) 144 saved y fits len ∙ whole

  pub replaced-entry : (i : ℕ) → i < 144 → get_or (replaced (h * 144) 144 saved y) (h * 144 + i) 0 ≡ get_or y i 0
  replaced-entry i small = replaced_in (h * 144) 144 saved y fits len 0 i small

  pub other-entry : (g : ℕ) → g ≢ h → (i : ℕ) → i < 144 → get_or (replaced (h * 144) 144 saved y) (g * 144 + i) 0 ≡ get_or saved (g * 144 + i) 0
  other-entry g ne i small = pick (dec_lt g h)
    where
      pick : Dec (g < h) → get_or (replaced (h * 144) 144 saved y) (g * 144 + i) 0 ≡ get_or saved (g * 144 + i) 0
      pick (yes less) = replaced-before (h * 144) 144 saved y fits len 0 (g * 144 + i) (omega arith)
      pick (no more) =
          let above : h < g = omega (arith, ne) in
          replaced-after (h * 144) 144 saved y fits len 0 (g * 144 + i) (omega arith)

  pub block-other : (g : ℕ) → g ≢ h → block g (replaced (h * 144) 144 saved y) ≡ block g saved
  block-other g ne =
      ext_get_or 0 (block g (replaced (h * 144) 144 saved y)) (block g saved)
      (length-block (replaced (h * 144) 144 saved y) ∙ ap (λ (n : ℕ). min 144 (n - g * 144)) (replaced-whole ∙ sym whole) ∙ sym (length-block saved))
      (λ i b.
      let small : i < 144 = omega (arith, length-block (replaced (h * 144) 144 saved y)) in
      get_d_part (g * 144) 144 (replaced (h * 144) 144 saved y) i 0 small ∙ other-entry g ne i small ∙ sym (get_d_part (g * 144) 144 saved i 0 small))
    where
      length-block : (l : List ℕ) → length (block g l) ≡ min 144 (length l - g * 144)
      length-block l = length-take 144 (drop (g * 144) l) ∙ ap (λ (n : ℕ). min 144 n) (length-drop (g * 144) l)
