-- What two searches in slices have to share for all that is still to come to be the same.
use Rattle.std.specs.Prelude.{◌≡◌, ℕ, ◌+◌, ◌*◌, ◌≤◌, ◌<◌, length, get_or}
use Rattle.slices.specs.Synthesis.{Synthesis}

-- All is the same but symbols past the sequences, and what lies more than eight entries past a saved register. The taps fill a block, so that those saved for
-- one sequence are not moved where those of another are saved.
pub record SameSynthesis (x y : Synthesis) : Type 0 where
  pub counts : x.counts ≡ y.counts
  pub lengths : x.lengths ≡ y.lengths
  pub symbols : (h i : ℕ) → h < 8 → i < get_or y.lengths h 0 → get_or x.symbols (h * 144 + i) 0 ≡ get_or y.symbols (h * 144 + i) 0
  pub places : x.places ≡ y.places
  pub sizes : x.sizes ≡ y.sizes
  pub discs : x.discs ≡ y.discs
  pub quotients : x.quotients ≡ y.quotients
  pub taps : x.taps ≡ y.taps
  pub saved : (h i : ℕ) → h < 8 → i ≤ get_or y.sizes h 0 + 8 → get_or x.saved (h * 144 + i) 0 ≡ get_or y.saved (h * 144 + i) 0
  pub width : length x.saved ≡ length y.saved
  pub taps-width : length y.taps ≡ 144
