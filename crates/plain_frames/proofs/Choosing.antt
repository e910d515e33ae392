-- The columns that are damaged: the first w of a list of all columns. A frame that can be damaged in w columns differs in each of them.
use mathlib.Core.Path.{◌≡◌, sym, ap, subst, ◌∙◌}
use mathlib.Core.List.{List}
use Prim.Native.Nat.{ℕ, ◌+◌, ◌*◌, ◌≤◌, ◌<◌}
use native.Mathlib.Nat.{min-eq_left, mul-le-mul_right}
use native.Mathlib.Omega.{arith}
use lib.ListN.{length, get_or, length-take}
use Rattle.plain.proofs.Choices.{part_in, part-length-le}
use Rattle.plain_frames.proofs.Mixing.{different-first, different-taken}
use Rattle.plain_frames.specs.Frames.{Altered, Chosen, Damageable, DamagedBy, Different, Nonzero, Reached}
use Rattle.plain.specs.Plain.{part}

module _ (columns rows w : ℕ) (factors order : List ℕ) {old new : List ℕ} where
  -- where a row has a factor that is not 0, every column differs in it
  all-altered : Damageable columns rows w old → length order ≡ w → Different columns w order → (h : ℕ) × (h < rows) × Nonzero (get_or factors h 0) →
      DamagedBy factors columns rows order w old new → Altered columns rows w order old new
  all-altered can e d (h, low, some) by =
      record { count = e; different = d; altered = λ m less. (h, low, by.altered d m h less (reached m less)) }
    where
      cell : (i : ℕ) → i < columns → h * columns + i < length old
      cell i less = let held = can.cells in omega (arith, mul-le-mul_right columns low)

      reached : (m : ℕ) → m < w → Reached columns rows factors old h (get_or order m 0)
      reached m less = let column = d.below m less in record { row = low; column = column; cell = cell (get_or order m 0) column; factor = some }

  -- `few` stands for the rows, of which there are at most eight
  pub chosen : (few : ℕ) (mixed : List ℕ) → length mixed ≡ 256 → (columns ≤ 256 → Different columns columns mixed) → order ≡ part mixed 0 w →
      (0 < rows → rows ≤ 8 → (h : ℕ) × (h < rows) × Nonzero (get_or factors h 0)) → few ≤ rows → (rows ≤ 8 → few ≡ rows) →
      DamagedBy factors columns few order (length order) old new → Chosen columns rows w order old new
  chosen few mixed size mix cut factor le same by = record {
    few = subst (λ (l : List ℕ). length l ≤ w) (sym cut) (part-length-le mixed 0 w);
    damaged = record {
      size = by.damaged.size;
      kept = λ k out. by.damaged.kept k (λ j h less row. out j h less (omega arith));
      symbols = by.damaged.symbols;
    };
    altered = λ can.
        let taken = cut ∙ part_in mixed 0 w (omega arith) in
        let count = ap length taken ∙ length-take w mixed ∙ min-eq_left (omega arith) in
        let first = different-taken columns w mixed (different-first columns w columns can.chosen (mix can.narrow)) in
        all-altered can count (subst (λ (l : List ℕ). Different columns w l) (sym taken) first) (factor can.some can.few)
        (subst (λ (n : ℕ). DamagedBy factors columns n order w old new) (same can.few)
        (subst (λ (n : ℕ). DamagedBy factors columns few order n old new) count by));
  }
