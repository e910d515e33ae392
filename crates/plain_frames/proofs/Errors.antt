-- Factors and errors modulo 257: an error that is not 0, also as a product of two such numbers, changes every symbol.
use mathlib.Core.Path.{◌≡◌, sym, ap, subst, ◌∙◌}
use mathlib.Core.List.{List}
use mathlib.Core.Logic.{◌≢◌}
use Prim.Native.Nat.{ℕ, ◌+◌, ◌*◌, ◌/◌, ◌≤◌, ◌<◌}
use native.Mathlib.Decide.{ℕ_discrete}
use native.Mathlib.Omega.{arith}
use lib.ListN.{length, get_or, set}
use lib.Seq.{get_or-set_same}
use Rattle.field.proofs.Prime257.{prime_257}
use Rattle.plain.proofs.Congruences.{rem-small, zero-factor}
use Rattle.plain.proofs.Draws.{drawn-below}
use Rattle.plain.proofs.Powers.{mod-is-rem}
use Rattle.plain.proofs.Remainders.{rem_lt}
use Rattle.plain.specs.Drawn.{drawn, drawn_from}
use Rattle.plain.specs.Plain.{rem}
use Rattle.plain_frames.specs.Frames.{Nonzero}

pub drawn-nonzero : (s : ℕ) {r : ℕ} → r ≡ drawn_from s 1 256 → Nonzero r
drawn-nonzero s e = omega (arith, rem_lt (s / 65536) 256 (omega arith))

-- a row drawn among at most eight
pub drawn-row : (s rows : ℕ) {n h : ℕ} → 0 < rows → rows ≤ 8 → n ≡ rem rows 65535 → h ≡ drawn s n → h < rows
drawn-row s rows some few e q = drawn-below s rows some (q ∙ ap (λ (x : ℕ). drawn s x) (e ∙ rem-small rows 65535 (omega arith)))

pub factor-put : (rows h v : ℕ) (factors : List ℕ) {next : List ℕ} → h < rows → rows ≤ length factors → Nonzero v → next ≡ set factors h v →
    (k : ℕ) × (k < rows) × Nonzero (get_or next k 0)
factor-put rows h v factors less held n e =
    (h, less, subst (λ (x : ℕ). Nonzero x) (sym (ap (λ (l : List ℕ). get_or l h 0) e ∙ get_or-set_same factors h v 0 (omega arith))) n)

product-nonzero : (f e : ℕ) → Nonzero f → Nonzero e → Nonzero (rem (f * e) 257)
product-nonzero f e n m =
    let some : rem (f * e) 257 ≢ 0 = λ z. vanishes z in
    (omega arith, rem_lt (f * e) 257 (omega arith))
  where
    vanishes : rem (f * e) 257 ≡ 0 → ⊥
    vanishes z =
        let small = rem-small f 257 n.1 in
        let none = zero-factor 257 prime_257 f e (λ q. let s = rem-small e 257 m.1 in omega arith) z in
        omega arith

-- drawn by itself, or a product with the row's factor f
pub error-nonzero : (kind e f : ℕ) {g r : ℕ} → g ≡ f → (kind ≡ 0 → Nonzero r) × ((kind ≡ 0 → ⊥) → r ≡ rem (g * e) 257) → Nonzero e → Nonzero f → Nonzero r
error-nonzero kind e f {g} {r} q (alone, product) m n = pick (ℕ_discrete kind 0)
  where
    pick : Dec (kind ≡ 0) → Nonzero r
    pick (yes z) = alone z
    pick (no z) = subst (λ (x : ℕ). Nonzero x) (sym (product z ∙ ap (λ (x : ℕ). rem (x * e) 257) q)) (product-nonzero f e n m)

pub moved : (x e : ℕ) → Nonzero e → rem (x + e * 1) 257 ≡ x → ⊥
moved x e n q = omega (arith, mod-is-rem (x + e * 1), rem_lt (x + e * 1) 257 (omega arith))
