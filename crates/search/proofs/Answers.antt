-- The answers of the search as the code makes them.
use mathlib.Core.Path.{◌≡◌, refl, ap₂, ◌∙◌}
use mathlib.Core.Bool.{and-eq-true_iff}
use mathlib.Core.List.{List}
use Prim.Native.Nat.{ℕ, ◌≤◌, ◌<◌}
use native.Mathlib.Omega.{arith}
use lib.Dec.{leb}
use lib.ListN.{length, get_or}
use borrow.Author.Tests.{leb-true, ltb-true}
use Rattle.columns.specs.declared.Columns.{Columns}
use Rattle.decoding.specs.Search.{tried_for}
use Rattle.decoding.specs.Searching.{searched}
use Rattle.decoding.proofs.Searching.{search-none, search-ends, none_tried}
use Rattle.field.proofs.Coefficients.{residues-past}
use Rattle.frame.specs.Shape.{columns_in_range}
use Rattle.lists.proofs.Tabulated.{every-at}
use Rattle.refusal.specs.Outcome.{passed, outcome}
use Rattle.refusal.proofs.Orders.{no_fail, passed-pass}
use Rattle.search.specs.Search.{nothing, sought, search_tests}

-- the search ends after i columns, with what they have
pub ended : (n : ℕ) (σ : List ℕ) (i : ℕ) {r : Columns} {t : ℕ} → r ≡ searched σ i → t ≡ i → i ≡ tried_for n σ
    → record { columns = r; tried = t } ≡ sought n σ
ended n σ i before same all = ap₂ (λ (J : Columns) (m : ℕ). record { columns = J; tried = m }) (search-ends σ n i before all) (same ∙ all)

-- with nothing to find it ends at once
pub nothing-sought : (n : ℕ) (σ : List ℕ) → length σ < 2 → nothing ≡ sought n σ
nothing-sought n σ short = ended n σ 0 (search-none σ) refl (none_tried σ n short)

-- where they pass
pub in_range : (n : ℕ) (σ : List ℕ) → outcome (search_tests n σ) ≡ passed → n ≤ 256
unfolding search_tests columns_in_range
in_range n σ e = leb-true n 256 ((and-eq-true_iff (leb 2 n) (leb n 256)).0 (no_fail _ (passed-pass (search_tests n σ) e).0)).1

pub taps-below : (n : ℕ) (σ : List ℕ) → outcome (search_tests n σ) ≡ passed → (k : ℕ) → get_or σ k 0 < 257
unfolding search_tests
taps-below n σ e =
    residues-past 257 σ (omega arith) (λ k l. ltb-true _ _ (every-at (length σ) _ (no_fail _ (passed-pass (search_tests n σ) e).1.0) k l))
