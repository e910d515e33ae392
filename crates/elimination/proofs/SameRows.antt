-- Equations of the same values have the same solutions. So have tables in which no place from n on differs, for the rows stand there.
use mathlib.Core.Path.{◌≡◌, sym, ap, ◌∙◌}
use mathlib.Core.List.{List}
use mathlib.Core.Logic.{◌↔◌}
use Prim.Native.Nat.{ℕ, ◌*◌, ◌≤◌, ◌<◌}
use native.Mathlib.Omega.{arith}
use lib.ListN.{get_or}
use Rattle.plain.proofs.Congruences.{equal}
use Rattle.plain.proofs.Terms.{sum_ext}
use Rattle.elimination.proofs.Places.{rows-kept}
use Rattle.elimination.specs.Equations.{Echelon, LeadsRow, Solves, SolvesRows, value_at}

pub solves_ext : (p n : ℕ) (e f t : ℕ → ℕ) → ((j : ℕ) → j < n → e j ≡ f j) → Solves p n e t → Solves p n f t
solves_ext p n e f t same s = equal p (sum_ext n (λ j. f j * t j) (λ j. e j * t j) (λ j h. ap (λ (y : ℕ). y * t j) (sym (same j h)))) ∙ s

module _ (p n : ℕ) (old new : List ℕ) (most : n ≤ 129) (kept : (m : ℕ) → n ≤ m → get_or new m 0 ≡ get_or old m 0) where
  row : (k j : ℕ) → 1 ≤ k → value_at new k j ≡ value_at old k j
  row = rows-kept n old new most kept

  pub same-leads : (k : ℕ) → 1 ≤ k → LeadsRow new k ↔ LeadsRow old k
  same-leads k low = (λ lead z. lead (row k k low ∙ z), λ lead z. lead (sym (row k k low) ∙ z))

  pub same-echelon : Echelon p n old → Echelon p n new
  same-echelon e = record {
    leads = λ k j low less high lead. row k j (omega arith) ∙ e.leads k j low less high ((same-leads k (omega arith)).0 lead);
    below = λ k j low high inside lead.
        let s = row k j low in let b = e.below k j low high inside ((same-leads k low).0 lead) in omega arith;
  }

  pub same-solved : (t : ℕ → ℕ) → SolvesRows p n new t ↔ SolvesRows p n old t
  same-solved t = (
    λ s k low high lead. solves_ext p n (value_at new k) (value_at old k) t (λ j h. row k j low) (s k low high ((same-leads k low).1 lead)),
    λ s k low high lead. solves_ext p n (value_at old k) (value_at new k) t (λ j h. sym (row k j low)) (s k low high ((same-leads k low).0 lead)),
  )
