-- An equation is reduced by row after row of a table in echelon form: what solves the rows solves it exactly where it did before.
use mathlib.Core.Path.{◌≡◌, refl, sym, subst, ◌∙◌}
use mathlib.Core.List.{List}
use mathlib.Core.Logic.{◌↔◌}
use Prim.Native.Nat.{ℕ, ◌+◌, ◌*◌, ◌≤◌, ◌<◌}
use native.Mathlib.Decide.{ℕ_discrete}
use native.Mathlib.Omega.{arith}
use lib.ListN.{length, get_or}
use Rattle.plain.proofs.Congruences.{rem-small}
use Rattle.plain.proofs.Remainders.{rem_lt}
use Rattle.plain.proofs.Tests.{each_none, each_more}
use Rattle.plain.specs.Plain.{Each, rem}
use Rattle.elimination.proofs.Cancelling.{cancelling, falls_out, stays_out}
use Rattle.elimination.proofs.Places.{rows-kept}
use Rattle.elimination.proofs.Primes.{in_field}
use Rattle.elimination.proofs.SameRows.{solves_ext}
use Rattle.elimination.specs.Equations.{Cancelled, LeadsRow, Posed, Room, SolvesAdded, SolvesRows, value_at}

-- the equation after its unknowns below k have been taken out
pub record Reduced (p n : ℕ) (old : List ℕ) (k : ℕ) (new : List ℕ) : Type 0 where
  pub size : length new ≡ length old
  pub residues : Each 0 n (λ j. get_or new j 0 < p)
  pub zeros : Each 1 k (λ j. get_or new j 0 ≡ 0)
  pub same : (t : ℕ → ℕ) → SolvesRows p n old t → SolvesAdded p n new t ↔ SolvesAdded p n old t
  pub kept : (m : ℕ) → n ≤ m → get_or new m 0 ≡ get_or old m 0

module _ (p n : ℕ) (old : List ℕ) (posed : Posed p n old) where
  pub reduced-none : Reduced p n old 1 old
  reduced-none = record {
    size = refl;
    residues = posed.residues;
    zeros = each_none _ 1;
    same = λ t s. (λ e. e, λ e. e);
    kept = λ m le. refl;
  }

  module _ (k : ℕ) (new : List ℕ) (w : Reduced p n old k new) where
    pub reduced-row : (g j : ℕ) → 1 ≤ g → value_at new g j ≡ value_at old g j
    reduced-row g j low = rows-kept n old new posed.room.most w.kept g j low

    pub reduced-room : Room n new
    reduced-room = record { most = posed.room.most; places = w.size ∙ posed.room.places }

    module _ (low : 1 ≤ k) (high : k < n) (next : List ℕ) (c : Cancelled p new next k n) where
      kept_on : (m : ℕ) → n ≤ m → get_or next m 0 ≡ get_or old m 0
      kept_on m le = c.kept m le ∙ w.kept m le

      module _ (some : get_or new k 0 ≡ 0 → ⊥) (lead : LeadsRow new k) where
        residue : (j : ℕ) → j < n → get_or next j 0 < p
        residue j h =
            let e = c.residues reduced-room low some j (omega arith) h in
            let l = rem_lt (get_or next j 0) p (let two = posed.prime.two_or_more in omega arith) in
            omega arith

        leads_old : LeadsRow old k
        leads_old z = lead (reduced-row k k low ∙ z)

        lead_some : rem (value_at new k k) p ≡ 0 → ⊥
        lead_some z =
            let b = posed.echelon.below k k low high high leads_old in
            lead (sym (rem-small (value_at new k k) p (let e = reduced-row k k low in omega arith)) ∙ z)

        crossed : (j : ℕ) → j < n → rem (get_or next j 0 + value_at new k j * get_or new k 0) p ≡ rem (get_or new j 0 * value_at new k k) p
        crossed j h = c.crossed reduced-room low some j (omega arith) h

        earlier : (j : ℕ) → 1 ≤ j → j < k → get_or next j 0 ≡ 0
        earlier j l h =
            stays_out p n (λ i. get_or new i 0) (value_at new k) (λ i. get_or next i 0) (value_at new k k) (get_or new k 0) crossed j (omega arith)
            (residue j (omega arith)) (w.zeros j l h) (reduced-row k j low ∙ posed.echelon.leads k j l h high leads_old)

        falls : get_or next k 0 ≡ 0
        falls =
            falls_out p n (λ i. get_or new i 0) (value_at new k) (λ i. get_or next i 0) (value_at new k k) (get_or new k 0) crossed k high
            (residue k high) refl refl

        still : (t : ℕ → ℕ) → SolvesRows p n old t → SolvesAdded p n next t ↔ SolvesAdded p n new t
        still t s =
            cancelling p n (λ i. get_or new i 0) (value_at new k) (λ i. get_or next i 0) (value_at new k k) (get_or new k 0) crossed
            (in_field p posed.prime) lead_some t
            (solves_ext p n (value_at old k) (value_at new k) t (λ j h. sym (reduced-row k j low)) (s k low high leads_old))

        crossed_out : Reduced p n old (k + 1) next
        crossed_out = record {
          size = c.size ∙ w.size;
          residues = λ j l h. residue j h;
          zeros = each_more (λ j. get_or next j 0 ≡ 0) 1 k (λ j l h. earlier j l h) falls;
          same = λ t s. (λ e. (w.same t s).0 ((still t s).0 e), λ e. (still t s).1 ((w.same t s).1 e));
          kept = kept_on;
        }

      -- the unknown k is out, since it is not new
      pub reduced-more : ((get_or new k 0 ≡ 0 → ⊥) × (value_at new k k ≡ 0) → ⊥) → Reduced p n old (k + 1) next
      reduced-more known = pick (ℕ_discrete (get_or new k 0) 0)
        where
          absent : get_or new k 0 ≡ 0 → Reduced p n old (k + 1) new
          absent z = record {
            size = w.size;
            residues = w.residues;
            zeros = each_more (λ j. get_or new j 0 ≡ 0) 1 k w.zeros z;
            same = w.same;
            kept = w.kept;
          }

          pick : Dec (get_or new k 0 ≡ 0) → Reduced p n old (k + 1) next
          pick (yes z) = subst (λ (l : List ℕ). Reduced p n old (k + 1) l) (sym (c.none z)) (absent z)
          pick (no some) = crossed_out some (λ z. known (some, z))
