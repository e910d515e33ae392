-- In a table of which every row leads, an equation that is added either follows or contradicts, and so the answer tells of the one solution
-- whether it is 0 at the inverse of 3^i. Row 0 alone is changed by it.
use Rattle.std.proofs.Common.{◌≡◌, ℕ, ◌%◌, ◌^◌, ◌≤◌, Bool, List, length, get_or, sym, refl, ◌∙◌, mod-lt, arith}
use Rattle.plain.specs.Plain.{Tells}
use Rattle.plain.specs.Written.{Wrote}
use Rattle.brute.proofs.Gathering.{posing, rows_posed, equation_posed, equation-before}
use Rattle.elimination.proofs.Places.{rows-kept}
use Rattle.elimination.proofs.Primes.{plain-prime_257}
use Rattle.elimination.proofs.Roots.{root_solves}
use Rattle.elimination.proofs.SameRows.{same-leads, same-echelon, same-solved}
use Rattle.elimination.specs.Equations.{Decided, Numbers, Posed, Settled, SolvesRows}
use Rattle.brute.specs.Locating.{Determined, Named, RootAt}
use Rattle.elimination.specs.declared.Added.{Added}
use Rattle.elimination.specs.declared.Added.TheVariants.{Follows, Leads, Contradicts}

module _ (n i y : ℕ) (old posed new : List ℕ) (at : y ≡ (3 ^ i % 257) ^ 255 % 257) (wrote : Wrote old posed 0 n (λ k. y ^ k % 257))
    (answer : Added) (decided : Decided 257 n answer posed new) where
  module _ (determined : Determined n old) where
    put : Posed 257 n posed
    put =
        posing 257 n old posed (λ k. y ^ k % 257) determined.room wrote plain-prime_257 determined.some determined.echelon
        (λ j h. mod-lt (y ^ j) (omega arith))

    settled : Settled 257 n answer posed new
    settled = decided.settled put

    -- no unknown is left to lead
    leads-none : answer ≡ Leads → ⊥
    leads-none e =
        let (k, low, high, idle, lead) = settled.leads e in
        determined.leads k low high (sym (rows-kept n old posed determined.room.most wrote.after k k low) ∙ idle)

    other-answer : (answer ≡ Follows → ⊥) → answer ≡ Contradicts
    other-answer other = pick answer other leads-none
      where
        pick : (a : Added) → (a ≡ Follows → ⊥) → (a ≡ Leads → ⊥) → a ≡ Contradicts
        pick Follows f l = absurd (f refl)
        pick Leads f l = absurd (l refl)
        pick Contradicts f l = refl

    root_told : (b : Bool) → Tells b (answer ≡ Follows) → (t : ℕ → ℕ) → Numbers 257 t → SolvesRows 257 n old t → Tells b (RootAt n t i)
    root_told b told t numbers s =
        let rows = (rows_posed 257 n old posed (λ k. y ^ k % 257) determined.room wrote t).1 s in
        let root = root_solves n i y (λ k. y ^ k % 257) t at (λ k h. refl) in
        record {
          yes = λ e. root.0 (equation-before 257 n old posed (λ k. y ^ k % 257) determined.room wrote t (settled.follows (told.yes e) t numbers rows));
          no = λ e r.
              settled.contradicts (other-answer (told.no e)) t numbers rows
              (equation_posed 257 n old posed (λ k. y ^ k % 257) determined.room wrote t (root.1 r));
        }

  pub naming : (b : Bool) → Tells b (answer ≡ Follows) → Named n i old new b
  naming b told = record {
    size = decided.size ∙ wrote.size;
    kept = λ determined m le. (settled determined).kept (leads-none determined) m le ∙ wrote.after m le;
    told = λ determined. root_told determined b told;
  }

-- a table of which the rows are kept
module _ (n : ℕ) (old new : List ℕ) (size : length new ≡ length old) (most : n ≤ 129) (kept : (m : ℕ) → n ≤ m → get_or new m 0 ≡ get_or old m 0) where
  pub still-determined : Determined n old → Determined n new
  still-determined d = record {
    some = d.some;
    room = record { most = most; places = size ∙ d.room.places };
    echelon = same-echelon 257 n old new most kept d.echelon;
    leads = λ k low high. (same-leads 257 n old new most kept k low).1 (d.leads k low high);
  }

  pub still-solved : (t : ℕ → ℕ) → SolvesRows 257 n old t → SolvesRows 257 n new t
  still-solved t = (same-solved 257 n old new most kept t).1
