-- The conditions of a sequence, gathered in a table symbol after symbol.
use Rattle.std.proofs.Common.{◌≡◌, ℕ, ◌+◌, ◌<◌, ◌≤◌, true, false, List, length, refl, ◌∙◌, subst, arith}
use Rattle.plain.proofs.Tests.{each_more}
use Rattle.plain.specs.Plain.{Each, before}
use Rattle.plain.specs.Written.{Wrote}
use Rattle.brute.proofs.Gathering.{gathered-more, contradicted, gathered-rows, gathered_as, gathered_none}
use Rattle.brute.proofs.InRange.{before-below}
use Rattle.elimination.specs.Equations.{Decided, Echelon, Room, Solves, SolvesRows}
use Rattle.elimination.specs.Prime.{Prime}
use Rattle.brute.specs.Registers.{Gathered, MeetsOne, Residues, SequenceAdded}
use Rattle.elimination.specs.declared.Added.{Added}
use Rattle.elimination.specs.declared.Added.TheVariants.{Contradicts}

-- t solves the rows that were there, and the equations of the symbols from l up to j
abbrev pub MeetsUpTo : (p l : ℕ) (s old : List ℕ) (j : ℕ) (t : ℕ → ℕ) → Type 0
MeetsUpTo p l s old j t = SolvesRows p (l + 1) old t × Each l j (λ i. Solves p (l + 1) (before s i) t)

pub record SoFar (p l : ℕ) (s old : List ℕ) (j : ℕ) (new : List ℕ) : Type 0 where
  pub size : length new ≡ length old
  pub gathered : Prime p → Room (l + 1) old → Echelon p (l + 1) old → Residues p s → Gathered p (l + 1) (MeetsUpTo p l s old j) new true

module _ (p l : ℕ) (s old : List ℕ) where
  -- the symbols before place l have no conditions
  rows-alone : (n : ℕ) → n ≤ l → Echelon p (l + 1) old → Gathered p (l + 1) (MeetsUpTo p l s old n) old true
  rows-alone n short echelon =
      gathered_as p (l + 1) old true (SolvesRows p (l + 1) old) (MeetsUpTo p l s old n)
      (λ t numbers. (λ r. (r, λ i low high. absurd (let z : ⊥ = omega arith in z)), λ r. r.0)) (gathered-rows p (l + 1) old echelon)

  pub so_far_none : SoFar p l s old l old
  so_far_none = record { size = refl; gathered = λ prime room echelon residues. rows-alone l (omega arith) echelon }

  pub so_far_short : length s ≤ l → SequenceAdded p l s old old true
  so_far_short short = record { size = refl; gathered = λ prime room echelon residues. rows-alone (length s) short echelon }

  pub so_far_all : (j : ℕ) (new : List ℕ) → SoFar p l s old j new → j ≤ length s → length s ≤ j → SequenceAdded p l s old new true
  so_far_all j new w le ge = record {
    size = w.size;
    gathered = λ prime room echelon residues.
        subst (λ (n : ℕ). Gathered p (l + 1) (MeetsUpTo p l s old n) new true) (let e : j ≡ length s = omega arith in e)
        (w.gathered prime room echelon residues);
  }

  module _ (j : ℕ) (new posed next : List ℕ) (w : SoFar p l s old j new) (low : l ≤ j) (wrote : Wrote new posed 0 (l + 1) (before s j))
      (answer : Added) (decided : Decided p (l + 1) answer posed next) where
    room-still : Room (l + 1) old → Room (l + 1) new
    room-still room = record { most = room.most; places = w.size ∙ room.places }

    size-still : length next ≡ length old
    size-still = decided.size ∙ wrote.size ∙ w.size

    both : (t : ℕ → ℕ) → MeetsUpTo p l s old (j + 1) t → MeetsUpTo p l s old j t × Solves p (l + 1) (before s j) t
    both t r = ((r.0, λ i a b. r.1 i a (omega arith)), r.1 j low (omega arith))

    pub so_far_more : (answer ≡ Contradicts → ⊥) → SoFar p l s old (j + 1) next
    so_far_more other = record {
      size = size-still;
      gathered = λ prime room echelon residues.
          gathered_as p (l + 1) next true (λ t. MeetsUpTo p l s old j t × Solves p (l + 1) (before s j) t) (MeetsUpTo p l s old (j + 1))
          (λ t numbers. (λ r. (r.0.0, each_more (λ i. Solves p (l + 1) (before s i) t) l j r.0.1 r.1), both t))
          (gathered-more p (l + 1) new posed (before s j) (room-still room) wrote prime (omega arith) (λ k h. before-below p prime s residues j k)
          (MeetsUpTo p l s old j) (w.gathered prime room echelon residues) answer next decided other);
    }

    pub so_far_fails : answer ≡ Contradicts → j < length s → SequenceAdded p l s old next false
    so_far_fails is high = record {
      size = size-still;
      gathered = λ prime room echelon residues.
          gathered_none p (l + 1) next (λ t. SolvesRows p (l + 1) old t × MeetsOne p l s t)
          (λ t numbers r.
          let here = both t (r.0, λ i a b. r.1 i a (omega arith)) in
          contradicted p (l + 1) new posed (before s j) (room-still room) wrote prime (omega arith) (λ k h. before-below p prime s residues j k)
          (MeetsUpTo p l s old j) (w.gathered prime room echelon residues) answer next decided is t numbers here.0 here.1);
    }
