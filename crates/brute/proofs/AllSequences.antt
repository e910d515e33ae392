-- The conditions of all sequences, gathered in a table sequence after sequence.
use Rattle.std.proofs.Common.{◌≡◌, ℕ, ◌+◌, ◌%◌, ◌^◌, ◌<◌, ◌≤◌, Bool, true, false, List, length, get_or, refl, ◌∙◌, subst, mod-eq_of_lt, arith}
use Rattle.plain.proofs.Tests.{each_none, each_more}
use Rattle.plain.specs.Plain.{Each, sequence, sum}
use Rattle.brute.proofs.Gathering.{gathered-cleared, gathered_none}
use Rattle.brute.proofs.InRange.{part-residues}
use Rattle.elimination.specs.Equations.{Cleared, SolvesRows}
use Rattle.brute.specs.Registers.{Gathered, Given, Meets, MeetsOne, SequenceAdded, Solvable}

-- a length of a register has a successor
pub next-length : (l n : ℕ) → l ≤ 129 → n ≡ (l + 1) % 2 ^ 64 → n ≡ l + 1
next-length l n small e = e ∙ mod-eq_of_lt (omega arith)

-- t meets the conditions of the first h sequences
abbrev pub MeetsFirst : (p l : ℕ) (lengths symbols : List ℕ) (h : ℕ) (t : ℕ → ℕ) → Type 0
MeetsFirst p l lengths symbols h t = Each 0 h (λ g. MeetsOne p l (sequence lengths symbols g) t)

pub record FirstGathered (p l : ℕ) (lengths symbols : List ℕ) (h : ℕ) (old table : List ℕ) : Type 0 where
  pub size : length table ≡ length old
  pub gathered : Given p symbols old → l ≤ 128 → Gathered p (l + 1) (MeetsFirst p l lengths symbols h) table true

module _ (p l : ℕ) (lengths symbols : List ℕ) where
  same-given : (old table : List ℕ) → length table ≡ length old → Given p symbols old → Given p symbols table
  same-given old table size given = record { prime = given.prime; residues = given.residues; places = size ∙ given.places }

  pub all_begin : (old table : List ℕ) (n : ℕ) → n ≡ (l + 1) % 2 ^ 64 → Cleared old table n → FirstGathered p l lengths symbols 0 table table
  all_begin old table n e cleared = record {
    size = refl;
    gathered = λ given small.
        gathered-cleared p (l + 1) table old (subst (λ (m : ℕ). Cleared old table m) (next-length l n (omega arith) e) cleared)
        (MeetsFirst p l lengths symbols 0) (λ t. each_none (λ g. MeetsOne p l (sequence lengths symbols g) t) 0);
  }

  module _ (h : ℕ) (s old table next : List ℕ) (b : Bool) (w : FirstGathered p l lengths symbols h old table) (this : s ≡ sequence lengths symbols h)
      (added : SequenceAdded p l s table next b) where
    module _ (given : Given p symbols old) (small : l ≤ 128) where
      before : Gathered p (l + 1) (MeetsFirst p l lengths symbols h) table true
      before = w.gathered given small

      joined : Gathered p (l + 1) (λ t. SolvesRows p (l + 1) table t × MeetsOne p l (sequence lengths symbols h) t) next b
      joined =
          (subst (λ (x : List ℕ). SequenceAdded p l x table next b) this added).gathered given.prime
          (record { most = omega arith; places = w.size ∙ given.places }) (before.echelon refl)
          (part-residues p given.prime symbols given.residues (sum h (λ i. get_or lengths i 0)) (get_or lengths h 0))

    pub all_more : b ≡ true → FirstGathered p l lengths symbols (h + 1) old next
    all_more holds = record {
      size = added.size ∙ w.size;
      gathered = λ given small. record {
        echelon = λ e. (joined given small).echelon holds;
        solved = λ e t numbers. (
          λ r.
              let both = ((joined given small).solved holds t numbers).0 r in
              each_more (λ i. MeetsOne p l (sequence lengths symbols i) t) 0 h (((before given small).solved refl t numbers).0 both.0) both.1,
          λ r.
              let rows = ((before given small).solved refl t numbers).1 (λ i low high. r i low (omega arith)) in
              ((joined given small).solved holds t numbers).1 (rows, r h (omega arith) (omega arith)),
        );
        none = λ e. absurd (let z : ◌≡◌ {A = ℕ} 0 1 = cc in omega arith);
      };
    }

    pub all-fails : (entry : List ℕ) → length old ≡ length entry → b ≡ false → h < length lengths → Solvable p l lengths symbols entry next false
    all-fails entry size fails inside = record {
      size = added.size ∙ w.size ∙ size;
      gathered = λ given small.
          let here = same-given entry old size given in
          gathered_none p (l + 1) next (Meets p l lengths symbols)
          (λ t numbers r.
          let rows = ((before here small).solved refl t numbers).1 (λ i low high. r i low (omega arith)) in
          (joined here small).none fails t numbers (rows, r h (omega arith) inside));
    }

  pub all_done : (h : ℕ) (entry old table : List ℕ) → FirstGathered p l lengths symbols h old table → length old ≡ length entry → h ≤ length lengths →
      length lengths ≤ h → Solvable p l lengths symbols entry table true
  all_done h entry old table w size le ge = record {
    size = w.size ∙ size;
    gathered = λ given small.
        subst (λ (n : ℕ). Gathered p (l + 1) (MeetsFirst p l lengths symbols n) table true) (let e : h ≡ length lengths = omega arith in e)
        (w.gathered (same-given entry old size given) small);
  }
