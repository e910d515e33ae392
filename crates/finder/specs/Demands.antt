-- What is owed of the finder: demands 1 and 2. Proved in proofs/Demands.antt.
use Rattle.std.specs.Prelude.{◌≡◌, ◌⊎◌, Bool, List, [], ◌∷◌, ℕ, suc, ◌≤◌, ◌<◌, length, get_or, take, drop}
use Rattle.field.specs.Prime.{Prime}
use Rattle.lists.specs.Total.{total}
use Rattle.refusal.specs.Order.{Reason, First}
use Rattle.register.specs.EachRound.{IsShortest}
use Rattle.finder.specs.Finder.{answer, taps_left, register, refused}
use Rattle.register.specs.Order.{ByAlgorithm4}
use Rattle.register.specs.Sequences.{largest, longest, split}

-- Demand 2 of the finder: what it answers and writes, where it does not refuse, is a shortest register of the sequences lent, and the one that Algorithm 4
-- has after all of its rounds on them by falling length, equal lengths in the order given. Later entries of the tap buffer keep their contents.
pub record Written (p : ℕ) (lengths symbols buffer : List ℕ) (l : ℕ) (mark : Bool) : Type 0 where
  pub found : IsShortest p l (split lengths symbols) (take (suc l) (taps_left p lengths symbols buffer)) mark
  pub in_order :
      ByAlgorithm4 p (split lengths symbols) (longest (split lengths symbols)) l (take (suc l) (taps_left p lengths symbols buffer))
  pub kept : drop (suc l) (taps_left p lengths symbols buffer) ≡ drop (suc l) buffer

abbrev pub Demand2 : Type 0
Demand2 =
    (p : ℕ) (lengths symbols buffer : List ℕ) (l : ℕ) (mark : Bool) →
    answer p lengths symbols (length buffer) ≡ register l mark → Written p lengths symbols buffer l mark

-- the refusals of the finder in their order, each with its reason in the words of the specification
abbrev pub reasons : (p : ℕ) (lengths symbols : List ℕ) (room : ℕ) → List Reason
reasons p lengths symbols room =
    record { number = 1; holds = (p < 2) ⊎ ((65521 < p) ⊎ (Prime p → ⊥)) } ∷
    record { number = 2; holds = (length lengths < 1) ⊎ (8 < length lengths) } ∷
    record {
      number = 3;
      holds =
          ((h : ℕ) × (h < length lengths) × (128 < get_or lengths h 0)) ⊎
          (total (length lengths) (λ h. get_or lengths h 0) ≡ length symbols → ⊥);
    } ∷
    record { number = 8; holds = room < suc (largest lengths) } ∷
    record { number = 4; holds = (i : ℕ) × (i < length symbols) × (p ≤ get_or symbols i 0) } ∷
    []

-- Demand 1 for the finder: each number is answered exactly where its reason is the first that holds, and a refusal leaves the buffer as it was.
pub record Demand1 : Type 0 where
  pub refusal : (p : ℕ) (lengths symbols : List ℕ) (room k : ℕ) → answer p lengths symbols room ≡ refused k → First k (reasons p lengths symbols room)
  pub reason : (p : ℕ) (lengths symbols : List ℕ) (room k : ℕ) → First k (reasons p lengths symbols room) → answer p lengths symbols room ≡ refused k
  pub untouched :
      (p : ℕ) (lengths symbols buffer : List ℕ) (k : ℕ) → answer p lengths symbols (length buffer) ≡ refused k →
      taps_left p lengths symbols buffer ≡ buffer
