-- Demands 1 and 2 of the finder.
use mathlib.Core.Path.{◌≡◌, sym, ap, subst, ◌∙◌}
use mathlib.Core.Logic.{◌↔◌, ◌≢◌}
use mathlib.Core.Bool.{Bool}
use mathlib.Core.List.{List, [], ◌++◌, append-nil}
use Prim.Native.Nat.{ℕ, suc}
use native.Mathlib.Omega.{arith}
use lib.ListN.{length, take, drop}
use lib.Seq.{take_at, drop_at}
use Rattle.refusal.proofs.Orders.{by_tests, pass-otherwise, gives-first, outcome-refused}
use Rattle.refusal.proofs.Outcomes.{given-passed, given-refused}
use Rattle.refusal.specs.Order.{Reason, First, Test}
use Rattle.refusal.specs.Outcome.{outcome}
use Rattle.refusal.specs.Outcome as Outcome
use Rattle.register.proofs.AllRounds.{all-rounds}
use Rattle.register.proofs.InOrder.{in_order}
use Rattle.register.specs.Algorithm4.{found, found_alone}
use Rattle.register.specs.EachRound.{IsShortest}
use Rattle.register.specs.Order.{ByAlgorithm4}
use Rattle.register.specs.Sequences.{longest, split}
use Rattle.finder.specs.Demands.{Demand1, Demand2, Written, reasons}
use Rattle.sequences.specs.Tests.{tests}
use Rattle.finder.specs.Finder.{register, refused, answer, taps_left}
use Rattle.finder.proofs.Accepted.{accepted}
use Rattle.finder.proofs.Reasons.{finder_says}

-- ---- demand 1

refused-tells : (k m : ℕ) → (refused m ≡ refused k) ↔ (k ≡ m)
refused-tells k m = (λ e. cc, λ e. cc)

register-differs : (l : ℕ) (a : Bool) (k : ℕ) → register l a ≢ refused k
register-differs l a k e = let z : ◌≡◌ {A = ℕ} 0 1 = cc in omega arith

registers-same : (l m : ℕ) (a b : Bool) → register l a ≡ register m b → (l ≡ m) × (a ≡ b)
registers-same l m a b e = (cc, cc)

module _ (p : ℕ) (lengths symbols : List ℕ) (room : ℕ) where
  answer-refused : (k : ℕ) → (answer p lengths symbols room ≡ refused k) ↔ First k (reasons p lengths symbols room)
  unfolding answer
  answer-refused k =
      subst (λ (rs : List Reason). (answer p lengths symbols room ≡ refused k) ↔ First k rs) (append-nil (reasons p lengths symbols room))
      (gives-first (λ a. a ≡ refused k) k refused (refused-tells k) (tests p lengths symbols room) (reasons p lengths symbols room)
      _ [] (finder_says p lengths symbols room)
      (λ _. (register-differs _ _ k, λ e. absurd e)))

pub demand_1 : Demand1
unfolding taps_left
demand_1 =
    record {
      refusal = λ p lengths symbols room k. (answer-refused p lengths symbols room k).0;
      reason = λ p lengths symbols room k. (answer-refused p lengths symbols room k).1;
      untouched = λ p lengths symbols buffer k e.
          let room : ℕ = length buffer in
          given-refused (λ _. buffer) _ (tests p lengths symbols room) k
          ((outcome-refused (tests p lengths symbols room) (reasons p lengths symbols room) (finder_says p lengths symbols room) k).1
          ((answer-refused p lengths symbols room k).0 e));
    }

-- ---- demand 2

module _ (p : ℕ) (lengths symbols buffer : List ℕ) (l : ℕ) (mark : Bool) (e : answer p lengths symbols (length buffer) ≡ register l mark) where
  abbrev ss : List (List ℕ)
  ss = split lengths symbols

  abbrev ts : List Test
  ts = tests p lengths symbols (length buffer)

  -- what is found, and whether it is alone
  abbrev size : ℕ
  size = (found p ss (longest ss)).size

  abbrev alone : Bool
  alone = found_alone p ss (longest ss)

  -- a register is answered only where no test fails
  ok : outcome ts ≡ Outcome.passed
  unfolding answer
  ok =
      by_tests refused (register size alone) (λ a. a ≡ register l mark → outcome ts ≡ Outcome.passed) ts
      (λ k _ f. absurd (register-differs l mark k (sym f))) (λ pass _. pass-otherwise Outcome.refused Outcome.passed ts pass) e

  is_found : register size alone ≡ register l mark
  unfolding answer
  is_found = sym (given-passed refused (register size alone) ts ok) ∙ e

  shortest : IsShortest p size ss (found p ss (longest ss)).taps alone
  shortest = all-rounds p ss (accepted p lengths symbols (length buffer) ok).prime

  abbrev σ : List ℕ
  σ = (found p ss (longest ss)).taps

  same_size : size ≡ l
  same_size = (registers-same size l alone mark is_found).0

  same-mark : alone ≡ mark
  same-mark = (registers-same size l alone mark is_found).1

  pub tap-count : length σ ≡ suc l
  tap-count = omega (arith, shortest.shortest.generator.register.taps, same_size)

  pub taps-left : taps_left p lengths symbols buffer ≡ σ ++ drop (suc l) buffer
  unfolding taps_left
  taps-left = given-passed (λ _. buffer) _ ts ok ∙ ap (λ (n : ℕ). σ ++ drop n buffer) tap-count

  -- the first entries of the buffer
  pub first-left : take (suc l) (taps_left p lengths symbols buffer) ≡ σ
  first-left = ap (take (suc l)) taps-left ∙ take_at σ (drop (suc l) buffer) (suc l) tap-count

  written : Written p lengths symbols buffer l mark
  written =
      record {
        found = rw (first-left, ← same-mark) (subst (λ (m : ℕ). IsShortest p m ss σ alone) same_size shortest);
        in_order = rw first-left (subst (λ (m : ℕ). ByAlgorithm4 p ss (longest ss) m σ) same_size (in_order p ss (longest ss)));
        kept = ap (drop (suc l)) taps-left ∙ drop_at σ (drop (suc l) buffer) (suc l) tap-count;
      }

pub demand_2 : Demand2
demand_2 = written
