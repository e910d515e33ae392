-- The lanes together, from step to step.
use mathlib.Core.Path.{◌≡◌, refl}
use mathlib.Core.List.{List}
use Prim.Native.Nat.{ℕ, ◌+◌, ◌-◌, ◌<◌}
use native.Mathlib.Omega.{arith}
use lib.ListN.{length, get_or, length-replicate}
use Rattle.lanes.specs.Lanes.{Whole, Steppable, Stepped, Runnable, Ran}
use Rattle.lists.proofs.Zeros.{zeros, zeros-entry}
use Rattle.weights.proofs.Lane.{Lane, lane-none, lane-more}

module _ (m : ℕ) (f sums x z : List ℕ) where
  -- k coefficients are done in every lane
  pub record Running (k : ℕ) (q v t : List ℕ) : Type 0 where
    pub whole : Whole q v t
    pub lanes : (i : ℕ) → i < m → Lane f (get_or x i 0) sums m k (get_or q i 0) (get_or v i 0) (get_or t i 0)

  pub running_none : (q v t : List ℕ) → q ≡ zeros 64 → v ≡ zeros 64 → t ≡ zeros 64 → Running 0 q v t
  running_none q v t eq ev et = rw (eq, ev, et) (record {
    whole = record { quotients = size; values = size; totals = size };
    lanes = λ i l. rw (zeros-entry 64 i) (lane-none f (get_or x i 0) sums m);
  })
    where
      size : length (zeros 64) ≡ 64
      size = let none : ℕ = 0 in length-replicate 64 none

  module _ (asked : Runnable m f sums x z) (k : ℕ) (q v t : List ℕ) (a : Running k q v t) (inside : k < m) where
    steppable : Steppable m (get_or f k 0) (get_or sums (m - 1 - k) 0) x z q v t
    steppable = record {
      lent = asked.lent;
      whole = a.whole;
      coefficient = (let s = asked.coefficients k in omega arith);
      sum = (let s = asked.sums-small (m - 1 - k) in omega arith);
      room = λ i l. (let r = (a.lanes i l).room in let few = asked.lent.few in omega arith);
    }

    pub running_more : (q' v' t' : List ℕ) → Stepped m (get_or f k 0) (get_or sums (m - 1 - k) 0) x q v t q' v' t' → Running (k + 1) q' v' t'
    running_more q' v' t' s = record {
      whole = s.whole;
      lanes = λ i l.
          lane-more f (get_or x i 0) sums m k _ _ _ (a.lanes i l) inside (get_or f k 0) (get_or sums (m - 1 - k) 0) _ _ _ refl refl (s.quotients i l)
          (s.values i l) (s.totals i l) (s.small i l) steppable.sum;
    }
