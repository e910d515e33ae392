-- Where all eight jobs stay unfinished, turns go round and round.
use mathlib.Core.Path.{◌≡◌, refl, sym, ap, subst, ◌∙◌}
use mathlib.Core.Bool.{Bool, true, false}
use mathlib.Core.Option.{some}
use Prim.Native.Nat.{ℕ, zero, suc, ◌+◌, ◌-◌, ◌*◌, ◌/◌, ◌%◌, ◌≤◌, ◌<◌}
use native.Mathlib.Omega.{arith}
use lib.Dec.{eqb}
use lib.ListN.{replicate}
use borrow.Author.Tests.{eqb-true, eqb-false}
use Rattle.turns.specs.Dispatcher.{Kind, Jobs, turn, after, run_from, served, seek, alone, turns}
use Rattle.turns.specs.Turning.{Serving, RoundAndRound}
use Rattle.turns.proofs.Turning.{turning}

-- ---- the steps that job k has made after n turns; the next serves job n % 8

abbrev made : (n k : ℕ) → ℕ
made n k = (n + 7 - k) / 8

made_none : (k : ℕ) → k < 8 → made 0 k ≡ 0
made_none k b = omega arith

made-below : (n m : ℕ) → n < 8 * m → made n (n % 8) < m
made-below n m b = omega arith

made_more : (n k : ℕ) → k ≡ n % 8 → made (suc n) k ≡ suc (made n k)
made_more n k e = omega arith

made-same : (n k : ℕ) → k < 8 → (k ≡ n % 8 → ⊥) → made (suc n) k ≡ made n k
made-same n k b differ = omega arith

module _ (K : Kind) where
  -- job j after i steps
  abbrev stepped : K.job → (i : ℕ) → K.job
  stepped j i = alone K j (replicate i K.step)

  one_more : (j : K.job) (i : ℕ) → stepped j (suc i) ≡ K.leaves (stepped j i) K.step
  unfolding alone
  one_more j zero = refl
  one_more j (suc i) = one_more (K.leaves j K.step) i

  module _ (d : Jobs K) (m : ℕ) (goes : (k i : ℕ) → k < 8 → i < m → K.unfinished (stepped (d.at k) i) ≡ true) where
    -- x is what n turns leave of d
    record Round (n : ℕ) (x : Jobs K) : Type 0 where
      last : x.last ≡ (n + 7) % 8
      jobs : (k : ℕ) → k < 8 → x.at k ≡ stepped (d.at k) (made n k)

    module _ (n : ℕ) (x : Jobs K) (r : Round n x) (b : n < 8 * m) where
      -- the job next to the one served last is looked at first, and is unfinished
      next-served : served K x ≡ some (n % 8)
      unfolding served seek
      next-served = rw (place, unfinished) refl
        where
          place : suc x.last % 8 ≡ n % 8
          place = let e = r.last in omega arith

          unfinished : K.unfinished (x.at (n % 8)) ≡ true
          unfinished = ap K.unfinished (r.jobs (n % 8) (omega arith)) ∙ goes (n % 8) (made n (n % 8)) (omega arith) (made-below n m b)

      next : Serving K x (n % 8)
      next = (turning K x (let e = r.last in omega arith)).serving (n % 8) next-served

      next-jobs : (k : ℕ) → k < 8 → (after K x turn).at k ≡ stepped (d.at k) (made (suc n) k)
      next-jobs k c = pick (eqb k (n % 8)) refl
        where
          pick : (t : Bool) → eqb k (n % 8) ≡ t → (after K x turn).at k ≡ stepped (d.at k) (made (suc n) k)
          pick true e =
              let q = eqb-true k (n % 8) e in
              rw q next.job
              ∙ ap (λ j. K.leaves j K.step) (r.jobs k c)
              ∙ sym (one_more (d.at k) (made n k))
              ∙ ap (stepped (d.at k)) (sym (made_more n k q))
          pick false e = let differ = eqb-false k (n % 8) e in next.others k differ ∙ r.jobs k c ∙ ap (stepped (d.at k)) (sym (made-same n k c differ))

      next-round : Round (suc n) (after K x turn)
      next-round = record { last = next.last ∙ (let e : n % 8 ≡ (suc n + 7) % 8 = omega arith in e); jobs = next-jobs }

    rounds : (n i t : ℕ) (x : Jobs K) → Round i x → i + n ≡ t → t ≤ 8 * m → Round t (run_from K x (turns K n))
    unfolding run_from turns
    rounds zero i t x r e b = subst (λ (i : ℕ). Round i x) (let q : i ≡ t = omega arith in q) r
    rounds (suc n) i t x r e b = rounds n (suc i) t (after K x turn) (next-round i x r (omega arith)) (omega arith) b

  pub round-and-round : RoundAndRound K
  unfolding alone
  round-and-round d m n k last goes b c = (rounds d m goes n 0 n d start (omega arith) (omega arith)).jobs k c
    where
      start : Round d m goes 0 d
      start = record { last = last; jobs = λ k c. ap (stepped (d.at k)) (sym (made_none k c)) }
