-- A call by cases, whatever it is: refused by a test that leaves the job as it was, or by one that leaves it shaped, or every test passes and it gives what
-- it is for.
use mathlib.Core.Path.{◌≡◌, ◌∙◌}
use Prim.Native.Nat.{ℕ}
use Rattle.refusal.proofs.Orders.{Among, Pass, by_tests, pass-otherwise}
use Rattle.job.specs.Calls.{Call, Outcome, Described, refusing, carried_out, describe, step}
use Rattle.job.specs.Job.{Job, shaped_job}

module _ (j : Job) (d : Described) where
  pub by-carried : (P : Outcome → Type 0) → ((k : ℕ) → Among k d.keeping → P (refusing j d.lent k))
      → ((k : ℕ) → Pass d.keeping → Among k d.shaping → P (refusing (shaped_job j.head.shape d.beside) d.lent k))
      → (Pass d.keeping → Pass d.shaping → P d.gives) → P (carried_out j d)
  by-carried P kept shaped given =
      by_tests (refusing j d.lent) _ P d.keeping kept (λ p.
      by_tests (refusing (shaped_job j.head.shape d.beside) d.lent) d.gives P d.shaping (λ k. shaped k p) (given p))

  pub carried_gives : Pass d.keeping → Pass d.shaping → carried_out j d ≡ d.gives
  carried_gives kept shaped =
      pass-otherwise (refusing j d.lent) _ d.keeping kept
      ∙ pass-otherwise (refusing (shaped_job j.head.shape d.beside) d.lent) d.gives d.shaping shaped

module _ (j : Job) (c : Call) where
  abbrev d : Described
  d = describe j c

  pub by_call : (P : Outcome → Type 0) → ((k : ℕ) → Among k d.keeping → P (refusing j d.lent k))
      → ((k : ℕ) → Pass d.keeping → Among k d.shaping → P (refusing (shaped_job j.head.shape d.beside) d.lent k))
      → (Pass d.keeping → Pass d.shaping → P d.gives) → P (step j c)
  unfolding step
  by_call = by-carried j d

  pub step_gives : Pass d.keeping → Pass d.shaping → step j c ≡ d.gives
  unfolding step
  step_gives = carried_gives j d
