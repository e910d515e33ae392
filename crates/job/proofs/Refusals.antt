-- Demand 1 for the calls on a job: each number is answered exactly where its reason is the first of the call's order that holds, and a refusal leaves what
-- it must.
use mathlib.Core.Path.{◌≡◌, sym, subst, subst⁻¹}
use mathlib.Core.Logic.{◌↔◌, inl, inr}
use mathlib.Core.List.{List, [], ◌∷◌, ◌++◌, append-nil}
use Prim.Native.Nat.{ℕ}
use Rattle.frame.specs.DeclaredCells.{declared_by}
use Rattle.refusal.specs.Order.{Reason, First, None, Test, first_of}
use Rattle.refusal.proofs.Orders.{Pass, SayInTurn, none-pass_in_turn, gives_in_turn}
use Rattle.job.specs.Calls.{Call, locate, refused, Outcome, Described, refusing, unseen, locating, describe, carried_out, step, by_sums}
use Rattle.job.specs.Job.{Job, shaped_job}
use Rattle.job.specs.Refusals.{Reasons, reasons, by_sums_reasons, Demand1}
use Rattle.job.proofs.AfterRefusal.{same_number, gives-no-refusal, left}
use Rattle.job.proofs.Reasons.{SayOrNone, keeping-says, shaping-says, sums-alone_say}

-- what is described, by reasons that its tests say
module _ (j : Job) (d : Described) (why : Reasons) (keep : SayInTurn d.keeping why.keeping)
    (leave : Pass d.keeping → SayOrNone d.shaping why.shaping) (k : ℕ) (no-refusal : d.gives.answer ≡ refused k → ⊥) where
  abbrev shaped : Job
  shaped = shaped_job j.head.shape d.beside

  abbrev Gives : Outcome → Type 0
  Gives o = o.answer ≡ refused k

  tells : (i : Job) (m : ℕ) → Gives (refusing i d.lent m) ↔ (k ≡ m)
  tells i m = (λ e. sym (same_number e), λ e. cc)

  none_first : (rs : List Reason) → None rs → First k rs → ⊥
  none_first [] n f = f
  none_first (r ∷ rs) n (inl f) = n.0 f.0
  none_first (r ∷ rs) n (inr f) = none_first rs n.1 f.1

  -- what is given once no reason holds of those that leave the job as it was
  abbrev later : List Test → Outcome
  later ts = first_of (refusing shaped d.lent) ts d.gives

  later-exact : SayOrNone d.shaping why.shaping → Gives (later d.shaping) ↔ First k why.shaping
  later-exact (inl say) =
      subst (λ (rs : List Reason). Gives (later d.shaping) ↔ First k rs) (append-nil why.shaping)
      (gives_in_turn Gives k (refusing shaped d.lent) (tells shaped) d.shaping why.shaping d.gives [] say
      (λ n. (no-refusal, λ e. absurd e)))
  later-exact (inr (no_test, none)) =
      subst⁻¹ (λ (ts : List Test). Gives (later ts) ↔ First k why.shaping) no_test (
        λ g. absurd (no-refusal g),
        λ f. absurd (none_first why.shaping none f),
      )

  carried-exact : ((carried_out j d).answer ≡ refused k) ↔ First k (why.keeping ++ why.shaping)
  carried-exact =
      gives_in_turn Gives k (refusing j d.lent) (tells j) d.keeping why.keeping _ why.shaping keep (λ none.
      later-exact (leave (none-pass_in_turn d.keeping why.keeping keep none)))

exact : (j : Job) (c : Call) (k : ℕ) → ((step j c).answer ≡ refused k) ↔ First k ((reasons j c).keeping ++ (reasons j c).shaping)
unfolding step
exact j c k = carried-exact j (describe j c) (reasons j c) (keeping-says j c) (shaping-says j c) k (gives-no-refusal j c)

by-sums : (j : Job) (words f : List ℕ) (k : ℕ) → ((by_sums j words f).answer ≡ refused k)
    ↔ First k ((reasons j (locate words f)).keeping ++ by_sums_reasons j.head.shape (declared_by words) f)
unfolding by_sums
by-sums j words f k =
    carried-exact j (locating j words f unseen)
    (record { keeping = (reasons j (locate words f)).keeping; shaping = by_sums_reasons j.head.shape (declared_by words) f })
    (keeping-says j (locate words f)) (λ p. inl (sums-alone_say j words f p)) k (gives-no-refusal j (locate words f))

pub demand_1 : Demand1
demand_1 = record { exact = exact; left = left; by-sums = by-sums }
