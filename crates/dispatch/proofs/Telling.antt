-- What is told and kept of a call with a number: by the job of that number, or by nobody; and of a turn.
use mathlib.Core.Path.{◌≡◌, sym, ap, ◌∙◌}
use mathlib.Core.Bool.{Bool, cond}
use mathlib.Core.List.{[]}
use mathlib.Core.Option.{Option, none, some}
use Prim.Native.Nat.{ℕ, ◌≤◌, ◌<◌}
use borrow.Author.Tests.{lt-ltb, le-ltb}
use Rattle.eight_jobs.specs.Eight.{jobs}
use Rattle.job.specs.Calls.{Call, next}
use Rattle.job.specs.Refusals.{lent_to}
use Rattle.kept.specs.Kept.{Kept, with_last, jobs_of, made_of, served_of, kept_after}
use Rattle.turns.specs.Dispatcher.{turn_reply, reply, served}
use Rattle.turns.proofs.Calling.{calling}
use Rattle.dispatch.specs.Calls.{Made}
use Rattle.dispatch.specs.Told.{Told, nobody, told, turn_told, Does, Turns}

-- a number that is no job's
pub outside : (p : Kept) (k : ℕ) (c : Call) {t : Told} → 8 ≤ k → t ≡ nobody (lent_to c) → Does p k c t p
unfolding kept_after
outside p k c b e =
    record {
      tells = e ∙ ap (told c) (sym ((calling jobs (jobs_of p) k c).outside b).0);
      leaves = ap (λ (x : Bool). cond x (made_of p k c) p) (sym (le-ltb k 8 b));
    }

-- one of the eight
pub inside : (p : Kept) (k : ℕ) (c : Call) {t : Told} {q : Kept} → k < 8 → Made p k c t q → Does p k c t q
unfolding kept_after
inside p k c b made =
    record {
      tells = made.tells ∙ ap (told c) (sym ((calling jobs (jobs_of p) k c).answer b));
      leaves = made.leaves ∙ ap (λ (x : Bool). cond x (made_of p k c) p) (sym (lt-ltb k 8 b));
    }

-- a turn that serves job k, and one that serves nobody
module _ (p : Kept) where
  pub serving : (k : ℕ) → served jobs (jobs_of p) ≡ some k → {t : Told} {q : Kept} → Made p k next t q
      → Turns p (record { job = k; said = t }) (with_last q k)
  unfolding kept_after reply
  serving k who made =
      record {
        tells = ap (λ (t : Told). record { job = k; said = t }) made.tells ∙ ap (λ (r : Option ℕ). turn_told (turn_reply jobs (jobs_of p) r)) (sym who);
        leaves = ap (λ (q : Kept). with_last q k) made.leaves ∙ ap (served_of p) (sym who);
      }

  pub idle : served jobs (jobs_of p) ≡ none → {t : Told} → t ≡ nobody [] → Turns p (record { job = 8; said = t }) p
  unfolding kept_after reply
  idle who e =
      record {
        tells = ap (λ (t : Told). record { job = 8; said = t }) e ∙ ap (λ (r : Option ℕ). turn_told (turn_reply jobs (jobs_of p) r)) (sym who);
        leaves = ap (served_of p) (sym who);
      }
