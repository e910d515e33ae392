-- What C is given of what the dispatcher tells.
use mathlib.Core.Path.{◌≡◌, ap, ◌∙◌}
use mathlib.Core.List.{List}
use Prim.Native.Nat.{ℕ}
use Rattle.dispatch.specs.Told.{Told, TurnTold, Does, Turns}
use Rattle.job.specs.Calls.{Call}
use Rattle.kept.specs.Kept.{Kept}
use Rattle.mirror.specs.declared.CTurned.{CTurned}
use Rattle.capi.specs.Dispatcher.{turned_for, Gives, TurnGives}

pub gives : {A : Type 0} (given : Told → A) (p : Kept) (k : ℕ) (c : Call) {t : Told} {r : A} {f : List ℕ} {q : Kept} → Does p k c t q → r ≡ given t
    → f ≡ t.frame → Gives A given p k c r f q
gives given p k c does answer frame =
    record {
      answers = answer ∙ ap given does.tells;
      frame = frame ∙ ap (λ (t : Told). t.frame) does.tells;
      leaves = does.leaves;
    }

pub turn-gives : (p : Kept) {t : TurnTold} {r : CTurned} {q : Kept} → Turns p t q → r ≡ turned_for t → TurnGives p r q
turn-gives p turns answer = record { answers = answer ∙ ap turned_for turns.tells; leaves = turns.leaves }
