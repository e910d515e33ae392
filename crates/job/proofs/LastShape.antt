-- The shape of a list of calls is the one given by its last shape call that is not refused.
use mathlib.Core.Path.{◌≡◌, refl, sym, ap, ◌∙◌}
use mathlib.Core.List.{List, [], ◌∷◌, ◌++◌}
use mathlib.Core.Option.{Option, none, some}
use Prim.Native.Nat.{ℕ}
use Rattle.frame.specs.Shape.{shape_of, shape_tests}
use Rattle.frame.specs.declared.Shape.{Shape}
use Rattle.refusal.proofs.Orders.{Pass, by_tests, pass-otherwise}
use Rattle.job.specs.Calls.{Call, shape, encode, locate, repair, start, next, peek, step}
use Rattle.job.specs.Demands.{ShapeIsLast}
use Rattle.job.specs.Job.{Arrays, Job, empty_job}
use Rattle.job.specs.Left.{Given}
use Rattle.job.specs.Runs.{run, shape_after, last_shape, last_shape_from, IsRefused, Taken, IsShapeCall, NoneShapes, after_calls}
use Rattle.job.proofs.AfterRefusal.{gives-no-refusal}
use Rattle.job.proofs.Cases.{by_call, step_gives}
use Rattle.job.proofs.Left.{shape-given}

taken-shape : (j : Job) (n : ℕ) (checks : List ℕ) (b : ℕ) → Taken (step j (shape n checks b)) → Pass (shape_tests n checks b)
taken-shape j n checks b =
    by_call j (shape n checks b) (λ o. Taken o → Pass (shape_tests n checks b)) (λ k a taken. absurd (taken (k, refl))) (λ k p a. absurd a) (λ p q taken. p)

-- a call that is no shape call, or a refused one, leaves the shape
kept-shape : (s : Option Shape) (j : Job) (c : Call) → (IsShapeCall c → IsRefused (step j c)) → shape_after s c ≡ s
kept-shape s j (shape n checks b) refusal =
    by_tests (λ k. s) (some (shape_of n checks b)) (λ o. o ≡ s) (shape_tests n checks b) (λ k a. refl)
    (λ p.
    let (k, e) = refusal (n, checks, b, refl) in
    absurd (gives-no-refusal j (shape n checks b) (ap (λ o. o.answer) (sym (step_gives j (shape n checks b) p tt)) ∙ e)))
kept-shape s j (encode f) refusal = refl
kept-shape s j (locate words f) refusal = refl
kept-shape s j (repair f) refusal = refl
kept-shape s j (start words f) refusal = refl
kept-shape s j next refusal = refl
kept-shape s j peek refusal = refl

none-shapes : (s : Option Shape) (j : Job) (calls : List Call) → NoneShapes j calls → last_shape_from s calls ≡ s
unfolding last_shape_from
none-shapes s j [] n = refl
none-shapes s j (c ∷ cs) (n, ns) = ap (λ t. last_shape_from t cs) (kept-shape s j c n) ∙ none-shapes s (step j c).job cs ns

shapes-append : (s : Option Shape) (before after : List Call) → last_shape_from s (before ++ after) ≡ last_shape_from (last_shape_from s before) after
unfolding last_shape_from
shapes-append s [] after = refl
shapes-append s (c ∷ cs) after = shapes-append (shape_after s c) cs after

given-last : (a : Arrays) (before after : List Call) (n : ℕ) (checks : List ℕ) (b : ℕ) → Taken (after_calls a before (shape n checks b))
    → NoneShapes (run a (before ++ (shape n checks b ∷ []))) after
    → (s : Shape) × Given n checks b s × (last_shape (before ++ (shape n checks b ∷ after)) ≡ some s)
unfolding last_shape_from
given-last a before after n checks b taken refusals =
    let p = taken-shape (run a before) n checks b taken in (
      shape_of n checks b,
      shape-given n checks b p,
      shapes-append none before (shape n checks b ∷ after)
          ∙ ap (λ s. last_shape_from s after) (pass-otherwise (λ k. last_shape before) (some (shape_of n checks b)) (shape_tests n checks b) p)
          ∙ none-shapes (some (shape_of n checks b)) (run a (before ++ (shape n checks b ∷ []))) after refusals,
    )

pub shape-is-last : ShapeIsLast
shape-is-last = record { given = given-last; none = λ a calls refusals. none-shapes none (empty_job a) calls refusals }
