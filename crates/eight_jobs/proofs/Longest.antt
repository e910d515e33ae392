-- A locate of 512 steps, the largest number: of a frame of zeros with eight rows of 64 checks each, and no cell declared.
use mathlib.Core.Path.{◌≡◌, refl, sym, ap, subst⁻¹, ◌∙◌}
use mathlib.Core.Bool.{true}
use mathlib.Core.List.{List, [], ◌∷◌}
use mathlib.Core.Logic.{inl}
use mathlib.Core.Option.{some}
use Prim.Native.Nat.{ℕ, zero, suc, ◌*◌, ◌<◌}
use native.Mathlib.Omega.{arith}
use lib.ListN.{replicate}
use Rattle.columns.specs.Columns.{has}
use Rattle.columns.specs.Listed.{listed}
use Rattle.decoding.specs.Remaining.{read_sequences}
use Rattle.decoding.proofs.LeftSequences.{rows_left, length-left}
use Rattle.frame.specs.DeclaredCells.{Declared, declared_by, erasures, read_tests, marks_inside, declarable, undeclared_below}
use Rattle.frame.specs.Shape.{is_shape, shape_of, shape_tests, rows_in_range, columns_in_range, checks_in_range, exponent_in_range}
use Rattle.frame.specs.declared.Shape.{Shape}
use Rattle.job.specs.Calls.{Call, shape, start, next, Outcome, step}
use Rattle.job.specs.Job.{Arrays, Job, is_unfinished_phase}
use Rattle.job.specs.NothingDeclared.{no_words}
use Rattle.job.specs.Runs.{run, run_from, after_calls, last_shape, last_shape_from, Taken, Slicing, steps_in}
use Rattle.job.specs.Slices.{slices_of}
use Rattle.job.proofs.AfterRefusal.{never-unfinished}
use Rattle.job.proofs.Beginning.{tests, start-on}
use Rattle.job.proofs.Going.{sliceable}
use Rattle.job.proofs.Soundness.{shape-held}
use Rattle.lists.specs.Tabulate.{every}
use Rattle.refusal.proofs.Orders.{Pass}
use Rattle.register.specs.Sequences.{longest}
use Rattle.register.proofs.Ordering.{longest-bounds}
use Rattle.turns.specs.Dispatcher.{alone}
use Rattle.eight_jobs.specs.Eight.{jobs}
use Rattle.eight_jobs.proofs.OneJob.{alone-run, going}

abbrev calls : List Call
calls = shape 65 (replicate 8 64) 1 ∷ []

abbrev s : Shape
s = shape_of 65 (replicate 8 64) 1

abbrev f : List ℕ
f = replicate 520 0

abbrev D : Declared
D = declared_by no_words

last : last_shape calls ≡ some s
unfolding last_shape_from shape_tests rows_in_range columns_in_range checks_in_range exponent_in_range every
last = refl

is-shape : is_shape s ≡ true
unfolding is_shape shape_of rows_in_range columns_in_range checks_in_range exponent_in_range every
is-shape = refl

none-erased : erasures D 0 ≡ 0
unfolding listed has
none-erased = refl

read : Pass (read_tests s D f)
unfolding read_tests shape_of declarable marks_inside undeclared_below every listed has
read = (refl, (refl, (refl, tt)))

abbrev ss : List (List ℕ)
ss = read_sequences s D f

-- no sequence has more than 64 symbols, and the first has so many
longest_64 : longest ss ≡ 64
unfolding shape_of
longest_64 =
    omega (arith, (sliceable s is-shape D f).short, longest-bounds ss 0 (omega (arith, rows_left s D f)), length-left s D f 0 (omega arith), none-erased)

pub longest_512 : slices_of (shape_of 65 (replicate 8 64) 1) no_words (replicate 520 0) ≡ 512
unfolding shape_of
longest_512 = ap (λ (n : ℕ). n * 8) longest_64

-- ---- it is started

passes : (a : Arrays) → Pass (tests (run a calls) no_words f)
passes a =
    let (not-empty, same) = shape-held a calls s last in
    (not-empty, subst⁻¹ (λ (x : Shape). Pass (read_tests x D f)) same read)

taken : (a : Arrays) → Taken (after_calls a calls (start no_words f))
taken a (k, e) =
    never-unfinished (sym (ap (λ (o : Outcome). o.answer) (start-on (run a calls) no_words f (passes a)
    (subst⁻¹ (λ (x : Shape). 0 < longest (read_sequences x D f)) (shape-held a calls s last).1 (omega (arith, longest_64))))) ∙ e)

-- ---- and goes on through 511 steps

steps-slicing : (j : Job) (i : ℕ) → Slicing j (replicate i next)
steps-slicing j zero = tt
steps-slicing j (suc i) = (inl refl, steps-slicing (step j next).job i)

all-steps : (i : ℕ) → steps_in (replicate i next) ≡ i
unfolding steps_in
all-steps zero = refl
all-steps (suc i) = ap suc (all-steps i)

-- the calls that start it
abbrev pub long_calls : List Call
long_calls = shape 65 (replicate 8 64) 1 ∷ start no_words (replicate 520 0) ∷ []

pub long-going : (a : Arrays) (i : ℕ) → i < 512
    → is_unfinished_phase (alone jobs (run a long_calls) (replicate i next)).head.phase ≡ true
unfolding run_from
long-going a i less =
    ap (λ (j : Job). is_unfinished_phase j.head.phase) (alone-run (run a long_calls) (replicate i next))
    ∙ going a calls s no_words f last (taken a) (replicate i next) (steps-slicing _ i) (omega (arith, all-steps i, longest_512))
