-- What a refusal leaves: the frame, no marks, and the job as it was, or shaped after a late one. What a call gives is no refusal.
use mathlib.Core.Path.{◌≡◌, refl, sym, ap, ◌∙◌}
use mathlib.Core.Logic.{inl, inr}
use mathlib.Core.Bool.{Bool, true, false, cond, false≢true}
use mathlib.Core.List.{List, [], ◌∷◌}
use Prim.Native.Nat.{ℕ}
use native.Mathlib.Omega.{arith}
use Rattle.frame.specs.DeclaredCells.{declared_by, read_tests, reread_tests}
use Rattle.frame.specs.Encode.{encode_tests}
use Rattle.frame.specs.Frame.{held_sequences}
use Rattle.frame.specs.Shape.{shape_tests}
use Rattle.frame.specs.declared.Shape.{Shape}
use Rattle.slices.specs.Synthesis.{size, ended}
use Rattle.refusal.specs.Order.{Test}
use Rattle.refusal.proofs.Orders.{Among}
use Rattle.job.specs.Calls.{Call, shape, encode, locate, repair, start, next, peek, done, columns, unfinished, shortest, refused}
use Rattle.job.specs.Calls.{describe, register_tests, by_register_tests, by_register_gives, step, late}
use Rattle.job.specs.Calls.{held_taps, held_mark, arrives_tests, arrives, started, stepped}
use Rattle.job.specs.Job.{Arrays, Job, no_columns, unfinished_job}
use Rattle.job.specs.Refusals.{Refused, lent_to, arrays_left}
use Rattle.job.proofs.Cases.{by_call}

-- ---- which numbers are late

abbrev AllLate : Bool → List Test → Type 0
AllLate b [] = Unit {0}
AllLate b (t ∷ ts) = (late t.number ≡ b) × AllLate b ts

late_among : (b : Bool) (k : ℕ) (ts : List Test) → AllLate b ts → Among k ts → late k ≡ b
late_among b k [] l a = absurd a
late_among b k (t ∷ ts) l (inl a) = ap late a ∙ l.0
late_among b k (t ∷ ts) l (inr a) = late_among b k ts l.1 a

keeping-early : (j : Job) (c : Call) → AllLate false (describe j c).keeping
unfolding late shape_tests encode_tests read_tests reread_tests
keeping-early j (shape n checks b) = (refl, (refl, (refl, (refl, tt))))
keeping-early j (encode f) = (refl, (refl, (refl, (refl, tt))))
keeping-early j (locate words f) = (refl, (refl, (refl, (refl, tt))))
keeping-early j (repair f) = (refl, (refl, (refl, (refl, (refl, tt)))))
keeping-early j (start words f) = (refl, (refl, (refl, (refl, tt))))
keeping-early j next = (refl, (refl, tt))
keeping-early j peek = (refl, (refl, tt))

pub early-number : (j : Job) (c : Call) (k : ℕ) → Among k (describe j c).keeping → late k ≡ false
early-number j c k = late_among false k (describe j c).keeping (keeping-early j c)

arriving-late : (s : Shape) (a : Arrays) → AllLate true (arrives_tests s a)
unfolding late arrives_tests by_register_tests
arriving-late s a = pick (ended a.synthesis)
  where
    pick : (b : Bool) → AllLate true (cond b (by_register_tests s (declared_by a.declared) (held_sequences s a.sums) (size a.synthesis)
        (held_taps a.synthesis) (held_mark s a.synthesis)) [])
    pick true = (refl, (refl, (refl, tt)))
    pick false = tt

shaping-late : (j : Job) (c : Call) → AllLate true (describe j c).shaping
unfolding late register_tests
shaping-late j (shape n checks b) = tt
shaping-late j (encode f) = tt
shaping-late j (locate words f) = (refl, (refl, (refl, tt)))
shaping-late j (repair f) = (refl, tt)
shaping-late j (start words f) = arriving-late j.head.shape (started j.head.shape j.arrays words f)
shaping-late j next = arriving-late j.head.shape (stepped j.head.shape j.arrays)
shaping-late j peek = tt

-- ---- answers

pub same_number : {k m : ℕ} → refused m ≡ refused k → m ≡ k
same_number e = cc

pub never-columns : {c k : ℕ} → columns c ≡ refused k → ⊥
never-columns e = let z : ◌≡◌ {A = ℕ} 0 1 = cc in omega arith

pub never_done : {k : ℕ} → done ≡ refused k → ⊥
never_done e = let z : ◌≡◌ {A = ℕ} 0 1 = cc in omega arith

never-shortest : {l k : ℕ} → shortest l ≡ refused k → ⊥
never-shortest e = let z : ◌≡◌ {A = ℕ} 0 1 = cc in omega arith

pub never-unfinished : {k : ℕ} → unfinished ≡ refused k → ⊥
never-unfinished e = let z : ◌≡◌ {A = ℕ} 0 1 = cc in omega arith

arrives-no-refusal : (s : Shape) (a : Arrays) (f : List ℕ) {k : ℕ} → (arrives s a f).answer ≡ refused k → ⊥
unfolding arrives
arrives-no-refusal s a f {k} = pick (ended a.synthesis)
  where
    pick : (b : Bool) → (cond b (by_register_gives s a a.declared a.sums (size a.synthesis) (held_taps a.synthesis) f)
        (record { answer = unfinished; marks = no_columns; tried = 0; job = unfinished_job s a; frame = f })).answer ≡ refused k → ⊥
    pick true = never-columns
    pick false = never-unfinished

pub gives-no-refusal : (j : Job) (c : Call) {k : ℕ} → (describe j c).gives.answer ≡ refused k → ⊥
gives-no-refusal j (shape n checks b) = never_done
gives-no-refusal j (encode f) = never_done
gives-no-refusal j (locate words f) = never-columns
gives-no-refusal j (repair f) = never-columns
gives-no-refusal j (start words f) = arrives-no-refusal j.head.shape (started j.head.shape j.arrays words f) f
gives-no-refusal j next = arrives-no-refusal j.head.shape (stepped j.head.shape j.arrays) []
gives-no-refusal j peek = never-shortest

-- ---- what is left

lent-frame : (j : Job) (c : Call) → (describe j c).lent ≡ lent_to c
lent-frame j (shape n checks b) = refl
lent-frame j (encode f) = refl
lent-frame j (locate words f) = refl
lent-frame j (repair f) = refl
lent-frame j (start words f) = refl
lent-frame j next = refl
lent-frame j peek = refl

arrays-left : (j : Job) (c : Call) → (describe j c).beside ≡ arrays_left j c
arrays-left j (shape n checks b) = refl
arrays-left j (encode f) = refl
arrays-left j (locate words f) = refl
arrays-left j (repair f) = refl
arrays-left j (start words f) = refl
arrays-left j next = refl
arrays-left j peek = refl

pub left : (j : Job) (c : Call) (k : ℕ) → (step j c).answer ≡ refused k → Refused j c k (step j c)
left j c k =
    by_call j c (λ o. o.answer ≡ refused k → Refused j c k o)
    (λ m a e. record {
      frame = lent-frame j c;
      marks = refl;
      tried = refl;
      shaped = λ l. absurd (false≢true (sym (number-late false m (early-number j c m a) e) ∙ l));
      kept = λ l. refl;
    })
    (λ m p a e. record {
      frame = lent-frame j c;
      marks = refl;
      tried = refl;
      shaped = λ l. record { phase = refl; shape = refl; columns = refl; arrays = arrays-left j c };
      kept = λ l. absurd (false≢true (sym l ∙ number-late true m (late_among true m (describe j c).shaping (shaping-late j c) a) e));
    })
    (λ p q e. absurd (gives-no-refusal j c e))
  where
    number-late : (b : Bool) (m : ℕ) → late m ≡ b → refused m ≡ refused k → late k ≡ b
    number-late b m l e = ap late (sym (same_number e)) ∙ l
