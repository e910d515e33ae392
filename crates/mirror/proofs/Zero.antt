-- The number that C reads is 0 exactly where nothing is refused: no test of an order has the number 0.
use mathlib.Core.Path.{◌≡◌, refl, sym, ap, ◌∙◌}
use mathlib.Core.Logic.{inl, inr, ◌↔◌}
use mathlib.Core.Bool.{Bool, true, false, cond}
use mathlib.Core.List.{List, [], ◌∷◌}
use Prim.Native.Nat.{ℕ, suc}
use native.Mathlib.Omega.{arith}
use Rattle.std.specs.Prelude.{Result, Ok, Err}
use Rattle.finder.specs.Finder as Finder
use Rattle.finder.specs.Finder.{answer}
use Rattle.sequences.specs.Tests.{tests}
use Rattle.frame.specs.Encode.{encode_tests}
use Rattle.frame.specs.DeclaredCells.{declared_by, read_tests, reread_tests}
use Rattle.frame.specs.Frame.{held_sequences}
use Rattle.frame.specs.Shape.{shape_tests}
use Rattle.frame.specs.declared.Shape.{Shape}
use Rattle.refusal.specs.Order.{Test}
use Rattle.refusal.specs.Outcome as Tested
use Rattle.refusal.specs.Outcome.{outcome_of}
use Rattle.refusal.specs.declared.Refusal.{Refusal}
use Rattle.refusal.proofs.Orders.{Among, by_tests}
use Rattle.search.specs.Search as Search
use Rattle.slices.specs.Synthesis.{size, ended}
use Rattle.search.specs.Search.{search_tests}
use Rattle.job.specs.Answers.{checked_answer}
use Rattle.job.specs.Calls.{Call, shape, encode, locate, repair, start, next, peek, Answer, done, columns, unfinished, shortest, refused}
use Rattle.job.specs.Calls.{describe, register_tests, by_register_tests, held_taps, held_mark, arrives_tests, started, stepped, step}
use Rattle.job.specs.Job.{Arrays, Job}
use Rattle.job.proofs.AfterRefusal.{same_number, gives-no-refusal}
use Rattle.job.proofs.Cases.{by_call}
use Rattle.mirror.specs.Mirror.{refusal_of, refusal_number, register_of, ZeroIsNoRefusal}

-- no test has the number 0
abbrev Numbered : List Test → Type 0
Numbered [] = Unit {0}
Numbered (t ∷ ts) = (t.number ≡ 0 → ⊥) × Numbered ts

numbered_among : (k : ℕ) (ts : List Test) → Numbered ts → Among k ts → k ≡ 0 → ⊥
numbered_among k [] n a e = absurd a
numbered_among k (t ∷ ts) n (inl a) e = n.0 (sym a ∙ e)
numbered_among k (t ∷ ts) n (inr a) e = numbered_among k ts n.1 a e

nonzero : (k : ℕ) → suc k ≡ 0 → ⊥
nonzero k e = omega arith

-- ---- the calls on a job

keeping-numbered : (j : Job) (c : Call) → Numbered (describe j c).keeping
unfolding shape_tests encode_tests read_tests reread_tests
keeping-numbered j (shape n checks b) = (nonzero _, (nonzero _, (nonzero _, (nonzero _, tt))))
keeping-numbered j (encode f) = (nonzero _, (nonzero _, (nonzero _, (nonzero _, tt))))
keeping-numbered j (locate words f) = (nonzero _, (nonzero _, (nonzero _, (nonzero _, tt))))
keeping-numbered j (repair f) = (nonzero _, (nonzero _, (nonzero _, (nonzero _, (nonzero _, tt)))))
keeping-numbered j (start words f) = (nonzero _, (nonzero _, (nonzero _, (nonzero _, tt))))
keeping-numbered j next = (nonzero _, (nonzero _, tt))
keeping-numbered j peek = (nonzero _, (nonzero _, tt))

arriving-numbered : (s : Shape) (a : Arrays) → Numbered (arrives_tests s a)
unfolding arrives_tests by_register_tests
arriving-numbered s a = pick (ended a.synthesis)
  where
    pick : (b : Bool) → Numbered (cond b (by_register_tests s (declared_by a.declared) (held_sequences s a.sums) (size a.synthesis)
        (held_taps a.synthesis) (held_mark s a.synthesis)) [])
    pick true = (nonzero _, (nonzero _, (nonzero _, tt)))
    pick false = tt

shaping-numbered : (j : Job) (c : Call) → Numbered (describe j c).shaping
unfolding register_tests
shaping-numbered j (shape n checks b) = tt
shaping-numbered j (encode f) = tt
shaping-numbered j (locate words f) = (nonzero _, (nonzero _, (nonzero _, tt)))
shaping-numbered j (repair f) = (nonzero _, tt)
shaping-numbered j (start words f) = arriving-numbered j.head.shape (started j.head.shape j.arrays words f)
shaping-numbered j next = arriving-numbered j.head.shape (stepped j.head.shape j.arrays)
shaping-numbered j peek = tt

refused-nonzero : (j : Job) (c : Call) (k : ℕ) → (step j c).answer ≡ refused k → k ≡ 0 → ⊥
refused-nonzero j c k =
    by_call j c (λ o. o.answer ≡ refused k → k ≡ 0 → ⊥)
    (λ m a e z. numbered_among m (describe j c).keeping (keeping-numbered j c) a (same_number e ∙ z))
    (λ m p a e z. numbered_among m (describe j c).shaping (shaping-numbered j c) a (same_number e ∙ z))
    (λ p q e z. gives-no-refusal j c e)

not-refused : (x : Answer) → ((k : ℕ) → x ≡ refused k → ⊥) → refusal_of x ≡ 0
not-refused done n = refl
not-refused (columns c) n = refl
not-refused unfinished n = refl
not-refused (shortest l) n = refl
not-refused (refused k) n = absurd (n k refl)

-- ---- the finder

tests-numbered : (p : ℕ) (lengths symbols : List ℕ) (room : ℕ) → Numbered (tests p lengths symbols room)
unfolding tests
tests-numbered p lengths symbols room = (nonzero _, (nonzero _, (nonzero _, (nonzero _, (nonzero _, tt)))))

find-zero : (p : ℕ) (lengths symbols : List ℕ) (room : ℕ) → answer p lengths symbols room ≡ Finder.refused 0 → ⊥
unfolding answer
find-zero p lengths symbols room =
    by_tests Finder.refused _ (λ x. x ≡ Finder.refused 0 → ⊥) (tests p lengths symbols room)
    (λ k a e. numbered_among k (tests p lengths symbols room) (tests-numbered p lengths symbols room) a cc)
    (λ p e. let z : ◌≡◌ {A = ℕ} 0 1 = cc in omega arith)

found : (x : Finder.Answer) → (x ≡ Finder.refused 0 → ⊥) → ((register_of x).refusal ≡ 0) ↔ ((k : ℕ) → x ≡ Finder.refused k → ⊥)
found (Finder.register l a) n = (λ e k f. let z : ◌≡◌ {A = ℕ} 0 1 = cc in omega arith, λ f. refl)
found (Finder.refused k) n = (λ e m f. n (ap Finder.refused e), λ f. absurd (f k refl))

-- ---- the search

-- of a test, both read the same number
pub same-refusal : (v : Result (Unit {0}) Refusal) → refusal_of (checked_answer v) ≡ refusal_number (outcome_of v)
same-refusal (Ok passed) = refl
same-refusal (Err why) = refl

search-numbered : (n : ℕ) (σ : List ℕ) → Numbered (search_tests n σ)
unfolding search_tests
search-numbered n σ = (nonzero _, (nonzero _, tt))

search-zero : (n : ℕ) (σ : List ℕ) → (Search.answer n σ).outcome ≡ Tested.refused 0 → ⊥
unfolding Search.answer
search-zero n σ =
    by_tests (λ k. record { outcome = Tested.refused k; sought = Search.nothing }) _ (λ (x : Search.Answer). x.outcome ≡ Tested.refused 0 → ⊥)
    (search_tests n σ)
    (λ k a e. numbered_among k (search_tests n σ) (search-numbered n σ) a cc)
    (λ p e. let z : ◌≡◌ {A = ℕ} 0 1 = cc in omega arith)

tested : (x : Tested.Outcome) → (x ≡ Tested.refused 0 → ⊥) → (refusal_number x ≡ 0) ↔ ((k : ℕ) → x ≡ Tested.refused k → ⊥)
tested Tested.passed n = (λ e k f. let z : ◌≡◌ {A = ℕ} 0 1 = cc in omega arith, λ f. refl)
tested (Tested.refused k) n = (λ e m f. n (ap Tested.refused e), λ f. absurd (f k refl))

pub zero-is-no-refusal : ZeroIsNoRefusal
zero-is-no-refusal =
    record {
      call = λ j c.
          (λ e (k, a). refused-nonzero j c k a (sym (ap refusal_of a) ∙ e), λ n. not-refused (step j c).answer (λ k a. n (k, a)));
      find = λ p lengths symbols room. found (answer p lengths symbols room) (find-zero p lengths symbols room);
      search = λ n σ. tested (Search.answer n σ).outcome (search-zero n σ);
    }
