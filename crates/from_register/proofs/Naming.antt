-- Locating by a register, test by test: the columns that the search finds are those that the register names, and what is given after each test.
use mathlib.Core.Path.{◌≡◌, refl, sym, ap, subst, ◌∙◌}
use mathlib.Core.Bool.{Bool, true, false, not}
use mathlib.Core.List.{List}
use Prim.Native.Nat.{ℕ, suc, ◌+◌, ◌-◌, ◌≤◌, ◌<◌}
use native.Mathlib.Numerals.{add-one}
use native.Mathlib.Omega.{arith}
use lib.Dec.{ltb}
use lib.ListN.{length, take}
use borrow.Author.Tests.{lt-ltb, le-ltb}
use Rattle.columns.specs.Columns.{members}
use Rattle.decoding.specs.Locating.{named, named_columns, names_all}
use Rattle.decoding.specs.Remaining.{left_reach, meeting_completable}
use Rattle.decoding.specs.Search.{tried, tried_for, sought_columns}
use Rattle.decoding.proofs.NamedColumns.{size-named, names-at-most}
use Rattle.decoding.proofs.Sought.{none_lost, tried-named}
use Rattle.frame.specs.DeclaredCells.{Declared, declared_by}
use Rattle.frame.specs.Frame.{held_sequences}
use Rattle.frame.specs.declared.Shape.{Shape}
use Rattle.frame.proofs.Shapes.{shape-ranges}
use Rattle.heads.specs.Answered as answer-of
use Rattle.job.specs.Answers.{answered_outcome}
use Rattle.job.specs.Calls.{refusing, by_register_tests}
use Rattle.job.specs.Job.{Arrays, beside, with_taps, with_found, shaped_job}
use Rattle.job.specs.declared.Answered.{Answered}
use Rattle.job.specs.declared.Head.{Head}
use Rattle.refusal.specs.Number.{number}
use Rattle.refusal.specs.declared.Refusal.{Refusal}
use Rattle.search.specs.Search.{sought}
use Rattle.search.specs.declared.Sought.{Sought}
use Rattle.from_register.specs.Register.{Completable, Held, by_register, after}

-- a refusal leaves the sums, the taps and the declared cells
pub refusal-left : (a : Arrays) (new taps words f : List ℕ) {r : Answered} {i j : Head} (why : Refusal) → r ≡ answer-of.refusal i why → i ≡ j
    → answered_outcome r (with_found a (after r.reply a.sums new) taps (after r.reply a.declared words)) f
    ≡ refusing (beside j (with_taps a taps)) f (number why)
refusal-left a new taps words f why e g =
    ap (λ x. answered_outcome x (with_found a (after x.reply a.sums new) taps (after x.reply a.declared words)) f)
    (e ∙ ap (λ k. answer-of.refusal k why) g)

module _ {s : Shape} {none : Bool} {words sums : List ℕ} {l : ℕ} {register : List ℕ} (held : Held s none words sums l register) where
  abbrev D : Declared
  D = declared_by words

  abbrev σ : List ℕ
  σ = take (suc l) register

  -- what the search for columns asks
  pub few-columns : s.columns ≤ 256
  few-columns = (shape-ranges s held.locatable.shape).columns-most

  -- what it finds: every column that the register names
  all_found : sought_columns s.columns σ ≡ named_columns s σ
  all_found = none_lost s σ few-columns 0 (λ e. let one = held.register.first in omega arith)

  -- and how many it tries
  number-tried : tried_for s.columns σ ≡ tried s.columns (named s σ) l
  number-tried =
      tried-named s σ
      ∙ ap (tried s.columns (named s σ)) (let t = held.register.taps in let n : length σ - 1 ≡ l = omega arith in n)

  module _ {alone : Bool} (before : Arrays) (f : List ℕ) where
    pub gives_24 : alone ≡ false → refusing (shaped_job s before) f 24 ≡ by_register s before words sums l (take (suc l) register) alone f
    unfolding by_register_tests
    gives_24 e = rw e refl

    pub gives_25 : alone ≡ true → left_reach s (declared_by words) l ≡ false
        → refusing (shaped_job s before) f 25 ≡ by_register s before words sums l (take (suc l) register) alone f
    unfolding by_register_tests
    gives_25 is e = rw (is, e) refl

  module _ {alone : Bool} (is-alone : alone ≡ true) (reach : left_reach s (declared_by words) l ≡ true) {q : Sought}
      (found : q ≡ sought s.columns (take (l + 1) register)) where
    own-taps : take (l + 1) register ≡ σ
    own-taps = ap (λ (n : ℕ). take n register) (add-one l)

    marked : q.columns ≡ named_columns s σ
    marked = ap (λ (x : Sought). x.columns) found ∙ ap (sought_columns s.columns) own-taps ∙ all_found

    tried_so : q.tried ≡ tried s.columns (named s σ) l
    tried_so = ap (λ (x : Sought). x.tried) found ∙ ap (tried_for s.columns) own-taps ∙ number-tried

    names : names_all s σ l ≡ not (ltb (length (members q.columns)) l)
    unfolding names_all
    names =
        ap (λ m. not (ltb m l)) (sym (size-named s σ held.locatable.shape) ∙ ap (λ K. length (members K)) (sym marked))

    pub gives_26 : (before : Arrays) (f : List ℕ) → length (members q.columns) < l
        → refusing (shaped_job s before) f 26 ≡ by_register s before words sums l (take (suc l) register) alone f
    unfolding by_register_tests
    gives_26 before f fewer = rw (is-alone, reach, names ∙ ap not (lt-ltb _ l fewer)) refl

    module _ (enough : l ≤ length (members q.columns)) where
      all_named : names_all s σ l ≡ true
      all_named = names ∙ ap not (le-ltb _ l enough)

      -- no more columns are named than the register is long
      marked-most : length (members q.columns) ≡ l
      marked-most =
          omega (
            arith,
            ap (λ K. length (members K)) marked,
            size-named s σ held.locatable.shape,
            names-at-most s l σ held.register held.locatable.shape,
          )

      -- what the test of the rows asks
      pub completable-asked : Completable s none words q.columns sums
      completable-asked = record { locatable = held.locatable; reach = subst (λ (n : ℕ). left_reach s D n ≡ true) (sym marked-most) reach }

      same-columns : meeting_completable s D q.columns (held_sequences s sums) ≡ meeting_completable s D (named_columns s σ) (held_sequences s sums)
      same-columns = ap (λ K. meeting_completable s D K (held_sequences s sums)) marked

      pub gives_unfit : (before : Arrays) (f : List ℕ) → meeting_completable s (declared_by words) q.columns (held_sequences s sums) ≡ false
          → refusing (shaped_job s before) f 26 ≡ by_register s before words sums l (take (suc l) register) alone f
      unfolding by_register_tests
      gives_unfit before f e = rw (is-alone, reach, all_named, sym same-columns ∙ e) refl

      pub gives-columns : (before : Arrays) (f : List ℕ) → meeting_completable s (declared_by words) q.columns (held_sequences s sums) ≡ true
          → {r : Answered} → r ≡ answer-of.found s l q.columns q.tried
          → answered_outcome r (with_found before (after r.reply before.sums sums) register (after r.reply before.declared words)) f
          ≡ by_register s before words sums l (take (suc l) register) alone f
      unfolding by_register_tests
      gives-columns before f fits e =
          rw (is-alone, reach, all_named, sym same-columns ∙ fits) (let b = held.zeros in let m = marked in let t = tried_so in rw (e, m, t, ← b) refl)
