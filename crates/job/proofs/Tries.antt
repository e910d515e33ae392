-- A locate that is not refused tries the columns up to and with the last one that it marks, one in slices at its end, and no other call tries any.
use mathlib.Core.Path.{◌≡◌, refl, sym, ◌∙◌}
use mathlib.Core.Logic.{◌⊎◌, inl, inr}
use mathlib.Core.Bool.{true, false, and-eq-true_iff}
use mathlib.Core.List.{List, []}
use Prim.Native.Nat.{ℕ, suc, ◌<◌}
use native.Mathlib.Omega.{arith}
use Rattle.columns.specs.Columns.{has}
use Rattle.columns.specs.Listed.{count}
use Rattle.decoding.specs.Locating.{size_of, taps_of, named, named_columns, names_all}
use Rattle.decoding.specs.Remaining.{read_sequences}
use Rattle.decoding.specs.Search.{tried}
use Rattle.decoding.proofs.NamedColumns.{has_named, named-below, names-all}
use Rattle.decoding.proofs.SequenceRegister.{generator_of}
use Rattle.decoding.proofs.Tried.{passing_tried, last-passes}
use Rattle.frame.specs.DeclaredCells.{declared_by}
use Rattle.frame.specs.Shape.{is_shape}
use Rattle.frame.specs.declared.Shape.{Shape}
use Rattle.frame.proofs.Declarable.{read-passes}
use Rattle.frame.proofs.Shapes.{shape-ranges}
use Rattle.refusal.proofs.Orders.{Pass, no_fail}
use Rattle.job.specs.Calls.{Call, shape, encode, locate, repair, start, next, peek, Outcome, refusing, describe}
use Rattle.job.specs.Calls.{mends_uniform, register_tests, started, stepped, step}
use Rattle.job.specs.Job.{Arrays, Job, is_empty}
use Rattle.job.specs.Runs.{run, Taken}
use Rattle.job.specs.Tries.{UpToLast, LocateTries, TriesAtEnd, SlicesTry, OthersTryNone}
use Rattle.job.proofs.AfterRefusal.{never-columns}
use Rattle.job.proofs.Cases.{by_call}
use Rattle.job.proofs.Emptiness.{has-shape}
use Rattle.job.proofs.Forms.{Comes, goes, comes, arrived, next-arrives, run_form}
use Rattle.job.proofs.Going.{start-arrives}
use Rattle.job.proofs.Seen.{seen-passes}
use Rattle.job.proofs.LocatedBy.{never_both}

module _ (s : Shape) (t : is_shape s ≡ true) (ss : List (List ℕ)) (names : names_all s (taps_of ss) (size_of ss) ≡ true) where
  abbrev σ : List ℕ
  σ = taps_of ss

  all_named : count s.columns (named s σ) ≡ size_of ss
  all_named = (names-all s (size_of ss) σ (generator_of ss).register t).0 names

  marked : (i : ℕ) → i < s.columns → has (named_columns s σ) i ≡ named s σ i
  marked i below = has_named s σ i (omega (arith, (shape-ranges s t).columns-most))

  up-to-last : UpToLast (named_columns s σ) (tried s.columns (named s σ) (size_of ss))
  up-to-last =
      record {
        below = λ i e.
            let inside = named-below s σ i e in passing_tried s.columns (named s σ) (size_of ss) all_named i inside (sym (marked i inside) ∙ e);
        last = pick (last-passes s.columns (named s σ) (size_of ss) all_named);
      }
    where
      number : ℕ
      number = tried s.columns (named s σ) (size_of ss)

      pick : (number ≡ 0) ⊎ ((i : ℕ) × (i < s.columns) × (named s σ i ≡ true) × (number ≡ suc i))
          → (number ≡ 0) ⊎ ((i : ℕ) × (has (named_columns s σ) i ≡ true) × (number ≡ suc i))
      pick (inl e) = inl e
      pick (inr (i, below, passes, e)) = inr (i, marked i below ∙ passes, e)

module _ (j : Job) (words f : List ℕ) (not-empty : is_empty j ≡ false) where
  gives-tried : Pass (describe j (locate words f)).shaping
      → UpToLast (describe j (locate words f)).gives.marks (describe j (locate words f)).gives.tried
  unfolding register_tests
  gives-tried p =
      let ((alone, (reach, (fits, u))), mixed) = seen-passes j.head.shape (declared_by words) _ (mends_uniform j.head.shape (declared_by words) f) p in
      up-to-last j.head.shape (has-shape j.head not-empty) _ ((and-eq-true_iff _ _).0 (no_fail _ fits)).0

pub locate_tries : LocateTries
locate_tries a calls words f =
    by_call (run a calls) (locate words f) (λ o. Taken o → UpToLast o.marks o.tried) (λ k m taken. absurd (taken (k, refl)))
    (λ k p m taken. absurd (taken (k, refl))) (λ p q taken. gives-tried (run a calls) words f p.0 q)

-- ---- in slices

module _ (s : Shape) (t : is_shape s ≡ true) (a : Arrays) (g f : List ℕ) where
  comes_tries : (o : Outcome) → Comes s a g f o → TriesAtEnd o
  comes_tries _ (goes n h going) = record { at-end = λ c e. absurd (never_both e); before-end = λ e. refl; at-refusal = λ k e. refl }
  comes_tries _ (comes l) = record {
    at-end = λ c e. up-to-last s t (read_sequences s (declared_by a.declared) f) l.names;
    before-end = λ e. absurd (never_both (sym e));
    at-refusal = λ k e. absurd (never-columns e);
  }

refused_tries : (j : Job) (f : List ℕ) (k : ℕ) → TriesAtEnd (refusing j f k)
refused_tries j f k = record { at-end = λ c e. absurd (never-columns (sym e)); before-end = λ e. refl; at-refusal = λ m e. refl }

pub slices_try : SlicesTry
slices_try = record {
  start = λ a calls words f.
      let j : Job = run a calls in
      let s : Shape = j.head.shape in
      by_call j (start words f) TriesAtEnd (λ k m. refused_tries _ _ k) (λ k p m. refused_tries _ _ k) (λ (e, p) q.
      let t : is_shape s ≡ true = has-shape j.head e in
      let there : Arrays = started s j.arrays words f in
      comes_tries s t there f f _ (arrived s there f f (start-arrives s t j.arrays words f (read-passes s (declared_by words) f p)) q));
  next = λ a calls.
      let j : Job = run a calls in
      let s : Shape = j.head.shape in
      by_call j next TriesAtEnd (λ k m. refused_tries _ _ k) (λ k p m. refused_tries _ _ k) (λ (e, (n, u)) q.
      let there : Arrays = stepped s j.arrays in
      let (f, came) = next-arrives j (run_form a calls) n in
      comes_tries s (has-shape j.head e) there [] f _ (arrived s there [] f came q));
}

-- ---- the other calls

none_tried : (j : Job) (c : Call) → (describe j c).gives.tried ≡ 0 → (step j c).tried ≡ 0
none_tried j c given = by_call j c (λ o. o.tried ≡ 0) (λ k m. refl) (λ k p m. refl) (λ p q. given)

pub others_try_none : OthersTryNone
others_try_none =
    record {
      shape = λ j n checks b. none_tried j (shape n checks b) refl;
      encode = λ j f. none_tried j (encode f) refl;
      repair = λ j f. none_tried j (repair f) refl;
      peek = λ j. none_tried j peek refl;
    }
