-- Every job that calls leave is sound, holds the shape of the last shape call that is not refused, and no marks where it is not located; and one that is
-- located holds cells that can be declared, with as many checks left in each row as its register is long.
use mathlib.Core.Path.{◌≡◌, refl, sym, ap, ap₂, ◌∙◌}
use mathlib.Core.Bool.{Bool, true, false, not, ◌&&◌, ◌||◌, or-true, false≢true}
use mathlib.Core.List.{List, [], ◌∷◌}
use mathlib.Core.Option.{Option, some}
use Prim.Native.Nat.{ℕ, ◌<◌}
use native.Mathlib.Omega.{arith}
use lib.Dec.{ltb}
use lib.ListN.{length}
use borrow.Author.Tests.{eq-eqb}
use Rattle.columns.specs.Columns.{has, members}
use Rattle.decoding.specs.Locating.{size_of, taps_of, named, named_columns}
use Rattle.decoding.specs.Remaining.{read_sequences}
use Rattle.decoding.proofs.NamedColumns.{names-all, has_named, size-named}
use Rattle.decoding.proofs.SequenceRegister.{generator_of}
use Rattle.decoding.proofs.SoleNearest.{rows-reach}
use Rattle.frame.specs.DeclaredCells.{Declared, declared_by}
use Rattle.frame.specs.Shape.{is_shape, shape_tests}
use Rattle.frame.specs.declared.Shape.{Shape}
use Rattle.frame.proofs.Declarable.{well_formed_declarable}
use Rattle.lists.proofs.Tabulated.{every_of}
use Rattle.refusal.proofs.Orders.{Among, Pass, first_of_map}
use Rattle.job.specs.Calls.{Call, shape, encode, locate, repair, start, next, peek, refusing, describe, step, shapes}
use Rattle.job.specs.Calls.{arrives, started, stepped}
use Rattle.job.specs.Demands.{held_shape, Reached}
use Rattle.job.specs.Job.{Arrays, Job, empty_job, no_columns, sound, head_sound, phase_sound, findings_sound}
use Rattle.job.specs.Job.{is_empty, is_empty_phase, is_located_phase, is_located, declared_sound, counts_empty}
use Rattle.job.specs.Runs.{run, run_from, shape_after, last_shape, last_shape_from}
use Rattle.job.specs.declared.Phase.TheVariants.{Empty, Shaped, Unfinished, Located}
use Rattle.job.specs.declared.Phase.{Phase}
use Rattle.job.proofs.Cases.{by_call}
use Rattle.job.proofs.Forms.{Locates, located_frame, Form, empty, shaped, unfinished, located, by_end, run_form}

-- ---- the shape

abbrev shape_held : Job → Option Shape
shape_held j = held_shape j.head.phase j.head.shape

pub not-empty-held : (j : Job) → is_empty j ≡ false → shape_held j ≡ some j.head.shape
unfolding counts_empty
not-empty-held j e = of_phase j.head.phase (not (sound j)) e
  where
    of_phase : (p : Phase) (b : Bool) → (is_empty_phase p || b) ≡ false → held_shape p j.head.shape ≡ some j.head.shape
    of_phase Empty b e = absurd (false≢true (sym e))
    of_phase Shaped b e = refl
    of_phase Unfinished b e = refl
    of_phase (Located c a) b e = refl

-- a call that is refused leaves the shape; after a late refusal the job was not empty, and has the same
module _ (j : Job) (c : Call) where
  kept-shape : ((k : ℕ) → Pass (describe j c).keeping → Among k (describe j c).shaping → is_empty j ≡ false)
      → (Pass (describe j c).keeping → shape_held (describe j c).gives.job ≡ shape_held j) → shape_held (step j c).job ≡ shape_held j
  kept-shape late given =
      by_call j c (λ o. shape_held o.job ≡ shape_held j) (λ k a. refl) (λ k p a. sym (not-empty-held j (late k p a))) (λ p q. given p)

arrives-shape : (s : Shape) (a : Arrays) (f : List ℕ) → shape_held (arrives s a f).job ≡ some s
arrives-shape s a f = by_end s a f (λ o. shape_held o.job ≡ some s) refl refl

shape-step : (j : Job) (c : Call) → shape_held (step j c).job ≡ shape_after (shape_held j) c
unfolding step
shape-step j (shape n checks b) = first_of_map (λ o. shape_held o.job) (refusing j []) (shape_tests n checks b) (shapes j.arrays n checks b)
shape-step j (encode f) = kept-shape j (encode f) (λ k p a. absurd a) (λ p. refl)
shape-step j (locate words f) = kept-shape j (locate words f) (λ k p a. p.0) (λ p. sym (not-empty-held j p.0))
shape-step j (repair f) = kept-shape j (repair f) (λ k p a. p.0) (λ p. sym (not-empty-held j p.0))
shape-step j (start words f) =
    kept-shape j (start words f) (λ k p a. p.0)
    (λ p. arrives-shape j.head.shape (started j.head.shape j.arrays words f) f ∙ sym (not-empty-held j p.0))
shape-step j next =
    kept-shape j next (λ k p a. p.0) (λ p. arrives-shape j.head.shape (stepped j.head.shape j.arrays) [] ∙ sym (not-empty-held j p.0))
shape-step j peek = kept-shape j peek (λ k p a. absurd a) (λ p. refl)

run-shape : (j : Job) (calls : List Call) → shape_held (run_from j calls) ≡ last_shape_from (shape_held j) calls
unfolding run_from last_shape_from
run-shape j [] = refl
run-shape j (c ∷ cs) = run-shape (step j c).job cs ∙ ap (λ s. last_shape_from s cs) (shape-step j c)

pub holds-last-shape : (a : Arrays) (calls : List Call) → shape_held (run a calls) ≡ last_shape calls
holds-last-shape a calls = run-shape (empty_job a) calls

-- ---- what is not located

unmarked : (j : Job) → Form j → is_located_phase j.head.phase ≡ false → j.head.columns ≡ no_columns
unmarked _ (empty a) e = refl
unmarked _ (shaped s a t) e = refl
unmarked _ (unfinished s a f n h t going) e = refl
unmarked _ (located s a words f t l) e = absurd (false≢true (sym e))

-- ---- soundness

-- no column outside the shape is marked
marked-inside : (s : Shape) (σ : List ℕ) (i : ℕ) → i < 256 → (not (has (named_columns s σ) i) || ltb i s.columns) ≡ true
unfolding named
marked-inside s σ i h = rw (has_named s σ i h) (inside (ltb i s.columns) _)
  where
    inside : (a b : Bool) → (not (a && b) || a) ≡ true
    inside true b = or-true (not b)
    inside false b = refl

-- as many columns are marked as the register is long
module _ (s : Shape) (D : Declared) (f : List ℕ) (t : is_shape s ≡ true) (l : Locates s D f) where
  abbrev ss : List (List ℕ)
  ss = read_sequences s D f

  pub marked-number : length (members (named_columns s (taps_of (read_sequences s D f)))) ≡ size_of (read_sequences s D f)
  marked-number =
      size-named s (taps_of ss) t ∙ (names-all s (size_of ss) (taps_of ss) (generator_of ss).register t).0 l.names

  found-sound : findings_sound s (named_columns s (taps_of (read_sequences s D f))) (size_of (read_sequences s D f)) true ≡ true
  unfolding findings_sound
  found-sound =
      ap₂ ◌&&◌ (every_of 256 _ (marked-inside s (taps_of ss)))
      (ap₂ ◌&&◌ (eq-eqb _ _ marked-number) (rows-reach s D (size_of ss) l.reach))

-- a frame that was located leaves the job located
pub frame-located : (s : Shape) (a : Arrays) (words f : List ℕ) → Locates s (declared_by words) f → is_located (located_frame s a words f) ≡ true
unfolding declared_sound
frame-located s a words f l = ap₂ ◌&&◌ (well_formed_declarable s (declared_by words) f l.well_formed) l.reach

pub form_sound : (j : Job) → Form j → sound j ≡ true
unfolding head_sound phase_sound
form_sound _ (empty a) = refl
form_sound _ (shaped s a t) = t
form_sound _ (unfinished s a f n h t going) = t
form_sound _ (located s a words f t l) = ap₂ ◌&&◌ t (found-sound s (declared_by words) f t l)

pub reached : (a : Arrays) (calls : List Call) → Reached a calls
reached a calls = record {
  sound = form_sound (run a calls) (run_form a calls);
  shape = holds-last-shape a calls;
  unmarked = unmarked (run a calls) (run_form a calls);
}

-- a job that holds a shape does not count as empty
pub shape-held : (a : Arrays) (calls : List Call) (s : Shape) → last_shape calls ≡ some s → (is_empty (run a calls) ≡ false) × ((run a calls).head.shape ≡ s)
unfolding counts_empty
shape-held a calls s last =
    of_phase (run a calls).head.phase (sound (run a calls)) (form_sound (run a calls) (run_form a calls)) (holds-last-shape a calls ∙ last)
  where
    of_phase : (p : Phase) (b : Bool) → b ≡ true → held_shape p (run a calls).head.shape ≡ some s
        → ((is_empty_phase p || not b) ≡ false) × ((run a calls).head.shape ≡ s)
    of_phase Empty b e h = absurd (let z : ◌≡◌ {A = ℕ} 0 1 = cc in let y : ⊥ = omega arith in y)
    of_phase Shaped b e h = (ap not e, cc)
    of_phase Unfinished b e h = (ap not e, cc)
    of_phase (Located c a) b e h = (ap not e, cc)
