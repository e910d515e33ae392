-- Demand 3 with 32 words that are 0 is demand 3 of frames as they stand.
use mathlib.Core.Path.{◌≡◌, refl, sym, subst, subst⁻¹, ◌∙◌}
use mathlib.Core.Logic.{◌↔◌}
use mathlib.Core.Bool.{true, false}
use mathlib.Core.List.{List, [], ◌∷◌}
use mathlib.Core.Option.{some}
use Prim.Native.Nat.{ℕ, ◌*◌, ◌<◌}
use native.Mathlib.Omega.{arith}
use lib.ListN.{length}
use borrow.Author.Tests.{eqb-true, eq-eqb}
use Rattle.columns.specs.Columns.{has}
use Rattle.decoding.specs.Remaining.{read_sequences}
use Rattle.decoding.proofs.NothingDeclared.{no_cells, well_formed_none, sequences-none, distance_none, differing-none}
use Rattle.frame.specs.DeclaredCells.{Declared, declared_by, nothing_declared, as_read, reread_tests, WellFormedRead, distance_read}
use Rattle.frame.specs.Frame.{WellFormed, Coded, Legal, sequences, distance}
use Rattle.frame.specs.Shape.{is_shape}
use Rattle.frame.specs.declared.Shape.{Shape}
use Rattle.frame.proofs.NothingDeclared.{rows-unmarked, read_as_it_stands, nothing-declarable}
use Rattle.lists.proofs.Joined.{replicate-each}
use Rattle.lists.proofs.Tabulated.{every_of}
use Rattle.refusal.proofs.Orders.{no_fail}
use Rattle.register.specs.Register.{Shortest, Alone}
use Rattle.job.specs.Calls.{Call, locate, repair, Outcome, step}
use Rattle.job.specs.Demands.{Found, Mended, CheckSumsDiffer}
use Rattle.job.specs.Job.{Arrays, Job}
use Rattle.job.specs.Left.{HoldsSums}
use Rattle.job.specs.NothingDeclared.{no_words, FoundWhole, MendedWhole, SumsDifferWhole, NothingDeclared}
use Rattle.job.specs.Refusals.{LegalAt}
use Rattle.job.specs.Runs.{run, last_shape, Taken, at_once}
use Rattle.job.proofs.Cases.{by_call}
use Rattle.job.proofs.Demands.{shaped_so, locates, demand_3}
use Rattle.job.proofs.GoingBack.{held-words}
use Rattle.job.proofs.Soundness.{shape-held}

abbrev D : Declared
D = declared_by no_words

nothing : nothing_declared no_words ≡ true
unfolding nothing_declared
nothing = every_of 32 _ (λ k _. eq-eqb _ 0 (replicate-each (λ (x : ℕ). x ≡ 0) 0 refl 32 k))

none : (s : Shape) → is_shape s ≡ true → (h i : ℕ) → h < s.rows → i < 256 → has (D h) i ≡ false
none s t = rows-unmarked s t no_words nothing

stands : (s : Shape) → is_shape s ≡ true → (f : List ℕ) → length f ≡ s.rows * s.columns → as_read s D f ≡ f
stands s t = read_as_it_stands s t no_words nothing

well_formed : (s : Shape) → is_shape s ≡ true → (f : List ℕ) → WellFormed s f → WellFormedRead s D f
well_formed s t f w = well_formed_none s t D (none s t) f (nothing-declarable s t no_words nothing) w

-- ---- a frame of a shape

module _ (s : Shape) (t : is_shape s ≡ true) (f : List ℕ) (whole : length f ≡ s.rows * s.columns) where
  same-sequences : read_sequences s D f ≡ sequences s f
  same-sequences = sequences-none s t D (none s t) f whole

  same-distance : (g : List ℕ) → Coded s g → distance_read s D g f ≡ distance s g f
  same-distance g coded = distance_none s t D (none s t) f whole g coded.well_formed.size

  found-whole : (c : ℕ) (o : Outcome) → Found s no_words f c o → FoundWhole s f c o
  found-whole c o found =
      let (g, legal, at, marks) = found.there in
      record {
        taps = found.taps;
        shortest = subst (λ ss. Shortest 257 c ss found.taps) same-sequences found.shortest;
        alone = subst (λ ss. Alone 257 c ss found.taps) same-sequences found.alone;
        legal-at = (g, legal, sym (same-distance g legal.coded) ∙ at, marks ∙ differing-none s t D (none s t) f whole g legal.coded.well_formed.size);
        number = found.number;
        sums = subst (λ (x : List ℕ). HoldsSums s x o.job.arrays.sums) (stands s t f whole) found.job.sums;
      }

  mended-whole : (c : ℕ) (j : Job) (o : Outcome) → Mended s D f c j o → MendedWhole s f c o
  mended-whole c j o mended = record {
    legal = mended.legal;
    count = sym (same-distance o.frame mended.legal.coded) ∙ mended.count;
    marks = mended.marks ∙ differing-none s t D (none s t) f whole o.frame mended.legal.coded.well_formed.size;
    nearest = λ g coded other. subst (λ (d : ℕ). c < d) (same-distance g coded) (mended.nearest g coded other);
  }

  none-at : (c : ℕ) → (LegalAt s D f c → ⊥) ↔ ((g : List ℕ) × Legal s g × (distance s g f ≡ c) → ⊥)
  none-at c = (
    λ never (g, legal, at). never (g, legal, same-distance g legal.coded ∙ at),
    λ never (g, legal, at). never (g, legal, sym (same-distance g legal.coded) ∙ at),
  )

same_differ : (s : Shape) → is_shape s ≡ true → (f g : List ℕ) → length f ≡ s.rows * s.columns → length g ≡ s.rows * s.columns
    → CheckSumsDiffer s D f g ↔ SumsDifferWhole s f g
same_differ s t f g whole sized =
    let f-read = stands s t f whole in
    let g-read = stands s t g sized in (
      λ d. subst (SumsDifferWhole s f) g-read (subst (λ x. SumsDifferWhole s x (as_read s D g)) f-read d),
      λ d. subst⁻¹ (λ x. SumsDifferWhole s x (as_read s D g)) f-read (subst⁻¹ (SumsDifferWhole s f) g-read d),
    )

-- the frame of a repair that is not refused has the shape's size
repaired_size : (a : Arrays) (calls : List Call) (f : List ℕ) (s : Shape) → last_shape calls ≡ some s → Taken (step (run a calls) (repair f))
    → length f ≡ s.rows * s.columns
unfolding reread_tests
repaired_size a calls f s last =
    subst (λ (x : Shape). Taken (step (run a calls) (repair f)) → length f ≡ x.rows * x.columns) (shape-held a calls s last).1
    (by_call (run a calls) (repair f) (λ o. Taken o → length f ≡ (run a calls).head.shape.rows * (run a calls).head.shape.columns)
    (λ k m t. absurd (t (k, refl))) (λ k p m t. absurd (t (k, refl))) (λ (e, (l, (size, p))) q t. eqb-true _ _ (no_fail _ size)))

-- ---- the parts of demand 3

pub nothing-declared : NothingDeclared
nothing-declared = record {
  locate-finds = λ a calls f taken.
      let (s, c, last, answer, found) = demand_3.locate-finds a calls no_words f taken in
      let t : is_shape s ≡ true = shaped_so a calls s last in
      let l = locates a calls (locate no_words f ∷ []) s no_words f last (at_once a calls no_words f taken) in
      (s, c, last, answer, found-whole s t f l.well_formed.size c _ found);
  locate-exact = λ a calls s f c σ last w shortest alone checks.
      let t : is_shape s ≡ true = shaped_so a calls s last in
      let same = same-sequences s t f w.size in
      let exact =
      demand_3.locate-exact a calls s no_words f c σ last (well_formed s t f w) (subst⁻¹ (λ ss. Shortest 257 c ss σ) same shortest)
      (subst⁻¹ (λ ss. Alone 257 c ss σ) same alone) (λ h below. (let e = no_cells s t D (none s t) h below in let l = checks h below in omega arith)) in
      let whole = none-at s t f w.size c in
      (λ refusal. whole.0 (exact.0 refusal), λ never. exact.1 (whole.1 never));
  repair-mends = λ a calls f back taken.
      let (s, words, c, last, words_back, answer, mended) = demand_3.repair-mends a calls f taken in
      let same : words ≡ no_words = sym (held-words a calls words words_back) ∙ held-words a calls no_words back in
      let t : is_shape s ≡ true = shaped_so a calls s last in (
        s,
        c,
        last,
        answer,
        mended-whole s t f (repaired_size a calls f s last taken) c (run a calls) _
            (subst (λ (w : List ℕ). Mended s (declared_by w) f c (run a calls) (step (run a calls) (repair f))) same mended),
      );
  repair-exact = λ a before locating between s f g c σ last by kept w shortest.
      let t : is_shape s ≡ true = shaped_so a before s last in
      let sized = (locates a before locating s no_words g last by).well_formed.size in
      let exact =
      demand_3.repair-exact a before locating between s no_words f g c σ last by kept (well_formed s t f w)
      (subst⁻¹ (λ ss. Shortest 257 c ss σ) (same-sequences s t g sized) shortest) in
      let same = same_differ s t f g w.size sized in
      let none = none-at s t f w.size c in (
        (λ e. same.0 (exact.by_23.0 e), λ differ. exact.by_23.1 (same.1 differ)),
        (
          λ e. let (equal, never) = exact.by_26.0 e in (λ differ. equal (same.1 differ), none.0 never),
          λ (equal, never). exact.by_26.1 (λ differ. equal (same.0 differ), none.1 never),
        ),
      );
  damage-mended = λ a before between s f g last legal w twice kept.
      let t : is_shape s ≡ true = shaped_so a before s last in
      let at = same-distance s t f w.size g legal.coded in
      demand_3.damage-mended a before between s no_words f g last legal (well_formed s t f w)
      (λ h below. (let e = no_cells s t D (none s t) h below in let l = twice h below in omega arith)) kept;
}
