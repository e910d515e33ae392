-- What is kept after a call on one job: where its parts are written in their places, and the rest is as it was, it is what is kept with the job that the call
-- leaves.
use mathlib.Core.Path.{◌≡◌, refl, sym, ap, subst, ◌∙◌}
use mathlib.Core.List.{List, [], ◌∷◌}
use Prim.Native.Nat.{ℕ}
use lib.ListN.{get_or, set}
use lib.Seq.{set-get_or}
use Rattle.columns.specs.Columns.{columns_of, number}
use Rattle.frame.specs.declared.Shape.{Shape}
use Rattle.job.specs.Calls.{Call, Outcome, step}
use Rattle.job.specs.Job.{beside, with_found, no_columns, unfinished_head}
use Rattle.job.specs.declared.Head.{Head}
use Rattle.kept.specs.Kept.{Heads, heads, head_at, with_head, Searches, searches, search_at, with_search, Kept, kept, arrays_at, job_at, with_job, made_of}
use Rattle.slices.specs.Synthesis.{Synthesis, synthesis}
use Rattle.dispatch.specs.Calls.{Made}
use Rattle.dispatch.specs.Told.{Told, told_by}

-- a call that leaves the job of the outcome o
pub made : (p : Kept) (k : ℕ) (c : Call) {o : Outcome} {t : Told} {q : Kept} → o ≡ step (job_at p k) c
    → made_of p k c ≡ with_job p k (step (job_at p k) c).job → t ≡ told_by o → q ≡ with_job p k o.job → Made p k c t q
made p k c e writes told left =
    record { tells = told ∙ ap told_by e; leaves = left ∙ ap (λ (o : Outcome). with_job p k o.job) e ∙ sym writes }

-- a call on what is kept as p is
pub from-same : (p : Kept) (k : ℕ) (c : Call) {x : Searches} {t : Told} {q : Kept} → x ≡ p.searches
    → Made (kept p.heads p.sums p.taps p.declared x p.last) k c t q → Made p k c t q
from-same p k c {x} {t} {q} e = subst (λ (x : Searches). Made (kept p.heads p.sums p.taps p.declared x p.last) k c t q) e

same_parts : {hs hs' : Heads} {sums sums' taps taps' held held' : List (List ℕ)} {x x' : Searches} (last : ℕ) → hs ≡ hs' → sums ≡ sums' → taps ≡ taps'
    → held ≡ held' → x ≡ x' → kept hs sums taps held x last ≡ kept hs' sums' taps' held' x' last
same_parts last a b c d e = cc

same-searches : {a a' b b' c c' d d' e e' f f' g g' h h' i i' : List (List ℕ)} → a ≡ a' → b ≡ b' → c ≡ c' → d ≡ d' → e ≡ e' → f ≡ f' → g ≡ g' → h ≡ h'
    → i ≡ i' → searches a b c d e f g h i ≡ searches a' b' c' d' e' f' g' h' i'
same-searches a b c d e f g h i = cc

module _ (k : ℕ) where
  abbrev put_back : List (List ℕ) → List (List ℕ)
  put_back xs = set xs k (get_or xs k [])

  as_it_was : (xs : List (List ℕ)) → xs ≡ put_back xs
  as_it_was xs = sym (set-get_or xs k [])

  search_as_it_was : (x : Searches) → x ≡ with_search x k (search_at x k)
  search_as_it_was x =
      same-searches (as_it_was x.counts) (as_it_was x.lengths) (as_it_was x.symbols) (as_it_was x.places) (as_it_was x.sizes)
      (as_it_was x.discs) (as_it_was x.quotients) (as_it_was x.taps) (as_it_was x.saved)

  module _ (p : Kept) {hs : Heads} (h : Head) (put : hs ≡ with_head p.heads k h) where
    -- the head alone
    pub head-put : kept hs p.sums p.taps p.declared p.searches p.last ≡ with_job p k (beside h (arrays_at p k))
    head-put =
        same_parts p.last put (as_it_was p.sums) (as_it_was p.taps) (as_it_was p.declared) (search_as_it_was p.searches)

    -- what a locate finds
    pub found-put : (sums taps held : List ℕ)
        → kept hs (set p.sums k sums) (set p.taps k taps) (set p.declared k held) p.searches p.last
        ≡ with_job p k (beside h (with_found (arrays_at p k) sums taps held))
    found-put sums taps held = same_parts p.last put refl refl refl (search_as_it_was p.searches)

    -- what a start writes
    pub start-put : (sums taps held : List ℕ) (y : Synthesis)
        → kept hs (set p.sums k sums) (set p.taps k taps) (set p.declared k held) (with_search p.searches k y) p.last
        ≡ with_job p k (beside h (record { sums = sums; taps = taps; declared = held; synthesis = y }))
    start-put sums taps held y = same_parts p.last put refl refl refl refl

    -- what a step writes: neither the lengths nor the symbols
    pub step-put : (taps counts places sizes discs quotients register saved : List ℕ)
        → let x : Searches = p.searches in
        kept hs p.sums (set p.taps k taps) p.declared
        (searches (set x.counts k counts) x.lengths x.symbols (set x.places k places) (set x.sizes k sizes) (set x.discs k discs)
        (set x.quotients k quotients) (set x.taps k register) (set x.saved k saved))
        p.last
        ≡ with_job p k (beside h (record {
          sums = get_or p.sums k [];
          taps = taps;
          declared = get_or p.declared k [];
          synthesis = synthesis counts (get_or x.lengths k []) (get_or x.symbols k []) places sizes discs quotients register saved;
        }))
    step-put taps counts places sizes discs quotients register saved =
        let x : Searches = p.searches in
        same_parts p.last put (as_it_was p.sums) refl (as_it_was p.declared)
        (same-searches refl (as_it_was x.lengths) (as_it_was x.symbols) refl refl refl refl refl refl)

    -- the same where the taps are not written either
    pub going-put : (counts places sizes discs quotients register saved : List ℕ)
        → let x : Searches = p.searches in
        kept hs p.sums p.taps p.declared
        (searches (set x.counts k counts) x.lengths x.symbols (set x.places k places) (set x.sizes k sizes) (set x.discs k discs)
        (set x.quotients k quotients) (set x.taps k register) (set x.saved k saved))
        p.last
        ≡ with_job p k (beside h (record {
          sums = get_or p.sums k [];
          taps = get_or p.taps k [];
          declared = get_or p.declared k [];
          synthesis = synthesis counts (get_or x.lengths k []) (get_or x.symbols k []) places sizes discs quotients register saved;
        }))
    going-put counts places sizes discs quotients register saved =
        same_parts p.last refl refl (as_it_was p.taps) refl refl ∙ step-put (get_or p.taps k []) counts places sizes discs quotients register saved

  -- the head of an unfinished job, of which the shape is there already
  pub unfinished-put : (hs : Heads)
      → let s : Shape = (head_at hs k).shape in
      heads (set hs.states k (3 ∷ 0 ∷ s.exponent ∷ [])) (set hs.extents k (s.rows ∷ s.columns ∷ 0 ∷ [])) hs.checks
      (set hs.marks k (0 ∷ 0 ∷ 0 ∷ 0 ∷ []))
      ≡ with_head hs k (unfinished_head s)
  unfolding no_columns columns_of number
  unfinished-put hs =
      let s : Shape = (head_at hs k).shape in
      ap (λ (checks : List (List ℕ)). heads (set hs.states k (3 ∷ 0 ∷ s.exponent ∷ [])) (set hs.extents k (s.rows ∷ s.columns ∷ 0 ∷ [])) checks
      (set hs.marks k (0 ∷ 0 ∷ 0 ∷ 0 ∷ []))) (as_it_was hs.checks)

  -- what is written as it was
  pub nothing_put : (x : Searches) {counts places sizes discs quotients register saved : List ℕ}
      → synthesis counts (get_or x.lengths k []) (get_or x.symbols k []) places sizes discs quotients register saved ≡ search_at x k
      → searches (set x.counts k counts) x.lengths x.symbols (set x.places k places) (set x.sizes k sizes) (set x.discs k discs)
      (set x.quotients k quotients) (set x.taps k register) (set x.saved k saved)
      ≡ x
  nothing_put x e =
      ap (λ (y : Synthesis). searches (set x.counts k y.counts) x.lengths x.symbols (set x.places k y.places)
      (set x.sizes k y.sizes) (set x.discs k y.discs) (set x.quotients k y.quotients) (set x.taps k y.taps)
      (set x.saved k y.saved)) e
      ∙ sym (same-searches (as_it_was x.counts) refl refl (as_it_was x.places) (as_it_was x.sizes) (as_it_was x.discs)
      (as_it_was x.quotients) (as_it_was x.taps) (as_it_was x.saved))
