-- A job is written into the arrays: it is read back, the others are as they were, and each array has eight entries still.
use mathlib.Core.Path.{◌≡◌, ap, ◌∙◌}
use mathlib.Core.List.{List, [], ◌∷◌}
use Prim.Native.Nat.{ℕ, ◌<◌}
use native.Mathlib.Omega.{arith}
use lib.ListN.{length, get_or, set, length-set}
use lib.Seq.{get_or-set_same, get_or-set_other}
use Rattle.job.specs.Job.{Arrays, Job, beside}
use Rattle.mirror.specs.Mirror.{head_of, mirror_of}
use Rattle.mirror.specs.declared.CHead.{CHead}
use Rattle.mirror.proofs.RoundTrip.{there_and_back}
use Rattle.slices.specs.Synthesis.{Synthesis, synthesis}
use Rattle.kept.specs.Kept.{Heads, Searches, Kept, heads, numbers_at, head_at, with_head, search_at, with_search, job_at, with_job, with_last}
use Rattle.kept.specs.Runs.{EightHeads, EightSearches, EightKept}

-- the numbers of a head by its four rows
abbrev pub numbers_of : (state extent checks marks : List ℕ) → CHead
numbers_of state extent checks marks =
    numbers_at (heads (state ∷ []) (extent ∷ []) (checks ∷ []) (marks ∷ [])) 0

abbrev arrays_of : (sums taps declared : List ℕ) → Synthesis → Arrays
arrays_of sums taps declared x = record { sums = sums; taps = taps; declared = declared; synthesis = x }

-- ---- one array

here : (l : List (List ℕ)) (k : ℕ) (v : List ℕ) → k < 8 → length l ≡ 8 → get_or (set l k v) k [] ≡ v
here l k v b e = get_or-set_same l k v [] (omega arith)

eight : (l : List (List ℕ)) (k : ℕ) (v : List ℕ) → length l ≡ 8 → length (set l k v) ≡ 8
eight l k v e = length-set l k v ∙ e

-- ---- all of them

module _ (p : Kept) (k : ℕ) (j : Job) where
  abbrev m : CHead
  m = mirror_of j.head

  abbrev a : Arrays
  a = j.arrays

  abbrev y : Synthesis
  y = a.synthesis

  module _ (e : EightKept p) where
    module _ (b : k < 8) where
      head-written : head_at (with_head p.heads k j.head) k ≡ j.head
      head-written =
          let hs : Heads = p.heads in
          let eights : EightHeads hs = e.heads in
          ap head_of
          (λ i.
          numbers_of (here hs.states k (m.phase ∷ m.alone ∷ m.exponent ∷ []) b eights.states i)
          (here hs.extents k (m.rows ∷ m.columns ∷ m.length ∷ []) b eights.extents i) (here hs.checks k m.checks b eights.checks i)
          (here hs.marks k m.marks b eights.marks i))
          ∙ there_and_back j.head

      search-written : search_at (with_search p.searches k y) k ≡ y
      search-written =
          let x : Searches = p.searches in
          let eights : EightSearches x = e.searches in
          λ i.
          synthesis (here x.counts k y.counts b eights.counts i) (here x.lengths k y.lengths b eights.lengths i)
          (here x.symbols k y.symbols b eights.symbols i) (here x.places k y.places b eights.places i)
          (here x.sizes k y.sizes b eights.sizes i) (here x.discs k y.discs b eights.discs i)
          (here x.quotients k y.quotients b eights.quotients i) (here x.taps k y.taps b eights.taps i)
          (here x.saved k y.saved b eights.saved i)

      pub read_back : job_at (with_job p k j) k ≡ j
      read_back =
          λ i.
          beside (head-written i)
          (arrays_of (here p.sums k a.sums b e.sums i) (here p.taps k a.taps b e.taps i) (here p.declared k a.declared b e.declared i)
          (search-written i))

    pub still-eight : EightKept (with_job p k j)
    still-eight =
        let hs : Heads = p.heads in
        let x : Searches = p.searches in
        record {
          heads = record {
            states = eight hs.states k (m.phase ∷ m.alone ∷ m.exponent ∷ []) e.heads.states;
            extents = eight hs.extents k (m.rows ∷ m.columns ∷ m.length ∷ []) e.heads.extents;
            checks = eight hs.checks k m.checks e.heads.checks;
            marks = eight hs.marks k m.marks e.heads.marks;
          };
          sums = eight p.sums k a.sums e.sums;
          taps = eight p.taps k a.taps e.taps;
          declared = eight p.declared k a.declared e.declared;
          searches = record {
            counts = eight x.counts k y.counts e.searches.counts;
            lengths = eight x.lengths k y.lengths e.searches.lengths;
            symbols = eight x.symbols k y.symbols e.searches.symbols;
            places = eight x.places k y.places e.searches.places;
            sizes = eight x.sizes k y.sizes e.searches.sizes;
            discs = eight x.discs k y.discs e.searches.discs;
            quotients = eight x.quotients k y.quotients e.searches.quotients;
            taps = eight x.taps k y.taps e.searches.taps;
            saved = eight x.saved k y.saved e.searches.saved;
          };
        }

  module _ (i : ℕ) (n : i ≡ k → ⊥) where
    there : (l : List (List ℕ)) (v : List ℕ) → get_or (set l k v) i [] ≡ get_or l i []
    there l v = get_or-set_other l k i v [] n

    head-stays : head_at (with_head p.heads k j.head) i ≡ head_at p.heads i
    head-stays =
        let hs : Heads = p.heads in
        λ t.
        head_of
        (numbers_of (there hs.states (m.phase ∷ m.alone ∷ m.exponent ∷ []) t) (there hs.extents (m.rows ∷ m.columns ∷ m.length ∷ []) t)
        (there hs.checks m.checks t) (there hs.marks m.marks t))

    search-stays : search_at (with_search p.searches k y) i ≡ search_at p.searches i
    search-stays =
        let x : Searches = p.searches in
        λ t.
        synthesis (there x.counts y.counts t) (there x.lengths y.lengths t) (there x.symbols y.symbols t)
        (there x.places y.places t) (there x.sizes y.sizes t) (there x.discs y.discs t) (there x.quotients y.quotients t)
        (there x.taps y.taps t) (there x.saved y.saved t)

    pub others_stay : job_at (with_job p k j) i ≡ job_at p i
    others_stay =
        λ t.
        beside (head-stays t)
        (arrays_of (there p.sums a.sums t) (there p.taps a.taps t) (there p.declared a.declared t) (search-stays t))

pub eight-served : (p : Kept) (k : ℕ) → EightKept p → EightKept (with_last p k)
eight-served p k e = record { heads = e.heads; sums = e.sums; taps = e.taps; declared = e.declared; searches = e.searches }
