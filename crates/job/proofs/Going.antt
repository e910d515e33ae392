-- An unfinished locate: what its arrays hold, and where a start and a step take it.
use mathlib.Core.Path.{◌≡◌, refl, sym, ap, ap₂, subst, ◌∙◌}
use mathlib.Core.Bool.{Bool, true, false, not, cond, ◌&&◌, ◌||◌, or-true}
use mathlib.Core.List.{List, []}
use Prim.Native.Nat.{ℕ, suc, ◌<◌}
use native.Mathlib.Decide.{dec_lt}
use native.Mathlib.Omega.{arith}
use lib.ListN.{length, get_or}
use borrow.Author.Tests.{lt-ltb, eq-eqb, ne_eqb}
use Rattle.decoding.specs.Locating.{size_of, taps_of, alone_of}
use Rattle.decoding.specs.Remaining.{all_remaining, read_sequences, sums_read}
use Rattle.decoding.proofs.LeftSequences.{rows_left, left_at, length-left}
use Rattle.decoding.proofs.RemainingSums.{remaining-below}
use Rattle.ends.specs.Ends.{alone_mark}
use Rattle.frame.specs.DeclaredCells.{Declared, declared_by, as_read, WellFormedRead}
use Rattle.frame.specs.Frame.{held_sums, held_sequences}
use Rattle.frame.specs.Shape.{is_shape}
use Rattle.frame.specs.declared.Shape.{Shape}
use Rattle.frame.proofs.Declarable.{well_formed_declarable}
use Rattle.frame.proofs.HeldSums.{held_below, held-sequences}
use Rattle.frame.proofs.Shapes.{shape-ranges}
use Rattle.lists.proofs.Tabulated.{every_of}
use Rattle.register.specs.Sequences.{longest}
use Rattle.register.proofs.Ordering.{longest-least}
use Rattle.slices.specs.Kept.{Kept, Sliceable}
use Rattle.slices.specs.Synthesis.{Synthesis, all_rounds, rounds, size, ended, last_step_of, synthesis_sound, begun, advanced}
use Rattle.slices.proofs.Advancing.{kept-rounds, kept-round, advanced-within, advanced-round}
use Rattle.slices.proofs.Ending.{ended-size, ended-taps, ended-mark}
use Rattle.slices.proofs.Soundness.{kept-sound}
use Rattle.slices.proofs.Starting.{begun_kept}
use Rattle.job.specs.Calls.{unseen, register_tests, by_register_tests, locates, by_register_gives, held_taps, held_mark}
use Rattle.job.specs.Calls.{unfinished, arrives_tests, arrives, started, stepped}
use Rattle.job.specs.Job.{Arrays, no_columns, unfinished_job, end_sound, step_sound}
use Rattle.job.proofs.ByShortest.{same_tests}

-- The arrays hold an unfinished locate of the frame f, which is well-formed, with the cells declared: its sums, and the state after n rounds and h steps of the
-- next one.
pub record Going (s : Shape) (a : Arrays) (f : List ℕ) (n h : ℕ) : Type 0 where
  pub well_formed : WellFormedRead s (declared_by a.declared) f
  pub sums : a.sums ≡ held_sums s (as_read s (declared_by a.declared) f)
  pub kept : Kept (read_sequences s (declared_by a.declared) f) n h a.synthesis
  pub round : n < longest (read_sequences s (declared_by a.declared) f)
  pub step : h < s.rows

-- All rounds are finished: what is refused and given is what a locate by the check sums refuses and gives.
pub record Over (s : Shape) (a : Arrays) (f : List ℕ) : Type 0 where
  pub well_formed : WellFormedRead s (declared_by a.declared) f
  pub sums : a.sums ≡ held_sums s (as_read s (declared_by a.declared) f)
  pub ended : ended a.synthesis ≡ true
  pub tests : arrives_tests s a ≡ register_tests s (declared_by a.declared) (sums_read s (declared_by a.declared) f) unseen
  pub gives : (g : List ℕ) → arrives s a g ≡ locates s a a.declared (read_sequences s (declared_by a.declared) f) a.sums g

-- Where a start or a step takes the arrays: they hold an unfinished locate, or all rounds are finished.
pub data Arrived (s : Shape) (a : Arrays) (f : List ℕ) : Type 0 where
  on : (n h : ℕ) → Going s a f n h → ended a.synthesis ≡ false → Arrived s a f
  over : Over s a f → Arrived s a f

-- the cells that the arrays hold declared, and the sequences of a frame as read with them
abbrev cells : Arrays → Declared
cells a = declared_by a.declared

abbrev sought : Shape → Arrays → List ℕ → List (List ℕ)
sought s a f = read_sequences s (cells a) f

-- ---- what is read of the frame

module _ (s : Shape) (shape : is_shape s ≡ true) (D : Declared) (f : List ℕ) where
  abbrev ss : List (List ℕ)
  ss = read_sequences s D f

  row : (h : ℕ) → h < length ss → h < s.rows
  row h b = omega (arith, rows_left s D f)

  pub sliceable : Sliceable (read_sequences s D f)
  sliceable =
      record {
        count = omega (arith, rows_left s D f, (shape-ranges s shape).rows-most);
        short = longest-least 64 ss (λ h b. omega (arith, length-left s D f h (row h b), ((shape-ranges s shape).checks h (row h b)).most));
        residues = λ h b i inside. rw (left_at s D f h (row h b)) (remaining-below (D h) _ i);
      }

-- ---- a step can be made

pub going_on : {s : Shape} {a : Arrays} {f : List ℕ} {n h : ℕ} → Going s a f n h → ended a.synthesis ≡ false
going_on {s} {a} going =
    ne_eqb (rounds a.synthesis) (all_rounds a.synthesis) (λ e.
    let z : ⊥ = omega (arith, kept-round going.kept, kept-rounds going.kept, going.round) in z)

module _ (s : Shape) (shape : is_shape s ≡ true) {a : Arrays} {f : List ℕ} {n h : ℕ} (going : Going s a f n h) where
  end-sound : end_sound s a ≡ true
  unfolding end_sound
  end-sound =
      ap₂ ◌&&◌ (every_of 512 _ (λ k b. lt-ltb (get_or a.sums k 0) 257 (rw going.sums (held_below s (as_read s (cells a) f) k))))
      (well_formed_declarable s (cells a) f going.well_formed)

  pub going-sound : step_sound s a ≡ true
  unfolding step_sound
  going-sound =
      let rows = rows_left s (cells a) f in
      ap₂ ◌&&◌ (subst (λ (k : ℕ). synthesis_sound k a.synthesis ≡ true) rows (kept-sound going.kept going.round (omega (arith, going.step))))
      (ap (λ (b : Bool). not (last_step_of s.rows a.synthesis) || b) end-sound ∙ or-true (not (last_step_of s.rows a.synthesis)))

-- ---- all rounds are finished

module _ (s : Shape) (shape : is_shape s ≡ true) (a : Arrays) (f : List ℕ) (well_formed : WellFormedRead s (declared_by a.declared) f)
    (sums : a.sums ≡ held_sums s (as_read s (declared_by a.declared) f))
    (kept : Kept (read_sequences s (declared_by a.declared) f) (longest (read_sequences s (declared_by a.declared) f)) 0 a.synthesis) where
  abbrev x : Synthesis
  x = a.synthesis

  size_is : size x ≡ size_of (sought s a f)
  unfolding size_of
  size_is = ended-size kept

  taps_are : held_taps x ≡ taps_of (sought s a f)
  unfolding taps_of
  taps_are = ended-taps kept

  mark-is : held_mark s x ≡ alone_of (sought s a f)
  unfolding alone_of
  mark-is = ap (λ (k : ℕ). alone_mark (all_rounds x) x.lengths k (size x) x.places x.sizes) (sym (rows_left s (cells a) f)) ∙ ended-mark kept

  all_finished : ended x ≡ true
  all_finished = eq-eqb (rounds x) (all_rounds x) (kept-round kept ∙ sym (kept-rounds kept))

  tests : arrives_tests s a ≡ register_tests s (cells a) (sums_read s (cells a) f) unseen
  unfolding arrives_tests
  tests =
      ap (λ (b : Bool). cond b (by_register_tests s (cells a) (held_sequences s a.sums) (size x) (held_taps x) (held_mark s x)) []) all_finished
      ∙ (λ i. by_register_tests s (cells a) (held i) (size_is i) (taps_are i) (mark-is i)) ∙ same_tests s shape (cells a) (sums_read s (cells a) f)
    where
      held : held_sequences s a.sums ≡ sums_read s (cells a) f
      held = ap (held_sequences s) sums ∙ held-sequences s (as_read s (cells a) f)

  gives : (g : List ℕ) → arrives s a g ≡ locates s a a.declared (sought s a f) a.sums g
  unfolding arrives
  gives g =
      ap (λ (b : Bool). cond b (by_register_gives s a a.declared a.sums (size x) (held_taps x) g)
      (record { answer = unfinished; marks = no_columns; tried = 0; job = unfinished_job s a; frame = g })) all_finished
      ∙ (λ i. by_register_gives s a a.declared a.sums (size_is i) (taps_are i) g)

  over-is : Over s a f
  over-is = record { well_formed = well_formed; sums = sums; ended = all_finished; tests = tests; gives = gives }

-- ---- the start

module _ (s : Shape) (shape : is_shape s ≡ true) (a : Arrays) (words f : List ℕ) (well_formed : WellFormedRead s (declared_by words) f) where
  abbrev first : Arrays
  first = started s a words f

  kept-first : Kept (sought s first f) 0 0 first.synthesis
  kept-first =
      let D : Declared = declared_by words in
      subst (λ (S : List (List ℕ)). Kept (sought s first f) 0 0 (begun (all_remaining s D S) a.synthesis)) (sym (held-sequences s (as_read s D f)))
      (begun_kept (sliceable s shape D f) a.synthesis)

  pub start-goes : 0 < longest (read_sequences s (declared_by words) f) → Going s (started s a words f) f 0 0
  start-goes some = record { well_formed = well_formed; sums = refl; kept = kept-first; round = some; step = (shape-ranges s shape).rows-least }

  pub start-ends : longest (read_sequences s (declared_by words) f) ≡ 0 → Over s (started s a words f) f
  start-ends none = over-is s shape first f well_formed refl (subst (λ (n : ℕ). Kept (sought s first f) n 0 first.synthesis) (sym none) kept-first)

  pub start-arrives : Arrived s (started s a words f) f
  start-arrives = pick (dec_lt 0 (longest (sought s first f)))
    where
      pick : Dec (0 < longest (sought s first f)) → Arrived s first f
      pick (yes some) = on 0 0 (start-goes some) (going_on (start-goes some))
      pick (no none) = over (start-ends (omega arith))

-- ---- a step

-- Steps are left in the round; or it was the last of the round; or of all rounds.
pub data Moved (s : Shape) (a : Arrays) (f : List ℕ) (n h : ℕ) : Type 0 where
  within : Going s (stepped s a) f n (suc h) → Moved s a f n h
  round : suc h ≡ s.rows → Going s (stepped s a) f (suc n) 0 → Moved s a f n h
  last : suc h ≡ s.rows → suc n ≡ longest (read_sequences s (declared_by a.declared) f) → Over s (stepped s a) f → Moved s a f n h

module _ (s : Shape) (shape : is_shape s ≡ true) {a : Arrays} {f : List ℕ} {n h : ℕ} (going : Going s a f n h) where
  -- the sequences are as many as the rows
  advanced-kept : {m g : ℕ} → Kept (sought s a f) m g (advanced (length (sought s a f)) a.synthesis) → Kept (sought s a f) m g (stepped s a).synthesis
  advanced-kept {m} {g} = subst (λ (k : ℕ). Kept (sought s a f) m g (advanced k a.synthesis)) (rows_left s (cells a) f)

  pub step_moves : Moved s a f n h
  step_moves = pick (dec_lt (suc h) s.rows) (dec_lt (suc n) (longest (sought s a f)))
    where
      new-round : suc h ≡ s.rows → Kept (sought s a f) (suc n) 0 (stepped s a).synthesis
      new-round end = advanced-kept (advanced-round going.kept going.round (end ∙ sym (rows_left s (cells a) f)))

      pick : Dec (suc h < s.rows) → Dec (suc n < longest (sought s a f)) → Moved s a f n h
      pick (yes more) rest =
          within
          (record {
            well_formed = going.well_formed;
            sums = going.sums;
            kept = advanced-kept (advanced-within going.kept going.round (omega (arith, rows_left s (cells a) f)));
            round = going.round;
            step = more;
          })
      pick (no none) (yes more) =
          let end : suc h ≡ s.rows = omega (arith, going.step) in
          round end
          (record {
            well_formed = going.well_formed;
            sums = going.sums;
            kept = new-round end;
            round = more;
            step = (shape-ranges s shape).rows-least;
          })
      pick (no none) (no past) =
          let end : suc h ≡ s.rows = omega (arith, going.step) in
          let all : suc n ≡ longest (sought s a f) = omega (arith, going.round) in
          last end all
          (over-is s shape (stepped s a) f going.well_formed going.sums
          (subst (λ (m : ℕ). Kept (sought s a f) m 0 (stepped s a).synthesis) all (new-round end)))

  pub step-arrives : Arrived s (stepped s a) f
  step-arrives = arrive step_moves
    where
      arrive : Moved s a f n h → Arrived s (stepped s a) f
      arrive (within g) = on n (suc h) g (going_on g)
      arrive (round e g) = on (suc n) 0 g (going_on g)
      arrive (last e all o) = over o
