-- What each call on a job answers and leaves, for every job and everything lent (SPECIFICATION.md, "Jobs", and the orders of "Refusals"). Each call is
-- described once, and `step` carries out what is described.
use Rattle.std.specs.Prelude.{Bool, false, cond, not, ◌&&◌, ◌||◌, List, [], ◌∷◌, ◌++◌, ℕ, suc, eqb, get_or, take}
use Rattle.columns.specs.declared.Columns.{Columns}
use Rattle.decoding.specs.Locating.{size_of, taps_of, alone_of, named, names_all, named_columns}
use Rattle.decoding.specs.Remaining.{all_remaining, left_reach, completable, meeting_completable, mended}
use Rattle.decoding.specs.Search.{tried}
use Rattle.ends.specs.Ends.{alone_mark}
use Rattle.frame.specs.DeclaredCells.{Declared, declared_by, as_read, read_tests, reread_tests}
use Rattle.frame.specs.Encode.{encoded, encode_tests}
use Rattle.frame.specs.Frame.{uniform, held_sums, held_sequences}
use Rattle.frame.specs.Shape.{shape_of, shape_tests}
use Rattle.frame.specs.declared.Shape.{Shape}
use Rattle.lists.specs.Tabulate.{every}
use Rattle.slices.specs.Synthesis.{Synthesis, all_rounds, found, size, ended, begun, advanced}
use Rattle.refusal.specs.Order.{Test, first_of}
use Rattle.job.specs.Job.{Arrays, Job, with_started, with_synthesis, no_columns, shaped_job, unfinished_job, located_job}
use Rattle.job.specs.Job.{is_empty, is_located, is_unfinished, length_of, declared_in}

-- the calls, with what is lent; to locate and start, 32 words of declared cells besides
pub data Call : Type 0 where
  shape : (n : ℕ) (checks : List ℕ) (b : ℕ) → Call
  encode : (frame : List ℕ) → Call
  locate : (declared frame : List ℕ) → Call
  repair : (frame : List ℕ) → Call
  start : (declared frame : List ℕ) → Call
  next : Call
  peek : Call

-- done; the number of columns to mend or mended; that a locate is unfinished; the length of a shortest register; or the number of a refusal
pub data Answer : Type 0 where
  done : Answer
  columns : ℕ → Answer
  unfinished : Answer
  shortest : ℕ → Answer
  refused : ℕ → Answer

-- what a call answers, the set of columns beside the answer, how many columns were tried in a search for them (0 where there is none), the job and the lent
-- frame as it leaves them (no frame is lent to shape, to a step and to a peek: `[]`)
pub record Outcome : Type 0 where
  pub answer : Answer
  pub marks : Columns
  pub tried : ℕ
  pub job : Job
  pub frame : List ℕ

-- a call refused by the number k, which leaves the job j and the frame f
abbrev pub refusing : Job → (f : List ℕ) (k : ℕ) → Outcome
refusing j f k = record { answer = refused k; marks = no_columns; tried = 0; job = j; frame = f }

-- the job as it is left shaped, with its arrays as they were
abbrev pub reshaped : Job → Job
reshaped j = shaped_job j.head.shape j.arrays

-- A call on a job: the frame that is lent; the tests whose refusal leaves the job as it was, in their order; after these the tests whose refusal leaves it
-- shaped, beside which arrays; and what is given where no test fails.
pub record Described : Type 0 where
  pub lent : List ℕ
  pub keeping : List Test
  pub shaping : List Test
  pub beside : Arrays
  pub gives : Outcome

-- ---- the tests

-- the job is empty
abbrev pub empty_test : Job → Test
empty_test j = record { number = 21; fails = is_empty j }

abbrev pub not_located_test : Job → Test
not_located_test j = record { number = 22; fails = not (is_located j) }

abbrev pub not_unfinished_test : Job → Test
not_unfinished_test j = record { number = 33; fails = not (is_unfinished j) }

-- whether two lists of held sums are the same
unfoldable pub same_sums : (a b : List ℕ) → Bool
same_sums a b = every 512 (λ k. eqb (get_or a k 0) (get_or b k 0))

-- the sums of the frame, read with the cells that the job holds, are not those located
abbrev pub sums_test : Job → (f : List ℕ) → Test
sums_test j f =
    let s : Shape = j.head.shape in
    record { number = 23; fails = not (same_sums (held_sums s (as_read s (declared_in j) f)) j.arrays.sums) }

-- the frame with the marked and declared columns mended is uniform, and so not legal
abbrev pub mends_uniform : Shape → Declared → (f : List ℕ) (M : Columns) → Bool
mends_uniform s D f M = uniform (mended s D M f)

-- check sums do not show cells: by them alone nothing is known to be uniform
abbrev pub unseen : Columns → Bool
unseen M = false

-- the refusals 24, 25, 26 of the check sums of a well-formed frame, S being those of each row; `one` says of the columns that are named whether the frame
-- mended there is uniform
unfoldable pub register_tests : Shape → Declared → (S : List (List ℕ)) (one : Columns → Bool) → List Test
register_tests s D S one =
    let ss : List (List ℕ) = all_remaining s D S in
    let M : Columns = named_columns s (taps_of ss) in
    record { number = 24; fails = not (alone_of ss) } ∷
    record { number = 25; fails = not (left_reach s D (size_of ss)) } ∷
    record { number = 26; fails = one M || not (names_all s (taps_of ss) (size_of ss) && completable s D M S) } ∷
    []

-- the frame that a repair would leave is uniform
abbrev pub uniform_test : Job → (f : List ℕ) → Test
uniform_test j f = record { number = 26; fails = mends_uniform j.head.shape (declared_in j) f j.head.columns }

-- the refusals 24, 25, 26 of a register of length c with the taps σ, however it was found; the mark says whether it is alone. They do not ask whether it is
-- a register of the sums, so that they are said for all that a job can hold. Of the shortest register of the sums they are those above, cells unseen
-- (`same_tests` of proofs/ByShortest.antt).
unfoldable pub by_register_tests : Shape → Declared → (S : List (List ℕ)) (c : ℕ) (σ : List ℕ) (alone : Bool) → List Test
by_register_tests s D S c σ alone =
    record { number = 24; fails = not alone } ∷
    record { number = 25; fails = not (left_reach s D c) } ∷
    record { number = 26; fails = not (names_all s σ c && meeting_completable s D (named_columns s σ) S) } ∷
    []

-- ---- what is given

abbrev pub shapes : Arrays → (n : ℕ) (checks : List ℕ) (b : ℕ) → Outcome
shapes a n checks b = record { answer = done; marks = no_columns; tried = 0; job = shaped_job (shape_of n checks b) a; frame = [] }

abbrev pub encodes : Job → (f : List ℕ) → Outcome
encodes j f = record { answer = done; marks = no_columns; tried = 0; job = j; frame = encoded j.head.shape f }

-- the job that is located, with the cells that the words declare, by the register of the sequences ss; the sums are held
abbrev pub located_by : Shape → Arrays → (words : List ℕ) (ss : List (List ℕ)) (sums : List ℕ) → Job
located_by s a words ss sums = located_job s a (size_of ss) sums (taps_of ss) words (named_columns s (taps_of ss))

abbrev pub locates : Shape → Arrays → (words : List ℕ) (ss : List (List ℕ)) (sums f : List ℕ) → Outcome
locates s a words ss sums f =
    record {
      answer = columns (size_of ss);
      marks = named_columns s (taps_of ss);
      tried = tried s.columns (named s (taps_of ss)) (size_of ss);
      job = located_by s a words ss sums;
      frame = f;
    }

-- the same by a register of length c with the taps σ
abbrev pub by_register_gives : Shape → Arrays → (words sums : List ℕ) (c : ℕ) (σ f : List ℕ) → Outcome
by_register_gives s a words sums c σ f =
    record {
      answer = columns c;
      marks = named_columns s σ;
      tried = tried s.columns (named s σ) c;
      job = located_job s a c sums σ words (named_columns s σ);
      frame = f;
    }

abbrev pub repairs : Job → (f : List ℕ) → Outcome
repairs j f =
    let M : Columns = j.head.columns in
    record {
      answer = columns (length_of j.head.phase);
      marks = M;
      tried = 0;
      job = reshaped j;
      frame = mended j.head.shape (declared_in j) M f;
    }

-- ---- in slices

-- the taps of the register that the arrays hold, and its alone mark
abbrev pub held_taps : Synthesis → List ℕ
held_taps x = take (suc (size x)) x.taps

abbrev pub held_mark : Shape → Synthesis → Bool
held_mark s x = alone_mark (all_rounds x) x.lengths s.rows (size x) x.places x.sizes

-- A locate that has come to the arrays a ends where all rounds are finished: by the register that they hold. Else it goes on.
unfoldable pub arrives_tests : Shape → Arrays → List Test
arrives_tests s a =
    let x : Synthesis = a.synthesis in
    cond (ended x) (by_register_tests s (declared_by a.declared) (held_sequences s a.sums) (size x) (held_taps x) (held_mark s x)) []

unfoldable pub arrives : Shape → Arrays → (f : List ℕ) → Outcome
arrives s a f =
    let x : Synthesis = a.synthesis in
    cond (ended x) (by_register_gives s a a.declared a.sums (size x) (held_taps x) f)
    (record { answer = unfinished; marks = no_columns; tried = 0; job = unfinished_job s a; frame = f })

-- the arrays after the start
abbrev pub started : Shape → Arrays → (words f : List ℕ) → Arrays
started s a words f =
    let D : Declared = declared_by words in
    let summed : List ℕ = held_sums s (as_read s D f) in
    with_started a summed words (begun (all_remaining s D (held_sequences s summed)) a.synthesis)

-- and after a step
abbrev pub stepped : Shape → Arrays → Arrays
stepped s a = with_synthesis a (advanced s.rows a.synthesis)

-- ---- the calls

-- A locate; `one` is what is known of the cells. What is given does not depend on it.
abbrev pub locating : Job → (words f : List ℕ) (one : Columns → Bool) → Described
locating j words f one =
    let s : Shape = j.head.shape in
    let D : Declared = declared_by words in
    let sums : List ℕ = held_sums s (as_read s D f) in
    let S : List (List ℕ) = held_sequences s sums in
    record {
      lent = f;
      keeping = empty_test j ∷ read_tests s D f;
      shaping = register_tests s D S one;
      beside = j.arrays;
      gives = locates s j.arrays words (all_remaining s D S) sums f;
    }

abbrev pub describe : Job → Call → Described
describe j (shape n checks b) =
    record { lent = []; keeping = shape_tests n checks b; shaping = []; beside = j.arrays; gives = shapes j.arrays n checks b }
describe j (encode f) =
    record { lent = f; keeping = empty_test j ∷ encode_tests j.head.shape f; shaping = []; beside = j.arrays; gives = encodes j f }
describe j (locate words f) = locating j words f (mends_uniform j.head.shape (declared_by words) f)
describe j (repair f) =
    record {
      lent = f;
      keeping = empty_test j ∷ not_located_test j ∷ (reread_tests j.head.shape (declared_in j) f ++ (sums_test j f ∷ []));
      shaping = uniform_test j f ∷ [];
      beside = j.arrays;
      gives = repairs j f;
    }
describe j (start words f) =
    let s : Shape = j.head.shape in
    record {
      lent = f;
      keeping = empty_test j ∷ read_tests s (declared_by words) f;
      shaping = arrives_tests s (started s j.arrays words f);
      beside = started s j.arrays words f;
      gives = arrives s (started s j.arrays words f) f;
    }
describe j next =
    let s : Shape = j.head.shape in
    record {
      lent = [];
      keeping = empty_test j ∷ not_unfinished_test j ∷ [];
      shaping = arrives_tests s (stepped s j.arrays);
      beside = stepped s j.arrays;
      gives = arrives s (stepped s j.arrays) [];
    }
describe j peek =
    record {
      lent = [];
      keeping = empty_test j ∷ not_unfinished_test j ∷ [];
      shaping = [];
      beside = j.arrays;
      gives = record { answer = shortest (found j.arrays.synthesis); marks = no_columns; tried = 0; job = j; frame = [] };
    }

abbrev pub carried_out : Job → Described → Outcome
carried_out j d =
    first_of (refusing j d.lent) d.keeping (first_of (refusing (shaped_job j.head.shape d.beside) d.lent) d.shaping d.gives)

unfoldable pub step : Job → Call → Outcome
step j c = carried_out j (describe j c)

-- what a locate does that has only the check sums of the frame to go by, as one in slices has
unfoldable pub by_sums : Job → (words f : List ℕ) → Outcome
by_sums j words f = carried_out j (locating j words f unseen)

-- SPECIFICATION.md, "Refusals": those after which the job is shaped; after every other one it is as it was
unfoldable pub late : ℕ → Bool
late k = eqb k 24 || (eqb k 25 || eqb k 26)
