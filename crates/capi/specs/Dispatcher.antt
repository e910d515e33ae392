-- What the exported functions of the dispatcher do, by the definitions of eight jobs. The header's struct of eight jobs has these arrays, and its inline functions
-- lend them and do no more, but that the one that empties the jobs clears the struct first.
use Rattle.std.specs.Prelude.{◌≡◌, List, [], ◌∷◌, ℕ}
use Rattle.dispatch.specs.Told.{Told, TurnTold, told_by, nobody, told, turn_told}
use Rattle.eight_jobs.specs.Eight.{jobs}
use Rattle.job.specs.Calls.{Call, shape, encode, locate, repair, start, next, peek, Outcome}
use Rattle.job.specs.Refusals.{lent_to}
use Rattle.kept.specs.Kept.{Heads, Searches, Kept, kept, jobs_of, kept_after}
use Rattle.mirror.specs.Mirror.{refusal_of, peeked_of, answer_of, answered_of}
use Rattle.mirror.specs.declared.CAnswer.{CAnswer}
use Rattle.mirror.specs.declared.CPeeked.{CPeeked}
use Rattle.mirror.specs.declared.CTurned.{CTurned}
use Rattle.turns.specs.Dispatcher.{on, turn, says, refused_33, reply}

-- ---- what C is given of what is told

-- by shape and encode
abbrev pub refusal_for : Told → ℕ
refusal_for t = refusal_of t.answer

-- by locate, repair, start and step
abbrev pub answer_for : Told → CAnswer
answer_for t = answer_of t.answer t.marks t.tried

abbrev pub peeked_for : Told → CPeeked
peeked_for t = peeked_of t.answer

abbrev pub turned_for : TurnTold → CTurned
turned_for t = record { job = t.job; answer = answer_for t.said }

-- The same to the number: of an outcome C is given what it is given of a job by itself; of a number that is no job's, and of a turn that serves nobody, 33 and
-- zeros, and the number 8. Proved in proofs/ToldMirrors.antt.
pub record ToldMirrors : Type 0 where
  pub refusal : (o : Outcome) → refusal_for (told_by o) ≡ refusal_of o.answer
  pub answered : (o : Outcome) → answer_for (told_by o) ≡ (answered_of o).answer
  pub peeked : (o : Outcome) → peeked_for (told_by o) ≡ peeked_of o.answer
  pub frame : (o : Outcome) → (told_by o).frame ≡ o.frame
  pub turned : (k : ℕ) (o : Outcome) → turned_for (turn_told (says k o)) ≡ record { job = k; answer = (answered_of o).answer }
  pub no-job : (f : List ℕ) → refusal_for (nobody f) ≡ 33
  pub no-job-answered :
      (f : List ℕ) → answer_for (nobody f) ≡ record { refusal = 33; unfinished = 0; count = 0; tried = 0; marks = 0 ∷ 0 ∷ 0 ∷ 0 ∷ [] }
  pub no-job-peeked : (f : List ℕ) → peeked_for (nobody f) ≡ record { refusal = 33; length = 0 }
  pub no-job-frame : (c : Call) → (told c refused_33).frame ≡ lent_to c
  pub nobody-served :
      turned_for (turn_told refused_33) ≡
      record { job = 8; answer = record { refusal = 33; unfinished = 0; count = 0; tried = 0; marks = 0 ∷ 0 ∷ 0 ∷ 0 ∷ [] } }

-- A call with the number k on what is kept as p: r is what C is given of what is told, the lent frame is left as f, and q stands where p stood.
pub record Gives (A : Type 0) (given : Told → A) (p : Kept) (k : ℕ) (c : Call) (r : A) (f : List ℕ) (q : Kept) : Type 0 where
  pub answers : r ≡ given (told c (reply jobs (jobs_of p) (on k c)))
  pub frame : f ≡ (told c (reply jobs (jobs_of p) (on k c))).frame
  pub leaves : q ≡ kept_after p (on k c)

-- a turn
pub record TurnGives (p : Kept) (r : CTurned) (q : Kept) : Type 0 where
  pub answers : r ≡ turned_for (turn_told (reply jobs (jobs_of p) turn))
  pub leaves : q ≡ kept_after p turn

-- ---- the exported functions; parts that are not lent may hold anything and stay

abbrev pub JobsShape : (k : ℕ) → Heads → (n : ℕ) (checks : List ℕ) (b : ℕ) (r : ℕ) → Heads → Type 0
JobsShape k hs n checks b r left =
    (sums taps held : List (List ℕ)) (x : Searches) (last : ℕ) →
    Gives ℕ refusal_for (kept hs sums taps held x last) k (shape n checks b) r [] (kept left sums taps held x last)

abbrev pub JobsEncode : (k : ℕ) → Heads → (frame : List ℕ) (r : ℕ) (left : List ℕ) → Type 0
JobsEncode k hs f r left =
    (sums taps held : List (List ℕ)) (x : Searches) (last : ℕ) →
    Gives ℕ refusal_for (kept hs sums taps held x last) k (encode f) r left (kept hs sums taps held x last)

abbrev pub JobsLocate :
    (k : ℕ) → Heads → (sums taps held : List (List ℕ)) (declared frame : List ℕ) → CAnswer → Heads → (sumsLeft taps_left heldLeft : List (List ℕ)) →
    Type 0
JobsLocate k hs sums taps held words f r left sumsLeft taps_left heldLeft =
    (x : Searches) (last : ℕ) →
    Gives CAnswer answer_for (kept hs sums taps held x last) k (locate words f) r f (kept left sumsLeft taps_left heldLeft x last)

abbrev pub JobsRepair : (k : ℕ) → Heads → (sums held : List (List ℕ)) (frame : List ℕ) → CAnswer → Heads → (left : List ℕ) → Type 0
JobsRepair k hs sums held f r hsLeft left =
    (taps : List (List ℕ)) (x : Searches) (last : ℕ) →
    Gives CAnswer answer_for (kept hs sums taps held x last) k (repair f) r left (kept hsLeft sums taps held x last)

abbrev pub JobsStart :
    (k : ℕ) → Heads → (sums taps held : List (List ℕ)) → Searches → (declared frame : List ℕ) → CAnswer → Heads →
    (sumsLeft taps_left heldLeft : List (List ℕ)) → Searches → Type 0
JobsStart k hs sums taps held x words f r left sumsLeft taps_left heldLeft y =
    (last : ℕ) →
    Gives CAnswer answer_for (kept hs sums taps held x last) k (start words f) r f (kept left sumsLeft taps_left heldLeft y last)

abbrev pub JobsStep :
    (k : ℕ) → Heads → (sums taps held : List (List ℕ)) → Searches → CAnswer → Heads → (taps_left : List (List ℕ)) → Searches → Type 0
JobsStep k hs sums taps held x r left taps_left y =
    (last : ℕ) → Gives CAnswer answer_for (kept hs sums taps held x last) k next r [] (kept left sums taps_left held y last)

abbrev pub JobsPeek : (k : ℕ) → Heads → (sums held : List (List ℕ)) → Searches → CPeeked → Type 0
JobsPeek k hs sums held x r =
    (taps : List (List ℕ)) (last : ℕ) →
    Gives CPeeked peeked_for (kept hs sums taps held x last) k peek r [] (kept hs sums taps held x last)
