-- What each function of the dispatcher does with what it is lent: before the answer stand the parts as they are lent, after it those that are left in their place.
-- Parts that are not lent may hold anything, and stay.
use Rattle.std.specs.Prelude.{◌≡◌, List, [], ℕ, Result}
use Rattle.job.specs.Calls.{Call, shape, encode, locate, repair, start, next, peek, step}
use Rattle.kept.specs.Kept.{Heads, Searches, Kept, kept, job_at, made_of}
use Rattle.kept.specs.Runs.{empty_heads}
use Rattle.refusal.specs.declared.Refusal.{Refusal}
use Rattle.dispatch.specs.Told.{Told, told_by, checked_told, said_told, peeked_told, turned_told, Does, Turns}
use Rattle.dispatch.specs.declared.Said.{Said}
use Rattle.dispatch.specs.declared.Turned.{Turned}

-- eight empty jobs are left, and job 7 counts as served last
pub record EmptyDoes (left : Heads) (last : ℕ) : Type 0 where
  pub heads : left ≡ empty_heads
  pub last-served : last ≡ 7

abbrev pub ShapeDoes : (k : ℕ) → Heads → (n : ℕ) (checks : List ℕ) (b : ℕ) → Result (Unit {0}) Refusal → Heads → Type 0
ShapeDoes k hs n checks b r left =
    (sums taps held : List (List ℕ)) (x : Searches) (last : ℕ) →
    Does (kept hs sums taps held x last) k (shape n checks b) (checked_told r []) (kept left sums taps held x last)

abbrev pub EncodeDoes : (k : ℕ) → Heads → (frame : List ℕ) → Result (Unit {0}) Refusal → (left : List ℕ) → Type 0
EncodeDoes k hs f r left =
    (sums taps held : List (List ℕ)) (x : Searches) (last : ℕ) →
    Does (kept hs sums taps held x last) k (encode f) (checked_told r left) (kept hs sums taps held x last)

abbrev pub LocateDoes :
    (k : ℕ) → Heads → (sums taps held : List (List ℕ)) (declared frame : List ℕ) → Said → Heads → (sumsLeft taps_left heldLeft : List (List ℕ)) → Type 0
LocateDoes k hs sums taps held words f r left sumsLeft taps_left heldLeft =
    (x : Searches) (last : ℕ) →
    Does (kept hs sums taps held x last) k (locate words f) (said_told r f) (kept left sumsLeft taps_left heldLeft x last)

abbrev pub RepairDoes : (k : ℕ) → Heads → (sums held : List (List ℕ)) (frame : List ℕ) → Said → Heads → (left : List ℕ) → Type 0
RepairDoes k hs sums held f r hsLeft left =
    (taps : List (List ℕ)) (x : Searches) (last : ℕ) →
    Does (kept hs sums taps held x last) k (repair f) (said_told r left) (kept hsLeft sums taps held x last)

abbrev pub StartDoes :
    (k : ℕ) → Heads → (sums taps held : List (List ℕ)) → Searches → (declared frame : List ℕ) → Said → Heads →
    (sumsLeft taps_left heldLeft : List (List ℕ)) → Searches → Type 0
StartDoes k hs sums taps held x words f r left sumsLeft taps_left heldLeft y =
    (last : ℕ) → Does (kept hs sums taps held x last) k (start words f) (said_told r f) (kept left sumsLeft taps_left heldLeft y last)

-- the sums and the declared cells are only read
abbrev pub StepDoes :
    (k : ℕ) → Heads → (sums taps held : List (List ℕ)) → Searches → Said → Heads → (taps_left : List (List ℕ)) → Searches → Type 0
StepDoes k hs sums taps held x r left taps_left y =
    (last : ℕ) → Does (kept hs sums taps held x last) k next (said_told r []) (kept left sums taps_left held y last)

abbrev pub PeekDoes : (k : ℕ) → Heads → (sums held : List (List ℕ)) → Searches → Result ℕ Refusal → Type 0
PeekDoes k hs sums held x r =
    (taps : List (List ℕ)) (last : ℕ) → Does (kept hs sums taps held x last) k peek (peeked_told r) (kept hs sums taps held x last)

abbrev pub TurnDoes : Kept → Turned → Kept → Type 0
TurnDoes p r q = Turns p (turned_told r) q

-- job k, one of the eight, does the call c, told t and leaving q where p was kept
pub record Made (p : Kept) (k : ℕ) (c : Call) (t : Told) (q : Kept) : Type 0 where
  pub tells : t ≡ told_by (step (job_at p k) c)
  pub leaves : q ≡ made_of p k c

-- a step of job k, whoever asks for it
abbrev pub StepMade :
    (k : ℕ) → Heads → (sums taps held : List (List ℕ)) → Searches → Said → Heads → (taps_left : List (List ℕ)) → Searches → Type 0
StepMade k hs sums taps held x r left taps_left y =
    (last : ℕ) → Made (kept hs sums taps held x last) k next (said_told r []) (kept left sums taps_left held y last)
