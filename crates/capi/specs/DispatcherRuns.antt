-- Lists of calls and turns through the C interface. Each inline function of the dispatcher in include/tomkhadi.h, but for the one that empties the jobs, is one
-- exported function on the arrays of the struct; that the header's text is these is read, and tried by tests/. A list of them answers and leaves what eight jobs do. Proved in
-- proofs/DispatcherRuns.antt.
use Rattle.std.specs.Prelude.{◌≡◌, List, [], ◌∷◌, ℕ}
use Rattle.dispatch.specs.Calls.{EmptyDoes}
use Rattle.dispatch.specs.Told.{told, turn_told}
use Rattle.eight_jobs.specs.Eight.{jobs, dispatched}
use Rattle.job.specs.Calls.{Call, shape, encode, locate, repair, start, next, peek}
use Rattle.job.specs.Job.{Arrays}
use Rattle.kept.specs.Kept.{Heads, Searches, searches, Kept, kept, arrays_at, jobs_of, kept_after}
use Rattle.kept.specs.Runs.{EightKept, Keeps}
use Rattle.mirror.specs.declared.CAnswer.{CAnswer}
use Rattle.mirror.specs.declared.CPeeked.{CPeeked}
use Rattle.mirror.specs.declared.CTurned.{CTurned}
use Rattle.turns.specs.Dispatcher.{Event, on, turn, Reply, reply}
use Rattle.capi.specs.Dispatcher.{refusal_for, answer_for, peeked_for, turned_for, TurnGives}
use Rattle.capi.specs.Dispatcher.{JobsShape, JobsEncode, JobsLocate, JobsRepair, JobsStart, JobsStep, JobsPeek}

-- what an inline function returns: shape and encode the refusal or 0; locate, repair, start and step the struct of an answer; peek that of a length; and a turn
-- its own
pub data DReply : Type 0 where
  number : (refusal : ℕ) → DReply
  answer : CAnswer → DReply
  peeked : CPeeked → DReply
  turned : CTurned → DReply

-- that, the lent frame, and the struct, as they are left (no frame is lent to shape, step, peek and a turn: `[]`)
pub record DReturn : Type 0 where
  pub reply : DReply
  pub frame : List ℕ
  pub left : Kept

-- what a step leaves of the searches: the lengths and the symbols are const
abbrev pub stepped : (x y : Searches) → Searches
stepped x y =
    searches y.counts x.lengths x.symbols y.places y.sizes y.discs y.quotients y.taps y.saved

-- The exported function is called on the arrays of the struct, and gives anything that it promises. What is const is as it was, and so are arrays that are not
-- lent.
abbrev pub DStep : Kept → Event jobs → DReturn → Type 0
DStep p (on k (shape n checks b)) r =
    (s : ℕ) × (hs : Heads) × JobsShape k p.heads n checks b s hs ×
    (r ≡ record { reply = number s; frame = []; left = kept hs p.sums p.taps p.declared p.searches p.last })
DStep p (on k (encode f)) r =
    (s : ℕ) × (left : List ℕ) × JobsEncode k p.heads f s left × (r ≡ record { reply = number s; frame = left; left = p })
DStep p (on k (locate words f)) r =
    (s : CAnswer) × (hs : Heads) × (sums : List (List ℕ)) × (taps : List (List ℕ)) × (held : List (List ℕ)) ×
    JobsLocate k p.heads p.sums p.taps p.declared words f s hs sums taps held ×
    (r ≡ record { reply = answer s; frame = f; left = kept hs sums taps held p.searches p.last })
DStep p (on k (repair f)) r =
    (s : CAnswer) × (hs : Heads) × (left : List ℕ) × JobsRepair k p.heads p.sums p.declared f s hs left ×
    (r ≡ record { reply = answer s; frame = left; left = kept hs p.sums p.taps p.declared p.searches p.last })
DStep p (on k (start words f)) r =
    (s : CAnswer) × (hs : Heads) × (sums : List (List ℕ)) × (taps : List (List ℕ)) × (held : List (List ℕ)) × (y : Searches) ×
    JobsStart k p.heads p.sums p.taps p.declared p.searches words f s hs sums taps held y ×
    (r ≡ record { reply = answer s; frame = f; left = kept hs sums taps held y p.last })
DStep p (on k next) r =
    (s : CAnswer) × (hs : Heads) × (taps : List (List ℕ)) × (y : Searches) ×
    JobsStep k p.heads p.sums p.taps p.declared p.searches s hs taps (stepped p.searches y) ×
    (r ≡ record { reply = answer s; frame = []; left = kept hs p.sums taps p.declared (stepped p.searches y) p.last })
DStep p (on k peek) r =
    (s : CPeeked) × JobsPeek k p.heads p.sums p.declared p.searches s × (r ≡ record { reply = peeked s; frame = []; left = p })
DStep p turn r =
    (s : CTurned) × (hs : Heads) × (taps : List (List ℕ)) × (y : Searches) × (last : ℕ) ×
    TurnGives p s (kept hs p.sums taps p.declared (stepped p.searches y) last) ×
    (r ≡ record { reply = turned s; frame = []; left = kept hs p.sums taps p.declared (stepped p.searches y) last })

-- the functions of a list, each on the struct that the one before it left
abbrev pub DRun : Kept → List (Event jobs) → Kept → Type 0
DRun p [] q = q ≡ p
DRun p (e ∷ es) q = (r : DReturn) × DStep p e r × DRun r.left es q

-- ---- what C sees of what eight jobs reply

abbrev pub call_reply : Call → Reply jobs → DReply
call_reply (shape n checks b) a = number (refusal_for (told (shape n checks b) a))
call_reply (encode f) a = number (refusal_for (told (encode f) a))
call_reply (locate words f) a = answer (answer_for (told (locate words f) a))
call_reply (repair f) a = answer (answer_for (told (repair f) a))
call_reply (start words f) a = answer (answer_for (told (start words f) a))
call_reply next a = answer (answer_for (told next a))
call_reply peek a = peeked (peeked_for (told peek a))

abbrev pub reply_for : Event jobs → Reply jobs → DReply
reply_for (on k c) a = call_reply c a
reply_for turn a = turned (turned_for (turn_told a))

abbrev pub frame_for : Event jobs → Reply jobs → List ℕ
frame_for (on k c) a = (told c a).frame
frame_for turn a = []

-- what an inline function does, whatever the struct holds
pub record DGiven (p : Kept) (e : Event jobs) (r : DReturn) : Type 0 where
  pub answers : r.reply ≡ reply_for e (reply jobs (jobs_of p) e)
  pub frame : r.frame ≡ frame_for e (reply jobs (jobs_of p) e)
  pub left : r.left ≡ kept_after p e

-- what it does after a list from eight empty jobs: what the jobs do that the list leaves
pub record DReturned (a : ℕ → Arrays) (es : List (Event jobs)) (e : Event jobs) (r : DReturn) : Type 0 where
  pub answers : r.reply ≡ reply_for e (reply jobs (dispatched a es) e)
  pub frame : r.frame ≡ frame_for e (reply jobs (dispatched a es) e)

pub record DEdge : Type 0 where
  -- what the exported functions promise can be given, whatever the struct
  pub total : (p : Kept) (e : Event jobs) → (r : DReturn) × DStep p e r
  -- from any struct
  pub given : (p : Kept) (e : Event jobs) (r : DReturn) → DStep p e r → DGiven p e r
  -- from the struct that tomkhadi_dispatcher_empty leaves, p, whose arrays have eight parts
  pub left : (p : Kept) (es : List (Event jobs)) (q : Kept) → EightKept p → EmptyDoes p.heads p.last → DRun p es q →
      Keeps q (dispatched (arrays_at p) es)
  pub returned : (p : Kept) (es : List (Event jobs)) (q : Kept) (e : Event jobs) (r : DReturn) → EightKept p → EmptyDoes p.heads p.last →
      DRun p es q → DStep q e r → DReturned (arrays_at p) es e r
