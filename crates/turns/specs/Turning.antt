-- What is owed of turns among eight jobs, whatever a job is, for all jobs and every list of calls and turns. Proved in proofs/.
use Rattle.std.specs.Prelude.{◌≡◌, true, false, List, [], ◌∷◌, ℕ, ◌+◌, ◌-◌, ◌*◌, ◌/◌, ◌%◌, ◌≤◌, ◌<◌, replicate}
use Rattle.std.proofs.Math.Option.{some}
use Rattle.turns.specs.Dispatcher.{Kind, Jobs, Event, on, turn, says, refused_33, after, reply, run_from, served}
use Rattle.turns.specs.Dispatcher.{calls_on, alone, turns_in, serves_in, turns}

-- how many jobs stand between the one served last and job k, in circular order
abbrev pub between : (k last : ℕ) → ℕ
between k last = (k + 7 - last) % 8

module _ (K : Kind) where
  -- each job by itself sees exactly the list of its own calls, its steps by turns among them
  abbrev pub Projection : Type 0
  Projection = (d : Jobs K) (es : List (Event K)) (k : ℕ) → k < 8 → (run_from K d es).at k ≡ alone K (d.at k) (calls_on K k d es)

  -- a call on job k, or with a number that is none
  pub record Calling (d : Jobs K) (k : ℕ) (c : K.call) : Type 0 where
    pub answer : k < 8 → reply K d (on k c) ≡ says k (K.answers (d.at k) c)
    pub job : k < 8 → (after K d (on k c)).at k ≡ K.leaves (d.at k) c
    pub others : (i : ℕ) → (i ≡ k → ⊥) → (after K d (on k c)).at i ≡ d.at i
    pub no_service : (after K d (on k c)).last ≡ d.last
    pub outside : 8 ≤ k → (reply K d (on k c) ≡ refused_33) × (after K d (on k c) ≡ d)

  -- a turn that serves job k: an unfinished one, of these the one closest after the one served last; it is stepped, and no other is touched
  pub record Serving (d : Jobs K) (k : ℕ) : Type 0 where
    pub below : k < 8
    pub unfinished : K.unfinished (d.at k) ≡ true
    pub closest : (i : ℕ) → i < 8 → K.unfinished (d.at i) ≡ true → between k d.last ≤ between i d.last
    pub answer : reply K d turn ≡ says k (K.answers (d.at k) K.step)
    pub job : (after K d turn).at k ≡ K.leaves (d.at k) K.step
    pub others : (i : ℕ) → (i ≡ k → ⊥) → (after K d turn).at i ≡ d.at i
    pub last : (after K d turn).last ≡ k

  -- a turn, the one served last being one of the eight
  pub record Turning (d : Jobs K) : Type 0 where
    pub serves : (i : ℕ) → i < 8 → K.unfinished (d.at i) ≡ true → (k : ℕ) × (served K d ≡ some k)
    pub serving : (k : ℕ) → served K d ≡ some k → Serving d k
    pub idle : ((i : ℕ) → i < 8 → K.unfinished (d.at i) ≡ false) → (reply K d turn ≡ refused_33) × (after K d turn ≡ d)

  -- n turns are counted as n
  abbrev pub TurnsCounted : Type 0
  TurnsCounted = (n : ℕ) → turns_in K (turns K n) ≡ n

  -- job k is unfinished at each turn of the events
  abbrev pub Unfinished : ℕ → Jobs K → List (Event K) → Type 0
  Unfinished k d [] = Unit {0}
  Unfinished k d (on i c ∷ es) = Unfinished k (after K d (on i c)) es
  Unfinished k d (turn ∷ es) = (K.unfinished (d.at k) ≡ true) × Unfinished k (after K d turn) es

  -- while job k is unfinished, no more than eight turns come for each that serves it, and those before the first
  abbrev pub FewTurns : Type 0
  FewTurns = (d : Jobs K) (es : List (Event K)) (k : ℕ) → d.last < 8 → k < 8 → Unfinished k d es →
      turns_in K es ≤ 8 * serves_in K k d es + between k d.last

  -- so it is served within any eight turns
  abbrev pub Fair : Type 0
  Fair = (d : Jobs K) (es : List (Event K)) (k : ℕ) → d.last < 8 → k < 8 → Unfinished k d es → turns_in K es ≡ 8 → 1 ≤ serves_in K k d es

  -- Where job 7 was served last and each job stays unfinished through fewer than m steps, turns go round: after n of them, fewer than 8·m, job k has made
  -- (n + 7 − k) / 8 steps.
  abbrev pub RoundAndRound : Type 0
  RoundAndRound =
      (d : Jobs K) (m n k : ℕ) → d.last ≡ 7 →
      ((k i : ℕ) → k < 8 → i < m → K.unfinished (alone K (d.at k) (replicate i K.step)) ≡ true) → n < 8 * m → k < 8 →
      (run_from K d (turns K n)).at k ≡ alone K (d.at k) (replicate ((n + 7 - k) / 8) K.step)
