-- Steps, and calls that may come between them, lead an unfinished locate of a frame to its end: after longest length × rows steps, not sooner.
use mathlib.Core.Logic.{◌⊎◌, inl, inr}
use mathlib.Core.Path.{◌≡◌, refl, sym, ap, ap₂, subst, subst⁻¹, ◌∙◌}
use mathlib.Core.Bool.{Bool, true, false, not, cond, false≢true}
use mathlib.Core.List.{List, [], ◌∷◌}
use Prim.Native.Nat.{ℕ, suc, ◌+◌, ◌*◌, ◌≤◌, ◌<◌}
use native.Mathlib.Nat.{suc-mul, mul-le-mul_right}
use native.Mathlib.Omega.{arith}
use Rattle.decoding.specs.Remaining.{read_sequences}
use Rattle.frame.specs.DeclaredCells.{declared_by}
use Rattle.frame.specs.Frame.{held_sequences}
use Rattle.frame.specs.Shape.{is_shape}
use Rattle.frame.specs.declared.Shape.{Shape}
use Rattle.refusal.specs.Order.{Test, first_of}
use Rattle.refusal.proofs.Orders.{Pass, by_tests, pass-otherwise}
use Rattle.register.specs.Sequences.{longest}
use Rattle.slices.specs.Synthesis.{found, size}
use Rattle.job.specs.Calls.{Call, shape, encode, locate, repair, start, next, peek, shortest, Outcome, refusing, step, describe}
use Rattle.job.specs.Calls.{by_register_tests, held_taps, held_mark, arrives_tests, arrives, stepped}
use Rattle.job.specs.Job.{Arrays, Job, shaped_job, unfinished_job, is_empty_phase, is_unfinished_phase, counts_empty, head_sound, phase_sound}
use Rattle.job.specs.Runs.{run_from, Slicing, steps_in, IsEncode, RefusedEarly}
use Rattle.job.specs.Slices.{slices_of}
use Rattle.job.proofs.Between.{encode-keeps, refused-keeps, peek-keeps, step-refused}
use Rattle.job.proofs.Cases.{step_gives}
use Rattle.job.proofs.Forms.{goes_on, arrives-on}
use Rattle.job.proofs.Going.{Going, Over, Moved, within, round, last, going_on, going-sound, step_moves}

-- ---- one call

-- what is refused and given where a search has come to the arrays
abbrev pub arrival : Shape → Arrays → (g : List ℕ) → Outcome
arrival s a g = first_of (refusing (shaped_job s a) g) (arrives_tests s a) (arrives s a g)

pub arrival-on : (s : Shape) (a : Arrays) (g : List ℕ) {f : List ℕ} {n h : ℕ} → Going s a f n h → arrival s a g ≡ goes_on s a g
unfolding arrives_tests
arrival-on s a g going =
    let e = going_on going in
    let tests : List Test =
    by_register_tests s (declared_by a.declared) (held_sequences s a.sums) (size a.synthesis) (held_taps a.synthesis) (held_mark s a.synthesis) in
    ap₂ (first_of (refusing (shaped_job s a) g)) (ap (λ (b : Bool). cond b tests []) e) (arrives-on s a g e)

module _ (s : Shape) (t : is_shape s ≡ true) {a : Arrays} {f : List ℕ} {n h : ℕ} (going : Going s a f n h) where
  pub tests-pass : Pass (describe (unfinished_job s a) next).keeping
  unfolding counts_empty head_sound phase_sound
  tests-pass = (ap not t, (ap not (going-sound s t going), tt))

  pub next-is : step (unfinished_job s a) next ≡ arrival s (stepped s a) []
  unfolding step
  next-is = pass-otherwise (refusing (unfinished_job s a) []) _ (describe (unfinished_job s a) next).keeping tests-pass

  pub peek_is : (step (unfinished_job s a) peek).answer ≡ shortest (found a.synthesis)
  peek_is = ap (λ (o : Outcome). o.answer) (step_gives (unfinished_job s a) peek tests-pass tt)

-- a search that is over leaves the job shaped or located
pub arrival-over : (s : Shape) (a : Arrays) (g : List ℕ) {f : List ℕ} → Over s a f
    → (is_unfinished_phase (arrival s a g).job.head.phase ≡ false) × (is_empty_phase (arrival s a g).job.head.phase ≡ false)
arrival-over s a g over =
    by_tests (refusing (shaped_job s a) g) (arrives s a g) Ended (arrives_tests s a) (λ k m. (refl, refl)) (λ p. subst⁻¹ Ended (over.gives g) (refl, refl))
  where
    Ended : Outcome → Type 0
    Ended o = (is_unfinished_phase o.job.head.phase ≡ false) × (is_empty_phase o.job.head.phase ≡ false)

-- ---- the steps made

-- the arrays hold the unfinished locate of f, with the cells that the words declare, after k steps
pub record After (s : Shape) (words f : List ℕ) (k : ℕ) (a : Arrays) : Type 0 where
  pub rounds : ℕ
  pub steps : ℕ
  pub going : Going s a f rounds steps
  pub declared : a.declared ≡ words
  pub count : rounds * s.rows + steps ≡ k

-- the next step: more are to come, or it is the last
pub data Next (s : Shape) (words f : List ℕ) (k : ℕ) (a : Arrays) : Type 0 where
  more : After s words f (suc k) (stepped s a) → Next s words f k a
  ends : suc k ≡ slices_of s words f → Over s (stepped s a) f → Next s words f k a

module _ {s : Shape} {words f : List ℕ} {k : ℕ} {a : Arrays} (after : After s words f k a) where
  pub after-longest : longest (read_sequences s (declared_by a.declared) f) ≡ longest (read_sequences s (declared_by words) f)
  after-longest = ap (λ (w : List ℕ). longest (read_sequences s (declared_by w) f)) after.declared

  pub after_less : k < slices_of s words f
  after_less =
      let n : ℕ = after.rounds in
      let in-round : suc n ≤ longest (read_sequences s (declared_by words) f) = omega (arith, after-longest, after.going.round) in
      omega (arith, mul-le-mul_right s.rows in-round, suc-mul n s.rows, after.count, after.going.step)

  pub after_next : is_shape s ≡ true → Next s words f k a
  after_next t = pick (step_moves s t after.going)
    where
      n : ℕ
      n = after.rounds

      pick : Moved s a f after.rounds after.steps → Next s words f k a
      pick (within g) =
          more (record { rounds = n; steps = suc after.steps; going = g; declared = after.declared; count = omega (arith, after.count) })
      pick (round e g) =
          more
          (record {
            rounds = suc n;
            steps = 0;
            going = g;
            declared = after.declared;
            count = omega (arith, suc-mul n s.rows, after.count);
          })
      pick (last e all o) =
          let whole : suc n * s.rows ≡ slices_of s words f = ap (λ (m : ℕ). m * s.rows) (all ∙ after-longest) in
          ends (omega (arith, suc-mul n s.rows, after.count)) o

-- ---- the walk

-- the job after k steps: unfinished, or all are made
pub data Walked (s : Shape) (words f : List ℕ) (k : ℕ) : Job → Type 0 where
  on : (a : Arrays) → After s words f k a → Walked s words f k (unfinished_job s a)
  over : (j : Job) → slices_of s words f ≤ k → is_unfinished_phase j.head.phase ≡ false → is_empty_phase j.head.phase ≡ false → Walked s words f k j

-- a call is a step, or does not count as one
is_next : Call → Bool
is_next (shape n checks b) = false
is_next (encode f) = false
is_next (locate words f) = false
is_next (repair f) = false
is_next (start words f) = false
is_next next = true
is_next peek = false

by_next : (c : Call) → (c ≡ next) ⊎ ((is_next c ≡ false) × ((cs : List Call) → steps_in (c ∷ cs) ≡ steps_in cs))
unfolding is_next steps_in
by_next (shape n checks b) = inr (refl, λ cs. refl)
by_next (encode f) = inr (refl, λ cs. refl)
by_next (locate words f) = inr (refl, λ cs. refl)
by_next (repair f) = inr (refl, λ cs. refl)
by_next (start words f) = inr (refl, λ cs. refl)
by_next next = inl refl
by_next peek = inr (refl, λ cs. refl)

-- a call that may come after a start
abbrev Allowed : Job → Call → Type 0
Allowed j c = (c ≡ next) ⊎ ((c ≡ peek) ⊎ (IsEncode c ⊎ RefusedEarly (step j c)))

others_keep : (j : Job) (c : Call) → is_next c ≡ false → Allowed j c → (step j c).job ≡ j
unfolding is_next
others_keep j c e (inl n) = absurd (false≢true (sym e ∙ ap is_next n))
others_keep j c e (inr (inl p)) = subst⁻¹ (λ (d : Call). (step j d).job ≡ j) p (peek-keeps j)
others_keep j c e (inr (inr (inl f))) = encode-keeps j c f
others_keep j c e (inr (inr (inr r))) = refused-keeps j c r

module _ (s : Shape) (t : is_shape s ≡ true) (words f : List ℕ) where
  step-walked : (j : Job) (k : ℕ) → Walked s words f k j → Walked s words f (suc k) (step j next).job
  step-walked _ k (on a x) = subst⁻¹ (λ (o : Outcome). Walked s words f (suc k) o.job) (next-is s t x.going) (pick (after_next x t))
    where
      pick : Next s words f k a → Walked s words f (suc k) (arrival s (stepped s a) []).job
      pick (more y) = subst⁻¹ (λ (o : Outcome). Walked s words f (suc k) o.job) (arrival-on s (stepped s a) [] y.going) (on (stepped s a) y)
      pick (ends e o) = let (u, m) = arrival-over s (stepped s a) [] o in over _ (omega arith) u m
  step-walked j k (over _ all u m) = step-refused j u (λ (o : Outcome). Walked s words f (suc k) o.job) (λ r. over j (omega arith) u m)

  call-walked : (j : Job) (c : Call) (cs : List Call) (k m : ℕ) → k + steps_in (c ∷ cs) ≡ m → Walked s words f k j → Allowed j c
      → (l : ℕ) × (l + steps_in cs ≡ m) × Walked s words f l (step j c).job
  unfolding steps_in
  call-walked j c cs k m e w g = pick (by_next c)
    where
      pick : (c ≡ next) ⊎ ((is_next c ≡ false) × ((cs : List Call) → steps_in (c ∷ cs) ≡ steps_in cs))
          → (l : ℕ) × (l + steps_in cs ≡ m) × Walked s words f l (step j c).job
      pick (inl i) = (
        suc k,
        omega (arith, ap (λ (d : Call). steps_in (d ∷ cs)) i),
        subst⁻¹ (λ (d : Call). Walked s words f (suc k) (step j d).job) i (step-walked j k w),
      )
      pick (inr (other, same)) = (k, omega (arith, same cs), subst⁻¹ (Walked s words f k) (others_keep j c other g) w)

  pub walk : (cs : List Call) (j : Job) (k m : ℕ) → k + steps_in cs ≡ m → Walked s words f k j → Slicing j cs → Walked s words f m (run_from j cs)
  unfolding run_from steps_in
  walk [] j k m e w g = subst (λ (l : ℕ). Walked s words f l j) (let z : k ≡ m = omega arith in z) w
  walk (c ∷ cs) j k m e w (g, gs) = let (l, q, v) = call-walked j c cs k m e w g in walk cs (step j c).job l m q v gs
