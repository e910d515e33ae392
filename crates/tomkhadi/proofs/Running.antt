-- The turns of the program, one after the other: none yet, one more, and where it stops.
use mathlib.Core.Path.{◌≡◌, refl, sym, ap, ◌∙◌}
use mathlib.Core.Logic.{◌⊎◌, inl, inr}
use mathlib.Core.Bool.{Bool, true, false, cond, false≢true}
use mathlib.Core.List.{List, [], ◌∷◌, ◌++◌}
use Prim.Native.Nat.{ℕ, ◌+◌, ◌-◌, ◌^◌, ◌≤◌, ◌<◌}
use native.Mathlib.Omega.{arith}
use lib.Dec.{eqb}
use lib.ListN.{length, take, drop, length-append}
use lib.Seq.{length-take-le}
use borrow.Author.Tests.{eqb-true}
use Rattle.lines.specs.Lines.{lines_of}
use Rattle.lines.specs.Runs.{Step, Turns, came_in, handed_in}
use Rattle.lines.proofs.Runs.{turns-on, handed-on, runs}
use Rattle.tomkhadi.specs.Ran.{Ran, BrokenOff}
use Rattle.tomkhadi.specs.Turned.{Turned}
use Rattle.tomkhadi.proofs.Turning.{on_err}
use Rattle.std.specs.Prelude.{Result, OnErr}
use Rattle.window.specs.Window.{unused, is_over}
use Rattle.window.specs.declared.input.Window.{Window}

-- the turns made so far, each of which handed something over, and how many more the counter has
pub record Running (buffer : List ℕ) (w : Window) (turns : ℕ) : Type 0 where
  pub steps : List Step
  pub chain : Turns [] true steps (unused w buffer) w.more
  pub handed : length steps ≤ length (handed_in steps)
  pub count : length steps + turns ≡ 2 ^ 64 - 1

pub running_none : (buffer : List ℕ) → Running buffer (record { start = 0; end = 0; more = true }) (2 ^ 64 - 1)
running_none buffer = record { steps = []; chain = (refl, refl); handed = omega arith; count = omega arith }

-- where it is over, the text of all that came is handed over
whole-text : (buffer : List ℕ) (r : Window) (steps : List Step) → Turns [] true steps (unused r buffer) r.more → is_over r ≡ true
    → handed_in steps ≡ lines_of (came_in steps)
whole-text buffer r steps chain e =
    let (m, same) = ended r.more e in
    let none : unused r buffer ≡ [] = ap (λ (n : ℕ). take n (drop r.start buffer)) (let z : r.end - r.start ≡ 0 = omega arith in z) in
    runs steps (rw (none, m) at chain)
  where
    ended : (more : Bool) → cond more false (eqb r.start r.end) ≡ true → (more ≡ false) × (r.start ≡ r.end)
    ended true h = absurd (false≢true h)
    ended false h = (refl, eqb-true r.start r.end h)

pub used-up : (buffer : List ℕ) (w : Window) (turns : ℕ) → Running buffer w turns → turns ≡ 0 → Ran buffer w
used-up buffer w turns now none =
    let n = now.count in let h = now.handed in
    record { steps = now.steps; chain = now.chain; stops = inr (omega arith, omega arith); text = whole-text buffer w now.steps now.chain }

module _ (before : List ℕ) (w : Window) (turns : ℕ) (now : Running before w turns) (after out : List ℕ) (r : Window) (t : Turned before w after out r) where
  -- the next turn: what came, and what is handed over to be written
  abbrev next : Step
  next = record { came = t.came; handed = take t.used out; left = unused r after; still = r.more }

  joins : Turns [] true (now.steps ++ (next ∷ [])) (unused r after) r.more
  joins = turns-on now.steps [] true _ _ now.chain next t.turn

  pub running-on : 0 < turns → is_over r ≡ false → Running after r (turns - 1)
  running-on some goes =
      let n = now.count in let h = now.handed in let l = length-append now.steps (next ∷ []) in
      record {
        steps = now.steps ++ (next ∷ []);
        chain = joins;
        handed =
            let u = more t.goes_on in let f = length-take-le t.used out t.fits in
            omega (arith, ap length (handed-on now.steps next), length-append (handed_in now.steps) (take t.used out));
        count = omega arith;
      }
    where
      more : (is_over r ≡ true) ⊎ (0 < t.used) → 0 < t.used
      more (inl e) = absurd (false≢true (sym goes ∙ e))
      more (inr u) = u

  pub over : is_over r ≡ true → Ran after r
  over e = record { steps = now.steps ++ (next ∷ []); chain = joins; stops = inl e; text = whole-text after r (now.steps ++ (next ∷ [])) joins }

-- where what the last turn handed over is not all written
pub broken : {T E : Type 0} (before : List ℕ) (w : Window) (turns : ℕ) (now : Running before w turns) → 0 < turns → (after out : List ℕ)
    → ((r : Window) × Turned before w after out r) → (result : Result T E) → OnErr result ((r : Window) × BrokenOff after r)
broken before w turns now some after out (r, t) result =
    let n = now.count in
    on_err ((x : Window) × BrokenOff after x) result (
      r,
      record {
        steps = now.steps;
        last = next before w turns now after out r t;
        chain = joins before w turns now after out r t;
        count = omega arith;
        handed = now.handed;
      },
    )
