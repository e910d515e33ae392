-- A turn: the window is filled, and the lines that are due are put. It hands something over, or all is over.
use mathlib.Core.Path.{◌≡◌, refl, sym, ap, ◌∙◌}
use mathlib.Core.Logic.{◌⊎◌, inl, inr}
use mathlib.Core.Bool.{Bool, true, false, cond}
use mathlib.Core.List.{List, [], ◌++◌}
use Prim.Native.Nat.{ℕ, ◌+◌, ◌-◌, ◌≤◌, ◌<◌}
use native.Mathlib.Decide.{dec_lt}
use native.Mathlib.Omega.{arith}
use lib.Dec.{eqb}
use lib.ListN.{length, take, drop, length-append, length-take, length-drop, take-append-drop, drop_of_length-le}
use lib.Seq.{length-take-le}
use borrow.Author.Tests.{ltb-false, eq-eqb}
use Rattle.std.specs.Prelude.{Result, Ok, Err, OnErr}
use Rattle.record.specs.Record.{claimed_by}
use Rattle.lines.specs.Lines.{rest_of, text_of, next_size}
use Rattle.lines.proofs.Due.{some-due}
use Rattle.window.specs.Lined.{Lined}
use Rattle.tomkhadi.specs.Turned.{Turned}
use Rattle.window.specs.Window.{unused, Filled, is_over}
use Rattle.window.specs.declared.input.Window.{Window}
use Rattle.window.specs.declared.output.Put.{Put}
use Rattle.window.proofs.Filling.{some_lacking}
use Rattle.window.proofs.Putting.{whole-next, last-next}

-- what holds whether a write failed or not
pub on_err : {T E : Type 0} (P : Type 0) (r : Result T E) → P → OnErr r P
on_err P (Ok x) p = tt
on_err P (Err e) p = p

module _ (before : List ℕ) (w : Window) (after : List ℕ) (full : Window) (f : Filled before w after full) (out : List ℕ) (put : Put)
    (l : Lined after full out put) (room : 1024 ≤ length out) where
  abbrev bytes : List ℕ
  bytes = unused full after

  -- the window that is left
  abbrev left : Window
  left = record { start = put.start; end = full.end; more = full.more }

  -- where nothing is put, nothing was due, for there is room for a line
  none-put : put.used ≡ 0 → next_size full.more bytes ≡ 0
  none-put z = pick l.stops (dec_lt 0 (next_size full.more bytes))
    where
      pick : (text_of full.more (unused left after) ≡ []) ⊎ (length out < put.used + 1024) → Dec (0 < next_size full.more bytes)
          → next_size full.more bytes ≡ 0
      pick (inr h) d = absurd (let y : ⊥ = omega arith in y)
      pick (inl e) (no h) = omega arith
      pick (inl e) (yes h) =
          let some = some-due full.more bytes h in
          let all = ap length l.lines in
          let later = ap length e in
          let parts = length-append (take put.used out) (text_of full.more (unused left after)) in
          absurd (let y : ⊥ = omega (arith, length-take put.used out) in y)

  -- and where nothing is due, the input has ended and the window is empty, for it starts with all that a record claims while more may come
  none_left : next_size full.more bytes ≡ 0 → (full.more ≡ false) × (full.start ≡ full.end)
  none_left z = pick full.more refl (dec_lt (length bytes) (2 + claimed_by bytes))
    where
      width : length bytes ≡ full.end - full.start
      width =
          let o = f.inside.ordered in let b = f.inside.within in
          length-take-le (full.end - full.start) (drop full.start after) (omega (arith, length-drop full.start after))

      pick : (m : Bool) → full.more ≡ m → Dec (length bytes < 2 + claimed_by bytes) → (full.more ≡ false) × (full.start ≡ full.end)
      pick m e (no h) = absurd (let y : ⊥ = omega (arith, whole-next full.more bytes (claimed_by bytes) refl (omega arith)) in y)
      pick true e (yes h) =
          let all = ltb-false (full.end - full.start) (2 + claimed_by bytes) (some_lacking full after (claimed_by bytes) e refl ∙ f.whole) in
          absurd (let y : ⊥ = omega (arith, width) in y)
      pick false e (yes h) = let o = f.inside.ordered in (e, omega (arith, width, last-next full.more bytes (claimed_by bytes) refl h e))

  goes_on : (is_over left ≡ true) ⊎ (0 < put.used)
  goes_on = pick (dec_lt 0 put.used)
    where
      over : (full.more ≡ false) × (full.start ≡ full.end) → is_over left ≡ true
      over (e, same) =
          let a = l.after in let b = l.within in
          ap (λ (m : Bool). cond m false (eqb put.start full.end)) e ∙ eq-eqb put.start full.end (omega arith)

      pick : Dec (0 < put.used) → (is_over left ≡ true) ⊎ (0 < put.used)
      pick (yes h) = inr h
      pick (no h) = inl (over (none_left (none-put (omega arith))))

  pub turned : Turned before w after out left
  turned =
      let i = f.inside in
      record {
        inside = record { ordered = l.within; within = i.within; room = i.room };
        came = drop (w.end - w.start) bytes;
        used = put.used;
        fits = l.fits;
        turn =
            record {
              lines = ap (text_of full.more) joins ∙ l.lines;
              rest = λ t. ap rest_of joins ∙ l.rest t;
              ended = λ e. (ap (drop (w.end - w.start)) (f.ended e).1 ∙ none_more, (f.ended e).0);
            };
        stops = l.stops;
        goes_on = goes_on;
      }
    where
      none_more : drop (w.end - w.start) (unused w before) ≡ []
      none_more =
          let few : length (unused w before) ≤ w.end - w.start = omega (arith, length-take (w.end - w.start) (drop w.start before)) in
          drop_of_length-le (unused w before) few

      joins : unused w before ++ drop (w.end - w.start) bytes ≡ bytes
      joins =
          ap (λ (x : List ℕ). x ++ drop (w.end - w.start) bytes) (sym f.kept) ∙
          take-append-drop (w.end - w.start) bytes

  -- where the lines are not all written
  pub turned_all_the_same : {T E : Type 0} (r : Result T E) → OnErr r ((x : Window) × Turned before w after out x)
  turned_all_the_same r = on_err ((x : Window) × Turned before w after out x) r (left, turned)
