-- A window that is filled again by one read after the other.
use mathlib.Core.Path.{◌≡◌, sym, ap, ◌∙◌}
use mathlib.Core.Bool.{Bool, true, false, cond, ◌&&◌, false≢true}
use mathlib.Core.List.{List}
use Prim.Native.Nat.{ℕ, suc, ◌+◌, ◌-◌, ◌≤◌, ◌<◌}
use native.Mathlib.Nat.{le_refl}
use native.Mathlib.Decide.{dec_lt}
use native.Mathlib.Omega.{arith}
use lib.Dec.{ltb}
use lib.ListN.{length, take, drop}
use lib.Seq.{take-take}
use borrow.Author.Tests.{lt-ltb, le-ltb}
use borrow.Rule.Slice.PartMut.{mid_of, put_mid, same_len_mid, mid_len, take_put}
use Rattle.record.specs.Record.{claimed_by}
use Rattle.window.specs.Window.{unused, Inside, Kept, Refilled, is_lacking}
use Rattle.window.specs.declared.input.Window.{Window}

-- what the test of a window answers
pub none_lacking : (w : Window) (buffer : List ℕ) → w.more ≡ false → false ≡ is_lacking w buffer
unfolding is_lacking
none_lacking w buffer e = sym (ap (λ (b : Bool). b && ltb (w.end - w.start) (2 + claimed_by (unused w buffer))) e)

pub some_lacking : (w : Window) (buffer : List ℕ) (n : ℕ) → w.more ≡ true → n ≡ claimed_by (unused w buffer)
    → ltb (w.end - w.start) (2 + n) ≡ is_lacking w buffer
unfolding is_lacking
some_lacking w buffer n e c =
    ap (λ (k : ℕ). ltb (w.end - w.start) (2 + k)) c ∙ sym (ap (λ (b : Bool). b && ltb (w.end - w.start) (2 + claimed_by (unused w buffer))) e)

pub lacking_more : (w : Window) (buffer : List ℕ) → is_lacking w buffer ≡ true → w.more ≡ true
unfolding is_lacking
lacking_more w buffer = first w.more (ltb (w.end - w.start) (2 + claimed_by (unused w buffer)))
  where
    first : (a b : Bool) → (a && b) ≡ true → a ≡ true
    first true b e = sym e ∙ e
    first false b e = absurd (false≢true e)

-- how much a window in a buffer of n bytes can still grow: nothing where the input has no more
abbrev pub left : (n : ℕ) → Window → ℕ
left n w = cond w.more (suc n - (w.end - w.start)) 0

pub left-falls : (n : ℕ) (w r : Window) → w.more ≡ true → w.end - w.start ≤ n → r.end - r.start ≤ n
    → (r.more ≡ true → w.end - w.start < r.end - r.start) → left n r < left n w
left-falls n w r e small fits grown = rw e (pick r.more grown)
  where
    pick : (b : Bool) → (b ≡ true → w.end - w.start < r.end - r.start)
        → cond b (suc n - (r.end - r.start)) 0 < suc n - (w.end - w.start)
    pick true g = omega (arith, g (sym (sym e ∙ e)))
    pick false g = omega arith

pub kept_same : (w : Window) (buffer : List ℕ) → Kept buffer w buffer w
kept_same w buffer = take-take (w.end - w.start) (w.end - w.start) (drop w.start buffer) (le_refl _)

pub kept_on : (before middle after : List ℕ) (w v r : Window) → Kept before w middle v → w.end - w.start ≤ v.end - v.start → Kept middle v after r
    → Kept before w after r
kept_on before middle after w v r k le l =
    sym (take-take (w.end - w.start) (v.end - v.start) (unused r after) le) ∙ ap (λ (x : List ℕ). take (w.end - w.start) x) l ∙ k

some-came : (k r : ℕ) → ltb 0 r ≡ ltb k (k + r - 0)
some-came k r = pick (dec_lt 0 r)
  where
    pick : Dec (0 < r) → ltb 0 r ≡ ltb k (k + r - 0)
    pick (yes l) = lt-ltb 0 r l ∙ sym (lt-ltb k (k + r - 0) (omega arith))
    pick (no l) = le-ltb 0 r (omega arith) ∙ sym (le-ltb k (k + r - 0) (omega arith))

module _ (w : Window) (buffer : List ℕ) (inside : Inside w buffer) where
  -- k bytes are kept at the front of m, and up to r of those after them are read into y
  module _ (m y : List ℕ) (r : ℕ) (width : length m ≡ length buffer)
      (lent : length y ≡ length (mid_of (w.end - w.start) (length m - (w.end - w.start)) m)) (got : r ≤ length y)
      (front : take (w.end - w.start) m ≡ unused w buffer) where
    abbrev k : ℕ
    k = w.end - w.start

    abbrev after : List ℕ
    after = put_mid k (length m - k) m y

    pub refills : Refilled buffer w after (record { start = 0; end = k + r; more = ltb 0 r })
    refills =
        let o = inside.ordered in let b = inside.within in let c = inside.room in
        let e : length after ≡ length m = same_len_mid k (length m - k) m y lent in
        let f : length y ≡ length m - k = lent ∙ mid_len k (length m) m (le_refl (length m)) in
        record {
          inside = record { ordered = omega arith; within = omega arith; room = omega arith };
          kept = take-take k (k + r - 0) after (omega arith) ∙ take_put k (length m - k) m y (omega arith) ∙ front;
          no-fewer = omega arith;
          told = some-came k r;
        }
