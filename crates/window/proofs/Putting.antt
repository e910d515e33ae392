-- Lines put one after another for the bytes of a window: none yet, one more, and where it stops.
use mathlib.Core.Path.{◌≡◌, refl, sym, ap, ap₂, ◌∙◌}
use mathlib.Core.Logic.{◌⊎◌}
use mathlib.Core.Bool.{Bool, true, false, cond}
use mathlib.Core.List.{List, [], ◌++◌, append_assoc}
use Prim.Native.Nat.{ℕ, ◌+◌, ◌-◌, ◌≤◌, ◌<◌}
use native.Mathlib.Omega.{arith}
use lib.Dec.{leb}
use lib.ListN.{length, take, drop, length-drop}
use lib.Seq.{length-take-le, take-take, take-add, drop-drop, drop_at}
use borrow.Author.Tests.{le-leb, lt-leb}
use Rattle.record.specs.Line.{line_of}
use Rattle.record.specs.Record.{claimed_by}
use Rattle.text.specs.Written.{Written}
use Rattle.text.proofs.Writing.{before-end, same_length}
use Rattle.lines.specs.Lines.{starts_whole, rest_of, text_of, next_size}
use Rattle.lines.proofs.NextLine.{next_fits, next-line, next-kept, none-due}
use Rattle.window.specs.Lined.{Lined}
use Rattle.window.specs.declared.input.Window.{Window}

-- ---- the size of the next record, by the tests

module _ (more : Bool) (x : List ℕ) (c : ℕ) (claim : c ≡ claimed_by x) where
  by_whole : (b : Bool) → leb (2 + claimed_by x) (length x) ≡ b → next_size more x ≡ cond b (2 + claimed_by x) (cond more 0 (length x))
  unfolding next_size starts_whole
  by_whole b e = ap (λ (t : Bool). cond t (2 + claimed_by x) (cond more 0 (length x))) e

  pub whole-next : 2 + c ≤ length x → 2 + c ≡ next_size more x
  whole-next h = ap (λ (k : ℕ). 2 + k) claim ∙ sym (by_whole true (le-leb (2 + claimed_by x) (length x) (omega arith)))

  module _ (short : length x < 2 + c) where
    by-more : next_size more x ≡ cond more 0 (length x)
    by-more = by_whole false (lt-leb (2 + claimed_by x) (length x) (omega arith))

    pub none-next : more ≡ true → 0 ≡ next_size more x
    none-next t = sym (by-more ∙ ap (λ (m : Bool). cond m 0 (length x)) t)

    pub last-next : more ≡ false → length x ≡ next_size more x
    last-next t = sym (by-more ∙ ap (λ (m : Bool). cond m 0 (length x)) t)

-- ---- parts of the buffer

drop-take : (n m : ℕ) (l : List ℕ) → n ≤ m → m ≤ length l → drop n (take m l) ≡ take (m - n) (drop n l)
drop-take n m l h b =
    let e : m ≡ n + (m - n) = omega arith in
    ap (λ (k : ℕ). drop n (take k l)) e ∙ ap (drop n) (take-add n (m - n) l) ∙
    drop_at (take n l) (take (m - n) (drop n l)) n (length-take-le n l (omega arith))

module _ (buffer : List ℕ) (end : ℕ) (more : Bool) (first : ℕ) where
  -- the bytes from `start` up to the end of the window
  abbrev part : ℕ → List ℕ
  part start = take (end - start) (drop start buffer)

  -- the lines put so far for the bytes from `first` to `start`
  pub record Putting (out : List ℕ) (start used : ℕ) : Type 0 where
    pub after : first ≤ start
    pub within : start ≤ end
    pub fits : used ≤ length out
    pub lines : text_of more (part first) ≡ take used out ++ text_of more (part start)
    pub rest : more ≡ true → rest_of (part first) ≡ rest_of (part start)

  pub putting_none : (out : List ℕ) → first ≤ end → Putting out first 0
  putting_none out h = record { after = omega arith; within = h; fits = omega arith; lines = refl; rest = λ t. refl }

  module _ (inside : end ≤ length buffer) (out : List ℕ) (start used : ℕ) (now : Putting out start used) where
    width : length (part start) ≡ end - start
    width = let w = now.within in length-take-le (end - start) (drop start buffer) (omega (arith, length-drop start buffer))

    module _ (n : ℕ) (next : n ≡ next_size more (part start)) where
      pub next-within : start + n ≤ end
      next-within = let w = now.within in omega (arith, width, next_fits more (part start))

      -- the record, and the bytes after it
      record_part : take (start + n - start) (drop start buffer) ≡ take n (part start)
      record_part =
          let b = next-within in
          ap (λ (k : ℕ). take k (drop start buffer)) (let e : start + n - start ≡ n = omega arith in e) ∙
          sym (take-take n (end - start) (drop start buffer) (omega arith))

      later-part : drop n (part start) ≡ part (start + n)
      later-part =
          let b = next-within in
          drop-take n (end - start) (drop start buffer) (omega arith) (omega (arith, length-drop start buffer)) ∙
          ap₂ take (let e : end - start - n ≡ end - (start + n) = omega arith in e) (drop-drop n start buffer)

      pub putting_more : 0 < n → (after : List ℕ) (end' : ℕ) → Written out used (line_of (take (start + n - start) (drop start buffer))) after end'
          → end' ≤ length out → Putting after (start + n) end'
      putting_more some after end' w room =
          record {
            after = let a = now.after in omega arith;
            within = next-within;
            fits = omega (arith, same_length out used _ after end' w room);
            lines =
                now.lines ∙ ap (λ (t : List ℕ). take used out ++ t) following ∙
                sym (append_assoc (take used out) (line_of (take n (part start))) (text_of more (part (start + n)))) ∙
                ap (λ (t : List ℕ). t ++ text_of more (part (start + n))) (sym put);
            rest = λ t. now.rest t ∙ next-kept more (part start) t ∙ ap rest_of (ap (λ (k : ℕ). drop k (part start)) (sym next) ∙ later-part);
          }
        where
          put : take end' after ≡ take used out ++ line_of (take n (part start))
          put = before-end out used _ after end' w room ∙ ap (λ (r : List ℕ). take used out ++ line_of r) record_part

          following : text_of more (part start) ≡ line_of (take n (part start)) ++ text_of more (part (start + n))
          following =
              next-line more (part start) (omega (arith, next)) ∙
              ap (λ (k : ℕ). line_of (take k (part start)) ++ text_of more (drop k (part start))) (sym next) ∙
              ap (λ (y : List ℕ). line_of (take n (part start)) ++ text_of more y) later-part

      pub due-none : n ≡ 0 → text_of more (part start) ≡ []
      due-none h = none-due more (part start) (sym next ∙ h)

-- ---- where it stops

module _ (buffer : List ℕ) (w : Window) (out : List ℕ) (start used : ℕ) (now : Putting buffer w.end w.more w.start out start used) where
  pub stopped : (text_of w.more (part buffer w.end w.more w.start start) ≡ []) ⊎ (length out < used + 1024)
      → Lined buffer w out (record { start = start; used = used })
  stopped stop =
      record { after = now.after; within = now.within; fits = now.fits; lines = now.lines; rest = now.rest; stops = stop }
