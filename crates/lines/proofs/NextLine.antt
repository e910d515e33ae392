-- The next line that is due, by whether more input may come: what is written for the bytes at hand is the line of the next record, and then what is written
-- for the bytes after it.
use mathlib.Core.Path.{◌≡◌, refl, sym, ap, ap₂, ◌∙◌}
use mathlib.Core.Logic.{inl}
use mathlib.Core.Bool.{Bool, true, false, cond, false≢true}
use mathlib.Core.List.{List, [], ◌∷◌, ◌++◌, append_assoc, append-nil}
use Prim.Native.Nat.{ℕ, ◌+◌, ◌≤◌, ◌<◌}
use native.Mathlib.Nat.{le_refl}
use native.Mathlib.Omega.{arith}
use lib.ListN.{length, take, drop}
use lib.Seq.{take-length, drop-length}
use borrow.Author.Tests.{leb-true}
use Rattle.text.specs.Line.{refusal_line}
use Rattle.record.specs.Line.{line_of}
use Rattle.record.specs.Record.{claimed_by}
use Rattle.lines.specs.Lines.{starts_whole, rest_of, whole_lines, last_line_of, lines_of, text_of, next_size}
use Rattle.lines.proofs.Streams.{ends-inside, starts_none, first-line, no_line, rest-line}

-- the sizes that are tested for
abbrev size_by : (whole more : Bool) → List ℕ → ℕ
size_by whole more x = cond whole (2 + claimed_by x) (cond more 0 (length x))

fits : (b m : Bool) (x : List ℕ) → starts_whole x ≡ b → size_by b m x ≤ length x
unfolding starts_whole
fits true m x e = leb-true (2 + claimed_by x) (length x) e
fits false true x e = omega arith
fits false false x e = le_refl (length x)

pub next_fits : (more : Bool) (x : List ℕ) → next_size more x ≤ length x
unfolding next_size
next_fits more x = fits (starts_whole x) more x refl

pub no_input : lines_of [] ≡ []
unfolding lines_of
no_input = let none = no_line [] (starts_none [] (inl (omega arith))) in ap₂ (λ (t r : List ℕ). t ++ last_line_of r) none.0 none.1

last_line : (x : List ℕ) → starts_whole x ≡ false → 0 < length x → lines_of x ≡ line_of x
unfolding lines_of
last_line x e h =
    let none = no_line x e in
    ap₂ (λ (t r : List ℕ). t ++ last_line_of r) none.0 none.1 ∙ some x h ∙ sym (rest-line x (ends-inside x e))
  where
    some : (y : List ℕ) → 0 < length y → last_line_of y ≡ refusal_line 9
    some [] l = absurd (let z : ⊥ = omega arith in z)
    some (b ∷ bs) l = refl

-- the next line and what comes after it
abbrev Next : (more : Bool) (x : List ℕ) (n : ℕ) → Type 0
Next more x n = text_of more x ≡ line_of (take n x) ++ text_of more (drop n x)

next : (b m : Bool) (x : List ℕ) → starts_whole x ≡ b → 0 < size_by b m x → Next m x (size_by b m x)
unfolding text_of lines_of
next true true x e h = (first-line x e).0
next true false x e h =
    let first = first-line x e in
    ap₂ (λ (t r : List ℕ). t ++ last_line_of r) first.0 first.1 ∙
    append_assoc (line_of (take (2 + claimed_by x) x)) (whole_lines (drop (2 + claimed_by x) x)) (last_line_of (rest_of (drop (2 + claimed_by x) x)))
next false true x e h = absurd (let z : ⊥ = omega arith in z)
next false false x e h =
    last_line x e h ∙ sym (ap₂ (λ (y z : List ℕ). line_of y ++ lines_of z) (take-length x) (drop-length x) ∙ none)
  where
    none : line_of x ++ lines_of [] ≡ line_of x
    none = ap (λ (t : List ℕ). line_of x ++ t) no_input ∙ append-nil (line_of x)

pub next-line : (more : Bool) (x : List ℕ) → 0 < next_size more x → Next more x (next_size more x)
unfolding next_size
next-line more x h = next (starts_whole x) more x refl h

kept : (b m : Bool) (x : List ℕ) → starts_whole x ≡ b → m ≡ true → rest_of x ≡ rest_of (drop (size_by b m x) x)
kept true m x e t = (first-line x e).1
kept false true x e t = refl
kept false false x e t = absurd (false≢true t)

-- while more may come, the bytes of a record that is not all there are kept
pub next-kept : (more : Bool) (x : List ℕ) → more ≡ true → rest_of x ≡ rest_of (drop (next_size more x) x)
unfolding next_size
next-kept more x t = kept (starts_whole x) more x refl t

due : (b m : Bool) (x : List ℕ) → starts_whole x ≡ b → size_by b m x ≡ 0 → text_of m x ≡ []
unfolding text_of
due true m x e h = absurd (let z : ⊥ = omega arith in z)
due false true x e h = (no_line x e).0
due false false [] e h = no_input
due false false (b ∷ bs) e h = absurd (let z : ⊥ = omega arith in z)

pub none-due : (more : Bool) (x : List ℕ) → next_size more x ≡ 0 → text_of more x ≡ []
unfolding next_size
none-due more x h = due (starts_whole x) more x refl h
