-- There is one way to cut an input into whole records and a rest, so that what is cut piece by piece is what is cut at once; and the line of a rest.
use mathlib.Core.Path.{◌≡◌, refl, sym, ap, ap₂, ◌∙◌}
use mathlib.Core.Logic.{inl, inr}
use mathlib.Core.Bool.{Bool, true, false, cond, ◌&&◌, false≢true}
use mathlib.Core.List.{List, [], ◌∷◌, ◌++◌, append_assoc, append-nil}
use Prim.Native.Nat.{ℕ, zero, suc, ◌+◌, ◌*◌, ◌%◌, ◌≤◌, ◌<◌}
use native.Mathlib.Nat.{le_refl}
use native.Mathlib.Decide.{dec_lt}
use native.Mathlib.Omega.{arith}
use lib.Dec.{leb, eqb}
use lib.ListN.{length, take, drop, length-append, length-drop, take-append-drop, get_or-append}
use lib.Seq.{length-take-le, take_at, drop_at, get_or-take}
use borrow.Author.Tests.{le-leb, lt-leb, leb-true, leb-false, ne_eqb}
use Rattle.lists.specs.Tabulate.{joined}
use Rattle.reader.specs.Fields.{field_of}
use Rattle.text.specs.Line.{refusal_line}
use Rattle.record.specs.Line.{line_of}
use Rattle.record.specs.Record.{claimed_by, is_whole}
use Rattle.record.proofs.Parsing.{broken-line}
use Rattle.lines.specs.Lines.{starts_whole, wholes_up_to, rest_up_to, wholes_of, rest_of, lines_of_all, whole_lines, last_line_of, lines_of}
use Rattle.lines.specs.Streams.{IsWhole, EndsInside, AllWhole, Cut, written_after, Streams}

-- ---- the length of a record, and whether it is all there

pub claimed_said : (x : List ℕ) → 2 ≤ length x → claimed_by x ≡ field_of x 0
unfolding claimed_by
claimed_said x h = ap (λ (b : Bool). cond b (field_of x 0) 0) (le-leb 2 (length x) h)

length-said : (w z : List ℕ) → 2 ≤ length w → field_of (w ++ z) 0 ≡ field_of w 0
unfolding field_of
length-said w z h = ap₂ (λ (a b : ℕ). a + 256 * b) (get_or-append w z 0 0 (omega arith)) (get_or-append w z 0 1 (omega arith))

pub length-kept : (n : ℕ) (x : List ℕ) → 2 ≤ n → field_of (take n x) 0 ≡ field_of x 0
unfolding field_of
length-kept n x h = ap₂ (λ (a b : ℕ). a + 256 * b) (get_or-take n x 0 0 (omega arith)) (get_or-take n x 1 0 (omega arith))

-- what stands after a whole record has no say in its length
claimed_first : (w z : List ℕ) → IsWhole w → 2 + claimed_by (w ++ z) ≡ length w
claimed_first w z (two, all) =
    let l = length-append w z in
    let c = claimed_said (w ++ z) (omega arith) in
    let s = length-said w z two in
    omega arith

starts-whole : (w z : List ℕ) → IsWhole w → starts_whole (w ++ z) ≡ true
unfolding starts_whole
starts-whole w z i = le-leb (2 + claimed_by (w ++ z)) (length (w ++ z)) (omega (arith, claimed_first w z i, length-append w z))

pub ends-inside : (r : List ℕ) → starts_whole r ≡ false → EndsInside r
unfolding starts_whole
ends-inside r e = pick (dec_lt (length r) 2)
  where
    short : length r < 2 + claimed_by r
    short = leb-false _ _ e

    pick : Dec (length r < 2) → EndsInside r
    pick (yes l) = inl l
    pick (no l) = inr (omega (arith, short, claimed_said r (omega arith)))

ends-short : (r : List ℕ) → EndsInside r → length r < 2 + claimed_by r
ends-short r (inl l) = omega arith
ends-short r (inr l) = pick (dec_lt (length r) 2)
  where
    pick : Dec (length r < 2) → length r < 2 + claimed_by r
    pick (yes h) = omega arith
    pick (no h) = omega (arith, l, claimed_said r (omega arith))

pub starts_none : (r : List ℕ) → EndsInside r → starts_whole r ≡ false
unfolding starts_whole
starts_none r i = lt-leb (2 + claimed_by r) (length r) (ends-short r i)

-- ---- one cut

same-cut : (ws vs : List (List ℕ)) (r q : List ℕ) → AllWhole ws → AllWhole vs → EndsInside r → EndsInside q → joined ws ++ r ≡ joined vs ++ q
    → (ws ≡ vs) × (r ≡ q)
unfolding joined
same-cut [] [] r q a b i j e = (refl, e)
same-cut [] (v ∷ vs) r q a b i j e =
    absurd (false≢true (sym (starts_none r i) ∙ ap starts_whole (e ∙ append_assoc v (joined vs) q) ∙ starts-whole v (joined vs ++ q) b.0))
same-cut (w ∷ ws) [] r q a b i j e =
    absurd (false≢true (sym (starts_none q j) ∙ ap starts_whole (sym e ∙ append_assoc w (joined ws) r) ∙ starts-whole w (joined ws ++ r) a.0))
same-cut (w ∷ ws) (v ∷ vs) r q (a, as') (b, bs) i j e =
    let whole : w ++ (joined ws ++ r) ≡ v ++ (joined vs ++ q) = sym (append_assoc w (joined ws) r) ∙ e ∙ append_assoc v (joined vs) q in
    let n : length w ≡ length v = sym (claimed_first w (joined ws ++ r) a) ∙ ap (λ (x : List ℕ). 2 + claimed_by x) whole ∙ claimed_first v (joined vs ++ q) b in
    let heads : w ≡ v = sym (take_at w (joined ws ++ r) (length v) n) ∙ ap (take (length v)) whole ∙ take_at v (joined vs ++ q) (length v) refl in
    let tails : joined ws ++ r ≡ joined vs ++ q =
    sym (drop_at w (joined ws ++ r) (length v) n) ∙ ap (drop (length v)) whole ∙ drop_at v (joined vs ++ q) (length v) refl in
    let later = same-cut ws vs r q as' bs i j tails in
    (ap₂ ◌∷◌ heads later.0, later.1)

none-cut : (x : List ℕ) → starts_whole x ≡ false → Cut x [] x
unfolding joined
none-cut x e = record { parts = refl; wholes = tt; rest = ends-inside x e }

more_cut : (x : List ℕ) → starts_whole x ≡ true → (ws : List (List ℕ)) (r : List ℕ) → Cut (drop (2 + claimed_by x) x) ws r
    → Cut x (take (2 + claimed_by x) x ∷ ws) r
unfolding joined starts_whole
more_cut x e ws r c =
    let fits : 2 + claimed_by x ≤ length x = leb-true _ _ e in
    let got = length-take-le (2 + claimed_by x) x fits in
    record {
      parts =
          append_assoc (take (2 + claimed_by x) x) (joined ws) r ∙ ap (λ (y : List ℕ). take (2 + claimed_by x) x ++ y) c.parts ∙
          take-append-drop (2 + claimed_by x) x;
      wholes =
          ((omega arith, omega (arith, length-kept (2 + claimed_by x) x (omega arith), claimed_said x (omega arith))), c.wholes);
      rest = c.rest;
    }

cut-up-to : (k : ℕ) (x : List ℕ) → length x ≤ k → Cut x (wholes_up_to k x) (rest_up_to k x)
unfolding wholes_up_to rest_up_to joined
cut-up-to zero x h = record { parts = refl; wholes = tt; rest = inl (omega arith) }
cut-up-to (suc k) x h = pick (starts_whole x) refl (cut-up-to k (drop (2 + claimed_by x) x) (omega (arith, length-drop (2 + claimed_by x) x)))
  where
    W : List (List ℕ)
    W = wholes_up_to k (drop (2 + claimed_by x) x)

    R : List ℕ
    R = rest_up_to k (drop (2 + claimed_by x) x)

    pick : (b : Bool) → starts_whole x ≡ b → Cut (drop (2 + claimed_by x) x) W R
        → Cut x (cond b (take (2 + claimed_by x) x ∷ W) []) (cond b R x)
    pick true e c = more_cut x e W R c
    pick false e c = none-cut x e

cut : (x : List ℕ) → Cut x (wholes_of x) (rest_of x)
unfolding wholes_of rest_of
cut x = cut-up-to (length x) x (le_refl (length x))

only : (x : List ℕ) (ws : List (List ℕ)) (r : List ℕ) → Cut x ws r → (ws ≡ wholes_of x) × (r ≡ rest_of x)
only x ws r c =
    let d = cut x in
    same-cut ws (wholes_of x) r (rest_of x) c.wholes d.wholes c.rest d.rest (c.parts ∙ sym d.parts)

-- ---- lines one after the other

lines_more : (w : List ℕ) (ws : List (List ℕ)) → lines_of_all (w ∷ ws) ≡ line_of w ++ lines_of_all ws
unfolding lines_of_all joined
lines_more w ws = refl

lines_none : lines_of_all [] ≡ []
unfolding lines_of_all joined
lines_none = refl

lines-append : (ws vs : List (List ℕ)) → lines_of_all (ws ++ vs) ≡ lines_of_all ws ++ lines_of_all vs
lines-append [] vs = ap (λ (t : List ℕ). t ++ lines_of_all vs) (sym lines_none)
lines-append (w ∷ ws) vs =
    lines_more w (ws ++ vs) ∙ ap (λ (t : List ℕ). line_of w ++ t) (lines-append ws vs) ∙ sym (append_assoc (line_of w) (lines_of_all ws) (lines_of_all vs)) ∙
    ap (λ (t : List ℕ). t ++ lines_of_all vs) (sym (lines_more w ws))

-- the line of the first record, and those of the rest; none where no whole record is there
pub first-line : (x : List ℕ) → starts_whole x ≡ true
    → (whole_lines x ≡ line_of (take (2 + claimed_by x) x) ++ whole_lines (drop (2 + claimed_by x) x)) × (rest_of x ≡ rest_of (drop (2 + claimed_by x) x))
unfolding whole_lines
first-line x e =
    let y : List ℕ = drop (2 + claimed_by x) x in
    let same = only x (take (2 + claimed_by x) x ∷ wholes_of y) (rest_of y) (more_cut x e (wholes_of y) (rest_of y) (cut y)) in
    (ap lines_of_all (sym same.0) ∙ lines_more (take (2 + claimed_by x) x) (wholes_of y), sym same.1)

pub no_line : (x : List ℕ) → starts_whole x ≡ false → (whole_lines x ≡ []) × (rest_of x ≡ x)
unfolding whole_lines
no_line x e =
    let same = only x [] x (none-cut x e) in
    (ap lines_of_all (sym same.0) ∙ lines_none, sym same.1)

-- ---- pieces

joined-append : (ws vs : List (List ℕ)) → joined (ws ++ vs) ≡ joined ws ++ joined vs
unfolding joined
joined-append [] vs = refl
joined-append (w ∷ ws) vs = ap (λ (x : List ℕ). w ++ x) (joined-append ws vs) ∙ sym (append_assoc w (joined ws) (joined vs))

all_append : (ws vs : List (List ℕ)) → AllWhole ws → AllWhole vs → AllWhole (ws ++ vs)
all_append [] vs a b = b
all_append (w ∷ ws) vs (i, a) b = (i, all_append ws vs a b)

module _ (x y : List ℕ) where
  piecewise : Cut (x ++ y) (wholes_of x ++ wholes_of (rest_of x ++ y)) (rest_of (rest_of x ++ y))
  piecewise =
      let c = cut x in let d = cut (rest_of x ++ y) in
      record {
        parts =
            ap (λ (z : List ℕ). z ++ rest_of (rest_of x ++ y)) (joined-append (wholes_of x) (wholes_of (rest_of x ++ y))) ∙
            append_assoc (joined (wholes_of x)) (joined (wholes_of (rest_of x ++ y))) (rest_of (rest_of x ++ y)) ∙
            ap (λ (z : List ℕ). joined (wholes_of x) ++ z) d.parts ∙ sym (append_assoc (joined (wholes_of x)) (rest_of x) y) ∙
            ap (λ (z : List ℕ). z ++ y) c.parts;
        wholes = all_append (wholes_of x) (wholes_of (rest_of x ++ y)) c.wholes d.wholes;
        rest = d.rest;
      }

  pub pieces : whole_lines (x ++ y) ≡ whole_lines x ++ whole_lines (rest_of x ++ y)
  unfolding whole_lines
  pieces =
      ap lines_of_all (sym (only (x ++ y) _ _ piecewise).0) ∙ lines-append (wholes_of x) (wholes_of (rest_of x ++ y))

  pub rest_of_pieces : rest_of (x ++ y) ≡ rest_of (rest_of x ++ y)
  rest_of_pieces = sym (only (x ++ y) _ _ piecewise).1

  pub last_piece : lines_of (x ++ y) ≡ whole_lines x ++ lines_of (rest_of x ++ y)
  unfolding lines_of
  last_piece =
      ap₂ (λ (t u : List ℕ). t ++ last_line_of u) pieces rest_of_pieces ∙
      append_assoc (whole_lines x) (whole_lines (rest_of x ++ y)) (last_line_of (rest_of (rest_of x ++ y)))

all_after : (x : List ℕ) (ps : List (List ℕ)) → written_after x ps ≡ lines_of (x ++ joined ps)
unfolding written_after joined
all_after x [] = ap lines_of (sym (append-nil x))
all_after x (p ∷ ps) =
    ap (λ (t : List ℕ). whole_lines (x ++ p) ++ t) (all_after (rest_of (x ++ p)) ps) ∙ sym (last_piece (x ++ p) (joined ps)) ∙
    ap lines_of (append_assoc x p (joined ps))

-- ---- the end of the input

pub not-all : (r : List ℕ) → EndsInside r → false ≡ is_whole r
unfolding is_whole
not-all r i =
    sym (ap (λ (b : Bool). leb 2 (claimed_by r) && (eqb (claimed_by r % 2) 0 && b))
    (ne_eqb (length r) (2 + claimed_by r) (λ e. let h = ends-short r i in let z : ⊥ = omega arith in z)) ∙ never (leb 2 (claimed_by r)) (eqb (claimed_by r % 2) 0))
  where
    never : (a b : Bool) → (a && (b && false)) ≡ false
    never true true = refl
    never true false = refl
    never false b = refl

pub rest-line : (r : List ℕ) → EndsInside r → line_of r ≡ refusal_line 9
rest-line r i = sym (broken-line r false (not-all r i) refl)

pub ended : (x : List ℕ) → rest_of x ≡ [] → lines_of x ≡ whole_lines x
unfolding lines_of
ended x e = ap (λ (r : List ℕ). whole_lines x ++ last_line_of r) e ∙ append-nil (whole_lines x)

ended-inside : (x : List ℕ) → (rest_of x ≡ [] → ⊥) → lines_of x ≡ whole_lines x ++ refusal_line 9
unfolding lines_of
ended-inside x n = pick (rest_of x) n
  where
    pick : (r : List ℕ) → (r ≡ [] → ⊥) → whole_lines x ++ last_line_of r ≡ whole_lines x ++ refusal_line 9
    pick [] m = absurd (m refl)
    pick (b ∷ bs) m = refl

pub streams : Streams
streams =
    record {
      cut = cut;
      only = only;
      none = lines_none;
      more = lines_more;
      done = ended;
      cut_short = λ x n. (ended-inside x n, rest-line (rest_of x) (cut x).rest);
      pieces = pieces;
      rest_of_pieces = rest_of_pieces;
      last_piece = last_piece;
      all-pieces = all_after [];
    }
