-- Turns one after the other are like one turn in which all of it comes: what is to be written for all that came is what is handed over, and then what is to be
-- written for the bytes that are left. At the end nothing is left.
use mathlib.Core.Path.{◌≡◌, refl, sym, ap, ap₂, subst, ◌∙◌}
use mathlib.Core.Bool.{Bool, true, false, false≢true}
use mathlib.Core.List.{List, [], ◌∷◌, ◌++◌, append_assoc, append-nil}
use Prim.Native.Nat.{ℕ}
use Rattle.lists.specs.Tabulate.{joined}
use Rattle.lines.specs.Lines.{rest_of, whole_lines, text_of}
use Rattle.lines.specs.Runs.{Turn, Step, Turns, came_in, handed_in, Runs, AtAnyTurn}
use Rattle.lines.proofs.NextLine.{no_input}
use Rattle.lines.proofs.Streams.{pieces, rest_of_pieces, last_piece}

-- one turn more
pub turns-on : (ss : List Step) (x : List ℕ) (more : Bool) (y : List ℕ) (still : Bool) → Turns x more ss y still → (s : Step)
    → Turn y still s.came s.handed s.left s.still → Turns x more (ss ++ (s ∷ [])) s.left s.still
turns-on [] x more y still (e, d) s t =
    let after : Turn x more s.came s.handed s.left s.still = rw (e, d) t in
    (after, (refl, refl))
turns-on (r ∷ ss) x more y still (u, l) s t = (u, turns-on ss r.left r.still y still l s t)

pub handed-on : (ss : List Step) (s : Step) → handed_in (ss ++ (s ∷ [])) ≡ handed_in ss ++ s.handed
unfolding joined
handed-on [] s = append-nil s.handed
handed-on (r ∷ ss) s = ap (λ (t : List ℕ). r.handed ++ t) (handed-on ss s) ∙ sym (append_assoc r.handed (handed_in ss) s.handed)

-- after the end of the input nothing comes, and it stays ended
none-comes : (ss : List Step) (x y : List ℕ) (still : Bool) → Turns x false ss y still → (came_in ss ≡ []) × (still ≡ false)
unfolding joined
none-comes [] x y still r = (refl, sym r.1)
none-comes (s ∷ ss) x y still (t, r) =
    let e = t.ended refl in
    let later = none-comes ss s.left y still (subst (λ (b : Bool). Turns s.left b ss y still) e.1 r) in
    (ap₂ ◌++◌ e.0 later.0, later.1)

-- what is to be written for two pieces, whether or not more may come after them
text_of_pieces : (still : Bool) (x later : List ℕ) → text_of still (x ++ later) ≡ whole_lines x ++ text_of still (rest_of x ++ later)
unfolding text_of
text_of_pieces true x later = pieces x later
text_of_pieces false x later = last_piece x later

-- a turn, and the bytes that come later, where more may come after it, and where nothing does
module _ (x : List ℕ) (more : Bool) (c t y later : List ℕ) where
  more-text : (still : Bool) → Turn x more c t y true → text_of still (x ++ (c ++ later)) ≡ t ++ text_of still (y ++ later)
  unfolding text_of
  more-text still u =
      ap (text_of still) (sym (append_assoc x c later)) ∙ text_of_pieces still (x ++ c) later ∙
      ap₂ (λ (a r : List ℕ). a ++ text_of still (r ++ later)) u.lines (u.rest refl) ∙
      append_assoc t (whole_lines y) (text_of still (rest_of y ++ later)) ∙ ap (λ (a : List ℕ). t ++ a) (sym (text_of_pieces still y later))

  more-rest : Turn x more c t y true → rest_of (x ++ (c ++ later)) ≡ rest_of (y ++ later)
  more-rest u =
      ap rest_of (sym (append_assoc x c later)) ∙ rest_of_pieces (x ++ c) later ∙
      ap (λ (r : List ℕ). rest_of (r ++ later)) (u.rest refl) ∙ sym (rest_of_pieces y later)

  last-text : (still : Bool) → (later ≡ []) × (still ≡ false) → Turn x more c t y false → text_of still (x ++ (c ++ later)) ≡ t ++ text_of still (y ++ later)
  last-text still (e, d) u =
      ap₂ (λ (b : Bool) (l : List ℕ). text_of b (x ++ (c ++ l))) d e ∙ ap (λ (l : List ℕ). text_of false (x ++ l)) (append-nil c) ∙ u.lines ∙
      ap (λ (l : List ℕ). t ++ text_of false l) (sym (append-nil y)) ∙ ap₂ (λ (b : Bool) (l : List ℕ). t ++ text_of b (y ++ l)) (sym d) (sym e)

text-after : (ss : List Step) (x : List ℕ) (more : Bool) (y : List ℕ) (still : Bool) → Turns x more ss y still
    → text_of still (x ++ came_in ss) ≡ handed_in ss ++ text_of still y
unfolding joined
text-after [] x more y still (e, d) = ap (text_of still) (append-nil x ∙ e)
text-after (s ∷ ss) x more y still (t, r) =
    first s.still t r ∙ ap (λ (l : List ℕ). s.handed ++ l) (text-after ss s.left s.still y still r) ∙
    sym (append_assoc s.handed (handed_in ss) (text_of still y))
  where
    first : (b : Bool) → Turn x more s.came s.handed s.left b → Turns s.left b ss y still
        → text_of still (x ++ (s.came ++ came_in ss)) ≡ s.handed ++ text_of still (s.left ++ came_in ss)
    first true u l = more-text x more s.came s.handed s.left (came_in ss) still u
    first false u l = last-text x more s.came s.handed s.left (came_in ss) still (none-comes ss s.left y still l) u

rest-after : (ss : List Step) (x : List ℕ) (more : Bool) (y : List ℕ) (still : Bool) → Turns x more ss y still → still ≡ true
    → rest_of (x ++ came_in ss) ≡ rest_of y
unfolding joined
rest-after [] x more y still (e, d) h = ap rest_of (append-nil x ∙ e)
rest-after (s ∷ ss) x more y still (t, r) h = first s.still t r ∙ rest-after ss s.left s.still y still r h
  where
    first : (b : Bool) → Turn x more s.came s.handed s.left b → Turns s.left b ss y still
        → rest_of (x ++ (s.came ++ came_in ss)) ≡ rest_of (s.left ++ came_in ss)
    first true u l = more-rest x more s.came s.handed s.left (came_in ss) u
    first false u l = absurd (false≢true (sym (none-comes ss s.left y still l).1 ∙ h))

pub at_any_turn : AtAnyTurn
at_any_turn ss y still r = record { lines = text-after ss [] true y still r; rest = rest-after ss [] true y still r }

pub runs : Runs
unfolding text_of
runs ss r = sym ((at_any_turn ss [] false r).lines ∙ ap (λ (t : List ℕ). handed_in ss ++ t) no_input ∙ append-nil (handed_in ss))
