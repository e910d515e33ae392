-- Texts written one after another into a buffer: nothing, a byte, one text after another; the buffer keeps its length.
use mathlib.Core.Path.{◌≡◌, refl, sym, ap, ◌∙◌, subst}
use mathlib.Core.List.{List, [], ◌∷◌, ◌++◌, append_assoc}
use Prim.Native.Nat.{ℕ, ◌+◌, ◌≤◌, ◌<◌}
use native.Mathlib.Nat.{add-zero}
use native.Mathlib.Numerals.{add-one}
use native.Mathlib.Omega.{arith}
use lib.ListN.{length, take, drop, set, length-append, length-drop, take-append-drop}
use lib.Seq.{length-take-le, take_at, drop_at, drop-drop, set_split}
use Rattle.text.specs.Written.{Written}

module _ (l : List ℕ) (at : ℕ) where
  pub written-nothing : Written l at [] l at
  written-nothing = record { place = sym (add-zero at); bytes = sym (take-append-drop at l) }

  pub written_byte : (b : ℕ) → at < length l → Written l at (b ∷ []) (set l at b) (at + 1)
  written_byte b h = record { place = refl; bytes = rw (add-one, set_split) refl }

  pub written_as : (s t m : List ℕ) (e : ℕ) → s ≡ t → Written l at s m e → Written l at t m e
  written_as s t m e p w = subst (λ (x : List ℕ). Written l at x m e) p w

  -- the line of another text that is the same
  pub line_as : (s t m : List ℕ) (e : ℕ) → s ≡ t → Written l at s m e × (e ≤ at + 1024) → Written l at t m e × (e ≤ at + 1024)
  line_as s t m e p (w, short) = (written_as s t m e p w, short)

  -- what stands before the end of a text, and what stands after it
  module _ (s m : List ℕ) (e : ℕ) (w : Written l at s m e) (fits : e ≤ length l) where
    head-length : length (take at l ++ s) ≡ e
    head-length = let p = w.place in let q : length (take at l) ≡ at = length-take-le at l (omega arith) in simp length-append (omega arith)

    split : m ≡ (take at l ++ s) ++ drop e l
    split = w.bytes ∙ sym (append_assoc (take at l) s (drop e l))

    pub before-end : take e m ≡ take at l ++ s
    before-end = ap (take e) split ∙ take_at (take at l ++ s) (drop e l) e head-length

    after-end : drop e m ≡ drop e l
    after-end = ap (drop e) split ∙ drop_at (take at l ++ s) (drop e l) e head-length

    pub same_length : length m ≡ length l
    same_length = let h = head-length in ap length split ∙ simp (length-append (take at l ++ s), length-drop) (omega arith)

    pub written_then : (t n : List ℕ) (f : ℕ) → Written m e t n f → Written l at (s ++ t) n f
    written_then t n f v =
        record {
          place = let p = w.place in let q = v.place in simp length-append (omega arith);
          bytes =
              v.bytes ∙ ap (λ (x : List ℕ). x ++ (t ++ drop f m)) before-end ∙
              append_assoc (take at l) s (t ++ drop f m) ∙
              ap (λ (x : List ℕ). take at l ++ (s ++ (t ++ x))) rest ∙
              ap (λ (x : List ℕ). take at l ++ x) (sym (append_assoc s t (drop f l)));
        }
      where
        rest : drop f m ≡ drop f l
        rest = ap (λ (k : ℕ). drop k m) v.place ∙ sym (drop-drop (length t) e m) ∙ ap (drop (length t)) after-end ∙ drop-drop (length t) e l
            ∙ ap (λ (k : ℕ). drop k l) (sym v.place)
