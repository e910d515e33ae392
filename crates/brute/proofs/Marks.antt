-- Marks written one after the other.
use Rattle.std.proofs.Common.{◌≡◌, ℕ, ◌+◌, ◌<◌, ◌≤◌, Bool, true, false, ◌⊎◌, ◌↔◌, List, length, get_or, set, sym, refl, ap, ◌∙◌, subst, inl, inr, arith, length-set, get_or-set_other, get_or-set_same}
use native.Mathlib.Decide.{ℕ_discrete}
use mir.Val.{bool_byte}
use Rattle.plain.specs.Plain.{Tells}
use Rattle.brute.proofs.Naming.{still-determined, still-solved}
use Rattle.elimination.specs.Equations.{Numbers, SolvesRows}
use Rattle.brute.specs.Locating.{Determined, Marked, MarkedRoots, Named, RootAt}

marked-none : (l : List ℕ) → Marked l l 0
marked-none l = record { size = refl; marks = λ k less. absurd (let z : ⊥ = omega arith in z); after = λ k le. refl }

byte : (b : Bool) → (bool_byte b ≡ 0) ⊎ (bool_byte b ≡ 1)
byte true = inr refl
byte false = inl refl

-- a mark is 1 exactly where its flag is set
byte-told : {P : Type 0} (b : Bool) → Tells b P → (bool_byte b ≡ 1) ↔ P
byte-told true t = (λ e. t.yes refl, λ h. refl)
byte-told false t = (λ e. absurd (let z : ⊥ = omega arith in z), λ h. absurd (t.no refl h))

module _ (i : ℕ) (b : Bool) (old new next : List ℕ) (w : Marked old new i) (e : next ≡ set new i (bool_byte b)) where
  other : (k : ℕ) → (k ≡ i → ⊥) → get_or next k 0 ≡ get_or new k 0
  other k n = ap (λ (l : List ℕ). get_or l k 0) e ∙ get_or-set_other new i k (bool_byte b) 0 n

  here : i < length old → get_or next i 0 ≡ bool_byte b
  here room = ap (λ (l : List ℕ). get_or l i 0) e ∙ get_or-set_same new i (bool_byte b) 0 (let s = w.size in omega arith)

  marked_more : Marked old next (i + 1)
  marked_more = record {
    size = ap length e ∙ length-set new i (bool_byte b) ∙ w.size;
    marks = λ k less room. at k less room (ℕ_discrete k i);
    after = λ k le. other k (omega arith) ∙ w.after k (omega arith);
  }
    where
      Mark : ℕ → Type 0
      Mark x = (x ≡ 0) ⊎ (x ≡ 1)

      at : (k : ℕ) → k < i + 1 → k < length old → Dec (k ≡ i) → Mark (get_or next k 0)
      at k less room (yes q) = subst Mark (sym (ap (λ (m : ℕ). get_or next m 0) q ∙ here (omega arith))) (byte b)
      at k less room (no q) = subst Mark (sym (other k q)) (w.marks k (omega arith) room)

-- the first i columns are marked, and the rows are those of `begin`
pub record MarkedTo (n : ℕ) (begin table : List ℕ) (old new : List ℕ) (i : ℕ) : Type 0 where
  pub size : length table ≡ length begin
  pub kept : Determined n begin → (m : ℕ) → n ≤ m → get_or table m 0 ≡ get_or begin m 0
  pub marks : MarkedRoots n begin old new i

pub marked_begin : (n : ℕ) (begin old : List ℕ) → MarkedTo n begin begin old old 0
marked_begin n begin old = record {
  size = refl;
  kept = λ d m le. refl;
  marks = record { marked = marked-none old; roots = λ d t numbers s i less. absurd (let z : ⊥ = omega arith in z) };
}

module _ (n : ℕ) (begin table after : List ℕ) (old new next : List ℕ) (i : ℕ) (b : Bool) (w : MarkedTo n begin table old new i)
    (named : Named n i table after b) (e : next ≡ set new i (bool_byte b)) where
  marked : Marked old new i
  marked = w.marks.marked

  held : Determined n begin → Determined n table
  held d = still-determined n begin table w.size d.room.most (w.kept d) d

  told_here : Determined n begin → (t : ℕ → ℕ) → Numbers 257 t → SolvesRows 257 n begin t → Tells b (RootAt n t i)
  told_here d t numbers s = named.told (held d) t numbers (still-solved n begin table w.size d.room.most (w.kept d) t s)

  root : Determined n begin → (t : ℕ → ℕ) → Numbers 257 t → SolvesRows 257 n begin t → (k : ℕ) → k < i + 1 → k < length old → Dec (k ≡ i) →
      (get_or next k 0 ≡ 1) ↔ RootAt n t k
  root d t numbers s k less room (yes q) =
      subst (λ (m : ℕ). (get_or next m 0 ≡ 1) ↔ RootAt n t m) (sym q)
      (subst (λ (x : ℕ). (x ≡ 1) ↔ RootAt n t i) (sym (here i b old new next marked e (omega arith))) (byte-told b (told_here d t numbers s)))
  root d t numbers s k less room (no q) =
      subst (λ (x : ℕ). (x ≡ 1) ↔ RootAt n t k) (sym (other i b old new next marked e k q)) (w.marks.roots d t numbers s k (omega arith) room)

  pub marked-on : MarkedTo n begin after old next (i + 1)
  marked-on = record {
    size = named.size ∙ w.size;
    kept = λ d m le. named.kept (held d) m le ∙ w.kept d m le;
    marks = record {
      marked = marked_more i b old new next marked e;
      roots = λ d t numbers s k less room. root d t numbers s k less room (ℕ_discrete k i);
    };
  }

pub marked_all : (n : ℕ) (begin table old new : List ℕ) (i columns : ℕ) → MarkedTo n begin table old new i → i ≤ columns → columns ≤ i →
    MarkedRoots n begin old new columns
marked_all n begin table old new i columns w le ge =
    subst (λ (k : ℕ). MarkedRoots n begin old new k) (let e : i ≡ columns = omega arith in e) w.marks
