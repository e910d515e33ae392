-- A multiple of a row is taken from the equation that is being added, value after value.
use mathlib.Core.Path.{◌≡◌, refl, sym, ap, ap₂, subst, ◌∙◌}
use mathlib.Core.List.{List}
use Prim.Native.Nat.{ℕ, ◌+◌, ◌*◌, ◌≤◌}
use native.Mathlib.Omega.{arith}
use lib.ListN.{length, get_or, length-set}
use lib.Seq.{get_or-set_same, get_or-set_other}
use Rattle.plain.specs.Plain.{rem}
use Rattle.plain.proofs.Tests.{each_none, each_more}
use Rattle.elimination.proofs.Places.{rows-kept}
use Rattle.elimination.specs.Equations.{Cancelled, CrossedAt, Room, value_at}

module _ (p : ℕ) (old : List ℕ) (k : ℕ) where
  pub cancelled_none : Cancelled p old old k 0
  cancelled_none = record {
    size = refl;
    none = λ e. refl;
    crossed = λ room low some. each_none _ 0;
    residues = λ room low some. each_none _ 0;
    kept = λ m le. refl;
  }

  -- an equation without the unknown stays as it is
  pub cancelled_zero : (n : ℕ) → get_or old k 0 ≡ 0 → Cancelled p old old k n
  cancelled_zero n z = record {
    size = refl;
    none = λ e. refl;
    crossed = λ room low some. absurd (some z);
    residues = λ room low some. absurd (some z);
    kept = λ m le. refl;
  }

  module _ (i x : ℕ) (new next : List ℕ) (w : Cancelled p old new k i) (ex : x ≡ get_or old k 0) (some : x ≡ 0 → ⊥)
      (c : CrossedAt p new next k i x) where
    other : (m : ℕ) → (m ≡ i → ⊥) → get_or next m 0 ≡ get_or new m 0
    other m n = ap (λ (l : List ℕ). get_or l m 0) c.wrote ∙ get_or-set_other new i m c.v 0 n

    module _ (room : Room (i + 1) old) (low : 1 ≤ k) where
      before : Room i old
      before = record { most = let h = room.most in omega arith; places = room.places }

      here : get_or next i 0 ≡ c.v
      here =
          ap (λ (l : List ℕ). get_or l i 0) c.wrote
          ∙ get_or-set_same new i c.v 0 (let h = room.most in let l = room.places in let s = w.size in omega arith)

      row : (j : ℕ) → value_at new k j ≡ value_at old k j
      row j = rows-kept i old new before.most w.kept k j low

      crossed-here : rem (get_or next i 0 + value_at old k i * get_or old k 0) p ≡ rem (get_or old i 0 * value_at old k k) p
      crossed-here =
          ap₂ (λ (a b : ℕ). rem (a + b) p) here (ap₂ ◌*◌ (sym (row i)) (sym ex)) ∙ c.crossed
          ∙ ap₂ (λ (a b : ℕ). rem (a * b) p) (w.kept i (omega arith)) (row k)

    pub cancelled_more : Cancelled p old next k (i + 1)
    cancelled_more = record {
      size = ap length c.wrote ∙ length-set new i c.v ∙ w.size;
      none = λ e. absurd (some (ex ∙ e));
      crossed = λ room low s.
          each_more (λ j. rem (get_or next j 0 + value_at old k j * get_or old k 0) p ≡ rem (get_or old j 0 * value_at old k k) p) 0 i
          (λ j l h. ap (λ (y : ℕ). rem (y + value_at old k j * get_or old k 0) p) (other j (omega arith)) ∙ w.crossed (before room low) low s j l h)
          (crossed-here room low);
      residues = λ room low s.
          each_more (λ j. get_or next j 0 ≡ rem (get_or next j 0) p) 0 i
          (λ j l h. other j (omega arith) ∙ w.residues (before room low) low s j l h ∙ ap (λ (y : ℕ). rem y p) (sym (other j (omega arith))))
          (here room low ∙ c.residue ∙ ap (λ (y : ℕ). rem y p) (sym (here room low)));
      kept = λ m le. other m (omega arith) ∙ w.kept m (omega arith);
    }

pub cancelled_all : (p : ℕ) (old new : List ℕ) (k i n : ℕ) → Cancelled p old new k i → i ≤ n → n ≤ i → Cancelled p old new k n
cancelled_all p old new k i n w le ge = subst (λ (m : ℕ). Cancelled p old new k m) (let e : i ≡ n = omega arith in e) w
