-- The equation that is being added becomes a row, value after value.
use mathlib.Core.Path.{◌≡◌, refl, sym, ap, subst, ◌∙◌}
use mathlib.Core.List.{List}
use Prim.Native.Nat.{ℕ, ◌+◌, ◌≤◌, ◌<◌}
use native.Mathlib.Omega.{arith}
use lib.ListN.{length, get_or, set, length-set}
use lib.Seq.{get_or-set_same, get_or-set_other}
use Rattle.plain.proofs.Tests.{each_none, each_more}
use Rattle.elimination.proofs.Places.{places_differ, row-past, row_within}
use Rattle.elimination.specs.Equations.{Room, Stored, place_of, value_at}

module _ (old : List ℕ) (k : ℕ) where
  pub stored-none : Stored old old k 0
  stored-none = record { size = refl; row = λ room low high. each_none _ 0; kept = λ m out. refl }

  module _ (i at v : ℕ) (new next : List ℕ) (w : Stored old new k i) (ea : at ≡ place_of k i) (e : next ≡ set new at v) (ev : v ≡ get_or new i 0) where
    other : (m : ℕ) → (m ≡ place_of k i → ⊥) → get_or next m 0 ≡ get_or new m 0
    other m n = ap (λ (l : List ℕ). get_or l m 0) e ∙ get_or-set_other new at m v 0 (λ q. n (q ∙ ea))

    module _ (room : Room (i + 1) old) (low : 1 ≤ k) (high : k < 129) where
      before : Room i old
      before = record { most = let h = room.most in omega arith; places = room.places }

      inside : i < 129
      inside = let h = room.most in omega arith

      -- the equation itself is not written
      value : get_or new i 0 ≡ get_or old i 0
      value = w.kept i (λ j l h q. let past = row-past k j low in let q' : i ≡ place_of k j = q in let z : ⊥ = omega arith in z)

      here : value_at next k i ≡ get_or old i 0
      here =
          ap (λ (l : List ℕ). get_or l (place_of k i) 0) e ∙ ap (λ (m : ℕ). get_or (set new at v) m 0) (sym ea)
          ∙ get_or-set_same new at v 0 (let s = w.size in let l = room.places in let h = row_within k i high inside in omega arith)
          ∙ ev ∙ value

      earlier : (j : ℕ) → j < i → value_at next k j ≡ get_or old j 0
      earlier j h =
          other (place_of k j) (places_differ k j k i high (let b = inside in omega arith) high inside (λ q. let z = q.1 in omega arith))
          ∙ w.row before low high j (omega arith) h

    pub stored_more : Stored old next k (i + 1)
    stored_more = record {
      size = ap length e ∙ length-set new at v ∙ w.size;
      row = λ room low high. each_more (λ j. value_at next k j ≡ get_or old j 0) 0 i (λ j l h. earlier room low high j h) (here room low high);
      kept = λ m out. other m (out i (omega arith) (omega arith)) ∙ w.kept m (λ j l h. out j l (omega arith));
    }

pub stored-all : (old new : List ℕ) (k i n : ℕ) → Stored old new k i → i ≤ n → n ≤ i → Stored old new k n
stored-all old new k i n w le ge = subst (λ (m : ℕ). Stored old new k m) (let e : i ≡ n = omega arith in e) w
