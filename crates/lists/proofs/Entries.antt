-- Entries of parts of a list: past a part's end, in a part one entry longer, in a part of the middle; a part of the first entries.
use mathlib.Core.Path.{◌≡◌, refl, sym, ◌∙◌}
use mathlib.Core.Logic.{◌≢◌}
use mathlib.Core.List.{List, [], ◌∷◌}
use Prim.Native.Nat.{ℕ, zero, suc, ◌+◌, ◌≤◌, ◌<◌}
use native.Mathlib.Decide.{dec_lt}
use native.Mathlib.Omega.{arith}
use lib.ListN.{get_or, take, drop, length-take, get_or-eq_default}
use lib.Seq.{get_or-take, get_or-drop, take-take}

module _ {ℓ} {A : Type ℓ} where
  pub get_or-take-past : (n : ℕ) (l : List A) (i : ℕ) (d : A) → n ≤ i → get_or (take n l) i d ≡ d
  get_or-take-past n l i d h = get_or-eq_default (take n l) d (omega (arith, length-take n l))

  -- one more entry changes no other
  pub get_or-take-suc : (n : ℕ) (l : List A) (i : ℕ) (d : A) → i ≢ n → get_or (take (suc n) l) i d ≡ get_or (take n l) i d
  get_or-take-suc n l i d other = pick (dec_lt i n)
    where
      pick : Dec (i < n) → get_or (take (suc n) l) i d ≡ get_or (take n l) i d
      pick (yes h) = get_or-take (suc n) l i d (omega arith) ∙ sym (get_or-take n l i d h)
      pick (no h) =
          let past : suc n ≤ i = omega (arith, other) in
          get_or-take-past (suc n) l i d past ∙ sym (get_or-take-past n l i d (omega arith))

  pub get_d_part : (a n : ℕ) (l : List A) (i : ℕ) (d : A) → i < n → get_or (take n (drop a l)) i d ≡ get_or l (a + i) d
  get_d_part a n l i d h = get_or-take n (drop a l) i d h ∙ get_or-drop a l i d

  -- a part of the first m entries
  pub part_of_first : (k a m : ℕ) (l : List A) → a + k ≤ m → take k (drop a (take m l)) ≡ take k (drop a l)
  part_of_first k zero m l h = take-take k m l (omega arith)
  part_of_first k (suc a) zero l h = absurd (let z : ⊥ = omega arith in z)
  part_of_first k (suc a) (suc m) [] h = refl
  part_of_first k (suc a) (suc m) (x ∷ l) h = part_of_first k a m l (omega arith)
