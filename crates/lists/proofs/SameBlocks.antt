-- A block replaced by the same in two lists of one length: what is the same in both stays so.
use mathlib.Core.Path.{◌≡◌, sym, ap, ap₂, subst, ◌∙◌}
use mathlib.Core.List.{List, ◌++◌}
use Prim.Native.Nat.{ℕ, ◌+◌, ◌-◌, ◌≤◌, ◌<◌, min}
use native.Mathlib.Decide.{dec_lt, dec_le}
use native.Mathlib.Omega.{arith}
use lib.ListN.{length, get_or, take, drop, length-append, length-take, length-drop}
use lib.ListN.{get_or-append, get_or-eq_default}
use lib.Seq.{get_or-take, get_or-drop, get_or-append-add}
use Rattle.lists.specs.Parts.{replaced}

module _ (a : ℕ) (ys : List ℕ) where
  module _ (xs : List ℕ) where
    abbrev rest : List ℕ
    rest = drop (length ys) (drop a xs)

    abbrev ahead : ℕ
    ahead = min a (length xs)

    front : length (take a xs) ≡ ahead
    front = length-take a xs

    entry-front : (k : ℕ) → k < ahead → get_or (replaced a (length ys) xs ys) k 0 ≡ get_or xs k 0
    entry-front k b = get_or-append (take a xs) _ 0 k (omega (arith, front)) ∙ get_or-take a xs k 0 (omega arith)

    entry_in : (j : ℕ) → j < length ys → get_or (replaced a (length ys) xs ys) (ahead + j) 0 ≡ get_or ys j 0
    entry_in j b =
        ap (λ (n : ℕ). get_or (replaced a (length ys) xs ys) (n + j) 0) (sym front)
        ∙ get_or-append-add (take a xs) (ys ++ rest) j 0 ∙ get_or-append ys _ 0 j b

    entry-rest : (j : ℕ) → get_or (replaced a (length ys) xs ys) (ahead + (length ys + j)) 0 ≡ get_or xs (a + (length ys + j)) 0
    entry-rest j =
        ap (λ (n : ℕ). get_or (replaced a (length ys) xs ys) (n + (length ys + j)) 0) (sym front)
        ∙ get_or-append-add (take a xs) (ys ++ rest) (length ys + j) 0 ∙ get_or-append-add ys rest j 0
        ∙ get_or-drop (length ys) (drop a xs) j 0 ∙ get_or-drop a xs (length ys + j) 0

  module _ (xs zs : List ℕ) (even : length xs ≡ length zs) where
    pub same_width : length (replaced a (length ys) xs ys) ≡ length (replaced a (length ys) zs ys)
    same_width =
        length-append (take a xs) (ys ++ rest xs) ∙ ap₂ ◌+◌ (front xs) (length-append ys (rest xs) ∙ ap (λ (n : ℕ). length ys + n) (left xs))
        ∙ ap (λ (n : ℕ). min a n + (length ys + (n - a - length ys))) even
        ∙ sym (length-append (take a zs) (ys ++ rest zs) ∙ ap₂ ◌+◌ (front zs) (length-append ys (rest zs) ∙ ap (λ (n : ℕ). length ys + n) (left zs)))
      where
        left : (l : List ℕ) → length (drop (length ys) (drop a l)) ≡ length l - a - length ys
        left l = length-drop (length ys) (drop a l) ∙ ap (λ (n : ℕ). n - length ys) (length-drop a l)

    -- entry k, where it is the same in both lists unless it is replaced
    pub same-entry : (k : ℕ) → (k < a → get_or xs k 0 ≡ get_or zs k 0) → (a + length ys ≤ k → get_or xs k 0 ≡ get_or zs k 0) →
        get_or (replaced a (length ys) xs ys) k 0 ≡ get_or (replaced a (length ys) zs ys) k 0
    same-entry k before after = pick (dec_lt k (ahead xs)) (dec_lt k (ahead xs + length ys))
      where
        same_ahead : ahead xs ≡ ahead zs
        same_ahead = ap (λ (n : ℕ). min a n) even

        past : (j : ℕ) → ahead xs + (length ys + j) ≡ k → Dec (a ≤ length xs) → get_or xs (a + (length ys + j)) 0 ≡ get_or zs (a + (length ys + j)) 0
        past j e (yes whole) =
            let at : k ≡ a + (length ys + j) = omega arith in
            subst (λ (n : ℕ). get_or xs n 0 ≡ get_or zs n 0) at (after (omega arith))
        past j e (no short) =
            get_or-eq_default xs 0 (let le : length xs ≤ a + (length ys + j) = omega arith in le)
            ∙ sym (get_or-eq_default zs 0 (let le : length zs ≤ a + (length ys + j) = omega arith in le))

        at : (j : ℕ) → ahead xs + j ≡ k → ahead zs + j ≡ k
        at j e = ap (λ (n : ℕ). n + j) (sym same_ahead) ∙ e

        pick : Dec (k < ahead xs) → Dec (k < ahead xs + length ys) → get_or (replaced a (length ys) xs ys) k 0 ≡ get_or (replaced a (length ys) zs ys) k 0
        pick (yes b) c = entry-front xs k b ∙ before (omega arith) ∙ sym (entry-front zs k (omega (arith, same_ahead)))
        pick (no b) (yes c) =
            let j : ℕ = k - ahead xs in
            let e : ahead xs + j ≡ k = omega arith in
            ap (λ (n : ℕ). get_or (replaced a (length ys) xs ys) n 0) (sym e) ∙ entry_in xs j (omega arith) ∙ sym (entry_in zs j (omega arith))
            ∙ ap (λ (n : ℕ). get_or (replaced a (length ys) zs ys) n 0) (at j e)
        pick (no b) (no c) =
            let j : ℕ = k - ahead xs - length ys in
            let e : ahead xs + (length ys + j) ≡ k = omega arith in
            ap (λ (n : ℕ). get_or (replaced a (length ys) xs ys) n 0) (sym e) ∙ entry-rest xs j ∙ past j e (dec_le a (length xs)) ∙ sym (entry-rest zs j)
            ∙ ap (λ (n : ℕ). get_or (replaced a (length ys) zs ys) n 0) (at (length ys + j) e)
