-- A list with ys in the place of as many of its entries from place a on: its length, what it holds before them, in them and after them.
use mathlib.Core.Path.{◌≡◌, sym, ap, ◌∙◌}
use mathlib.Core.List.{List, ◌++◌}
use Prim.Native.Nat.{ℕ, ◌+◌, ◌-◌, ◌≤◌, ◌<◌}
use native.Mathlib.Omega.{arith}
use lib.ListN.{length, get_or, take, drop, length-append, length-drop, get_or-append}
use lib.Seq.{length-take-le, get_or-take, get_or-drop, get_or-append-add, take_at, drop_at}
use Rattle.lists.specs.Parts.{replaced}

module _ {ℓ} {A : Type ℓ} where
  module _ (a n : ℕ) (xs ys : List A) (inside : a + n ≤ length xs) (fits : length ys ≡ n) where
    front : length (take a xs) ≡ a
    front = length-take-le a xs (omega arith)

    pub length-replaced : length (replaced a n xs ys) ≡ length xs
    length-replaced =
        let rest : List A = drop n (drop a xs) in
        omega (arith, length-append (take a xs) (ys ++ rest), length-append ys rest, length-drop n (drop a xs), length-drop a xs, front)

    pub part-replaced : take n (drop a (replaced a n xs ys)) ≡ ys
    part-replaced = ap (take n) (drop_at (take a xs) (ys ++ drop n (drop a xs)) a front) ∙ take_at ys (drop n (drop a xs)) n fits

    module _ (d : A) where
      pub replaced-before : (k : ℕ) → k < a → get_or (replaced a n xs ys) k d ≡ get_or xs k d
      replaced-before k l = get_or-append (take a xs) _ d k (let e = front in omega arith) ∙ get_or-take a xs k d l

      pub replaced_in : (k : ℕ) → k < n → get_or (replaced a n xs ys) (a + k) d ≡ get_or ys k d
      replaced_in k l =
          ap (λ (m : ℕ). get_or (replaced a n xs ys) (m + k) d) (sym front)
          ∙ get_or-append-add (take a xs) (ys ++ drop n (drop a xs)) k d ∙ get_or-append ys _ d k (omega arith)

      pub replaced-after : (k : ℕ) → a + n ≤ k → get_or (replaced a n xs ys) k d ≡ get_or xs k d
      replaced-after k l =
          let p : k ≡ length (take a xs) + (length ys + (k - a - n)) = let e = front in omega arith in
          let q : a + (n + (k - a - n)) ≡ k = omega arith in
          ap (λ (m : ℕ). get_or (replaced a n xs ys) m d) p
          ∙ get_or-append-add (take a xs) (ys ++ drop n (drop a xs)) (length ys + (k - a - n)) d
          ∙ get_or-append-add ys (drop n (drop a xs)) (k - a - n) d ∙ get_or-drop n (drop a xs) (k - a - n) d
          ∙ get_or-drop a xs (n + (k - a - n)) d ∙ ap (λ (m : ℕ). get_or xs m d) q
