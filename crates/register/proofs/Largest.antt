-- The largest of a list of lengths, found from the front: what is passed and what is to come; a bound.
use mathlib.Core.Path.{◌≡◌, ap}
use mathlib.Core.List.{List, [], ◌∷◌}
use Prim.Native.Nat.{ℕ, suc, ◌+◌, ◌≤◌, ◌<◌, max}
use native.Mathlib.Numerals.{add-one}
use native.Mathlib.Omega.{arith}
use lib.ListN.{length, get_or, drop, drop_of_length-le}
use lib.Seq.{drop-cons}
use Rattle.register.specs.Sequences.{largest}

pub largest-next : (l : List ℕ) (h m most : ℕ) → h < length l → max m (largest (drop h l)) ≡ largest l → most ≡ max m (get_or l h 0) →
    max most (largest (drop (h + 1) l)) ≡ largest l
unfolding largest
largest-next l h m most b e new =
    let parted : largest (drop h l) ≡ max (get_or l h 0) (largest (drop (suc h) l)) = ap largest (drop-cons l h 0 b) in
    let next : largest (drop (h + 1) l) ≡ largest (drop (suc h) l) = ap (λ (k : ℕ). largest (drop k l)) (add-one h) in
    omega arith

pub largest-all : (l : List ℕ) (h most : ℕ) → length l ≤ h → max most (largest (drop h l)) ≡ largest l → most ≡ largest l
unfolding largest
largest-all l h most b e =
    let none : largest (drop h l) ≡ 0 = ap largest (drop_of_length-le l {i = h} b) in
    omega arith

pub largest-bound : (B : ℕ) (l : List ℕ) → ((h : ℕ) → h < length l → get_or l h 0 ≤ B) → largest l ≤ B
unfolding largest
largest-bound B [] small = omega arith
largest-bound B (x ∷ xs) small = omega (arith, small 0 (omega arith), largest-bound B xs (λ h b. small (suc h) (omega arith)))
