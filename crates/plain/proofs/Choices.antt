-- The definitions by cases on a test, each clause as an equation.
use Rattle.std.proofs.Common.{min, ◌≡◌, ℕ, ◌+◌, ◌-◌, ◌<◌, ◌≤◌, Bool, cond, List, [], length, get_or, take, drop, sym, ap, ◌∙◌, arith, length-drop, length-take, le-leb}
use native.Mathlib.Decide.{dec_le}
use borrow.Author.Tests.{lt-leb}
use Rattle.plain.specs.Plain.{before, capped, part}

pub capped_small : (x : ℕ) → x ≤ 18446744073709551615 → capped x ≡ x
capped_small x h = ap (λ (b : Bool). cond b x 18446744073709551615) (le-leb x 18446744073709551615 h)

pub capped-large : (x : ℕ) → 18446744073709551615 < x → capped x ≡ 18446744073709551615
capped-large x h = ap (λ (b : Bool). cond b x 18446744073709551615) (lt-leb x 18446744073709551615 h)

-- what the sum of two words, cut off at the largest, is
pub capped-min : (x : ℕ) → min x 18446744073709551615 ≡ capped x
capped-min x = pick (dec_le x 18446744073709551615)
  where
    pick : Dec (x ≤ 18446744073709551615) → min x 18446744073709551615 ≡ capped x
    pick (yes h) = let e = capped_small x h in omega arith
    pick (no h) = let e = capped-large x (omega arith) in omega arith

pub capped_le : (x : ℕ) → capped x ≤ x
capped_le x = pick (dec_le x 18446744073709551615)
  where
    pick : Dec (x ≤ 18446744073709551615) → capped x ≤ x
    pick (yes h) = let e = capped_small x h in omega arith
    pick (no h) = let e = capped-large x (omega arith) in omega arith

-- a sum that is cut off once is cut off in the end
pub capped-add : (x y : ℕ) → capped (capped x + y) ≡ capped (x + y)
capped-add x y = pick (dec_le x 18446744073709551615)
  where
    pick : Dec (x ≤ 18446744073709551615) → capped (capped x + y) ≡ capped (x + y)
    pick (yes h) = ap (λ (z : ℕ). capped (z + y)) (capped_small x h)
    pick (no h) =
        let e : capped x ≡ 18446744073709551615 = capped-large x (omega arith) in
        ap (λ (z : ℕ). capped (z + y)) e ∙ over (dec_le (18446744073709551615 + y) 18446744073709551615)
        ∙ sym (capped-large (x + y) (omega arith))
      where
        over : Dec (18446744073709551615 + y ≤ 18446744073709551615) → capped (18446744073709551615 + y) ≡ 18446744073709551615
        over (yes q) = capped_small (18446744073709551615 + y) q ∙ (let z : 18446744073709551615 + y ≡ 18446744073709551615 = omega arith in z)
        over (no q) = capped-large (18446744073709551615 + y) (omega arith)

pub before_in : (a : List ℕ) (i k : ℕ) → k ≤ i → before a i k ≡ get_or a (i - k) 0
before_in a i k h = ap (λ (b : Bool). cond b (get_or a (i - k) 0) 0) (le-leb k i h)

pub before_out : (a : List ℕ) (i k : ℕ) → i < k → before a i k ≡ 0
before_out a i k h = ap (λ (b : Bool). cond b (get_or a (i - k) 0) 0) (lt-leb k i h)

pub part_in : (a : List ℕ) (start n : ℕ) → start + n ≤ length a → part a start n ≡ take n (drop start a)
part_in a start n h = ap (λ (b : Bool). cond b (take n (drop start a)) []) (le-leb (start + n) (length a) h)

pub part_out : (a : List ℕ) (start n : ℕ) → length a < start + n → part a start n ≡ []
part_out a start n h = ap (λ (b : Bool). cond b (take n (drop start a)) []) (lt-leb (start + n) (length a) h)

pub part-length-le : (a : List ℕ) (start n : ℕ) → length (part a start n) ≤ n
part-length-le a start n = pick (dec_le (start + n) (length a))
  where
    pick : Dec (start + n ≤ length a) → length (part a start n) ≤ n
    pick (yes h) = rw (part_in a start n h) (simp (length-take, length-drop) (omega arith))
    pick (no h) = rw (part_out a start n (omega arith)) (omega arith)

pub part-empty : (a : List ℕ) (start : ℕ) → part a start 0 ≡ []
part-empty a start = pick (dec_le (start + 0) (length a))
  where
    pick : Dec (start + 0 ≤ length a) → part a start 0 ≡ []
    pick (yes h) = part_in a start 0 h
    pick (no h) = part_out a start 0 (omega arith)

-- a start that is cut off lies past the end, as the start itself does
pub part-capped : (a : List ℕ) (x n : ℕ) → length a ≤ 18446744073709551615 → part a (capped x) n ≡ part a x n
part-capped a x n fits = pick (dec_le x 18446744073709551615) (dec_le n 0)
  where
    pick : Dec (x ≤ 18446744073709551615) → Dec (n ≤ 0) → part a (capped x) n ≡ part a x n
    pick (yes h) d = ap (λ (z : ℕ). part a z n) (capped_small x h)
    pick (no h) (no m) =
        ap (λ (z : ℕ). part a z n) (capped-large x (omega arith))
        ∙ part_out a 18446744073709551615 n (omega arith) ∙ sym (part_out a x n (omega arith))
    pick (no h) (yes m) =
        let z : n ≡ 0 = omega arith in
        ap (λ (k : ℕ). part a (capped x) k) z ∙ part-empty a (capped x) ∙ sym (ap (λ (k : ℕ). part a x k) z ∙ part-empty a x)
