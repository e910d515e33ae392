-- A test of every entry of a part of an array.
use mathlib.Core.Path.{◌≡◌, ap, ◌∙◌}
use mathlib.Core.Bool.{Bool}
use mathlib.Core.List.{List}
use Prim.Native.Nat.{ℕ, ◌+◌, ◌-◌, ◌≤◌}
use native.Mathlib.Omega.{arith}
use lib.ListN.{length, get_or, take, drop}
use lib.Seq.{get_or-take, get_or-drop}
use Rattle.lists.proofs.Tabulated.{every_ext}
use Rattle.lists.specs.Tabulate.{every}
use Rattle.sequences.proofs.Insertion.{length-within}

pub every_part : (test : ℕ → Bool) (x : List ℕ) (a n : ℕ) {to : ℕ} → to ≡ a + n → to ≤ length x →
    every (length (take (to - a) (drop a x))) (λ k. test (get_or (take (to - a) (drop a x)) k 0)) ≡ every n (λ i. test (get_or x (a + i) 0))
every_part test x a n {to} e room =
    let size : to - a ≡ n = omega arith in
    ap (λ (m : ℕ). every (length (take m (drop a x))) (λ k. test (get_or (take m (drop a x)) k 0))) size
    ∙ ap (λ (m : ℕ). every m (λ k. test (get_or (take n (drop a x)) k 0))) (length-within a n x (omega arith))
    ∙ every_ext n (λ k. test (get_or (take n (drop a x)) k 0)) (λ i. test (get_or x (a + i) 0))
    (λ k b. ap test (get_or-take n (drop a x) k 0 b ∙ get_or-drop a x k 0))
