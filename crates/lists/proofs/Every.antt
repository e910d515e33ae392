-- What is told of all the entries at the front of a list.
use mathlib.Core.Path.{◌≡◌, refl, sym, ap, ◌∙◌}
use mathlib.Core.Logic.{◌↔◌}
use mathlib.Core.Bool.{Bool, true, false, ◌&&◌, false≢true}
use mathlib.Core.List.{List}
use Prim.Native.Nat.{ℕ, ◌+◌, ◌<◌, ◌≤◌}
use native.Mathlib.Numerals.{add-one}
use native.Mathlib.Omega.{arith}
use lib.ListN.{length, get_or, take}
use lib.Seq.{length-take-le, get_or-take}
use Rattle.std.specs.Prelude.{IsTrue, EachIndex, slice_index}
use Rattle.lists.specs.Tabulate.{every}
use Rattle.lists.proofs.Tabulated.{every-at, every_of, every-suc}

-- a truth value that holds exactly where a test passes at each number below n is that of all the tests
pub every-decides : (n : ℕ) (test : ℕ → Bool) (all : Bool) → (all ≡ true) ↔ ((k : ℕ) → k < n → test k ≡ true) → all ≡ every n test
every-decides n test all told = pick all refl (every n test) refl
  where
    pick : (a : Bool) → all ≡ a → (b : Bool) → every n test ≡ b → all ≡ every n test
    pick true p true q = p ∙ sym q
    pick false p false q = p ∙ sym q
    pick true p false q = absurd (false≢true (sym q ∙ every_of n test (told.0 p)))
    pick false p true q = absurd (false≢true (sym p ∙ told.1 (every-at n test q)))

pub every-front : (test : ℕ → Bool) (n : ℕ) (xs : List ℕ) → n ≤ length xs → (all : Bool)
    → IsTrue all ↔ EachIndex (take n xs) (λ k. IsTrue (test (slice_index (take n xs) k))) → all ≡ every n (λ k. test (get_or xs k 0))
every-front test n xs le all told = every-decides n (λ k. test (get_or xs k 0)) all (to, from)
  where
    sized : length (take n xs) ≡ n
    sized = length-take-le n xs le

    to : all ≡ true → (k : ℕ) → k < n → test (get_or xs k 0) ≡ true
    to e k h = ap test (sym (get_or-take n xs k 0 h)) ∙ told.0 e k (let s = sized in omega arith)

    from : ((k : ℕ) → k < n → test (get_or xs k 0) ≡ true) → all ≡ true
    from each = told.1 (λ k h. let less : k < n = let s = sized in omega arith in ap test (get_or-take n xs k 0 less) ∙ each k less)

-- one test more
pub every-next : (n : ℕ) (test : ℕ → Bool) (all : Bool) → all ≡ every n test → (all && test n) ≡ every (n + 1) test
every-next n test all e = ap (λ (b : Bool). b && test n) e ∙ sym (ap (λ (m : ℕ). every m test) (add-one n) ∙ every-suc n test)
