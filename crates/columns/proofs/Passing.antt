-- Which columns of a set a walk over its members has passed.
use mathlib.Core.Path.{◌≡◌, sym, ap, ap₂, ◌∙◌}
use mathlib.Core.Bool.{Bool, true, false, ◌&&◌, and-true, and-false}
use mathlib.Core.Logic.{◌≢◌}
use Prim.Native.Nat.{ℕ, ◌+◌, ◌≤◌, ◌<◌}
use native.Mathlib.Decide.{dec_lt}
use native.Mathlib.Omega.{arith}
use lib.Dec.{ltb}
use borrow.Author.Tests.{lt-ltb, le-ltb}
use Rattle.columns.specs.Columns.{has}
use Rattle.columns.specs.declared.Columns.{Columns}
use Rattle.columns.proofs.Walk.{Walk, next_at, none_between, walk-rises}

module _ (J : Columns) where
  -- whether column k is in the set and before i
  abbrev pub passed : (i k : ℕ) → Bool
  passed i k = has J k && ltb k i

  not-before : (i k : ℕ) → i ≤ k → passed i k ≡ false
  not-before i k l = ap (λ (b : Bool). has J k && b) (le-ltb k i l) ∙ and-false (has J k)

  pub passed_none : (i : ℕ) → i ≡ next_at J 0 → (k : ℕ) → passed i k ≡ false
  passed_none i e k = pick (dec_lt k i)
    where
      pick : Dec (k < i) → passed i k ≡ false
      pick (yes l) = ap (λ (b : Bool). b && ltb k i) (none_between J 0 k (omega arith) (let q = e in omega arith))
      pick (no l) = not-before i k (omega arith)

  -- the step from member i to the next, j
  module _ (d i : ℕ) (w : Walk J d i) (j : ℕ) (inside : i < 256) (next : j ≡ next_at J (i + 1)) where
    rises : i < j
    rises = walk-rises J d i w j inside next

    pub not_yet : passed i i ≡ false
    not_yet = not-before i i (omega arith)

    pub passed_here : passed j i ≡ true
    passed_here = ap₂ ◌&&◌ (w.marked inside) (lt-ltb i j rises)

    pub passed-other : (k : ℕ) → k ≢ i → passed i k ≡ passed j k
    passed-other k n = pick (dec_lt k i) (dec_lt k j)
      where
        pick : Dec (k < i) → Dec (k < j) → passed i k ≡ passed j k
        pick (yes a) b = ap (λ (b : Bool). has J k && b) (lt-ltb k i a ∙ sym (lt-ltb k j (let r = rises in omega arith)))
        pick (no a) (yes b) =
            let unmarked = none_between J (i + 1) k (omega arith) (let e = next in omega arith) in
            ap (λ (b : Bool). b && ltb k i) unmarked ∙ sym (ap (λ (b : Bool). b && ltb k j) unmarked)
        pick (no a) (no b) = not-before i k (omega arith) ∙ sym (not-before j k (omega arith))

  pub passed-all : (i k : ℕ) → k < i → passed i k ≡ has J k
  passed-all i k l = ap (λ (b : Bool). has J k && b) (lt-ltb k i l) ∙ and-true (has J k)
