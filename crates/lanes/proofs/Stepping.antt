-- The lanes stepped one after the other.
use mathlib.Core.Path.{◌≡◌, sym, ap, ap₂, ◌∙◌}
use mathlib.Core.List.{List}
use Prim.Native.Nat.{ℕ, ◌+◌, ◌*◌, ◌≤◌, ◌<◌}
use native.Mathlib.Nat.{mul-le-mul}
use native.Mathlib.Decide.{dec_lt}
use native.Mathlib.Omega.{arith}
use lib.ListN.{length, get_or, set}
use Rattle.field257.specs.Montgomery.{montgomery}
use Rattle.lanes.specs.Lanes.{Whole, Steppable, Stepped}
use Rattle.lists.proofs.Filling.{Filled, filled_none, filled_more, filled-entry, filled-rest}

module _ (n c s : ℕ) (x z q₀ v₀ t₀ : List ℕ) where
  -- what lane j has after the step
  abbrev quotient : ℕ → ℕ
  quotient j = c + montgomery (get_or q₀ j 0) (get_or x j 0)

  abbrev value : ℕ → ℕ
  value j = quotient j + montgomery (get_or v₀ j 0) (get_or x j 0)

  abbrev read : ℕ → ℕ
  read j = get_or t₀ j 0 + quotient j * s

  -- i lanes are stepped
  pub record Stepping (i : ℕ) (q v t : List ℕ) : Type 0 where
    pub quotients : Filled quotient q₀ i q
    pub values : Filled value v₀ i v
    pub totals : Filled read t₀ i t
    pub small : (j : ℕ) → j < i → quotient j ≤ 769

  pub stepping_none : Stepping 0 q₀ v₀ t₀
  stepping_none = record {
    quotients = filled_none _ q₀;
    values = filled_none _ v₀;
    totals = filled_none _ t₀;
    small = λ j l. absurd (let z : ⊥ = omega arith in z);
  }

  module _ (asked : Steppable n c s x z q₀ v₀ t₀) (i : ℕ) (q v t : List ℕ) (so_far : Stepping i q v t) (inside : i < n) where
    lane : i < 64
    lane = let few = asked.lent.few in omega arith

    -- in each of the arrays lane i is as it was, and is filled next
    module _ (g : ℕ → ℕ) (l₀ l : List ℕ) (whole : length l₀ ≡ 64) (filled : Filled g l₀ i l) where
      kept : get_or l i 0 ≡ get_or l₀ i 0
      kept = filled-rest g l₀ i l filled i (omega arith) (let few = lane in omega arith)

      grown : (w : ℕ) → w ≡ g i → Filled g l₀ (i + 1) (set l i w)
      grown w e = filled_more g l₀ i w l filled (let few = lane in let s = filled.size in omega arith) e

    kept-quotient : get_or q i 0 ≡ get_or q₀ i 0
    kept-quotient = kept _ q₀ q asked.whole.quotients so_far.quotients

    kept-value : get_or v i 0 ≡ get_or v₀ i 0
    kept-value = kept _ v₀ v asked.whole.values so_far.values

    kept-total : get_or t i 0 ≡ get_or t₀ i 0
    kept-total = kept _ t₀ t asked.whole.totals so_far.totals

    -- what is read off fits
    pub room : (a : ℕ) → a ≤ 513 → get_or t i 0 + (c + a) * s < 4294967296
    room a small =
        let most : (c + a) * s ≤ 769 * 256 = mul-le-mul (let l = asked.coefficient in let e : c + a ≤ 769 = omega arith in e) asked.sum in
        let r = asked.room i inside in
        omega (arith, kept-total)

    pub stepping_more : (a r w : ℕ) → a ≡ montgomery (get_or q i 0) (get_or x i 0) → a ≤ 513 → r ≡ montgomery (get_or v i 0) (get_or x i 0) → w ≡ (c + a) * s
        → Stepping (i + 1) (set q i (c + a)) (set v i (c + a + r)) (set t i (get_or t i 0 + w))
    stepping_more a r w ea small er ew = record {
      quotients = grown _ q₀ q asked.whole.quotients so_far.quotients _ next;
      values = grown _ v₀ v asked.whole.values so_far.values _ (ap₂ ◌+◌ next (er ∙ ap (λ (m : ℕ). montgomery m (get_or x i 0)) kept-value));
      totals = grown _ t₀ t asked.whole.totals so_far.totals _ (ap₂ ◌+◌ kept-total (ew ∙ ap (λ (m : ℕ). m * s) next));
      small = λ j l. pick j l (dec_lt j i);
    }
      where
        next : c + a ≡ quotient i
        next = ap (λ (m : ℕ). c + m) (ea ∙ ap (λ (m : ℕ). montgomery m (get_or x i 0)) kept-quotient)

        pick : (j : ℕ) → j < i + 1 → Dec (j < i) → quotient j ≤ 769
        pick j l (yes h) = so_far.small j h
        pick j l (no h) =
            let here : j ≡ i = omega arith in
            rw here (let e = next in let b = asked.coefficient in omega arith)

  pub stepping_all : Whole q₀ v₀ t₀ → (i : ℕ) (q v t : List ℕ) → Stepping i q v t → n ≤ i → Stepped n c s x q₀ v₀ t₀ q v t
  stepping_all whole i q v t a le = record {
    quotients = λ j l. entry j l;
    values = λ j l. filled-entry _ _ i v a.values j (omega arith) ∙ ap (λ (m : ℕ). m + montgomery (get_or v₀ j 0) (get_or x j 0)) (sym (entry j l));
    totals = λ j l. filled-entry _ _ i t a.totals j (omega arith) ∙ ap (λ (m : ℕ). get_or t₀ j 0 + m * s) (sym (entry j l));
    small = λ j l. rw (entry j l) (a.small j (omega arith));
    whole = record {
      quotients = a.quotients.size ∙ whole.quotients;
      values = a.values.size ∙ whole.values;
      totals = a.totals.size ∙ whole.totals;
    };
  }
    where
      entry : (j : ℕ) → j < n → get_or q j 0 ≡ quotient j
      entry j l = filled-entry _ _ i q a.quotients j (omega arith)
