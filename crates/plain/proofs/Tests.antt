-- Flags that tell whether something holds: a search over numbers, and the comparison of two flags.
use Rattle.std.proofs.Common.{◌≡◌, ℕ, ◌+◌, ◌<◌, ◌≤◌, Bool, true, false, not, eqb, ◌↔◌, List, length, get_or, sym, refl, ◌∙◌, subst, arith, eqb-true}
use mathlib.Core.Bool.{beq}
use native.Mathlib.Decide.{ℕ_discrete}
use borrow.Author.Tests.{eqb-false, not-true, not-false}
use Rattle.plain.specs.Plain.{Each, Tells}

true-not-false : true ≡ false → ⊥
true-not-false e = let z : ◌≡◌ {A = ℕ} 0 1 = cc in omega arith

pub tells-true : {P : Type 0} → P → Tells true P
tells-true h = record { yes = λ e. h; no = λ e. absurd (true-not-false e) }

pub tells-false : {P : Type 0} → (P → ⊥) → Tells false P
tells-false h = record { yes = λ e. absurd (true-not-false (sym e)); no = λ e. h }

module _ (P : ℕ → Type 0) (a : ℕ) where
  pub each_none : Each a a P
  each_none k low high = absurd (let z : ⊥ = omega arith in z)

  pub each_more : (i : ℕ) → Each a i P → P i → Each a (i + 1) P
  each_more i h p k low high = pick (ℕ_discrete k i)
    where
      pick : Dec (k ≡ i) → P k
      pick (yes e) = subst (λ (j : ℕ). P j) (sym e) p
      pick (no e) = h k low (omega arith)

  -- one number that fails
  pub each-fails : (b i : ℕ) → a ≤ i → i < b → (P i → ⊥) → Tells false (Each a b P)
  each-fails b i low high h = tells-false (λ all. h (all i low high))

  -- the search came to the end
  pub each_holds : (b i : ℕ) → b ≤ i → Each a i P → Tells true (Each a b P)
  each_holds b i le h = tells-true (λ k low high. h k low (omega arith))

module _ (P : ℕ → Type 0) (n : ℕ) where
  -- one number that does
  pub some-found : (i : ℕ) → i < n → P i → Tells true ((k : ℕ) × (k < n) × P k)
  some-found i less p = tells-true (i, less, p)

  -- the search came to the end
  pub none_found : (i : ℕ) → n ≤ i → Each 0 i (λ k. P k → ⊥) → Tells false ((k : ℕ) × (k < n) × P k)
  none_found i le h = tells-false (λ w. h w.0 (omega arith) (let l = w.1 in omega arith) w.2)

-- a negated flag
pub told-fails : {P : Type 0} (b : Bool) → Tells b P → not b ≡ true → P → ⊥
told-fails b t e = t.no (not-true b e)

pub told-holds : {P : Type 0} (b : Bool) → Tells b P → not b ≡ false → P
told-holds b t e = t.yes (not-false b e)

pub eqb-told : (m n k : ℕ) → m ≡ n → Tells (eqb m k) (n ≡ k)
eqb-told m n k e = record { yes = λ t. sym e ∙ eqb-true m k t; no = λ t q. eqb-false m k t (e ∙ q) }

-- two flags that are the same, and two that are not
pub flags_agree : {A B : Type 0} (x y : Bool) → Tells x A → Tells y B → not (beq x y) ≡ false → A ↔ B
flags_agree true true s t e = (λ a. t.yes refl, λ b. s.yes refl)
flags_agree true false s t e = absurd (true-not-false e)
flags_agree false true s t e = absurd (true-not-false e)
flags_agree false false s t e = (λ a. absurd (s.no refl a), λ b. absurd (t.no refl b))

pub flags_differ : {A B : Type 0} (x y : Bool) → Tells x A → Tells y B → not (beq x y) ≡ true → (A ↔ B) → ⊥
flags_differ true true s t e h = true-not-false (sym e)
flags_differ true false s t e h = t.no refl (h.0 (s.yes refl))
flags_differ false true s t e h = s.no refl (h.1 (t.yes refl))
flags_differ false false s t e h = true-not-false (sym e)

-- what is told of equal lists
pub same_lists : (b : Bool) (from g : ℕ) (x y u v : List ℕ) → from ≡ g → x ≡ u → y ≡ v →
    Tells b (Each from (length x) (λ i. get_or x i 0 ≡ get_or y i 0)) → Tells b (Each g (length u) (λ i. get_or u i 0 ≡ get_or v i 0))
same_lists b from g x y u v p q r t =
    subst (λ (n : ℕ). Tells b (Each n (length u) (λ i. get_or u i 0 ≡ get_or v i 0))) p
    (subst (λ (l : List ℕ). Tells b (Each from (length u) (λ i. get_or u i 0 ≡ get_or l i 0))) r
    (subst (λ (l : List ℕ). Tells b (Each from (length l) (λ i. get_or l i 0 ≡ get_or y i 0))) q t))
