-- Orders of refusals. What is given goes by cases: a number of the order, or what stands for no refusal, and then every test passes. Where tests and
-- reasons say the same, one by one, the number given is that of the first reason that holds, and no test fails exactly where no reason holds.
use mathlib.Core.Path.{◌≡◌, refl, sym, ap, subst, ◌∙◌}
use mathlib.Core.Logic.{◌⊎◌, inl, inr, ◌↔◌, ◌≢◌}
use mathlib.Core.Bool.{Bool, true, false, cond, not, false≢true}
use mathlib.Core.List.{List, [], ◌∷◌, ◌++◌, append-nil}
use Prim.Native.Nat.{ℕ}
use native.Mathlib.Omega.{arith}
use Rattle.refusal.specs.Order.{Reason, First, None, Test, first_of}
use Rattle.refusal.specs.Outcome.{passed, refused, outcome}

-- k is a number of the order
abbrev pub Among : ℕ → List Test → Type 0
Among k [] = ⊥
Among k (t ∷ ts) = (k ≡ t.number) ⊎ Among k ts

-- no test fails
abbrev pub Pass : List Test → Type 0
Pass [] = Unit {0}
Pass (t ∷ ts) = (t.fails ≡ false) × Pass ts

-- a test of a negation that does not fail
pub no_fail : (b : Bool) → not b ≡ false → b ≡ true
no_fail true e = refl
no_fail false e = absurd (false≢true (sym e))

module _ {A : Type 0} (refuse : ℕ → A) (otherwise : A) where
  pub by_tests : (P : A → Type 0) (ts : List Test) → ((k : ℕ) → Among k ts → P (refuse k)) → (Pass ts → P otherwise)
      → P (first_of refuse ts otherwise)
  by_tests P [] fail pass = pass tt
  by_tests P (t ∷ ts) fail pass = pick t.fails refl (by_tests P ts (λ k a. fail k (inr a)))
    where
      pick : (b : Bool) → t.fails ≡ b → ((Pass ts → P otherwise) → P (first_of refuse ts otherwise)) → P (first_of refuse (t ∷ ts) otherwise)
      pick true e later = rw e (fail t.number (inl refl))
      pick false e later = rw e (later (λ p. pass (e, p)))

  pub pass-otherwise : (ts : List Test) → Pass ts → first_of refuse ts otherwise ≡ otherwise
  pass-otherwise [] p = refl
  pass-otherwise (t ∷ ts) p = rw p.0 (pass-otherwise ts p.1)

-- some test fails, and what follows plays no part, or each passes
pub fails_or_passes : {A : Type 0} (refuse : ℕ → A) (ts : List Test) → ((x y : A) → first_of refuse ts x ≡ first_of refuse ts y) ⊎ Pass ts
fails_or_passes refuse [] = inr tt
fails_or_passes {A} refuse (t ∷ ts) = pick t.fails refl (fails_or_passes refuse ts)
  where
    pick : (b : Bool) → t.fails ≡ b → ((x y : A) → first_of refuse ts x ≡ first_of refuse ts y) ⊎ Pass ts
        → ((x y : A) → first_of refuse (t ∷ ts) x ≡ first_of refuse (t ∷ ts) y) ⊎ Pass (t ∷ ts)
    pick true e later = inl (λ x y. rw e refl)
    pick false e (inl same) = inl (λ x y. rw e (same x y))
    pick false e (inr p) = inr (e, p)

pub first_of_map : {A B : Type 0} (h : A → B) (refuse : ℕ → A) (ts : List Test) (otherwise : A)
    → h (first_of refuse ts otherwise) ≡ first_of (λ k. h (refuse k)) ts (h otherwise)
first_of_map h refuse [] otherwise = refl
first_of_map h refuse (t ∷ ts) otherwise = pick t.fails (first_of_map h refuse ts otherwise)
  where
    pick : (b : Bool) → h (first_of refuse ts otherwise) ≡ first_of (λ k. h (refuse k)) ts (h otherwise)
        → h (cond b (refuse t.number) (first_of refuse ts otherwise))
        ≡ cond b (h (refuse t.number)) (first_of (λ k. h (refuse k)) ts (h otherwise))
    pick true ih = refl
    pick false ih = ih

-- one order after another
pub first_of_append : {A : Type 0} (refuse : ℕ → A) (ts us : List Test) (otherwise : A)
    → first_of refuse (ts ++ us) otherwise ≡ first_of refuse ts (first_of refuse us otherwise)
first_of_append refuse [] us otherwise = refl
first_of_append refuse (t ∷ ts) us otherwise = ap (λ later. cond t.fails (refuse t.number) later) (first_of_append refuse ts us otherwise)

-- ---- tests and reasons

-- a test that fails exactly where a reason of the same number holds
pub record Says (t : Test) (r : Reason) : Type 0 where
  pub number : t.number ≡ r.number
  pub reason : t.fails ≡ true → r.holds
  pub fails : r.holds → t.fails ≡ true

abbrev pub SayAll : List Test → List Reason → Type 0
SayAll [] [] = Unit {0}
SayAll [] (r ∷ rs) = ⊥
SayAll (t ∷ ts) [] = ⊥
SayAll (t ∷ ts) (r ∷ rs) = Says t r × SayAll ts rs

-- the same where a test need say its reason only if no reason before it holds
abbrev pub SayInTurn : List Test → List Reason → Type 0
SayInTurn [] [] = Unit {0}
SayInTurn [] (r ∷ rs) = ⊥
SayInTurn (t ∷ ts) [] = ⊥
SayInTurn (t ∷ ts) (r ∷ rs) = Says t r × ((r.holds → ⊥) → SayInTurn ts rs)

pub in_turn : (ts : List Test) (rs : List Reason) → SayAll ts rs → SayInTurn ts rs
in_turn [] [] s = s
in_turn [] (r ∷ rs) s = s
in_turn (t ∷ ts) [] s = s
in_turn (t ∷ ts) (r ∷ rs) s = (s.0, λ n. in_turn ts rs s.1)

-- one order after another
pub say_append : (ts us : List Test) (rs qs : List Reason) → SayAll ts rs → SayAll us qs → SayAll (ts ++ us) (rs ++ qs)
say_append [] us [] qs s q = q
say_append [] us (r ∷ rs) qs s q = absurd s
say_append (t ∷ ts) us [] qs s q = absurd s
say_append (t ∷ ts) us (r ∷ rs) qs s q = (s.0, say_append ts us rs qs s.1 q)

-- a test that fails where b is false
pub says-not : (n : ℕ) (b : Bool) (P : Type 0) → (b ≡ true → P → ⊥) → (b ≡ false → P)
    → Says (record { number = n; fails = not b }) (record { number = n; holds = P })
says-not n true P never holds = record { number = refl; reason = λ e. absurd (false≢true e); fails = λ p. absurd (never refl p) }
says-not n false P never holds = record { number = refl; reason = λ e. holds refl; fails = λ p. refl }

passes : (t : Test) (r : Reason) → Says t r → t.fails ≡ false → r.holds → ⊥
passes t r s e h = false≢true (sym e ∙ s.fails h)

pub fails-not : (t : Test) (r : Reason) → Says t r → (r.holds → ⊥) → t.fails ≡ false
fails-not t r s n = pick t.fails refl
  where
    pick : (b : Bool) → t.fails ≡ b → b ≡ false
    pick true e = absurd (n (s.reason e))
    pick false e = refl

pub pass-none_in_turn : (ts : List Test) (rs : List Reason) → SayInTurn ts rs → Pass ts → None rs
pass-none_in_turn [] [] s p = tt
pass-none_in_turn [] (r ∷ rs) s p = absurd s
pass-none_in_turn (t ∷ ts) [] s p = absurd s
pass-none_in_turn (t ∷ ts) (r ∷ rs) s p = let n = passes t r s.0 p.0 in (n, pass-none_in_turn ts rs (s.1 n) p.1)

pub none-pass_in_turn : (ts : List Test) (rs : List Reason) → SayInTurn ts rs → None rs → Pass ts
none-pass_in_turn [] [] s n = tt
none-pass_in_turn [] (r ∷ rs) s n = absurd s
none-pass_in_turn (t ∷ ts) [] s n = absurd s
none-pass_in_turn (t ∷ ts) (r ∷ rs) s n = (fails-not t r s.0 n.0, none-pass_in_turn ts rs (s.1 n.0) n.1)

pub pass-none : (ts : List Test) (rs : List Reason) → SayAll ts rs → Pass ts → None rs
pass-none ts rs s = pass-none_in_turn ts rs (in_turn ts rs s)

pub none_pass : (ts : List Test) (rs : List Reason) → SayAll ts rs → None rs → Pass ts
none_pass ts rs s = none-pass_in_turn ts rs (in_turn ts rs s)

-- Gives a says that a is the refusal k. Where no reason of an order holds, what is given goes on with the order `rest`.
module _ {A : Type 0} (Gives : A → Type 0) (k : ℕ) (refuse : ℕ → A) (tells : (m : ℕ) → Gives (refuse m) ↔ (k ≡ m)) where
  gives-next : (t : Test) (r : Reason) (otherwise : A) (rest : List Reason) → Says t r → ((r.holds → ⊥) → Gives otherwise ↔ First k rest)
      → Gives (first_of refuse (t ∷ []) otherwise) ↔ First k (r ∷ rest)
  gives-next t r otherwise rest s later = pick t.fails refl
    where
      pick : (b : Bool) → t.fails ≡ b → Gives (first_of refuse (t ∷ []) otherwise) ↔ First k (r ∷ rest)
      pick true e = rw e (
        λ g. inl (s.reason e, (tells t.number).0 g ∙ s.number),
        λ f. (tells t.number).1 (head f ∙ sym s.number),
      )
        where
          head : First k (r ∷ rest) → k ≡ r.number
          head (inl f) = f.1
          head (inr f) = absurd (f.0 (s.reason e))
      pick false e = rw e (λ g. inr (no-reason, (later no-reason).0 g), λ f. (later no-reason).1 (tail f))
        where
          no-reason : r.holds → ⊥
          no-reason = passes t r s e

          tail : First k (r ∷ rest) → First k rest
          tail (inl f) = absurd (no-reason f.0)
          tail (inr f) = f.1

  pub gives_in_turn : (ts : List Test) (rs : List Reason) (otherwise : A) (rest : List Reason) → SayInTurn ts rs
      → (None rs → Gives otherwise ↔ First k rest) → Gives (first_of refuse ts otherwise) ↔ First k (rs ++ rest)
  gives_in_turn [] [] otherwise rest s later = later tt
  gives_in_turn [] (r ∷ rs) otherwise rest s later = absurd s
  gives_in_turn (t ∷ ts) [] otherwise rest s later = absurd s
  gives_in_turn (t ∷ ts) (r ∷ rs) otherwise rest s later =
      gives-next t r (first_of refuse ts otherwise) (rs ++ rest) s.0 (λ n.
      gives_in_turn ts rs otherwise rest (s.1 n) (λ m. later (n, m)))

  pub gives-first : (ts : List Test) (rs : List Reason) (otherwise : A) (rest : List Reason) → SayAll ts rs
      → (None rs → Gives otherwise ↔ First k rest) → Gives (first_of refuse ts otherwise) ↔ First k (rs ++ rest)
  gives-first ts rs otherwise rest s = gives_in_turn ts rs otherwise rest (in_turn ts rs s)

-- ---- the outcome of tests

refused-tells : (k m : ℕ) → refused m ≡ refused k → k ≡ m
refused-tells k m e = cc

passed-differs : (k : ℕ) → passed ≢ refused k
passed-differs k e = let z : ◌≡◌ {A = ℕ} 0 1 = cc in omega arith

-- where nothing is refused, each test passes
pub passed-pass : (ts : List Test) → outcome ts ≡ passed → Pass ts
passed-pass ts = by_tests refused passed (λ o. o ≡ passed → Pass ts) ts (λ k a e. absurd (passed-differs k (sym e))) (λ p e. p)

-- a number is answered exactly where its reason is the first that holds
pub outcome_in_turn : (ts : List Test) (rs : List Reason) → SayInTurn ts rs → (k : ℕ) → (outcome ts ≡ refused k) ↔ First k rs
outcome_in_turn ts rs say k =
    subst (λ (l : List Reason). (outcome ts ≡ refused k) ↔ First k l) (append-nil rs)
    (gives_in_turn (λ o. o ≡ refused k) k refused (λ m. (refused-tells k m, λ e. cc)) ts rs passed [] say
    (λ n. (passed-differs k, λ e. absurd e)))

module _ (ts : List Test) (rs : List Reason) (say : SayAll ts rs) where
  pub outcome-refused : (k : ℕ) → (outcome ts ≡ refused k) ↔ First k rs
  outcome-refused = outcome_in_turn ts rs (in_turn ts rs say)

  -- and none where no reason holds
  pub outcome-passed : (outcome ts ≡ passed) ↔ None rs
  outcome-passed = (
    λ e. pass-none ts rs say (passed-pass ts e),
    λ n. pass-otherwise refused passed ts (none_pass ts rs say n),
  )
