-- Laws of `count` and `listed`: the list of the numbers below n that pass P has as many entries as there are such numbers, holds exactly
-- these, rises, and has k at the place that counts those below k.
use mathlib.Core.Path.{◌≡◌, refl, sym, ap, ap₂, ◌∙◌, subst}
use mathlib.Core.Bool.{Bool, true, false, cond}
use mathlib.Core.List.{List, [], ◌∷◌, ◌++◌, append_assoc, append-nil}
use mathlib.Core.Logic.{◌⊎◌, inl, inr}
use Prim.Native.Nat.{ℕ, zero, suc, ◌+◌, ◌≤◌, ◌<◌, zero-le}
use native.Mathlib.Nat.{add-zero, add-suc, add_comm, add_assoc, eq-or-lt_of_le, le_dest, not-suc-le-zero}
use native.Mathlib.Decide.{le_ind}
use native.Mathlib.Omega.{arith}
use lib.Dec.{ltb}
use lib.ListN.{length, get_or, length-append}
use lib.Seq.{get_or_at}
use borrow.Author.Tests.{lt-ltb, le-ltb}
use Rattle.columns.specs.Listed.{count, listed}

-- the clauses, as equations
pub count-zero : (P : ℕ → Bool) → count 0 P ≡ 0
unfolding count
count-zero P = refl

count-suc : (n : ℕ) (P : ℕ → Bool) → count (suc n) P ≡ count n P + cond (P n) 1 0
unfolding count
count-suc n P = refl

listed_suc : (n : ℕ) (P : ℕ → Bool) → listed (suc n) P ≡ listed n P ++ cond (P n) (n ∷ []) []
unfolding listed
listed_suc n P = refl

-- one step over a number that passes, and over one that fails
pub count-pass : (n : ℕ) (P : ℕ → Bool) → P n ≡ true → count (suc n) P ≡ suc (count n P)
count-pass n P e = let h = count-suc n P ∙ ap (λ (b : Bool). count n P + cond b 1 0) e in omega arith

pub count_fail : (n : ℕ) (P : ℕ → Bool) → P n ≡ false → count (suc n) P ≡ count n P
count_fail n P e = let h = count-suc n P ∙ ap (λ (b : Bool). count n P + cond b 1 0) e in omega arith

pub listed-pass : (n : ℕ) (P : ℕ → Bool) → P n ≡ true → listed (suc n) P ≡ listed n P ++ (n ∷ [])
listed-pass n P e = listed_suc n P ∙ ap (λ (b : Bool). listed n P ++ cond b (n ∷ []) []) e

pub listed_fail : (n : ℕ) (P : ℕ → Bool) → P n ≡ false → listed (suc n) P ≡ listed n P
listed_fail n P e = listed_suc n P ∙ ap (λ (b : Bool). listed n P ++ cond b (n ∷ []) []) e ∙ append-nil (listed n P)

pub by-test : (b : Bool) → (b ≡ true) ⊎ (b ≡ false)
by-test true = inl refl
by-test false = inr refl

-- ---- counts

pub count-le : (n : ℕ) (P : ℕ → Bool) → count n P ≤ n
unfolding count
count-le zero P = zero-le
count-le (suc n) P = step (count-le n P) (by-test (P n))
  where
    step : count n P ≤ n → (P n ≡ true) ⊎ (P n ≡ false) → count (suc n) P ≤ suc n
    step ih (inl e) = omega (arith, count-pass n P e)
    step ih (inr e) = omega (arith, count_fail n P e)

-- tests that agree below n count alike
pub count_ext : (n : ℕ) (P Q : ℕ → Bool) → ((k : ℕ) → k < n → P k ≡ Q k) → count n P ≡ count n Q
unfolding count
count_ext zero P Q h = refl
count_ext (suc n) P Q h =
    ap₂ (λ (a : ℕ) (b : Bool). a + cond b 1 0) (count_ext n P Q (λ k l. h k (omega arith))) (h n (omega arith))

-- a range is counted in two parts
pub count-split : (m n : ℕ) (P : ℕ → Bool) → count (m + n) P ≡ count m P + count n (λ k. P (m + k))
unfolding count
count-split m zero P = ap (λ (k : ℕ). count k P) (add-zero m) ∙ sym (add-zero (count m P))
count-split m (suc n) P =
    ap (λ (k : ℕ). count k P) (add-suc m n) ∙ ap (λ (a : ℕ). a + cond (P (m + n)) 1 0) (count-split m n P)
    ∙ add_assoc (count m P) (count n (λ k. P (m + k))) (cond (P (m + n)) 1 0)

-- 0 is counted apart
pub count_head : (n : ℕ) (P : ℕ → Bool) → count (suc n) P ≡ cond (P 0) 1 0 + count n (λ k. P (suc k))
unfolding count
count_head zero P = add_comm 0 (cond (P 0) 1 0)
count_head (suc n) P =
    ap (λ (a : ℕ). a + cond (P (suc n)) 1 0) (count_head n P)
    ∙ add_assoc (cond (P 0) 1 0) (count n (λ k. P (suc k))) (cond (P (suc n)) 1 0)

-- where none passes from a up to b, no more are counted
pub count_skip : (a b : ℕ) (P : ℕ → Bool) → a ≤ b → ((k : ℕ) → a ≤ k → k < b → P k ≡ false) → count b P ≡ count a P
count_skip a zero P h none = ap (λ (k : ℕ). count k P) (let e : 0 ≡ a = omega arith in e)
count_skip a (suc b) P h none = step (λ l. count_skip a b P l (λ k p q. none k p (omega arith))) (eq-or-lt_of_le h)
  where
    step : (a ≤ b → count b P ≡ count a P) → (a ≡ suc b) ⊎ (a < suc b) → count (suc b) P ≡ count a P
    step ih (inl e) = ap (λ (k : ℕ). count k P) (sym e)
    step ih (inr l) =
        let p : a ≤ b = omega arith in
        count_fail b P (none b p (omega arith)) ∙ ih p

-- where all pass, the count is the bound
pub count-all : (n : ℕ) (P : ℕ → Bool) → ((k : ℕ) → k < n → P k ≡ true) → count n P ≡ n
unfolding count
count-all zero P h = refl
count-all (suc n) P h = count-pass n P (h n (omega arith)) ∙ ap suc (count-all n P (λ k l. h k (omega arith)))

pub count_mono : (a b : ℕ) (P : ℕ → Bool) → a ≤ b → count a P ≤ count b P
count_mono a b P h =
    let d = le_dest h in
    let e : count b P ≡ count a P + count d.0 (λ k. P (a + k)) = ap (λ (k : ℕ). count k P) (sym d.1) ∙ count-split a d.0 P in
    omega arith

-- a number that passes is counted
pub count-lt : (k n : ℕ) (P : ℕ → Bool) → k < n → P k ≡ true → count k P < count n P
count-lt k n P h e = omega (arith, count-pass k P e, count_mono (suc k) n P h)

-- ---- the list

pub length-listed : (n : ℕ) (P : ℕ → Bool) → length (listed n P) ≡ count n P
unfolding count listed
length-listed zero P = refl
length-listed (suc n) P =
    length-append (listed n P) (cond (P n) (n ∷ []) []) ∙ ap₂ (λ (a b : ℕ). a + b) (length-listed n P) (of_test (P n))
  where
    of_test : (b : Bool) → length (cond b (n ∷ []) []) ≡ cond b 1 0
    of_test true = refl
    of_test false = refl

-- tests that agree below n list alike
pub listed_ext : (n : ℕ) (P Q : ℕ → Bool) → ((k : ℕ) → k < n → P k ≡ Q k) → listed n P ≡ listed n Q
unfolding listed
listed_ext zero P Q h = refl
listed_ext (suc n) P Q h =
    ap₂ (λ (l : List ℕ) (b : Bool). l ++ cond b (n ∷ []) []) (listed_ext n P Q (λ k l. h k (omega arith))) (h n (omega arith))

-- the list begins with that of a lower bound
listed_prefix : (k n : ℕ) (P : ℕ → Bool) → k ≤ n → (rest : List ℕ) × (listed n P ≡ listed k P ++ rest)
listed_prefix k n P =
    le_ind (λ (m : ℕ). (rest : List ℕ) × (listed m P ≡ listed k P ++ rest)) ([], sym (append-nil (listed k P)))
    (λ m h ih. let last : List ℕ = cond (P m) (m ∷ []) [] in
    (ih.0 ++ last, listed_suc m P ∙ ap (λ (l : List ℕ). l ++ last) ih.1 ∙ append_assoc (listed k P) ih.0 last)) n

-- a number that passes stands at the place that counts those below it
pub listed_at : (k n : ℕ) (P : ℕ → Bool) → k < n → P k ≡ true → get_or (listed n P) (count k P) 0 ≡ k
listed_at k n P h e =
    let p = listed_prefix (suc k) n P h in
    ap (λ (l : List ℕ). get_or l (count k P) 0)
    (p.1 ∙ ap (λ (l : List ℕ). l ++ p.0) (listed-pass k P e) ∙ append_assoc (listed k P) (k ∷ []) p.0)
    ∙ get_or_at (listed k P) k p.0 0 (count k P) (length-listed k P)

-- entry j of the list, k: it is below n, passes, and j numbers below it pass
pub record Entry (n : ℕ) (P : ℕ → Bool) (j k : ℕ) : Type 0 where
  pub below : k < n
  pub passes : P k ≡ true
  pub place : count k P ≡ j

-- j counts those below some number that passes
placed : (n : ℕ) (P : ℕ → Bool) (j : ℕ) → j < count n P → (k : ℕ) × Entry n P j k
unfolding count
placed zero P j h = absurd (not-suc-le-zero h)
placed (suc n) P j h = step (placed n P j) (by-test (P n))
  where
    up : (k : ℕ) × Entry n P j k → (k : ℕ) × Entry (suc n) P j k
    up (k, e) = (k, record { below = (let l = e.below in omega arith); passes = e.passes; place = e.place })

    last : P n ≡ true → (j ≡ count n P) ⊎ (j < count n P) → (j < count n P → (k : ℕ) × Entry n P j k) → (k : ℕ) × Entry (suc n) P j k
    last e (inl q) ih = (n, record { below = omega arith; passes = e; place = sym q })
    last e (inr l) ih = up (ih l)

    step : (j < count n P → (k : ℕ) × Entry n P j k) → (P n ≡ true) ⊎ (P n ≡ false) → (k : ℕ) × Entry (suc n) P j k
    step ih (inl e) = last e (eq-or-lt_of_le (let l : j ≤ count n P = omega (arith, count-pass n P e) in l)) ih
    step ih (inr e) = up (ih (omega (arith, count_fail n P e)))

pub entry : (n : ℕ) (P : ℕ → Bool) (j : ℕ) → j < count n P → Entry n P j (get_or (listed n P) j 0)
entry n P j h =
    let (k, e) = placed n P j h in
    subst (Entry n P j) (sym (ap (λ (i : ℕ). get_or (listed n P) i 0) (sym e.place) ∙ listed_at k n P e.below e.passes)) e

-- ---- the numbers below m

pub count-below : (m n : ℕ) → m ≤ n → count n (λ k. ltb k m) ≡ m
count-below m n h = count_skip m n (λ k. ltb k m) h (λ k p q. le-ltb k m p) ∙ count-all m (λ k. ltb k m) (λ k l. lt-ltb k m l)
