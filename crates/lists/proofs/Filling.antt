-- Lists by index, changed one entry after the other: setting an entry, and filling a list, from its front or from a later place.
use mathlib.Core.Path.{◌≡◌, refl, sym, ap, ◌∙◌}
use mathlib.Core.Logic.{◌≢◌}
use mathlib.Core.Bool.{Bool, true, false, cond}
use mathlib.Core.List.{List}
use Prim.Native.Nat.{ℕ, ◌+◌, ◌≤◌, ◌<◌, zero-le}
use native.Mathlib.Decide.{dec_lt, ℕ_discrete}
use native.Mathlib.Omega.{arith}
use borrow.Author.Tests.{lt-ltb, le-ltb}
use lib.Dec.{ltb}
use lib.ListN.{length, get_or, set, take, length-set, get_or-eq_default}
use lib.Seq.{length-take-le, get_or-take, get_or-set_same, get_or-set_other}
use Rattle.lists.proofs.Zeros.{zeros, zeros-entry}
use Rattle.lists.proofs.Tabulated.{length-tabulate, get_d_tabulate, tabulate_ext, tabulate-get_or}
use Rattle.lists.specs.Tabulate.{tabulate}

-- a list that has n entries, at each k what g says
pub by_entries : (n : ℕ) (g : ℕ → ℕ) (l : List ℕ) → length l ≡ n → ((k : ℕ) → k < n → get_or l k 0 ≡ g k) → l ≡ tabulate n g
by_entries n g l e h =
    sym (tabulate-get_or l 0) ∙ ap (λ (m : ℕ). tabulate m (λ k. get_or l k 0)) e ∙ tabulate_ext n (λ k. get_or l k 0) g h

-- the first n entries
pub take-tabulate : (n : ℕ) (l : List ℕ) → n ≤ length l → take n l ≡ tabulate n (λ i. get_or l i 0)
take-tabulate n l h = by_entries n (λ i. get_or l i 0) (take n l) (length-take-le n l h) (λ k b. get_or-take n l k 0 b)

-- the entry i becomes h i, and the others are h's already
pub set-tabulate : (n : ℕ) (g h : ℕ → ℕ) (i v : ℕ) → i < n → v ≡ h i → ((k : ℕ) → k < n → k ≢ i → g k ≡ h k) → set (tabulate n g) i v ≡ tabulate n h
set-tabulate n g h i v less e others =
    by_entries n h (set (tabulate n g) i v) (length-set (tabulate n g) i v ∙ length-tabulate n g) (λ k l. at k l (ℕ_discrete k i))
  where
    at : (k : ℕ) → k < n → Dec (k ≡ i) → get_or (set (tabulate n g) i v) k 0 ≡ h k
    at k l (yes q) =
        ap (λ (m : ℕ). get_or (set (tabulate n g) i v) m 0) q
        ∙ get_or-set_same (tabulate n g) i v 0 (let m = length-tabulate n g in omega arith) ∙ e ∙ ap h (sym q)
    at k l (no q) = get_or-set_other (tabulate n g) i k v 0 q ∙ get_d_tabulate n g k 0 l ∙ others k l q

-- the next bound takes in no other number than i
pub ltb_next : (k i : ℕ) → k ≢ i → ltb k i ≡ ltb k (i + 1)
ltb_next k i other = next (dec_lt k i)
  where
    next : Dec (k < i) → ltb k i ≡ ltb k (i + 1)
    next (yes l) = lt-ltb k i l ∙ sym (lt-ltb k (i + 1) (omega arith))
    next (no l) = le-ltb k i (omega arith) ∙ sym (le-ltb k (i + 1) (omega arith))

-- the list l with its first j entries taken from f instead
abbrev filling : (f : ℕ → ℕ) (l : List ℕ) (j : ℕ) → List ℕ
filling f l j = tabulate (length l) (λ k. cond (ltb k j) (f k) (get_or l k 0))

-- filling `from` with f has come to j, and left l
pub record Filled (f : ℕ → ℕ) (from : List ℕ) (j : ℕ) (l : List ℕ) : Type 0 where
  pub within : j ≤ length from
  pub size : length l ≡ length from
  pub entries : l ≡ filling f from j

module _ (f : ℕ → ℕ) (from : List ℕ) where
  -- how entry k is chosen
  abbrev chosen : ℕ → Bool → ℕ
  chosen k b = cond b (f k) (get_or from k 0)

  -- filling may begin where the entries before are f's already
  pub filled-from : (j : ℕ) → j ≤ length from → ((k : ℕ) → k < j → f k ≡ get_or from k 0) → Filled f from j from
  filled-from j le before = record {
    within = le;
    size = refl;
    entries = by_entries (length from) (λ k. chosen k (ltb k j)) from refl (λ k h. at k (dec_lt k j));
  }
    where
      at : (k : ℕ) → Dec (k < j) → get_or from k 0 ≡ chosen k (ltb k j)
      at k (yes l) = sym (before k l) ∙ ap (chosen k) (sym (lt-ltb k j l))
      at k (no l) = ap (chosen k) (sym (le-ltb k j (omega arith)))

  pub filled_none : Filled f from 0 from
  filled_none = filled-from 0 zero-le (λ k l. absurd (let z : ⊥ = omega arith in z))

  pub filled_more : (j v : ℕ) (l : List ℕ) → Filled f from j l → j < length l → v ≡ f j → Filled f from (j + 1) (set l j v)
  filled_more j v l a less e = record {
    within = (let s = a.size in omega arith);
    size = length-set l j v ∙ a.size;
    entries =
        ap (λ (m : List ℕ). set m j v) a.entries
        ∙ set-tabulate (length from) (λ k. chosen k (ltb k j)) (λ k. chosen k (ltb k (j + 1))) j v (let s = a.size in omega arith)
        (e ∙ ap (chosen j) (sym (lt-ltb j (j + 1) (omega arith)))) (λ k h q. ap (chosen k) (ltb_next k j q));
  }

  module _ (j : ℕ) (l : List ℕ) (a : Filled f from j l) where
    entry : (k : ℕ) → k < length from → (b : Bool) → ltb k j ≡ b → get_or l k 0 ≡ chosen k b
    entry k less b t =
        ap (λ (m : List ℕ). get_or m k 0) a.entries ∙ get_d_tabulate (length from) (λ k. chosen k (ltb k j)) k 0 less ∙ ap (chosen k) t

    pub filled-entry : (k : ℕ) → k < j → get_or l k 0 ≡ f k
    filled-entry k less = entry k (let w = a.within in omega arith) true (lt-ltb k j less)

    -- what filling has not come to is as it was
    pub filled-rest : (k : ℕ) → j ≤ k → k < length from → get_or l k 0 ≡ get_or from k 0
    filled-rest k le less = entry k less false (le-ltb k j le)

    pub filled-all : length l ≤ j → l ≡ tabulate (length from) f
    filled-all le = by_entries (length from) f l a.size (λ k h. filled-entry k (let s = a.size in omega arith))

-- zeros that are filled up to where f is 0 from there on hold what f says, past the end too
pub filled-zeros : (f : ℕ → ℕ) (n j : ℕ) (l : List ℕ) → Filled f (zeros n) j l → ((k : ℕ) → j ≤ k → f k ≡ 0) → (k : ℕ) → get_or l k 0 ≡ f k
filled-zeros f n j l a past k = pick (dec_lt k j) (dec_lt k (length (zeros n)))
  where
    pick : Dec (k < j) → Dec (k < length (zeros n)) → get_or l k 0 ≡ f k
    pick (yes h) d = filled-entry f (zeros n) j l a k h
    pick (no h) (yes d) = filled-rest f (zeros n) j l a k (omega arith) d ∙ zeros-entry n k ∙ sym (past k (omega arith))
    pick (no h) (no d) = get_or-eq_default l 0 (let s = a.size in omega arith) ∙ sym (past k (omega arith))
