-- What is left of a row's check sums, all entries side by side: with k coefficients of the locator polynomial multiplied, each total is the sum of the first k
-- terms of its entry.
use mathlib.Core.Path.{◌≡◌, sym, ap, ap₂, ◌∙◌}
use mathlib.Core.List.{List}
use Prim.Native.Nat.{ℕ, suc, ◌+◌, ◌-◌, ◌*◌, ◌%◌, ◌≤◌, ◌<◌}
use native.Mathlib.Nat.{mul-le-mul}
use native.Mathlib.Numerals.{add-one}
use native.Mathlib.Omega.{arith}
use lib.ListN.{length, get_or, length-replicate}
use Rattle.columns.specs.Columns.{members}
use Rattle.columns.specs.declared.Columns.{Columns}
use Rattle.decoding.specs.Remaining.{remaining}
use Rattle.field257.specs.LocatorPolynomial.{locator_polynomial}
use Rattle.field257.proofs.LocatorBuilding.{polynomial_below}
use Rattle.lists.specs.Tabulate.{tabulate}
use Rattle.lists.specs.Total.{total}
use Rattle.lists.proofs.Tabulated.{tabulate_ext}
use Rattle.lists.proofs.Totals.{total-zero, total-suc, total_ext, total-bound}
use Rattle.lists.proofs.Zeros.{zeros, zeros-entry}
use Rattle.register.specs.Register.{discrepancy}
use Rattle.remaining.specs.Multiples.{Totals, grown, Addable}
use Rattle.remaining.specs.Removable.{Removable}

-- what coefficient i adds to entry j, f holding e + 1 coefficients and x the sums
abbrev term : (f x : List ℕ) (e j i : ℕ) → ℕ
term f x e j i = get_or f i 0 * get_or x (e + suc j - i - 1) 0

-- for each of n entries the first k coefficients are multiplied with the sums that they meet
pub record Multiplied (f x : List ℕ) (e n k : ℕ) (totals : List ℕ) : Type 0 where
  pub held : Totals n (λ j. total k (term f x e j)) totals

pub multiplied_none : (f x : List ℕ) (e n : ℕ) → Multiplied f x e n 0 (zeros 64)
multiplied_none f x e n =
    let none : ℕ = 0 in
    record { held = record { size = length-replicate 64 none; each = λ j l. zeros-entry 64 j ∙ sym (total-zero (term f x e j)) } }

module _ {f x : List ℕ} {e n k : ℕ} {totals : List ℕ} (a : Multiplied f x e n k totals) where
  one_more : k ≤ e → (j : ℕ) → j < n → grown totals (get_or f k 0) x (e - k) j ≡ total (k + 1) (term f x e j)
  one_more le j l =
      ap₂ ◌+◌ (a.held.each j l) (ap (λ (i : ℕ). get_or f k 0 * get_or x i 0) (let q : e - k + j ≡ e + suc j - k - 1 = omega arith in q))
      ∙ sym (total-suc k (term f x e j)) ∙ ap (λ (m : ℕ). total m (term f x e j)) (sym (add-one k))

  pub multiplied_more : k ≤ e → {after : List ℕ} → Totals n (grown totals (get_or f k 0) x (e - k)) after → Multiplied f x e n (k + 1) after
  multiplied_more le b = record { held = record { size = b.size; each = λ j l. b.each j l ∙ one_more le j l } }

  -- where the coefficients are those of the locator polynomial of a set
  module _ {powers left : List ℕ} {J : Columns} (r : Removable powers J x left) (count : e ≡ length (members J)) (places : n ≡ length left)
      (agree : (i : ℕ) → get_or f i 0 ≡ get_or (locator_polynomial (members J)) i 0) where
    small : (j i : ℕ) → term f x e j i ≤ 256 * 256
    small j i =
        mul-le-mul (let c : get_or f i 0 ≤ 256 = omega (arith, agree i, polynomial_below (members J) i) in c)
        (let s : get_or x (e + suc j - i - 1) 0 ≤ 256 = omega (arith, r.sums-small (e + suc j - i - 1)) in s)

    pub addable : k ≤ e → Addable totals (get_or f k 0) x (e - k) n
    addable le = record {
      size = a.held.size;
      few = omega (arith, r.sums-few, r.places);
      inside = λ j l. omega (arith, r.places);
      fits = λ j l. omega (arith, one_more le j l, total-bound (k + 1) (256 * 256) (term f x e j) (λ i _. small j i), r.few);
    }

    -- with all of them the totals, reduced, are what is left
    pub multiplied_all : k ≡ e + 1 → tabulate n (λ j. get_or totals j 0 % 257) ≡ remaining J x
    unfolding remaining discrepancy
    multiplied_all past =
        ap (λ (m : ℕ). tabulate m (λ j. get_or totals j 0 % 257)) (places ∙ r.places)
        ∙ tabulate_ext _ _ _ (λ j l.
        ap (λ (t : ℕ). t % 257) (a.held.each j (omega (arith, r.places))
        ∙ ap (λ (m : ℕ). total m (term f x e j)) (let q : k ≡ suc (length (members J)) = omega arith in q)
        ∙ total_ext _ _ _ (λ i _. ap₂ (λ (c ε : ℕ). c * get_or x (ε + suc j - i - 1) 0) (agree i) count)))
