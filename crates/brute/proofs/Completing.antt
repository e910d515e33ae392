-- Rows that can be completed at columns: the equations of the check sums are gathered in a table, one after the other, and a solution is a symbol for each
-- column.
use Rattle.std.proofs.Common.{◌≡◌, ℕ, zero, suc, ◌+◌, ◌*◌, ◌%◌, ◌^◌, ◌<◌, ◌≤◌, true, List, length, get_or, set, sym, refl, ap, ◌∙◌, subst, ap₂, mod-lt, mul_comm, mul-one, add-one, arith, length-set, get_or-set_other, get_or-set_same}
use native.Mathlib.Decide.{ℕ_discrete}
use Rattle.plain.proofs.Congruences.{equal, same_sum}
use Rattle.plain.proofs.Powers.{mod-is-rem, power_of_power}
use Rattle.plain.proofs.Remainders.{rem-mul}
use Rattle.plain.proofs.Terms.{sum_head, sum_same}
use Rattle.plain.proofs.Tests.{each_none, each_more}
use Rattle.plain.specs.Plain.{Each, rem, sum}
use Rattle.plain.specs.Written.{Wrote}
use Rattle.brute.proofs.AllSequences.{next-length}
use Rattle.elimination.proofs.BackSubstitution.{some_solution}
use Rattle.brute.proofs.Gathering.{contradicted, gathered_as, gathered-cleared, gathered-more}
use Rattle.elimination.proofs.Primes.{in_field, plain-prime_257}
use Rattle.elimination.specs.Equations.{Cleared, Decided, Numbers, Room, Solves}
use Rattle.brute.specs.Erasures.{Completable, sum_equation}
use Rattle.brute.specs.Registers.{Gathered, Residues}
use Rattle.elimination.specs.declared.Added.{Added}
use Rattle.elimination.specs.declared.Added.TheVariants.{Contradicts}

sum_posed : (list : List ℕ) (s y : ℕ) → sum_equation list s y 0 ≡ s
unfolding sum_equation
sum_posed list s y = refl

weight-suc : (list : List ℕ) (s y k : ℕ) → sum_equation list s y (suc k) ≡ y ^ get_or list k 0 % 257
unfolding sum_equation
weight-suc list s y k = refl

-- the weight of column k of the list
pub weight_posed : (list : List ℕ) (s y k : ℕ) {i v : ℕ} → i ≡ get_or list k 0 → v ≡ y ^ i % 257 → v ≡ sum_equation list s y (k + 1)
weight_posed list s y k {i} {v} ei ev =
    ev ∙ ap (λ (c : ℕ). y ^ c % 257) ei ∙ sym (weight-suc list s y k) ∙ ap (sum_equation list s y) (sym (add-one k))

-- the constant is written first, then the weights
pub all_posed : (list : List ℕ) (s y n : ℕ) (old first new : List ℕ) → first ≡ set old 0 s → Wrote first new 1 (n + 1) (sum_equation list s y) →
    n ≡ length list → Wrote old new 0 (length list + 1) (sum_equation list s y)
all_posed list s y n old first new e w all = record {
  size = w.size ∙ length-first;
  within = λ k low high less. at k high less (ℕ_discrete k 0);
  before = λ k less. absurd (let z : ⊥ = omega arith in z);
  after = λ k past. w.after k (omega arith) ∙ other k (omega arith);
}
  where
    length-first : length first ≡ length old
    length-first = ap length e ∙ length-set old 0 s

    other : (k : ℕ) → 1 ≤ k → get_or first k 0 ≡ get_or old k 0
    other k low = ap (λ (l : List ℕ). get_or l k 0) e ∙ get_or-set_other old 0 k s 0 (λ q. let z : ⊥ = omega arith in z)

    at : (k : ℕ) → k < length list + 1 → k < length old → Dec (k ≡ 0) → get_or new k 0 ≡ sum_equation list s y k
    at k high less (yes q) =
        w.before k (omega arith) ∙ ap (λ (l : List ℕ). get_or l k 0) e ∙ ap (λ (m : ℕ). get_or (set old 0 s) m 0) q
        ∙ get_or-set_same old 0 s 0 (omega arith) ∙ sym (sum_posed list s y) ∙ ap (sum_equation list s y) (sym q)
    at k high less (no q) = w.within k (omega arith) (omega arith) (let z = length-first in omega arith)

-- numbers for the unknowns of a symbol for each column
numbers_from : (x : ℕ → ℕ) (k : ℕ) → ℕ
numbers_from x zero = 1
numbers_from x (suc k) = x k

numbers-first : (x : ℕ → ℕ) → numbers_from x 0 ≡ 1
unfolding numbers_from
numbers-first x = refl

numbers-next : (x : ℕ → ℕ) (k : ℕ) → numbers_from x (suc k) ≡ x k
unfolding numbers_from
numbers-next x k = refl

numbers-from : (x : ℕ → ℕ) → ((k : ℕ) → x k < 257) → Numbers 257 (numbers_from x)
numbers-from x small = record { one = numbers-first x; below = below }
  where
    below : (k : ℕ) → numbers_from x k < 257
    below zero = let e = numbers-first x in omega arith
    below (suc k) = let e = numbers-next x k in let b = small k in omega arith

-- what the equation of the sum at place j comes to
equation-sum : (b : ℕ) (list : List ℕ) (s j : ℕ) (t : ℕ → ℕ) → t 0 ≡ 1 →
    rem (sum (length list + 1) (λ i. sum_equation list s (3 ^ (b + j) % 257) i * t i)) 257
    ≡ rem (s + sum (length list) (λ k. t (suc k) * 3 ^ (get_or list k 0 * (b + j)))) 257
equation-sum b list s j t one =
    equal 257 (ap (λ (n : ℕ). sum n f) (add-one (length list)) ∙ sum_head (length list) f)
    ∙ same_sum 257 (f 0) s (sum (length list) (λ k. f (suc k))) (sum (length list) g) (equal 257 first) (sum_same 257 (length list) (λ k. f (suc k)) g term)
  where
    f : ℕ → ℕ
    f i = sum_equation list s (3 ^ (b + j) % 257) i * t i

    g : ℕ → ℕ
    g k = t (suc k) * 3 ^ (get_or list k 0 * (b + j))

    first : f 0 ≡ s
    first = ap₂ ◌*◌ (sum_posed list s (3 ^ (b + j) % 257)) one ∙ mul-one s

    weight : (k : ℕ) → sum_equation list s (3 ^ (b + j) % 257) (suc k) ≡ rem (3 ^ (get_or list k 0 * (b + j))) 257
    weight k =
        weight-suc list s (3 ^ (b + j) % 257) k ∙ power_of_power 3 (b + j) (get_or list k 0) refl
        ∙ ap (λ (m : ℕ). 3 ^ m % 257) (mul_comm (b + j) (get_or list k 0)) ∙ mod-is-rem (3 ^ (get_or list k 0 * (b + j)))

    term : (k : ℕ) → k < length list → rem (f (suc k)) 257 ≡ rem (g k) 257
    term k h =
        equal 257 (ap (λ (w : ℕ). w * t (suc k)) (weight k)) ∙ rem-mul (3 ^ (get_or list k 0 * (b + j))) (t (suc k)) 257
        ∙ equal 257 (mul_comm (3 ^ (get_or list k 0 * (b + j))) (t (suc k)))

symbols-solve : (b : ℕ) (list : List ℕ) (s j : ℕ) (x : ℕ → ℕ) → rem (s + sum (length list) (λ k. x k * 3 ^ (get_or list k 0 * (b + j)))) 257 ≡ 0 →
    Solves 257 (length list + 1) (sum_equation list s (3 ^ (b + j) % 257)) (numbers_from x)
unfolding numbers_from
symbols-solve b list s j x e = equation-sum b list s j (numbers_from x) refl ∙ e

module _ (b : ℕ) (list sums : List ℕ) where
  -- t solves the equations of the first m sums
  abbrev MeetsSums : (m : ℕ) (t : ℕ → ℕ) → Type 0
  MeetsSums m t = Each 0 m (λ j. Solves 257 (length list + 1) (sum_equation list (get_or sums j 0) (3 ^ (b + j) % 257)) t)

  -- the equations of the first m sums are gathered
  pub record SumsGathered (m : ℕ) (old table : List ℕ) : Type 0 where
    pub size : length table ≡ length old
    pub gathered : length list ≤ 128 → Residues 257 sums → length old ≡ 16641 → Gathered 257 (length list + 1) (MeetsSums m) table true

  pub sums_begin : (old table : List ℕ) (n : ℕ) → n ≡ (length list + 1) % 2 ^ 64 → Cleared old table n → SumsGathered 0 table table
  sums_begin old table n e cleared = record {
    size = refl;
    gathered = λ few residues places.
        gathered-cleared 257 (length list + 1) table old
        (subst (λ (m : ℕ). Cleared old table m) (next-length (length list) n (omega arith) e) cleared)
        (MeetsSums 0) (λ t. each_none (λ j. Solves 257 (length list + 1) (sum_equation list (get_or sums j 0) (3 ^ (b + j) % 257)) t) 0);
  }

  module _ (m n s y : ℕ) (old table posed next : List ℕ) (w : SumsGathered m old table) (inside : m < length sums) (at : s ≡ get_or sums m 0)
      (step : y ≡ 3 ^ (b + m) % 257) (wrote : Wrote table posed 0 (length list + 1) (sum_equation list s y)) (answer : Added)
      (e : n ≡ (length list + 1) % 2 ^ 64) (decided : Decided 257 n answer posed next) where
    abbrev equation : ℕ → ℕ
    equation = sum_equation list (get_or sums m 0) (3 ^ (b + m) % 257)

    module _ (few : length list ≤ 128) (residues : Residues 257 sums) (places : length old ≡ 16641) where
      below : (k : ℕ) → k < length list + 1 → equation k < 257
      below zero h = let e = sum_posed list (get_or sums m 0) (3 ^ (b + m) % 257) in let l = residues m (omega arith) inside in omega arith
      below (suc k) h =
          let w : ℕ = (3 ^ (b + m) % 257) ^ get_or list k 0 in
          let e = weight-suc list (get_or sums m 0) (3 ^ (b + m) % 257) k in let l : w % 257 < 257 = mod-lt w (omega arith) in omega arith

      room : Room (length list + 1) table
      room = record { most = omega arith; places = w.size ∙ places }

      put : Wrote table posed 0 (length list + 1) equation
      put = subst (λ (f : ℕ → ℕ). Wrote table posed 0 (length list + 1) f) (ap₂ (sum_equation list) at step) wrote

      settled : Decided 257 (length list + 1) answer posed next
      settled = subst (λ (x : ℕ). Decided 257 x answer posed next) (next-length (length list) n (omega arith) e) decided

    pub sums-more : (answer ≡ Contradicts → ⊥) → SumsGathered (m + 1) old next
    sums-more other = record {
      size = decided.size ∙ wrote.size ∙ w.size;
      gathered = λ few residues places.
          gathered_as 257 (length list + 1) next true (λ t. MeetsSums m t × Solves 257 (length list + 1) equation t) (MeetsSums (m + 1))
          (λ t numbers. (
            λ r. each_more (λ j. Solves 257 (length list + 1) (sum_equation list (get_or sums j 0) (3 ^ (b + j) % 257)) t) 0 m r.0 r.1,
            λ r. (λ j low high. r j low (omega arith), r m (omega arith) (omega arith)),
          ))
          (gathered-more 257 (length list + 1) table posed equation (room few residues places) (put few residues places) plain-prime_257 (omega arith)
          (below few residues places) (MeetsSums m) (w.gathered few residues places) answer next (settled few residues places) other);
    }

    pub sums_fail : answer ≡ Contradicts → length list ≤ 128 → Residues 257 sums → length old ≡ 16641 → Completable b list sums → ⊥
    sums_fail is few residues places (x, small, all) =
        contradicted 257 (length list + 1) table posed equation (room few residues places) (put few residues places) plain-prime_257 (omega arith)
        (below few residues places) (MeetsSums m) (w.gathered few residues places) answer next (settled few residues places) is
        (numbers_from x) (numbers-from x small) (λ j low high. symbols-solve b list (get_or sums j 0) j x (all j low (omega arith)))
        (symbols-solve b list (get_or sums m 0) m x (all m (omega arith) inside))

  pub sums-done : (m : ℕ) (old table : List ℕ) → SumsGathered m old table → m ≡ length sums → length list ≤ 128 → Residues 257 sums → length old ≡ 16641 →
      Completable b list sums
  sums-done m old table w all few residues places =
      let g = w.gathered few residues places in
      let (t, numbers, rows) = some_solution 257 (length list + 1) table (in_field 257 plain-prime_257) (g.echelon refl) in (
        λ k. t (suc k),
        λ k. numbers.below (suc k),
        λ j low high. sym (equation-sum b list (get_or sums j 0) j t numbers.one) ∙ (g.solved refl t numbers).0 rows j low (omega arith),
      )
