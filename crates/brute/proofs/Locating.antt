-- What the second locator answers, by the shortest register that was found and the marks that it leaves.
use Rattle.std.proofs.Common.{◌≡◌, ℕ, ◌+◌, ◌%◌, ◌^◌, ◌<◌, ◌≤◌, Bool, true, false, ◌⊎◌, ◌↔◌, List, length, get_or, replicate, sym, refl, ap, ◌∙◌, subst, inl, inr, arith}
use native.Mathlib.Decide.{dec_lt}
use lib.ListN.{length-replicate}
use Rattle.plain.specs.Plain.{Tells, capped, sum}
use Rattle.elimination.proofs.Primes.{plain-prime_257}
use Rattle.brute.proofs.Producing.{taps-numbers, taps_meet}
use Rattle.brute.proofs.AllSequences.{next-length}
use Rattle.brute.specs.Locating.{Determined, Located, MarkedRoots, RootAt}
use Rattle.brute.specs.Registers.{Given, Produces, Residues, Searched}

-- the two refusals by which nothing is marked are none of the other two numbers
marks-apart : (number : ℕ) → (number ≡ 24) ⊎ (number ≡ 25) → (number ≡ 0) ⊎ (number ≡ 26) → ⊥
marks-apart number (inl a) (inl b) = omega arith
marks-apart number (inl a) (inr b) = omega arith
marks-apart number (inr a) (inl b) = omega arith
marks-apart number (inr a) (inr b) = omega arith

module _ (columns : ℕ) (checks sums room held old : List ℕ) (l : ℕ) (alone : Bool) (begun : room ≡ replicate 16641 0)
    (s : Searched 257 checks sums room held l alone) where
  given : Residues 257 sums → Given 257 sums room
  given residues = record { prime = plain-prime_257; residues = residues; places = ap length begun ∙ length-replicate {A = ℕ} 16641 0 }

  abbrev Short : Type 0
  Short = (h : ℕ) × (h < length checks) × (get_or checks h 0 < l)

  unmarked : (number : ℕ) → (number ≡ 24) ⊎ (number ≡ 25) → ((number ≡ 24) ↔ (alone ≡ false)) → (number ≡ 25 → Short) →
      Located columns checks sums old old number l
  unmarked number is several short = record {
    numbers = pick is;
    alone = alone;
    shortest = λ residues. s.shortest (given residues);
    several = several;
    short = short;
    enough = λ e. absurd (marks-apart number is e);
    unmarked = λ e. refl;
    marked = λ e. absurd (marks-apart number is e);
    roots = λ residues e. absurd (marks-apart number is e);
    found = λ e. absurd (marks-apart number is (inl e));
    missed = λ e. absurd (marks-apart number is (inr e));
  }
    where
      pick : (number ≡ 24) ⊎ (number ≡ 25) → (number ≡ 0) ⊎ ((number ≡ 24) ⊎ ((number ≡ 25) ⊎ (number ≡ 26)))
      pick (inl e) = inr (inl e)
      pick (inr e) = inr (inr (inl e))

  pub not-alone : alone ≡ false → Located columns checks sums old old 24 l
  not-alone e = unmarked 24 (inl refl) (λ q. e, λ q. refl) (λ q. absurd (let z : ⊥ = omega arith in z))

  module _ (one : alone ≡ true) (b : Bool) (told : Tells b Short) where
    pub too_short : b ≡ true → Located columns checks sums old old 25 l
    too_short taken =
        unmarked 25 (inr refl)
        (λ q. absurd (let z : ⊥ = omega arith in z), λ q. absurd (let z : ◌≡◌ {A = ℕ} 0 1 = cc in omega arith))
        (λ q. told.yes taken)

    module _ (left : b ≡ false) (n : ℕ) (next : n ≡ (l + 1) % 2 ^ 64) (new : List ℕ) (m : MarkedRoots n held old new columns)
        (count : ℕ) (counted : count ≡ capped (sum (length new) (λ i. get_or new i 0))) where
      none-short : (h : ℕ) → h < length checks → l ≤ get_or checks h 0
      none-short h less = pick (dec_lt (get_or checks h 0) l)
        where
          pick : Dec (get_or checks h 0 < l) → l ≤ get_or checks h 0
          pick (yes q) = absurd (told.no left (h, less, q))
          pick (no q) = omega arith

      marks : MarkedRoots (l + 1) held old new columns
      marks = subst (λ (k : ℕ). MarkedRoots k held old new columns) (next-length l n s.bound next) m

      determined : Residues 257 sums → Determined (l + 1) held
      determined residues =
          let small = ((s.shortest (given residues)).only one).0 in
          record {
            some = omega arith;
            room = record { most = omega arith; places = s.size ∙ (given residues).places };
            echelon = (s.conditions (given residues) small).echelon refl;
            leads = s.leads one;
          }

      roots : Residues 257 sums → (taps : List ℕ) → Produces 257 l checks sums taps → (i : ℕ) → i < columns → i < length old →
          (get_or new i 0 ≡ 1) ↔ RootAt (l + 1) (λ k. get_or taps k 0) i
      roots residues taps w =
          let small = ((s.shortest (given residues)).only one).0 in
          let numbers = taps-numbers 257 l checks sums plain-prime_257 taps w.register in
          let solved = ((s.conditions (given residues) small).solved refl (λ k. get_or taps k 0) numbers).1 (taps_meet 257 l checks sums taps w) in
          marks.roots (determined residues) (λ k. get_or taps k 0) numbers solved

      marked : (number : ℕ) → (number ≡ 0) ⊎ (number ≡ 26) → (number ≡ 0 → count ≡ l) → (number ≡ 26 → count ≡ l → ⊥) →
          Located columns checks sums old new number l
      marked number is found missed = record {
        numbers = pick is;
        alone = alone;
        shortest = λ residues. s.shortest (given residues);
        several = (λ e. absurd (marks-apart number (inl e) is), λ e. absurd (let z : ◌≡◌ {A = ℕ} 0 1 = cc in omega arith));
        short = λ e. absurd (marks-apart number (inr e) is);
        enough = λ e. none-short;
        unmarked = λ e. absurd (marks-apart number e is);
        marked = λ e. m.marked;
        roots = λ residues e. roots residues;
        found = λ e. sym counted ∙ found e;
        missed = λ e q. missed e (counted ∙ q);
      }
        where
          pick : (number ≡ 0) ⊎ (number ≡ 26) → (number ≡ 0) ⊎ ((number ≡ 24) ⊎ ((number ≡ 25) ⊎ (number ≡ 26)))
          pick (inl e) = inl e
          pick (inr e) = inr (inr (inr e))

      pub other-number : (count ≡ l → ⊥) → Located columns checks sums old new 26 l
      other-number n = marked 26 (inr refl) (λ e. absurd (let z : ⊥ = omega arith in z)) (λ e. n)

      pub same_number : count ≡ l → Located columns checks sums old new 0 l
      same_number e = marked 0 (inl refl) (λ q. e) (λ q. absurd (let z : ⊥ = omega arith in z))
