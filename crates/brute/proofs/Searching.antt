-- The search for the shortest register, length after length.
use Rattle.std.proofs.Common.{◌≡◌, ℕ, ◌+◌, ◌<◌, ◌≤◌, Bool, true, false, List, length, refl, ◌∙◌, subst, arith}
use native.Mathlib.Decide.{ℕ_discrete}
use Rattle.plain.specs.Plain.{Each, Tells}
use Rattle.brute.proofs.Producing.{some-register, one-register, two-registers, no_register}
use Rattle.elimination.specs.Equations.{LeadsRow}
use Rattle.brute.specs.Registers.{Gathered, Given, Meets, Produces, Searched, Solvable}

-- no register of a length below l generates the sequences
pub record NoneBelow (p : ℕ) (lengths symbols old : List ℕ) (l : ℕ) (table : List ℕ) : Type 0 where
  pub size : length table ≡ length old
  pub least : Given p symbols old → (m : ℕ) → m < l → (taps : List ℕ) → Produces p m lengths symbols taps → ⊥

module _ (p : ℕ) (lengths symbols old : List ℕ) where
  pub none_yet : NoneBelow p lengths symbols old 0 old
  none_yet = record { size = refl; least = λ given m less. absurd (let z : ⊥ = omega arith in z) }

  module _ (l : ℕ) (table next : List ℕ) (w : NoneBelow p lengths symbols old l table) (small : l ≤ 128) (b : Bool)
      (tried : Solvable p l lengths symbols table next b) where
    gathered : (c : Bool) → b ≡ c → Given p symbols old → Gathered p (l + 1) (Meets p l lengths symbols) next c
    gathered c e given =
        subst (λ (x : Bool). Gathered p (l + 1) (Meets p l lengths symbols) next x) e
        (tried.gathered (record { prime = given.prime; residues = given.residues; places = w.size ∙ given.places }) small)

    pub none_more : b ≡ false → NoneBelow p lengths symbols old (l + 1) next
    none_more fails = record { size = tried.size ∙ w.size; least = λ given m less. pick given m less (ℕ_discrete m l) }
      where
        pick : Given p symbols old → (m : ℕ) → m < l + 1 → Dec (m ≡ l) → (taps : List ℕ) → Produces p m lengths symbols taps → ⊥
        pick given m less (yes e) taps q =
            no_register p l lengths symbols given.prime next (gathered false fails given) taps
            (subst (λ (x : ℕ). Produces p x lengths symbols taps) e q)
        pick given m less (no e) taps q = w.least given m (omega arith) taps q

    pub found : b ≡ true → (alone : Bool) → Tells alone (Each 1 (l + 1) (λ k. LeadsRow next k)) → Searched p lengths symbols old next l alone
    found holds alone told = record {
      size = tried.size ∙ w.size;
      bound = omega arith;
      shortest = λ given. record {
        bound = omega arith;
        found = λ le. some-register p l lengths symbols given.prime next (gathered true holds given);
        least = w.least given;
        only = λ e. (small, one-register p l lengths symbols given.prime next (gathered true holds given) (told.yes e));
        several = λ e le. two-registers p l lengths symbols given.prime next (gathered true holds given) (told.no e);
      };
      conditions = λ given le. gathered true holds given;
      leads = told.yes;
    }

  pub not_found : (l : ℕ) (table : List ℕ) → NoneBelow p lengths symbols old l table → l ≤ 129 → 129 ≤ l → Searched p lengths symbols old table 129 false
  not_found l table w le ge = record {
    size = w.size;
    bound = omega arith;
    shortest = λ given. record {
      bound = omega arith;
      found = λ small. absurd (let z : ⊥ = omega arith in z);
      least = λ m less. w.least given m (omega arith);
      only = λ e. absurd (let z : ◌≡◌ {A = ℕ} 0 1 = cc in omega arith);
      several = λ e small. absurd (let z : ⊥ = omega arith in z);
    };
    conditions = λ given small. absurd (let z : ⊥ = omega arith in z);
    leads = λ e. absurd (let z : ◌≡◌ {A = ℕ} 0 1 = cc in omega arith);
  }
