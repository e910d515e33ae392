-- Equations gathered in a table one after the other: each is put into row 0 and added, until one contradicts those before it.
use Rattle.std.proofs.Common.{◌≡◌, ℕ, ◌<◌, ◌≤◌, Bool, true, false, ◌↔◌, List, get_or, sym, refl, ◌∙◌, arith}
use Rattle.plain.specs.Written.{Wrote}
use Rattle.elimination.proofs.SameRows.{solves_ext, same-echelon, same-solved}
use Rattle.elimination.specs.Equations.{Cleared, Decided, Echelon, Numbers, Posed, Room, Solves, SolvesAdded, SolvesRows}
use Rattle.elimination.specs.Prime.{Prime}
use Rattle.brute.specs.Registers.{Gathered}
use Rattle.elimination.specs.declared.Added.{Added}
use Rattle.elimination.specs.declared.Added.TheVariants.{Contradicts}

-- an equation of residues e that is written into row 0
module _ (p n : ℕ) (table posed : List ℕ) (e : ℕ → ℕ) (room : Room n table) (w : Wrote table posed 0 n e) where
  written : (j : ℕ) → j < n → get_or posed j 0 ≡ e j
  written j h = w.within j (omega arith) h (let l = room.places in let m = room.most in omega arith)

  pub posing : Prime p → 1 ≤ n → Echelon p n table → ((j : ℕ) → j < n → e j < p) → Posed p n posed
  posing prime some echelon below = record {
    prime = prime;
    some = some;
    room = record { most = room.most; places = w.size ∙ room.places };
    echelon = same-echelon p n table posed room.most w.after echelon;
    residues = λ j l h. let q = written j h in let b = below j h in omega arith;
  }

  pub rows_posed : (t : ℕ → ℕ) → SolvesRows p n posed t ↔ SolvesRows p n table t
  rows_posed = same-solved p n table posed room.most w.after

  pub equation_posed : (t : ℕ → ℕ) → Solves p n e t → SolvesAdded p n posed t
  equation_posed t s = solves_ext p n e (λ j. get_or posed j 0) t (λ j h. sym (written j h)) s

  pub equation-before : (t : ℕ → ℕ) → SolvesAdded p n posed t → Solves p n e t
  equation-before t s = solves_ext p n (λ j. get_or posed j 0) e t written s

  module _ (prime : Prime p) (some : 1 ≤ n) (below : (j : ℕ) → j < n → e j < p) (conditions : (ℕ → ℕ) → Type 0)
      (gathered : Gathered p n conditions table true) (answer : Added) (next : List ℕ) (decided : Decided p n answer posed next) where
    put : Posed p n posed
    put = posing prime some (gathered.echelon refl) below

    pub gathered-more : (answer ≡ Contradicts → ⊥) → Gathered p n (λ t. conditions t × Solves p n e t) next true
    gathered-more other = record {
      echelon = λ holds. (decided.settled put).echelon;
      solved = λ holds t numbers.
          let rows = (decided.settled put).solved other t numbers in (
            λ s. let both = rows.0 s in ((gathered.solved refl t numbers).0 ((rows_posed t).0 both.0), equation-before t both.1),
            λ s. rows.1 ((rows_posed t).1 ((gathered.solved refl t numbers).1 s.0), equation_posed t s.1),
          );
      none = λ fails. absurd (let z : ◌≡◌ {A = ℕ} 0 1 = cc in omega arith);
    }

    pub contradicted : answer ≡ Contradicts → (t : ℕ → ℕ) → Numbers p t → conditions t → Solves p n e t → ⊥
    contradicted is t numbers c s =
        (decided.settled put).contradicts is t numbers ((rows_posed t).1 ((gathered.solved refl t numbers).1 c)) (equation_posed t s)

module _ (p n : ℕ) (table : List ℕ) where
  -- what the table holds to begin with
  pub gathered-rows : Echelon p n table → Gathered p n (λ t. SolvesRows p n table t) table true
  gathered-rows echelon = record {
    echelon = λ holds. echelon;
    solved = λ holds t numbers. (λ s. s, λ s. s);
    none = λ fails. absurd (let z : ◌≡◌ {A = ℕ} 0 1 = cc in omega arith);
  }

  -- the same conditions, said otherwise
  pub gathered_as : (b : Bool) (c d : (ℕ → ℕ) → Type 0) → ((t : ℕ → ℕ) → Numbers p t → c t ↔ d t) → Gathered p n c table b → Gathered p n d table b
  gathered_as b c d same g = record {
    echelon = g.echelon;
    solved = λ holds t numbers. (λ s. (same t numbers).0 ((g.solved holds t numbers).0 s), λ s. (g.solved holds t numbers).1 ((same t numbers).1 s));
    none = λ fails t numbers s. g.none fails t numbers ((same t numbers).1 s);
  }

  pub gathered_none : (c : (ℕ → ℕ) → Type 0) → ((t : ℕ → ℕ) → Numbers p t → c t → ⊥) → Gathered p n c table false
  gathered_none c never = record {
    echelon = λ holds. absurd (let z : ◌≡◌ {A = ℕ} 0 1 = cc in omega arith);
    solved = λ holds. absurd (let z : ◌≡◌ {A = ℕ} 0 1 = cc in omega arith);
    none = λ fails. never;
  }

  -- where no row leads every t solves the rows
  pub gathered-cleared : (old : List ℕ) → Cleared old table n → (c : (ℕ → ℕ) → Type 0) → ((t : ℕ → ℕ) → c t) → Gathered p n c table true
  gathered-cleared old cleared c always = record {
    echelon = λ holds. record {
      leads = λ k j low less high lead. absurd (lead (cleared.leads k (omega arith) high));
      below = λ k j low high inside lead. absurd (lead (cleared.leads k low high));
    };
    solved = λ holds t numbers. (λ s. always t, λ s k low high lead. absurd (lead (cleared.leads k low high)));
    none = λ fails. absurd (let z : ◌≡◌ {A = ℕ} 0 1 = cc in omega arith);
  }
