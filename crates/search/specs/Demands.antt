-- What is owed of the search: each refusal exactly by its reason, and what is found where nothing is refused. Proved in proofs/Demands.antt.
use Rattle.std.specs.Prelude.{◌≡◌, ◌↔◌, true, List, [], ◌∷◌, ℕ, ◌-◌, ◌≤◌, ◌<◌, min, length, get_or}
use Rattle.columns.specs.Columns.{has}
use Rattle.columns.specs.Listed.{count}
use Rattle.columns.specs.declared.Columns.{Columns}
use Rattle.decoding.specs.Locating.{is_root}
use Rattle.decoding.specs.Search.{tried}
use Rattle.frame.specs.Demands.{columns_reason, symbols_reason}
use Rattle.refusal.specs.Order.{Reason, First}
use Rattle.refusal.specs.Outcome.{passed, refused}
use Rattle.search.specs.Search.{nothing, answer}

-- the refusals in their order, each with its reason in the words of the specification
abbrev pub reasons : (n : ℕ) (σ : List ℕ) → List Reason
reasons n σ = columns_reason n ∷ symbols_reason σ ∷ []

-- Demand 1 for the search: each number is answered exactly where its reason is the first that holds, and carries nothing besides.
pub record Demand1 : Type 0 where
  pub exact : (n : ℕ) (σ : List ℕ) (k : ℕ) → ((answer n σ).outcome ≡ refused k) ↔ First k (reasons n σ)
  pub alone : (n : ℕ) (σ : List ℕ) (k : ℕ) → (answer n σ).outcome ≡ refused k → (answer n σ).sought ≡ nothing

-- The columns J that are found and the number t of those tried, c being the length of the register, one less than its taps.
pub record Finds (n : ℕ) (σ : List ℕ) (J : Columns) (t : ℕ) : Type 0 where
  -- up to and with the c-th root, all n where there are fewer, none for c = 0
  pub tried : t ≡ tried n (is_root σ) (length σ - 1)
  -- the roots among the columns tried are found, and no others
  pub found : (i : ℕ) → (has J i ≡ true) ↔ ((i < t) × (is_root σ i ≡ true))
  -- unless all taps are 0 no more than c of the columns are roots
  pub few : (k : ℕ) → (get_or σ k 0 ≡ 0 → ⊥) → count n (is_root σ) ≤ length σ - 1
  -- and all of these are tried
  pub none_lost : (k : ℕ) → (get_or σ k 0 ≡ 0 → ⊥) → (i : ℕ) → i < n → is_root σ i ≡ true → i < t
  -- where they are, every column is a root, and the first c columns are found
  pub zeros : ((k : ℕ) → get_or σ k 0 ≡ 0) → (t ≡ min n (length σ - 1)) × ((i : ℕ) → is_root σ i ≡ true)

-- What is found where nothing is refused.
abbrev pub Demand2 : Type 0
Demand2 =
    (n : ℕ) (σ : List ℕ) → (answer n σ).outcome ≡ passed → Finds n σ (answer n σ).sought.columns (answer n σ).sought.tried
