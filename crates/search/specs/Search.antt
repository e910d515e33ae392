-- What the search answers for any taps and any number of columns (SPECIFICATION.md, "Search", and the refusals 5, 4 in this order).
use Rattle.std.specs.Prelude.{false, List, [], ◌∷◌, ℕ, Result, Ok, Err}
use Rattle.columns.specs.Columns.{columns_of}
use Rattle.decoding.specs.Search.{tried_for, sought_columns}
use Rattle.frame.specs.Frame.{symbols_test}
use Rattle.frame.specs.Shape.{columns_test}
use Rattle.refusal.specs.Number.{number}
use Rattle.refusal.specs.Order.{Test, first_of}
use Rattle.refusal.specs.Outcome.{Outcome, passed, refused}
use Rattle.refusal.specs.declared.Refusal.{Refusal}
use Rattle.search.specs.declared.Sought.{Sought}

-- passed or the number of a refusal, and what is found
pub record Answer : Type 0 where
  pub outcome : Outcome
  pub sought : Sought

-- no column found, none tried
abbrev pub nothing : Sought
nothing = record { columns = columns_of (λ i. false); tried = 0 }

abbrev pub answer_of : Result Sought Refusal → Answer
answer_of (Ok s) = record { outcome = passed; sought = s }
answer_of (Err why) = record { outcome = refused (number why); sought = nothing }

-- what a search for the columns that the taps σ name finds among n columns
abbrev pub sought : (n : ℕ) (σ : List ℕ) → Sought
sought n σ = record { columns = sought_columns n σ; tried = tried_for n σ }

-- the refusals in their order: the columns are outside 2 to 256; a tap is not below 257. Any number of taps is taken, and any first tap
unfoldable pub search_tests : (n : ℕ) (σ : List ℕ) → List Test
search_tests n σ = columns_test n ∷ symbols_test σ ∷ []

-- a refusal carries its number alone
unfoldable pub answer : (n : ℕ) (σ : List ℕ) → Answer
answer n σ =
    first_of (λ k. record { outcome = refused k; sought = nothing }) (search_tests n σ) (record { outcome = passed; sought = sought n σ })
