-- The refusals of shapes and frames, each with its reason in the words of the specification, and what is owed of them: each number is given exactly where its
-- reason is the first of its order that holds. With `OnlyLegal` of Encode.antt this is what is owed of the encoder. Proved in proofs/Demands.antt.
use Rattle.std.specs.Prelude.{◌≡◌, ◌⊎◌, ◌↔◌, true, List, [], ◌∷◌, ℕ, ◌*◌, ◌≤◌, ◌<◌, length, get_or}
use Rattle.refusal.specs.Order.{Reason, First}
use Rattle.refusal.specs.Outcome.{outcome, passed, refused}
use Rattle.frame.specs.Encode.{encoded, encode_tests, SameData, OnlyLegal, OnlyUniform}
use Rattle.frame.specs.Frame.{cell, frame_tests, Legal}
use Rattle.frame.specs.Shape.{checks_of, is_shape, shape_tests}
use Rattle.frame.specs.declared.Shape.{Shape}

-- a check count outside 1 to 64 or not below the columns n
abbrev pub BadChecks : (n k : ℕ) → Type 0
BadChecks n k = (k < 1) ⊎ ((64 < k) ⊎ (n ≤ k))

abbrev pub rows_reason : (checks : List ℕ) → Reason
rows_reason checks = record { number = 2; holds = (length checks < 1) ⊎ (8 < length checks) }

abbrev pub columns_reason : (n : ℕ) → Reason
columns_reason n = record { number = 5; holds = (n < 2) ⊎ (256 < n) }

abbrev pub checks_reason : (n : ℕ) (checks : List ℕ) → Reason
checks_reason n checks = record { number = 6; holds = (h : ℕ) × (h < length checks) × BadChecks n (get_or checks h 0) }

abbrev pub exponent_reason : (b : ℕ) → Reason
exponent_reason b = record { number = 32; holds = 255 < b }

abbrev pub shape_reasons : (n : ℕ) (checks : List ℕ) (b : ℕ) → List Reason
shape_reasons n checks b = rows_reason checks ∷ columns_reason n ∷ checks_reason n checks ∷ exponent_reason b ∷ []

abbrev pub size_reason : Shape → (f : List ℕ) → Reason
size_reason s f = record { number = 7; holds = length f ≡ s.rows * s.columns → ⊥ }

-- encode looks at data cells only
abbrev pub data_reason : Shape → (f : List ℕ) → Reason
data_reason s f =
    record {
      number = 4;
      holds =
          (h : ℕ) × (i : ℕ) × (h < s.rows) × (checks_of s h ≤ i) × (i < s.columns) × (257 ≤ cell s.columns f h i);
    }

-- no legal frame has the data
abbrev pub no_legal_reason : Shape → (f : List ℕ) → Reason
no_legal_reason s f = record { number = 34; holds = (g : List ℕ) → Legal s g → SameData s f g → ⊥ }

abbrev pub encode_reasons : Shape → (f : List ℕ) → List Reason
encode_reasons s f = size_reason s f ∷ data_reason s f ∷ no_legal_reason s f ∷ []

abbrev pub symbols_reason : (f : List ℕ) → Reason
symbols_reason f = record { number = 4; holds = (k : ℕ) × (k < length f) × (257 ≤ get_or f k 0) }

abbrev pub frame_reasons : Shape → (f : List ℕ) → List Reason
frame_reasons s f = size_reason s f ∷ symbols_reason f ∷ []

pub record Demand1 : Type 0 where
  pub shape :
      (n : ℕ) (checks : List ℕ) (b k : ℕ) → (outcome (shape_tests n checks b) ≡ refused k) ↔ First k (shape_reasons n checks b)
  pub encode :
      (s : Shape) (f : List ℕ) (k : ℕ) → is_shape s ≡ true → (outcome (encode_tests s f) ≡ refused k) ↔ First k (encode_reasons s f)
  pub frame : (s : Shape) (f : List ℕ) (k : ℕ) → (outcome (frame_tests s f) ≡ refused k) ↔ First k (frame_reasons s f)

-- Demand 2 of the encoder
pub record Demand2 : Type 0 where
  pub encodes : (s : Shape) (f : List ℕ) → is_shape s ≡ true → outcome (encode_tests s f) ≡ passed → OnlyLegal s f (encoded s f)
  pub uniform : (s : Shape) (f : List ℕ) → is_shape s ≡ true → outcome (encode_tests s f) ≡ refused 34 → OnlyUniform s f (encoded s f)
