-- Encoding: the check cells of each row are filled from its data cells (SPECIFICATION.md, "Jobs" and "Frames"). Checks sit in columns 0 .. N_h − 1.
use Rattle.std.specs.Prelude.{◌≡◌, Bool, not, ◌||◌, List, [], ◌∷◌, ℕ, zero, suc, ◌*◌, ◌≤◌, ◌<◌, ltb, eqb, length}
use Rattle.columns.specs.Columns.{columns_of}
use Rattle.lists.specs.Parts.{replaced}
use Rattle.lists.specs.Tabulate.{every}
use Rattle.refusal.specs.Order.{Test}
use Rattle.frame.specs.Completion.{completed}
use Rattle.frame.specs.Frame.{row, cell, Coded, Varied, Legal, uniform}
use Rattle.frame.specs.Shape.{checks_of}
use Rattle.frame.specs.declared.Shape.{Shape}

-- a frame of n columns with x in the place of its row h
abbrev pub with_row : (n : ℕ) (f : List ℕ) (h : ℕ) (x : List ℕ) → List ℕ
with_row n f h x = replaced (h * n) n f x

-- a frame of n columns with each row h below `rows` changed by g h
unfoldable pub each_row : (n : ℕ) (g : ℕ → List ℕ → List ℕ) (rows : ℕ) (f : List ℕ) → List ℕ
each_row n g zero f = f
each_row n g (suc h) f = let e : List ℕ = each_row n g h f in with_row n e h (g h (row n e h))

unfoldable pub encoded : Shape → (f : List ℕ) → List ℕ
encoded s f =
    each_row s.columns (λ h. completed s.exponent s.columns (columns_of (λ i. ltb i (checks_of s h)))) s.rows f

-- whether every data cell holds a symbol below 257
unfoldable pub data_below : Shape → (f : List ℕ) → Bool
data_below s f =
    every s.rows (λ h. every s.columns (λ i. ltb i (checks_of s h) || ltb (cell s.columns f h i) 257))

-- the refusals of encode that concern the frame, in their order
unfoldable pub encode_tests : Shape → (f : List ℕ) → List Test
encode_tests s f =
    record { number = 7; fails = not (eqb (length f) (s.rows * s.columns)) } ∷
    record { number = 4; fails = not (data_below s f) } ∷
    record { number = 34; fails = uniform (encoded s f) } ∷
    []

-- two frames have the same data
abbrev pub SameData : Shape → (f g : List ℕ) → Type 0
SameData s f g =
    (h i : ℕ) → h < s.rows → checks_of s h ≤ i → i < s.columns → cell s.columns f h i ≡ cell s.columns g h i

-- Demand 2 of the encoder: what it leaves is legal, has the data given, and is the only codeword that has them, so the only legal frame.
pub record OnlyLegal (s : Shape) (f e : List ℕ) : Type 0 where
  pub legal : Legal s e
  pub same_data : SameData s f e
  pub only : (g : List ℕ) → Coded s g → SameData s f g → g ≡ e

-- Where it refuses by 34: one codeword has the data given, and it is uniform.
pub record OnlyUniform (s : Shape) (f e : List ℕ) : Type 0 where
  pub coded : Coded s e
  pub same_data : SameData s f e
  pub only : (g : List ℕ) → Coded s g → SameData s f g → g ≡ e
  pub not-varied : Varied e → ⊥
