-- Programs that work on their input as it comes, turn by turn. What is owed of a run of turns that ends is the text of all that came; before the end, what is
-- left of that text is owed for the bytes that are left. Proved in proofs/Runs.antt.
use Rattle.std.specs.Prelude.{◌≡◌, Bool, true, false, List, [], ◌∷◌, ◌++◌, map, ℕ}
use Rattle.lists.specs.Tabulate.{joined}
use Rattle.lines.specs.Lines.{rest_of, lines_of, text_of}

-- One turn. The bytes x are left of the turns before it, and more may come or not; the bytes c come, the text t is handed over, and the bytes y are left;
-- then more may come still, or not. What is to be written is what is handed over, and then what is to be written for the bytes that are left; none of a record
-- that is not all there is lost while more may come; and nothing comes after the end.
pub record Turn (x : List ℕ) (more : Bool) (c t y : List ℕ) (still : Bool) : Type 0 where
  pub lines : text_of still (x ++ c) ≡ t ++ text_of still y
  pub rest : still ≡ true → rest_of (x ++ c) ≡ rest_of y
  pub ended : more ≡ false → (c ≡ []) × (still ≡ false)

-- what is seen of a turn
pub record Step : Type 0 where
  pub came : List ℕ
  pub handed : List ℕ
  pub left : List ℕ
  pub still : Bool

-- turns one after the other, from the bytes x, after which more may come or not, to the bytes y, after which more may come still, or not
abbrev pub Turns : (x : List ℕ) (more : Bool) → List Step → (y : List ℕ) (still : Bool) → Type 0
Turns x more [] y still = (x ≡ y) × (more ≡ still)
Turns x more (s ∷ ss) y still = Turn x more s.came s.handed s.left s.still × Turns s.left s.still ss y still

-- turns until the input has ended and nothing is left of it
abbrev pub Run : (x : List ℕ) (more : Bool) → List Step → Type 0
Run x more ss = Turns x more ss [] false

abbrev pub came_in : List Step → List ℕ
came_in ss = joined (map (λ s. s.came) ss)

abbrev pub handed_in : List Step → List ℕ
handed_in ss = joined (map (λ s. s.handed) ss)

-- a run from nothing hands over the text of all that came, however it came
abbrev pub Runs : Type 0
Runs = (ss : List Step) → Run [] true ss → handed_in ss ≡ lines_of (came_in ss)

-- What holds of turns from nothing wherever they have come to: the text of all that came is what is handed over, and then what is to be written for the bytes
-- that are left; and none of a record that is not all there is lost while more may come.
pub record SoFar (ss : List Step) (y : List ℕ) (still : Bool) : Type 0 where
  pub lines : text_of still (came_in ss) ≡ handed_in ss ++ text_of still y
  pub rest : still ≡ true → rest_of (came_in ss) ≡ rest_of y

abbrev pub AtAnyTurn : Type 0
AtAnyTurn = (ss : List Step) (y : List ℕ) (still : Bool) → Turns [] true ss y still → SoFar ss y still
