-- Parts of lists.
use Rattle.std.specs.Prelude.{List, ◌++◌, ℕ, take, drop}

-- xs with ys in the place of its n entries from place a on
abbrev pub replaced {ℓ} : {A : Type ℓ} → (a n : ℕ) (xs ys : List A) → List A
replaced a n xs ys = take a xs ++ (ys ++ drop n (drop a xs))
