-- A list of numbers mapped, by index.
use mathlib.Core.Path.{◌≡◌, refl}
use mathlib.Core.List.{List, [], ◌∷◌, map}
use Prim.Native.Nat.{ℕ, zero, suc, ◌<◌}
use native.Mathlib.Nat.{not-suc-le-zero, le_of_suc-le-suc}
use lib.ListN.{length, get_or}

pub get_or_mapped {ℓ} : {A : Type ℓ} (f : ℕ → A) (l : List ℕ) (p : ℕ) (d : A) → p < length l → get_or (map f l) p d ≡ f (get_or l p 0)
get_or_mapped f [] p d h = absurd (not-suc-le-zero h)
get_or_mapped f (x ∷ xs) zero d h = refl
get_or_mapped f (x ∷ xs) (suc p) d h = get_or_mapped f xs p d (le_of_suc-le-suc h)
