-- The order in which symbols are read: position m of sequence g, of t sequences, has the place m·t + g.
use mathlib.Core.Path.{◌≡◌, ap}
use Prim.Native.Nat.{ℕ, suc, ◌+◌, ◌*◌, ◌≤◌, ◌<◌}
use native.Mathlib.Nat.{mul-le-mul_right, suc-mul}
use native.Mathlib.Decide.{dec_le}
use native.Mathlib.Omega.{arith}

module _ (t : ℕ) where
  -- all places of a position come before those of a later one
  later-position : {m n : ℕ} → m < n → m * t + t ≤ n * t
  later-position {m} {n} h = omega (arith, mul-le-mul_right t h, suc-mul m t)

  position-le : (m n g h : ℕ) → h < t → m * t + g ≤ n * t + h → m ≤ n
  position-le m n g h l e = go (dec_le m n)
    where
      go : Dec (m ≤ n) → m ≤ n
      go (yes q) = q
      go (no q) = let r : n < m = omega arith in absurd (let z : ⊥ = omega (arith, later-position r) in z)

  -- places of different symbols differ
  pub same-position : (m n g h : ℕ) → g < t → h < t → m * t + g ≡ n * t + h → m ≡ n
  same-position m n g h lg lh e =
      let a : m ≤ n = position-le m n g h lh (omega arith) in
      let b : n ≤ m = position-le n m h g lg (omega arith) in
      omega arith

  pub same-sequence : (m n g h : ℕ) → g < t → h < t → m * t + g ≡ n * t + h → g ≡ h
  same-sequence m n g h lg lh e = omega (arith, ap (λ x. x * t) (same-position m n g h lg lh e))

  -- within one sequence the places are ordered as the positions
  pub position-lt : (m n h : ℕ) → h < t → m * t + h < n * t + h → m < n
  position-lt m n h l e = go (dec_le n m)
    where
      go : Dec (n ≤ m) → m < n
      go (no q) = omega arith
      go (yes q) = absurd (let z : ⊥ = omega (arith, mul-le-mul_right t q) in z)

  -- the places before (n + 1)·t are those of positions up to n
  pub place-in-round : (m n g : ℕ) → g < t → m ≤ n → m * t + g < suc n * t
  place-in-round m n g l h = omega (arith, mul-le-mul_right t h, suc-mul n t)

  pub position-in-round : (m n g : ℕ) → m * t + g < suc n * t → m ≤ n
  position-in-round m n g e = go (dec_le m n)
    where
      go : Dec (m ≤ n) → m ≤ n
      go (yes q) = q
      go (no q) =
          let r : n < m = omega arith in
          absurd (let z : ⊥ = omega (arith, later-position r, suc-mul n t) in z)
