-- Distances among the eight places in circular order, by plain sums in the place of remainders.
use mathlib.Core.Path.{◌≡◌}
use Prim.Native.Nat.{ℕ, suc, ◌+◌, ◌-◌, ◌*◌, ◌/◌, ◌%◌, ◌≤◌, ◌<◌}
use native.Mathlib.Omega.{arith}
use Rattle.turns.specs.Turning.{between}

pub between-below : (k last : ℕ) → between k last < 8
between-below k last = omega arith

-- from the one after the last it is as many places on to job k as jobs stand between
pub place_of : (k last : ℕ) → k < 8 → last < 8 → k ≡ (suc last + between k last) % 8
place_of k last b l = omega arith

-- the same with the quotient: 1 where job k comes after the last, and 0 where the way to it leads around
around : (k last : ℕ) → k < 8 → last < 8 → between k last + suc last + 8 * ((k + 7 - last) / 8) ≡ k + 8
around k last b l = omega arith

-- and the other way round: the place i on has i between
pub between-place : (k last i : ℕ) → last < 8 → i < 8 → k ≡ (suc last + i) % 8 → between k last ≡ i
between-place k last i l b e =
    same (between k last) ((k + 7 - last) / 8) ((suc last + i) / 8) (around k last (omega arith) l) (omega arith) (between-below k last)
  where
    same : (m q s : ℕ) → m + suc last + 8 * q ≡ k + 8 → suc last + i ≡ k + 8 * s → m < 8 → m ≡ i
    same m q s p r c = omega arith

-- Jobs j and k with i and m between the last and them, and x between j and k. Two steps, since `omega` does not manage both at once.
apart : (k j last i m p q : ℕ) → k < 8 → j < 8 → (j ≡ k → ⊥) → i + suc last + 8 * p ≡ j + 8 → m + suc last + 8 * q ≡ k + 8 → i ≤ m → i < m
apart k j last i m p q kb jb differ to_j to-k le = omega arith

part_of_way : (i m x q s : ℕ) → x + suc i + 8 * s ≡ m + 8 + 8 * q → i < m → m < 8 → x < 8 → x < m
part_of_way i m x q s way lt bm bx = omega arith

-- another job that stands no further from the last than job k is closer to job k than the last
pub nearer : (k j last : ℕ) → k < 8 → j < 8 → last < 8 → (j ≡ k → ⊥) → between j last ≤ between k last → between k j < between k last
nearer k j last kb jb lb differ no-further =
    over (between j last) (between k last) (between k j) ((j + 7 - last) / 8) ((k + 7 - last) / 8) ((k + 7 - j) / 8) (around j last jb lb)
    (around k last kb lb) (around k j kb jb) no-further (between-below k last) (between-below k j)
  where
    over : (i m x p q r : ℕ) → i + suc last + 8 * p ≡ j + 8 → m + suc last + 8 * q ≡ k + 8 → x + suc j + 8 * r ≡ k + 8 → i ≤ m → m < 8 → x < 8 → x < m
    over i m x p q r to_j to-k onward le = part_of_way i m x q (p + r) (omega arith) (apart k j last i m p q kb jb differ to_j to-k le)
