-- Where no row has checks left a well-formed frame is located, whatever its cells hold: the register is the one of length 0, which names no column.
use mathlib.Core.Path.{◌≡◌, refl, sym, ap}
use mathlib.Core.Bool.{true, not}
use mathlib.Core.List.{List, [], ◌∷◌}
use Prim.Native.Nat.{ℕ, zero, suc, ◌≤◌, ◌<◌}
use native.Mathlib.Omega.{arith}
use lib.ListN.{length, get_or}
use borrow.Author.Tests.{le-leb, le-ltb}
use Rattle.columns.specs.Columns.{has, either, members}
use Rattle.columns.specs.declared.Columns.{Columns}
use Rattle.columns.specs.Listed.{count}
use Rattle.columns.proofs.Joined.{either-right}
use Rattle.columns.proofs.Listing.{length-listed}
use Rattle.columns.proofs.Subset.{within-le}
use Rattle.decoding.specs.Locating.{size_of, taps_of, named, names_all, named_columns}
use Rattle.decoding.specs.Remaining.{remaining, sums_read, read_sequences, left_reach, completable}
use Rattle.decoding.proofs.LeftSequences.{rows_left, left_at}
use Rattle.decoding.proofs.RemainingSums.{length-remaining}
use Rattle.decoding.proofs.SequenceRegister.{same_size, alone-marked}
use Rattle.frame.specs.DeclaredCells.{Declared, checks_left, WellFormedRead}
use Rattle.frame.specs.declared.Shape.{Shape}
use Rattle.lists.proofs.Tabulated.{every_of}
use Rattle.register.specs.Register.{Shortest, Alone}
use Rattle.register.specs.Sequences.{longest}
use Rattle.register.proofs.Ordering.{longest-bounds}
use Rattle.job.proofs.Forms.{Locates}

-- the taps of the register of length 0
abbrev one : List ℕ
one = 1 ∷ []

only_one : (τ : List ℕ) → length τ ≡ 1 → get_or τ 0 0 ≡ 1 → τ ≡ one
only_one [] n e = absurd (let z : ⊥ = omega arith in z)
only_one (x ∷ []) n e = ap (λ (y : ℕ). y ∷ []) e
only_one (x ∷ (y ∷ ys)) n e = absurd (let z : ⊥ = omega arith in z)

-- a set is no larger than with others added
size-right : (J K : Columns) → length (members K) ≤ length (members (either J K))
size-right J K =
    omega (arith, length-listed 256 (has K), length-listed 256 (has (either J K)), within-le 256 (has K) (has (either J K)) (either-right J K))

module _ (s : Shape) (D : Declared) (f : List ℕ) (none : longest (read_sequences s D f) ≡ 0) where
  abbrev ss : List (List ℕ)
  ss = read_sequences s D f

  nothing : (h : ℕ) → h < length ss → length (get_or ss h []) ≡ 0
  nothing h b = omega (arith, longest-bounds ss h b)

  shortest : Shortest 257 0 ss one
  shortest =
      record {
        generator = record {
          register = record { taps = refl; first = refl; residues = small };
          generates = λ h b j some within. absurd (let z : ⊥ = omega (arith, nothing h b) in z);
        };
        least = λ m less τ g. let z : ⊥ = omega arith in z;
      }
    where
      small : (i : ℕ) → i < length one → get_or one i 0 < 257
      small zero b = omega arith
      small (suc i) b = absurd (let z : ⊥ = omega arith in z)

  alone : Alone 257 0 ss one
  alone τ g = only_one τ (omega (arith, g.register.taps)) g.register.first

  size_none : size_of ss ≡ 0
  size_none = sym (same_size ss 0 one shortest)

  reach : left_reach s D (size_of ss) ≡ true
  unfolding left_reach
  reach = every_of s.rows _ (λ h b. le-leb (size_of ss) (checks_left s D h) (omega (arith, size_none)))

  names : names_all s (taps_of ss) (size_of ss) ≡ true
  unfolding names_all
  names = ap not (le-ltb (count s.columns (named s (taps_of ss))) (size_of ss) (omega (arith, size_none)))

  fits : completable s D (named_columns s (taps_of ss)) (sums_read s D f) ≡ true
  unfolding completable
  fits = every_of s.rows _ (λ h b. every_of _ _ (λ j inside. absurd (let z : ⊥ = omega (arith, left h b) in z)))
    where
      M : Columns
      M = named_columns s (taps_of ss)

      left : (h : ℕ) → h < s.rows → length (remaining (either M (D h)) (get_or (sums_read s D f) h [])) ≡ 0
      left h b =
          let x : List ℕ = get_or (sums_read s D f) h [] in
          omega (
            arith,
            length-remaining (either M (D h)) x,
            length-remaining (D h) x,
            ap length (left_at s D f h b),
            nothing h (omega (arith, rows_left s D f)),
            size-right M (D h),
          )

  pub nothing_left : WellFormedRead s D f → Locates s D f
  nothing_left w = record { well_formed = w; alone = alone-marked ss 0 one shortest alone; reach = reach; names = names; fits = fits }
