-- Going over the columns of a set, numbered or not: which column is given at a turn, and how many turns there are. A walk over the set stands at that column.
use mathlib.Core.Path.{◌≡◌, refl, sym, ap, ◌∙◌}
use mathlib.Core.Bool.{true}
use mathlib.Core.List.{List}
use Prim.Native.Nat.{ℕ, ◌+◌, ◌≤◌, ◌<◌}
use native.Mathlib.Decide.{dec_lt}
use native.Mathlib.Omega.{arith}
use lib.ListN.{length, get_or}
use Rattle.std.proofs.lemmas.Grind.{get_or_default_zero}
use Rattle.std.proofs.lemmas.List.FromFn.{length-enumerate_from, get_or-enumerate_from}
use Rattle.std.specs.List.{enumerate_from}
use Rattle.columns.specs.Columns.{has, members}
use Rattle.columns.specs.declared.Columns.{Columns}
use Rattle.columns.proofs.Listing.{Entry, entry, length-listed}
use Rattle.columns.proofs.Walk.{Walk, walk-member, walk_end}

-- the column i is given after d others, with the number k
pub record Turn (J : Columns) (d k i : ℕ) : Type 0 where
  pub number : k ≡ d
  pub inside : d < length (members J)
  pub here : get_or (members J) d 0 ≡ i
  pub below : i < 256
  pub marked : has J i ≡ true

module _ (J : Columns) (d : ℕ) where
  pub given : (i : ℕ) → (d < length (members J)) × (i ≡ get_or (members J) d i) → Turn J d d i
  given i (inside, same) = record { number = refl; inside = inside; here = here; below = member.below; marked = member.passes }
    where
      here : get_or (members J) d 0 ≡ i
      here = sym (same ∙ get_or_default_zero (members J) d i inside)

      member : Entry 256 (has J) d i
      member = rw (sym here) (entry 256 (has J) d (let l = inside in let n = length-listed 256 (has J) in omega arith))

  pub numbered : (k i : ℕ) → (d < length (enumerate_from 0 (members J))) × ((k, i) ≡ get_or (enumerate_from 0 (members J)) d (k, i)) → Turn J d k i
  numbered k i (less, same) =
      let t = given i (inside, ap (λ (p : ℕ × ℕ). p.1) pair) in
      record {
        number = (let n = ap (λ (p : ℕ × ℕ). p.0) pair in omega arith);
        inside = inside;
        here = t.here;
        below = t.below;
        marked = t.marked;
      }
    where
      inside : d < length (members J)
      inside = omega (arith, length-enumerate_from 0 (members J))

      pair : ◌≡◌ {A = ℕ × ℕ} (k, i) (0 + d, get_or (members J) d i)
      pair = same ∙ get_or-enumerate_from 0 (members J) d (k, i) inside

  pub all_numbered : (xs : List (ℕ × ℕ)) → (xs ≡ enumerate_from 0 (members J)) × (d ≡ length (enumerate_from 0 (members J))) → d ≡ length (members J)
  all_numbered xs (_, all) = all ∙ length-enumerate_from 0 (members J)

  module _ (i : ℕ) (w : Walk J d i) where
    pub walk-turn : (k j : ℕ) → Turn J d k j → i ≡ j
    walk-turn k j t = pick (dec_lt i 256)
      where
        pick : Dec (i < 256) → i ≡ j
        pick (yes l) = sym (walk-member J d i w l).1 ∙ t.here
        pick (no l) = absurd (let e = walk_end J d i w (omega arith) in let less = t.inside in let z : ⊥ = omega arith in z)

    pub walk-over : d ≡ length (members J) → 256 ≤ i
    walk-over e = pick (dec_lt i 256)
      where
        pick : Dec (i < 256) → 256 ≤ i
        pick (yes l) = absurd (let less = (walk-member J d i w l).0 in let z : ⊥ = omega arith in z)
        pick (no l) = omega arith
