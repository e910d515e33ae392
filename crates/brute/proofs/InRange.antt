-- Values of sequences of residues are residues, also before the first, where they read as 0.
use Rattle.std.proofs.Common.{◌≡◌, ℕ, ◌+◌, ◌-◌, ◌<◌, ◌≤◌, List, length, get_or, drop, ap, ◌∙◌, arith, get_or-drop, get_or-take}
use native.Mathlib.Decide.{dec_le, dec_lt}
use lib.ListN.{get_or-eq_default}
use Rattle.plain.proofs.Choices.{before_in, before_out, part_in, part_out, part-length-le}
use Rattle.plain.specs.Plain.{before, part}
use Rattle.elimination.specs.Prime.{Prime}
use Rattle.brute.specs.Registers.{Residues}

module _ (p : ℕ) (prime : Prime p) where
  value-below : (s : List ℕ) → Residues p s → (i : ℕ) → get_or s i 0 < p
  value-below s all i = pick (dec_lt i (length s))
    where
      pick : Dec (i < length s) → get_or s i 0 < p
      pick (yes h) = all i (omega arith) h
      pick (no h) = let z : get_or s i 0 ≡ 0 = get_or-eq_default s 0 (omega arith) in let two = prime.two_or_more in omega arith

  pub before-below : (s : List ℕ) → Residues p s → (j k : ℕ) → before s j k < p
  before-below s all j k = pick (dec_le k j)
    where
      pick : Dec (k ≤ j) → before s j k < p
      pick (yes h) = let e = before_in s j k h in let b = value-below s all (j - k) in omega arith
      pick (no h) = let e = before_out s j k (omega arith) in let two = prime.two_or_more in omega arith

  pub part-residues : (a : List ℕ) → Residues p a → (start n : ℕ) → Residues p (part a start n)
  part-residues a all start n j l h = pick (dec_le (start + n) (length a))
    where
      pick : Dec (start + n ≤ length a) → get_or (part a start n) j 0 < p
      pick (yes q) =
          let inside = part-length-le a start n in
          let e : get_or (part a start n) j 0 ≡ get_or a (start + j) 0 =
          ap (λ (s : List ℕ). get_or s j 0) (part_in a start n q) ∙ get_or-take n (drop start a) j 0 (omega arith) ∙ get_or-drop start a j 0 in
          let b = value-below a all (start + j) in omega arith
      pick (no q) = let e : length (part a start n) ≡ 0 = ap length (part_out a start n (omega arith)) in absurd (let z : ⊥ = omega arith in z)
