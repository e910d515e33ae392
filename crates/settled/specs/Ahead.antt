-- The discrepancies of a register at many symbols of a sequence, cell k being for the symbol k places before the last: the sequences stand backwards.
use Rattle.std.specs.Prelude.{◌≡◌, List, ℕ, ◌+◌, ◌*◌, ◌%◌, ◌≤◌, ◌<◌, length, get_or}
use Rattle.discrepancy.specs.Discrepancies.{sum_at}
use Rattle.discrepancy.specs.Modulus.{WorkedOut, Moduli}
use Rattle.discrepancy.specs.declared.Modulus.{Modulus}

-- the taps 0 .. l and the last `count` symbols of sequence h, with the l symbols before them no more than 128, modulo an odd p
pub record Foreseeable (f : Modulus) (moduli : List ℕ) (l : ℕ) (taps : List ℕ) (h count : ℕ) : Type 0 where
  pub modulus : WorkedOut f
  pub not-two : f.p ≡ 2 → ⊥
  pub lent : Moduli f.p moduli
  pub residues : (i : ℕ) → i ≤ l → get_or taps i 0 < f.p
  pub sequence : h < 8
  pub within : l + count ≤ 128

-- a cell holds its discrepancy over −2^16
pub record Ahead (p l : ℕ) (taps symbols : List ℕ) (at count : ℕ) (cells : List ℕ) : Type 0 where
  pub width : length cells ≡ 144
  pub residues : (k : ℕ) → get_or cells k 0 < p
  pub each : (k : ℕ) → k < count → (65536 * get_or cells k 0 + sum_at l taps symbols (at + k)) % p ≡ 0
