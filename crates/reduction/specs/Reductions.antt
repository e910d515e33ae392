-- What is asked where the taps are reduced by those that are saved for a sequence, and where they are saved.
use Rattle.std.specs.Prelude.{◌≡◌, List, ℕ, ◌+◌, ◌*◌, ◌≤◌, ◌<◌, length, get_or, take, drop}
use Rattle.discrepancy.specs.Discrepancies.{Loose}
use Rattle.discrepancy.specs.Modulus.{WorkedOut, Moduli}
use Rattle.discrepancy.specs.declared.Modulus.{Modulus}

-- the part of the flat array of saved taps that belongs to sequence h
abbrev pub block : ℕ → List ℕ → List ℕ
block h saved = take 144 (drop (h * 144) saved)

-- zeros follow entry m of block h, as far as a loop over a multiple of 8 entries can go
abbrev pub ZerosAfter : (saved : List ℕ) (h m : ℕ) → Type 0
ZerosAfter saved h m = (i : ℕ) → m < i → i ≤ m + 8 → get_or saved (h * 144 + i) 0 ≡ 0

-- the taps, residues modulo p, can be reduced by the m + 1 taps saved for h, moved by e
pub record Reducible (p : ℕ) (taps : List ℕ) (e m : ℕ) (saved : List ℕ) (h : ℕ) : Type 0 where
  pub reach : e + m ≤ 128
  pub sequence : h < 8
  pub width : length taps ≡ 144
  pub saved-width : length saved ≡ 1152
  pub residues : (i : ℕ) → get_or taps i 0 < p
  pub zeros : ZerosAfter saved h m

-- a modulus, the array of it, what stands for a discrepancy, and 2^16 over a saved one
pub record Divided (f : Modulus) (moduli : List ℕ) (sum over : ℕ) : Type 0 where
  pub modulus : WorkedOut f
  pub lent : Moduli f.p moduli
  pub loose : Loose f.p sum
  pub residue : over < f.p

-- the taps fit into block h
pub record Keepable (saved : List ℕ) (h : ℕ) (taps : List ℕ) : Type 0 where
  pub saved-width : length saved ≡ 1152
  pub sequence : h < 8
  pub width : length taps ≡ 144
