-- A register is settled where it leaves no discrepancy at the last symbols, so many of each sequence as rounds are left.
use Rattle.std.specs.Prelude.{◌≡◌, Bool, List, ℕ, ◌+◌, ◌-◌, ◌*◌, ◌%◌, ◌≤◌, ◌<◌, min, eqb, get_or}
use Rattle.lists.specs.Tabulate.{every}
use Rattle.discrepancy.specs.Discrepancies.{sum_at}
use Rattle.discrepancy.specs.Modulus.{WorkedOut, Moduli}
use Rattle.discrepancy.specs.declared.Modulus.{Modulus}

-- in sequence h, of `long` symbols: a symbol with fewer than l before it asks nothing of a register of length l
unfoldable pub settled_in : (p l : ℕ) (taps symbols : List ℕ) (h long left : ℕ) → Bool
settled_in p l taps symbols h long left = every (min left (long - l)) (λ k. eqb (sum_at l taps symbols (h * 144 + k) % p) 0)

-- in the first k sequences
unfoldable pub settled : (p l : ℕ) (taps symbols lengths : List ℕ) (k left : ℕ) → Bool
settled p l taps symbols lengths k left = every k (λ h. settled_in p l taps symbols h (get_or lengths h 0) left)

-- what is asked where sequence h, of `long` symbols, is tested: an odd p, and a register and a sequence that are not too long
pub record Testable (f : Modulus) (moduli : List ℕ) (l : ℕ) (taps : List ℕ) (h long : ℕ) : Type 0 where
  pub modulus : WorkedOut f
  pub not-two : f.p ≡ 2 → ⊥
  pub lent : Moduli f.p moduli
  pub residues : (i : ℕ) → i ≤ l → get_or taps i 0 < f.p
  pub short : l ≤ 128
  pub sequence : h < 8
  pub shorter : long ≤ 128
