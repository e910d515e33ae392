-- Discrepancies as the code sums them: sequence h stands backwards in block h, 144 entries, of a flat array, so that the symbols before one are those after it.
use Rattle.std.specs.Prelude.{◌≡◌, cond, List, ℕ, suc, ◌+◌, ◌-◌, ◌*◌, ◌≤◌, ◌<◌, ltb, length, get_or}
use Rattle.lists.specs.Tabulate.{tabulate}
use Rattle.lists.specs.Total.{total}
use Rattle.register.specs.Register.{discrepancy}
use Rattle.discrepancy.specs.Modulus.{WorkedOut}
use Rattle.discrepancy.specs.declared.Modulus.{Modulus}

-- the products of the taps 0 .. l and the entries from `from` on
abbrev pub sum_at : (l : ℕ) (taps symbols : List ℕ) (from : ℕ) → ℕ
sum_at l taps symbols from = total (suc l) (λ k. get_or taps k 0 * get_or symbols (from + k) 0)

-- the taps 0 .. l are residues, and zeros follow, as far as a sum of a multiple of 8 products can go
pub record Ending (p l : ℕ) (taps : List ℕ) : Type 0 where
  pub width : length taps ≡ 144
  pub residues : (i : ℕ) → i ≤ l → get_or taps i 0 < p
  pub zeros : (i : ℕ) → l < i → i < l + 8 → get_or taps i 0 ≡ 0

-- the products can be summed, up to the next multiple of 8 of them
pub record Summable (f : Modulus) (l : ℕ) (taps symbols : List ℕ) (from : ℕ) : Type 0 where
  pub modulus : WorkedOut f
  pub ending : Ending f.p l taps
  pub short : l ≤ 128
  pub inside : from + l + 8 ≤ 1152
  pub below : (i : ℕ) → i ≤ l → get_or symbols (from + i) 0 < f.p

-- all products are small enough for one sum of 32 bits
pub record Narrow (l : ℕ) (taps symbols : List ℕ) (from : ℕ) : Type 0 where
  pub short : l ≤ 128
  pub inside : from + l + 8 ≤ 1152
  pub zeros : (i : ℕ) → l < i → i < l + 8 → get_or taps i 0 ≡ 0
  pub products : (i : ℕ) → i < l + 8 → get_or taps i 0 * get_or symbols (from + i) 0 ≤ 66049

-- a number that stands for its residue modulo p: where p is small, as much as 129 products of residues can be, so that its product with a residue fits 32
-- bits; else the residue itself
pub record Loose (p s : ℕ) : Type 0 where
  pub small : p ≤ 257 → s ≤ 129 * (p * p)
  pub large : 257 < p → s < p

-- the sequence of so many symbols that stands backwards in block h
unfoldable pub sequence_in : (symbols : List ℕ) (h long : ℕ) → List ℕ
sequence_in symbols h long = tabulate long (λ i. get_or symbols (h * 144 + (long - suc i)) 0)

-- the discrepancy at (n, h) of a register of length l with the taps σ, s being sequence h, or 0 where nothing is asked for
unfoldable pub due_at : (p N l : ℕ) (σ s : List ℕ) (n : ℕ) → ℕ
due_at p N l σ s n = cond (ltb (l + (N - length s)) n) (discrepancy p l σ s (n + length s - N)) 0

-- round n is one of the N rounds, N being 128 at most: sequence h is no longer than N, and the register, of length l, no longer than n; where something is
-- asked for, the symbols that are summed are residues
pub record InReach (p N l h long n : ℕ) (symbols : List ℕ) : Type 0 where
  pub longest : N ≤ 128
  pub shorter : long ≤ N
  pub grown : l ≤ n
  pub round : n ≤ N
  pub sequence : h < 8
  pub below : l + (N - long) < n → (i : ℕ) → i ≤ l → get_or symbols (h * 144 + (N - n) + i) 0 < p
