-- Plain arithmetic over numbers and lists, in which the second implementations say what they answer. Nothing here is the library's.
use Rattle.std.specs.Prelude.{◌≡◌, ℕ, zero, suc, ◌+◌, ◌-◌, ◌*◌, ◌%◌, ◌<◌, ◌≤◌, Bool, true, false, cond, List, [], length, take, drop, nat_le, slice_index}

-- the flag tells whether P holds
pub record Tells (b : Bool) (P : Type 0) : Type 0 where
  pub yes : b ≡ true → P
  pub no : b ≡ false → P → ⊥

-- x modulo p; modulo 0 everything is 0
unfoldable pub rem : ℕ → ℕ → ℕ
rem x zero = 0
rem x (suc p) = x % suc p

-- f 0 + f 1 + .. + f (n − 1)
unfoldable pub sum : ℕ → (ℕ → ℕ) → ℕ
sum zero f = 0
sum (suc n) f = sum n f + f n

-- the sum, or the largest 64-bit number where that is smaller
abbrev pub capped : ℕ → ℕ
capped x = cond (nat_le x 18446744073709551615) x 18446744073709551615

-- the value k places before place i; 0 where there is none
abbrev pub before : List ℕ → (i k : ℕ) → ℕ
before a i k = cond (nat_le k i) (slice_index a (i - k)) 0

-- the n values of a from `start` on; none where these do not lie in a
abbrev pub part : List ℕ → (start n : ℕ) → List ℕ
part a start n = cond (nat_le (start + n) (length a)) (take n (drop start a)) []

-- P holds of each number from a up to b
abbrev pub Each : (a b : ℕ) → (ℕ → Type 0) → Type 0
Each a b P = (k : ℕ) → a ≤ k → k < b → P k

-- sequence h of those that stand one after the other in `symbols`
abbrev pub sequence : (lengths symbols : List ℕ) → (h : ℕ) → List ℕ
sequence lengths symbols h = part symbols (sum h (λ i. slice_index lengths i)) (slice_index lengths h)

-- the symbol at place j and those before it, times n taps, modulo p
abbrev pub discrepancy : (p : ℕ) (s taps : List ℕ) (n j : ℕ) → ℕ
discrepancy p s taps n j = rem (sum n (λ i. slice_index taps i * before s j i)) p
