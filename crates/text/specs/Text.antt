-- Numbers and lines as ASCII text.
use Rattle.std.specs.Prelude.{cond, List, [], ◌∷◌, ◌++◌, ℕ, zero, suc, ◌+◌, ◌/◌, ◌%◌, ltb}

-- the decimal digits of n, at most k of them
unfoldable pub decimal_up_to : (k n : ℕ) → List ℕ
decimal_up_to zero n = []
decimal_up_to (suc k) n =
    let more : List ℕ = decimal_up_to k (n / 10) in cond (ltb n 10) [] more ++ ((48 + n % 10) ∷ [])

-- the decimal digits of a number of 64 bits
unfoldable pub decimal : ℕ → List ℕ
decimal n = decimal_up_to 20 n

-- each number after a space
unfoldable pub spaced : List ℕ → List ℕ
spaced [] = []
spaced (n ∷ ns) = 32 ∷ (decimal n ++ spaced ns)

-- a letter, numbers, and a newline
unfoldable pub line : (letter : ℕ) (numbers : List ℕ) → List ℕ
line letter numbers = letter ∷ (spaced numbers ++ (10 ∷ []))
