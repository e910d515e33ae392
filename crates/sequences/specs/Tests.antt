-- The tests of what is lent to the finder: the refusals 1, 2, 3, 8, 4 in this order (SPECIFICATION.md, "Refusals").
use Rattle.std.specs.Prelude.{Bool, not, ◌&&◌, List, [], ◌∷◌, ℕ, suc, leb, ltb, eqb, length, get_or}
use Rattle.field.specs.Prime.{is_modulus}
use Rattle.lists.specs.Tabulate.{every}
use Rattle.lists.specs.Total.{total}
use Rattle.refusal.specs.Order.{Test}
use Rattle.refusal.specs.Range.{in_range}
use Rattle.register.specs.Sequences.{largest}

abbrev pub is_counted : (count : ℕ) → Bool
is_counted count = in_range 1 8 count

abbrev pub is_short : (lengths : List ℕ) → Bool
is_short lengths = every (length lengths) (λ h. leb (get_or lengths h 0) 128)

-- no length is above 128, and they add up to the number of symbols
abbrev pub is_measured : (lengths : List ℕ) (count : ℕ) → Bool
is_measured lengths count = is_short lengths && eqb (total (length lengths) (λ h. get_or lengths h 0)) count

abbrev pub is_below : (p : ℕ) (symbols : List ℕ) → Bool
is_below p symbols = every (length symbols) (λ i. ltb (get_or symbols i 0) p)

-- the refusals in their order; `room` is the number of entries of the tap buffer
unfoldable pub tests : (p : ℕ) (lengths symbols : List ℕ) (room : ℕ) → List Test
tests p lengths symbols room =
    record { number = 1; fails = not (is_modulus p) } ∷
    record { number = 2; fails = not (is_counted (length lengths)) } ∷
    record { number = 3; fails = not (is_measured lengths (length symbols)) } ∷
    record { number = 8; fails = ltb room (suc (largest lengths)) } ∷
    record { number = 4; fails = not (is_below p symbols) } ∷
    []
