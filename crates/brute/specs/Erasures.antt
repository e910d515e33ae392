-- Columns that are lost, over the field of 257: check sums with columns taken out, and rows that can be completed at columns. The sums of a row are
-- S_1, S_2, .. from place 0 on. A symbol x in column i adds x·3^(i·(b + j − 1)) to S_j, so x·3^(i·(b + j)) to the sum at place j.
use Rattle.std.specs.Prelude.{◌≡◌, ℕ, zero, suc, ◌+◌, ◌*◌, ◌%◌, ◌^◌, ◌<◌, List, length, slice_index}
use Rattle.plain.specs.Plain.{Each, rem, sum}

-- each sum becomes the next one less 3^i times itself (256 is −1), in which a symbol of column i plays no part
abbrev pub without_column : (i : ℕ) (s : ℕ → ℕ) (j : ℕ) → ℕ
without_column i s j = rem (s (suc j) + 256 * 3 ^ i * s j) 257

-- so for the first n columns of a list, one after the other
unfoldable pub without : (list : List ℕ) (n : ℕ) (s : ℕ → ℕ) (j : ℕ) → ℕ
without list zero s j = s j
without list (suc n) s j = without_column (slice_index list n) (without list n s) j

-- the equation of a sum in which column i has the weight y^i: the constant is the sum itself, and the coefficient of unknown k + 1 the weight of column k of
-- the list
unfoldable pub sum_equation : (list : List ℕ) (s y k : ℕ) → ℕ
sum_equation list s y zero = s
sum_equation list s y (suc k) = y ^ slice_index list k % 257

-- there are symbols for the listed columns with which, added in these, every sum of the row is 0
abbrev pub Completable : (b : ℕ) (list sums : List ℕ) → Type 0
Completable b list sums =
    (x : ℕ → ℕ) × ((k : ℕ) → x k < 257)
    × Each 0 (length sums) (λ j. rem (slice_index sums j + sum (length list) (λ k. x k * 3 ^ (slice_index list k * (b + j)))) 257 ≡ 0)
