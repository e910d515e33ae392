-- Montgomery's product with 2^16 modulo 257 (docs/REFERENCES.md). It is the product a·y modulo 257, since 2^16 is 1 there: `montgomery-is`.
use Rattle.std.specs.Prelude.{ℕ, ◌+◌, ◌-◌, ◌*◌, ◌/◌, ◌%◌}

-- y over 257 modulo 2^16: 65281 is the inverse of 257
abbrev pub companion : (y : ℕ) → ℕ
companion y = (y * 65281) % 65536

-- The multiple of 257 by a·y over 257 modulo 2^16 has the lower half of a·y, so that the upper halves differ by a·y modulo 257. 257 is added, which is no less
-- than what is taken away.
unfoldable pub montgomery : (a y : ℕ) → ℕ
montgomery a y = a * y / 65536 + 257 - (a * companion y) % 65536 * 257 / 65536
