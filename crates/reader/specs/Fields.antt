-- The fields of a record's bytes: 16 bits each, little-endian (SPECIFICATION.md, "Records and lines").
use Rattle.std.specs.Prelude.{◌≡◌, cond, List, ℕ, ◌+◌, ◌*◌, ◌/◌, ltb, length, get_or, take, drop, Option, Some, None}
use Rattle.lists.specs.Tabulate.{tabulate}

-- the two bytes from `at` on as a number, the low byte first
abbrev pub value_at : List ℕ → (at : ℕ) → ℕ
value_at bytes at = get_or bytes at 0 + 256 * get_or bytes (at + 1) 0

-- what a reader at the place `at` hands out: the field's value, or none where two bytes are not left
abbrev pub field_at : List ℕ → (at : ℕ) → Option ℕ
field_at bytes at = cond (ltb (at + 1) (length bytes)) (Some (value_at bytes at)) None

-- field number k, counted from 0
unfoldable pub field_of : List ℕ → (k : ℕ) → ℕ
field_of bytes k = value_at bytes (2 * k)

-- all whole fields; an odd byte at the end is none
unfoldable pub fields_of : List ℕ → List ℕ
fields_of bytes = tabulate (length bytes / 2) (field_of bytes)

-- the first k fields are read into the entries `before`, and the later entries are as they were
pub record Filled (bytes before after : List ℕ) (k : ℕ) : Type 0 where
  pub read : take k after ≡ take k (fields_of bytes)
  pub kept : drop k after ≡ drop k before
