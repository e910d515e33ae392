-- Random numbers: a linear congruential generator modulo 2^32, of which each draw takes the upper 16 bits.
use Rattle.std.specs.Prelude.{ℕ, zero, suc, ◌+◌, ◌*◌, ◌/◌, ◌%◌}
use Rattle.plain.specs.Plain.{rem}

abbrev pub advanced : ℕ → ℕ
advanced s = (s % 4294967296 * 1664525 + 1013904223) % 4294967296

-- the state after n draws
unfoldable pub later : ℕ → ℕ → ℕ
later zero s = s
later (suc n) s = advanced (later n s)

-- what the draw that leaves state s answers: a number below n, and 0 where n is 0
abbrev pub drawn : (s n : ℕ) → ℕ
drawn s n = rem (s / 65536) n

-- the same from `least` on, modulo 2^16
abbrev pub drawn_from : (s least n : ℕ) → ℕ
drawn_from s least n = (least + drawn s n) % 65536
