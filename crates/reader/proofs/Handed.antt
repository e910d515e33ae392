-- What a reader hands out at a place: a value where two bytes are left, and none where not; and what that says of the field's number.
use mathlib.Core.Path.{◌≡◌, refl}
use mathlib.Core.Bool.{Bool, true, false, cond}
use mathlib.Core.List.{List}
use Prim.Native.Nat.{ℕ, ◌+◌, ◌*◌, ◌/◌, ◌≤◌, ◌<◌}
use native.Mathlib.Omega.{arith}
use lib.Dec.{ltb}
use lib.ListN.{length}
use borrow.Author.Tests.{lt-ltb, le-ltb, ltb-true, ltb-false}
use Rattle.reader.specs.Fields.{value_at, field_at, field_of}
use Rattle.std.specs.Prelude.{Some, None}

module _ (bytes : List ℕ) where
  pub value-handed : (at : ℕ) → at + 1 < length bytes → Some (value_at bytes at) ≡ field_at bytes at
  value-handed at h = rw (lt-ltb (at + 1) (length bytes) h) refl

  pub none-handed : (at : ℕ) → length bytes ≤ at + 1 → None ≡ field_at bytes at
  none-handed at h = rw (le-ltb (at + 1) (length bytes) h) refl

  module _ (k : ℕ) where
    pub value_means : (v : ℕ) → Some v ≡ field_at bytes (2 * k) → (k < length bytes / 2) × (v ≡ field_of bytes k)
    unfolding field_of
    value_means v = pick (ltb (2 * k + 1) (length bytes)) refl
      where
        pick : (b : Bool) → ltb (2 * k + 1) (length bytes) ≡ b → Some v ≡ cond b (Some (value_at bytes (2 * k))) None
            → (k < length bytes / 2) × (v ≡ value_at bytes (2 * k))
        pick true t e = (omega (arith, ltb-true (2 * k + 1) (length bytes) t), cc)
        pick false t e = absurd (let z : ◌≡◌ {A = ℕ} 0 1 = cc in let b : ⊥ = omega arith in b)

    pub none_means : None ≡ field_at bytes (2 * k) → length bytes / 2 ≤ k
    none_means = pick (ltb (2 * k + 1) (length bytes)) refl
      where
        pick : (b : Bool) → ltb (2 * k + 1) (length bytes) ≡ b → None ≡ cond b (Some (value_at bytes (2 * k))) None → length bytes / 2 ≤ k
        pick true t e = absurd (let z : ◌≡◌ {A = ℕ} 0 1 = cc in let b : ⊥ = omega arith in b)
        pick false t e = omega (arith, ltb-false (2 * k + 1) (length bytes) t)
