-- Remainders, and that sums and products may be reduced on the way.
use Rattle.std.proofs.Common.{◌≡◌, ℕ, zero, suc, ◌+◌, ◌-◌, ◌*◌, ◌%◌, ◌<◌, ◌≤◌, sym, refl, ap, ◌∙◌, mod-lt, arith}
use native.Mathlib.Nat.{mod-mod, mod-add-mod, add-mod-mod, zero-mod, add-mul-mod_self_right}
use Rattle.field.proofs.Remainders.{mod-mul-mod, mul-mod-mod}
use Rattle.plain.specs.Plain.{rem}

pub rem-zero : (x : ℕ) → rem x 0 ≡ 0
unfolding rem
rem-zero x = refl

pub rem-positive : (x p : ℕ) → 0 < p → x % p ≡ rem x p
unfolding rem
rem-positive x zero h = absurd (let z : ⊥ = omega arith in z)
rem-positive x (suc p) h = refl

pub rem_lt : (x p : ℕ) → 0 < p → rem x p < p
rem_lt x p h = let e = rem-positive x p h in let l = mod-lt x h in omega arith

pub rem-rem : (x p : ℕ) → rem (rem x p) p ≡ rem x p
unfolding rem
rem-rem x zero = refl
rem-rem x (suc p) = mod-mod x (suc p)

pub rem-none : (p : ℕ) → rem 0 p ≡ 0
unfolding rem
rem-none zero = refl
rem-none (suc p) = zero-mod (suc p)

pub rem-add : (a b p : ℕ) → rem (rem a p + b) p ≡ rem (a + b) p
unfolding rem
rem-add a b zero = refl
rem-add a b (suc p) = mod-add-mod a (suc p) b

pub rem-mul : (a b p : ℕ) → rem (rem a p * b) p ≡ rem (a * b) p
unfolding rem
rem-mul a b zero = refl
rem-mul a b (suc p) = mod-mul-mod a (suc p) b

pub rem-mul-rem : (a b p : ℕ) → rem (a * rem b p) p ≡ rem (a * b) p
unfolding rem
rem-mul-rem a b zero = refl
rem-mul-rem a b (suc p) = mul-mod-mod a b (suc p)

pub rem-add-mul : (a b c p : ℕ) → rem (a + b * rem c p) p ≡ rem (a + b * c) p
unfolding rem
rem-add-mul a b c zero = refl
rem-add-mul a b c (suc p) =
    sym (add-mod-mod a (b * (c % suc p)) (suc p)) ∙ ap (λ (x : ℕ). (a + x) % suc p) (mul-mod-mod b c (suc p))
    ∙ add-mod-mod a (b * c) (suc p)

-- x stands for the sum of y and a multiple of p, less z
rem_difference : (p m y z r : ℕ) → 0 < p → z ≤ m * p → r ≡ rem (y + m * p - z) p → rem (r + z) p ≡ rem y p
rem_difference p m y z r h le e =
    ap (λ (q : ℕ). rem (q + z) p) e ∙ rem-add (y + m * p - z) z p
    ∙ ap (λ (q : ℕ). rem q p) (let s : y + m * p - z + z ≡ y + m * p = omega arith in s)
    ∙ sym (rem-positive (y + m * p) p h) ∙ add-mul-mod_self_right y m p ∙ rem-positive y p h

-- a·b less c·d, with 2^32 times p added first
pub crossed : (p a b c d x y r : ℕ) → 0 < p → x ≡ a * b → y ≡ c * d → y < 4294967296 → r ≡ rem (x + 4294967296 * p - y) p →
    (rem (r + c * d) p ≡ rem (a * b) p) × (r ≡ rem r p)
crossed p a b c d x y r h ex ey less e =
    let le : y ≤ 4294967296 * p = omega arith in (
      ap (λ (q : ℕ). rem (r + q) p) (sym ey) ∙ rem_difference p 4294967296 x y r h le e ∙ ap (λ (q : ℕ). rem q p) ex,
      e ∙ sym (rem-rem (x + 4294967296 * p - y) p) ∙ ap (λ (q : ℕ). rem q p) (sym e),
    )
