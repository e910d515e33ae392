-- The field of residues modulo 257 under short names: a number below 257 is told by its residue, and the locators are the powers of the residue of 3.
use mathlib.Core.Path.{◌≡◌, sym, ap, ◌∙◌}
use mathlib.Core.List.{List}
use Prim.Native.Nat.{ℕ, ◌-◌, ◌≤◌, ◌<◌}
use native.Mathlib.Nat.{mod-eq_of_lt, mod_self}
use native.Mathlib.Omega.{arith}
use lib.Dec.{lit<}
use lib.ListN.{get_or}
use Rattle.algebra.specs.Ring.{CRing, Field}
use Rattle.algebra.specs.Sum.{pow}
use Rattle.algebra.proofs.RingLaws.{zero-add}
use Rattle.field.proofs.Bridge.{res, res_same, res-zero, res_one, res-sub, res-is-zero, res-power}
use Rattle.field.proofs.Instance.{residues}
use Rattle.field.proofs.Prime257.{prime_257}
use Rattle.field257.specs.Powers.{locator_of}

abbrev pub F257 : Field
F257 = residues 257 prime_257

abbrev pub R257 : CRing
R257 = F257.ring

-- the residue of a number
abbrev pub res257 : ℕ → R257.car
res257 n = res 257 prime_257 n

pub res-tells : (a b : ℕ) → a < 257 → b < 257 → res257 a ≡ res257 b → a ≡ b
res-tells a b ha hb e = sym (mod-eq_of_lt ha) ∙ (res_same 257 prime_257 a b).0 e ∙ mod-eq_of_lt hb

pub res-tells-zero : (a : ℕ) → a < 257 → res257 a ≡ R257.zero → a ≡ 0
res-tells-zero a h e = res-tells a 0 h (lit< tt) (e ∙ sym (res-zero 257 prime_257))

-- the entries of a list in the field
abbrev pub symbols : List ℕ → ℕ → R257.car
symbols x i = res257 (get_or x i 0)

-- the negative of a number up to 257
pub res-negative : (x : ℕ) → x ≤ 257 → res257 (257 - x) ≡ R257.neg (res257 x)
res-negative x le =
    res-sub 257 prime_257 257 x le
    ∙ ap (λ z. R257.add z (R257.neg (res257 x))) ((res-is-zero 257 prime_257 257).1 (mod_self 257)) ∙ zero-add R257 (R257.neg (res257 x))

pub res-minus-one : res257 256 ≡ R257.neg R257.one
res-minus-one = res-negative 1 (omega arith) ∙ ap R257.neg (res_one 257 prime_257)

-- the locator of column i in the field
abbrev pub locator_at : ℕ → R257.car
locator_at i = pow R257 (res257 3) i

pub res-locator : (i : ℕ) → res257 (locator_of i) ≡ locator_at i
res-locator i = res-power 257 prime_257 3 i
