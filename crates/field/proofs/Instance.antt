-- The residues modulo a prime p are a field, an instance of the abstract one. Its elements are the numbers below p; the inverse is the
-- power p − 2 for every element, 0 too.
use mathlib.Core.Path.{◌≡◌, sym, ap, ◌∙◌}
use mathlib.Core.HLevel.{hedberg}
use Prim.Native.Nat.{ℕ, ◌+◌, ◌-◌, ◌*◌, ◌%◌, ◌^◌, ◌<◌, Fin}
use native.Mathlib.Nat.{
  add_assoc,
  add_comm,
  add-zero,
  add-sub_of_le,
  mul_assoc,
  mul_comm,
  mul-one,
  mul-add,
  mod-lt,
  mod-eq_of_lt,
  mod_self,
  zero-mod,
  mod-add-mod,
  add-mod-mod,
  le_of_lt,
}
use native.Mathlib.Decide.{Fin-discrete}
use native.Mathlib.Omega.{arith}
use Rattle.algebra.specs.Ring.{CRing, Field}
use Rattle.field.specs.Prime.{Prime}
use Rattle.field.proofs.Fermat.{times-inverse}
use Rattle.field.proofs.Remainders.{mod-mul-mod, mul-mod-mod}

module _ (p : ℕ) (prime : Prime p) where
  pub positive : 0 < p
  positive = omega (arith, prime.two_or_more)

  abbrev pub residue : ℕ → Fin p
  residue n = (n % p, mod-lt n positive)

  -- elements are equal where their numbers are
  pub same_element : {a b : Fin p} → a.0 ≡ b.0 → a ≡ b
  same_element e = native.Mathlib.Fin.val_path e

  pub own_remainder : (a : Fin p) → a.0 % p ≡ a.0
  own_remainder a = mod-eq_of_lt a.1

  unfoldable pub residue-ring : CRing
  residue-ring = record {
    car = Fin p;
    is_set = hedberg (Fin-discrete p);
    zero = residue 0;
    one = residue 1;
    add = λ a b. residue (a.0 + b.0);
    mul = λ a b. residue (a.0 * b.0);
    neg = λ a. residue (p - a.0);
    add_assoc = λ a b c.
        same_element (mod-add-mod (a.0 + b.0) p c.0 ∙ ap (λ (x : ℕ). x % p) (add_assoc a.0 b.0 c.0) ∙ sym (add-mod-mod a.0 (b.0 + c.0) p));
    add_comm = λ a b. ap residue (add_comm a.0 b.0);
    add-zero = λ a. same_element (add-mod-mod a.0 0 p ∙ rw add-zero (own_remainder a));
    add-neg = λ a. same_element (add-mod-mod a.0 (p - a.0) p ∙ rw (add-sub_of_le (le_of_lt a.1), mod_self, zero-mod));
    mul_assoc = λ a b c.
        same_element (mod-mul-mod (a.0 * b.0) p c.0 ∙ ap (λ (x : ℕ). x % p) (mul_assoc a.0 b.0 c.0) ∙ sym (mul-mod-mod a.0 (b.0 * c.0) p));
    mul_comm = λ a b. ap residue (mul_comm a.0 b.0);
    mul-one = λ a. same_element (mul-mod-mod a.0 1 p ∙ rw mul-one (own_remainder a));
    mul-add = λ a b c.
        same_element (mul-mod-mod a.0 (b.0 + c.0) p
        ∙ rw mul-add (sym (mod-add-mod (a.0 * b.0) p ((a.0 * c.0) % p) ∙ add-mod-mod (a.0 * b.0) (a.0 * c.0) p)));
  }

  unfoldable pub residues : Field
  unfolding residue-ring
  residues = record {
    ring = residue-ring;
    inv = λ a. residue (a.0 ^ (p - 2));
    mul-inv = λ a some.
        same_element (times-inverse p prime a.0 (λ z. some (same_element (sym (own_remainder a) ∙ z ∙ sym (zero-mod p))))
        ∙ sym (mod-eq_of_lt prime.two_or_more));
    one_ne_zero = λ e. let z = ap (λ (x : Fin p). x.0) e in omega (arith, mod-eq_of_lt prime.two_or_more, zero-mod p);
    decide = Fin-discrete p;
  }
