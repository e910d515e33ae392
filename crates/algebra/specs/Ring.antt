-- A commutative ring, and a field over it, as records of operations and laws.
use Rattle.std.specs.Prelude.{◌≡◌}

pub record CRing : Type 1 where
  pub car : Type 0
  pub is_set : IsSet car
  pub zero : car
  pub one : car
  pub add : car → car → car
  pub mul : car → car → car
  pub neg : car → car
  pub add_assoc : (a b c : car) → add (add a b) c ≡ add a (add b c)
  pub add_comm : (a b : car) → add a b ≡ add b a
  pub add-zero : (a : car) → add a zero ≡ a
  pub add-neg : (a : car) → add a (neg a) ≡ zero
  pub mul_assoc : (a b c : car) → mul (mul a b) c ≡ mul a (mul b c)
  pub mul_comm : (a b : car) → mul a b ≡ mul b a
  pub mul-one : (a : car) → mul a one ≡ a
  pub mul-add : (a b c : car) → mul a (add b c) ≡ add (mul a b) (mul a c)

pub record Field : Type 1 where
  pub ring : CRing
  pub inv : ring.car → ring.car
  pub mul-inv : (a : ring.car) → (a ≡ ring.zero → ⊥) → ring.mul a (inv a) ≡ ring.one
  pub one_ne_zero : ring.one ≡ ring.zero → ⊥
  pub decide : (a b : ring.car) → Dec (a ≡ b)
