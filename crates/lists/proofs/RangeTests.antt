-- A test of all numbers below k, as `all` answers it of a range.
use mathlib.Core.Path.{◌≡◌, sym, subst, ◌∙◌}
use mathlib.Core.Bool.{Bool, true, false}
use Prim.Native.Nat.{ℕ, ◌+◌, ◌<◌, zero-le}
use native.Mathlib.Omega.{arith}
use lib.ListN.{length, get_or}
use Rattle.std.specs.Bool.{MatchBool}
use Rattle.std.specs.List.{range_with_len, AllWithin, HoldsAt}
use Rattle.std.proofs.lemmas.List.FromFn.{length-range_with_len, get_or-range_with_len}
use Rattle.lists.proofs.Tabulated.{every_of, every-fails}
use Rattle.lists.specs.Tabulate.{every}

module _ (k : ℕ) (test : ℕ → Bool) where
  at : (b : Bool) (j : ℕ) → j < k → ((d : ℕ) → test (get_or (range_with_len 0 k) j d) ≡ b) → test j ≡ b
  at b j less e =
      subst (λ (n : ℕ). test n ≡ b) (get_or-range_with_len 0 k j 0 less ∙ (let z : 0 + j ≡ j = omega arith in z)) (e 0)

  pub decided : (r : Bool) →
      MatchBool r (AllWithin (λ h. test h ≡ true) (range_with_len 0 k) 0 (length (range_with_len 0 k)))
      ((j : ℕ) × (j < length (range_with_len 0 k)) × HoldsAt (λ h. test h ≡ false) (range_with_len 0 k) j) → r ≡ every k test
  decided true all = sym (every_of k test (λ j b. at true j b (λ d. all j d zero-le (omega (arith, length-range_with_len 0 k)))))
  decided false (j, b, fails) = sym (every-fails k test j (omega (arith, length-range_with_len 0 k)) (at false j (omega (arith, length-range_with_len 0 k)) fails))
