-- The tests of the finder say their reasons: each fails exactly where its reason holds.
use mathlib.Core.Path.{◌≡◌, refl, sym, ap₂, ◌∙◌}
use mathlib.Core.Logic.{◌⊎◌, inl, inr}
use mathlib.Core.Bool.{Bool, true, false, ◌&&◌, and-eq-true_iff, false≢true}
use mathlib.Core.List.{List}
use Prim.Native.Nat.{ℕ, suc, ◌≤◌, ◌<◌}
use native.Mathlib.Decide.{dec_lt}
use native.Mathlib.Omega.{arith}
use borrow.Author.Tests.{ltb-true, ltb-false, leb-true, leb-false, eqb-true, eqb-false, lt-ltb}
use lib.Dec.{eqb}
use lib.ListN.{length, get_or}
use Rattle.field.proofs.Modulus.{modulus-prime, modulus-taken}
use Rattle.field.specs.Prime.{Prime, is_modulus}
use Rattle.lists.specs.Total.{total}
use Rattle.lists.proofs.Tabulated.{every-at, every_witness}
use Rattle.refusal.proofs.Orders.{SayAll, says-not}
use Rattle.refusal.proofs.Ranges.{outside-says}
use Rattle.register.specs.Sequences.{largest}
use Rattle.finder.specs.Demands.{reasons}
use Rattle.sequences.specs.Tests.{is_short, is_measured, is_below, tests}

module _ (p : ℕ) where
  not-modulus : is_modulus p ≡ true → (p < 2) ⊎ ((65521 < p) ⊎ (Prime p → ⊥)) → ⊥
  not-modulus e = off (modulus-prime p e)
    where
      off : Prime p × (p ≤ 65521) → (p < 2) ⊎ ((65521 < p) ⊎ (Prime p → ⊥)) → ⊥
      off known (inl small) = let two = known.0.two_or_more in omega arith
      off known (inr (inl large)) = omega arith
      off known (inr (inr never)) = never known.0

  why-modulus : is_modulus p ≡ false → (p < 2) ⊎ ((65521 < p) ⊎ (Prime p → ⊥))
  why-modulus e = pick (dec_lt p 2) (dec_lt 65521 p)
    where
      pick : Dec (p < 2) → Dec (65521 < p) → (p < 2) ⊎ ((65521 < p) ⊎ (Prime p → ⊥))
      pick (yes small) d = inl small
      pick (no a) (yes large) = inr (inl large)
      pick (no a) (no b) = inr (inr (λ prime. false≢true (sym e ∙ modulus-taken p prime (omega arith))))

module _ (lengths symbols : List ℕ) where
  -- the second test of refusal 3
  abbrev pub whole : Bool
  whole = eqb (total (length lengths) (λ h. get_or lengths h 0)) (length symbols)

  abbrev Mismeasured : Type 0
  Mismeasured =
      ((h : ℕ) × (h < length lengths) × (128 < get_or lengths h 0)) ⊎
      (total (length lengths) (λ h. get_or lengths h 0) ≡ length symbols → ⊥)

  not_measured : is_measured lengths (length symbols) ≡ true → Mismeasured → ⊥
  not_measured e = off ((and-eq-true_iff (is_short lengths) whole).0 e)
    where
      off : (is_short lengths ≡ true) × (whole ≡ true) → Mismeasured → ⊥
      off both (inl (h, b, large)) = omega (arith, leb-true (get_or lengths h 0) 128 (every-at (length lengths) _ both.0 h b))
      off both (inr apart) = apart (eqb-true _ _ both.1)

  why_measured : is_measured lengths (length symbols) ≡ false → Mismeasured
  why_measured e = pick (is_short lengths) refl whole refl
    where
      pick : (a : Bool) → is_short lengths ≡ a → (b : Bool) → whole ≡ b → Mismeasured
      pick false s b w = let k = every_witness (length lengths) _ s in inl (k.0, k.1, leb-false (get_or lengths k.0 0) 128 k.2)
      pick true s false w = inr (eqb-false _ _ w)
      pick true s true w = absurd (false≢true (sym e ∙ ap₂ ◌&&◌ s w))

pub finder_says : (p : ℕ) (lengths symbols : List ℕ) (room : ℕ) → SayAll (tests p lengths symbols room) (reasons p lengths symbols room)
unfolding tests
finder_says p lengths symbols room = (
  says-not 1 (is_modulus p) _ (not-modulus p) (why-modulus p),
  (
    outside-says 2 1 8 (length lengths),
    (
      says-not 3 (is_measured lengths (length symbols)) _ (not_measured lengths symbols) (why_measured lengths symbols),
      (
        record { number = refl; reason = ltb-true room (suc (largest lengths)); fails = lt-ltb room (suc (largest lengths)) },
        (
          says-not 4 (is_below p symbols) _
              (λ e (i, b, large). omega (arith, ltb-true (get_or symbols i 0) p (every-at (length symbols) _ e i b)))
              (λ e. let k = every_witness (length symbols) _ e in (k.0, k.1, ltb-false (get_or symbols k.0 0) p k.2)),
          tt,
        ),
      ),
    ),
  ),
)
