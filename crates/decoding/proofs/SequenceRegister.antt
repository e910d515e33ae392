-- The register of sequences is a shortest one, and the mark says whether it is alone. Its length is that of every shortest register, and where it is not
-- alone there is another one.
use mathlib.Core.Path.{◌≡◌, refl, sym, subst, ◌∙◌}
use mathlib.Core.Bool.{Bool, true, false}
use mathlib.Core.Logic.{◌↔◌}
use mathlib.Core.List.{List}
use Prim.Native.Nat.{ℕ, suc, ◌<◌}
use native.Mathlib.Decide.{dec_lt}
use native.Mathlib.Omega.{arith}
use lib.ListN.{length}
use Rattle.decoding.specs.Locating.{size_of, taps_of, alone_of}
use Rattle.field.proofs.Prime257.{prime_257}
use Rattle.register.specs.EachRound.{IsShortest}
use Rattle.register.specs.Register.{Generator, Shortest, Alone}
use Rattle.register.proofs.AllRounds.{all-rounds, all-rounds-other}

module _ (ss : List (List ℕ)) where
  pub register_of : IsShortest 257 (size_of ss) ss (taps_of ss) (alone_of ss)
  unfolding size_of taps_of alone_of
  register_of = all-rounds 257 ss prime_257

  pub generator_of : Generator 257 (size_of ss) ss (taps_of ss)
  generator_of = register_of.shortest.generator

  pub length-taps : length (taps_of ss) ≡ suc (size_of ss)
  length-taps = omega (arith, generator_of.register.taps)

  -- it is as long as every shortest register
  pub same_size : (l : ℕ) (τ : List ℕ) → Shortest 257 l ss τ → l ≡ size_of ss
  same_size l τ b = pick (dec_lt l (size_of ss)) (dec_lt (size_of ss) l)
    where
      pick : Dec (l < size_of ss) → Dec (size_of ss < l) → l ≡ size_of ss
      pick (yes less) d = absurd (register_of.shortest.least l less τ b.generator)
      pick (no more) (yes less) = absurd (b.least (size_of ss) less (taps_of ss) generator_of)
      pick (no more) (no less) = omega arith

  pub alone-marked : (l : ℕ) (τ : List ℕ) → Shortest 257 l ss τ → Alone 257 l ss τ → alone_of ss ≡ true
  alone-marked l τ b alone = register_of.marked (λ υ g. by_size υ g ∙ sym (by_size (taps_of ss) generator_of))
    where
      by_size : (υ : List ℕ) → Generator 257 (size_of ss) ss υ → υ ≡ τ
      by_size υ g = alone υ (subst (λ m. Generator 257 m ss υ) (sym (same_size l τ b)) g)

  pub not-alone : (alone_of ss ≡ false) ↔ ((τ : List ℕ) × Generator 257 (size_of ss) ss τ × (τ ≡ taps_of ss → ⊥))
  unfolding size_of taps_of alone_of
  not-alone = (
    all-rounds-other 257 ss prime_257,
    λ (τ, g, differ). pick (alone_of ss) refl (λ e. differ (register_of.alone e τ g)),
  )
    where
      pick : (b : Bool) → alone_of ss ≡ b → (alone_of ss ≡ true → ⊥) → alone_of ss ≡ false
      pick true e no-mark = absurd (no-mark e)
      pick false e no-mark = e
