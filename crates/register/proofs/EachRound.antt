-- Demand 2 of Algorithm 4: after every finished round n it has found a shortest register of the sequences without their last N − n symbols, and
-- the mark says whether that is alone. The theory of the shortest register over a field, carried to lists.
use mathlib.Core.Path.{◌≡◌, refl, sym, ap, subst, fun_ext, ◌∙◌}
use mathlib.Core.Bool.{Bool, true, false}
use mathlib.Core.List.{List, []}
use Prim.Native.Nat.{ℕ, suc, ◌+◌, ◌-◌, ◌*◌, ◌≤◌, max}
use native.Mathlib.Omega.{arith}
use lib.ListN.{length, get_or}
use borrow.Author.Tests.{leb-true, leb-false}
use Rattle.register.proofs.Theory.Generates.{Sequences}
use Rattle.register.proofs.Theory.Invariant.{Invariant}
use Rattle.register.proofs.Theory.Preserved.{rounds-keep}
use Rattle.register.proofs.Theory.Shortest.{Generates as GeneratesUpTo, generates, least, Alone as MarkedAlone, alone-unique, Other, not-alone}
use Rattle.field.specs.Prime.{Prime}
use Rattle.field.proofs.Coefficients.{residues-past}
use Rattle.field.proofs.Instance.{residues}
use Rattle.field.proofs.Polynomials.{poly, poly-same, coefficients, poly-coefficients, coefficients-less}
use Rattle.lists.proofs.Tabulated.{every-at, every_witness, length-tabulate}
use Rattle.register.specs.Algorithm4.{State, found, found_alone, is_alone}
use Rattle.register.specs.EachRound.{EachRound}
use Rattle.register.specs.Register.{Generator, Least, Alone}
use Rattle.register.specs.Sequences.{longest, shortened, ordered}
use Rattle.register.proofs.Abstract.{abs, abs-rounds}
use Rattle.register.proofs.Aligned.{sequences}
use Rattle.register.proofs.Bounds.{Bounded, bounded-rounds}
use Rattle.register.proofs.Generators.{within-longest, generator-poly, poly-generator}

module _ (p : ℕ) (ss : List (List ℕ)) (n : ℕ) (prime : Prime p) (round : n ≤ longest ss) where
  abbrev Q : Sequences (residues p prime).ring.car
  Q = sequences p prime (longest ss) (ordered ss)

  abbrev st : State
  st = found p ss n

  bounded : Bounded p (longest ss) (ordered ss) n st
  unfolding found
  bounded = bounded-rounds p (longest ss) (ordered ss) prime.two_or_more n

  invariant : Invariant (residues p prime) Q (abs p prime st) (suc n * length (ordered ss) + 0)
  unfolding found
  invariant =
      subst (λ x. Invariant (residues p prime) Q x (suc n * length (ordered ss) + 0))
      (sym (abs-rounds p prime (longest ss) (ordered ss) (within-longest ss) n)) (rounds-keep (residues p prime) Q n)

  found-generator : Generator p st.size (shortened (longest ss - n) ss) st.taps
  found-generator =
      poly-generator p prime ss n round st.size st.taps bounded.taps bounded.residues
      (generates (residues p prime) Q n (abs p prime st) invariant)

  found-least : Least p st.size (shortened (longest ss - n) ss)
  found-least m shorter τ g =
      least (residues p prime) Q n (abs p prime st) invariant m (poly p prime τ) shorter (generator-poly p prime ss n round m τ g)

  -- what the mark says of each sequence
  marked-at : found_alone p ss n ≡ true → MarkedAlone (residues p prime) Q n (abs p prime st) invariant
  unfolding found_alone is_alone
  marked-at e h b =
      leb-true (st.saved h).place ((st.saved h).size + max (n - st.size) (longest ss - length (get_or (ordered ss) h [])))
      (every-at (length (ordered ss)) _ e h b)

  found-alone : found_alone p ss n ≡ true → Alone p st.size (shortened (longest ss - n) ss) st.taps
  found-alone e τ g =
      poly-same p prime τ st.taps (omega (arith, g.register.taps, bounded.taps))
      (residues-past p τ (omega (arith, prime.two_or_more)) g.register.residues) bounded.residues
      (alone-unique (residues p prime) Q n (abs p prime st) invariant (marked-at e) (poly p prime τ)
      (generator-poly p prime ss n round st.size τ g))

  -- another register over the field is another list of taps
  other-taps : Other (residues p prime) Q n (abs p prime st) invariant
      → (τ : List ℕ) × Generator p st.size (shortened (longest ss - n) ss) τ × (τ ≡ st.taps → ⊥)
  other-taps o =
      let τ : List ℕ = coefficients p prime st.size o.taps in
      let same = poly-coefficients p prime st.size o.taps o.generates.degree in
      let taps : length τ ≡ suc st.size = length-tabulate (suc st.size) _ in (
        τ,
        poly-generator p prime ss n round st.size τ taps (coefficients-less p prime st.size o.taps)
            (subst (λ f. GeneratesUpTo (residues p prime) Q f st.size n) (sym (fun_ext same)) o.generates),
        λ equal. o.differs (sym (same o.index) ∙ ap (λ l. poly p prime l o.index) equal),
      )

  -- where the mark is missing there is another register of this length
  pub found-other : found_alone p ss n ≡ false → (τ : List ℕ) × Generator p st.size (shortened (longest ss - n) ss) τ × (τ ≡ st.taps → ⊥)
  unfolding found_alone is_alone
  found-other e =
      let w = every_witness (length (ordered ss)) _ e in
      other-taps (not-alone (residues p prime) Q n (abs p prime st) invariant w.0 w.1
      (leb-false (st.saved w.0).place ((st.saved w.0).size + max (n - st.size) (longest ss - length (get_or (ordered ss) w.0 []))) w.2))

  found-marked : Alone p st.size (shortened (longest ss - n) ss) st.taps → found_alone p ss n ≡ true
  found-marked alone = pick (found_alone p ss n) refl
    where
      pick : (b : Bool) → found_alone p ss n ≡ b → found_alone p ss n ≡ true
      pick true e = e
      pick false e = let (τ, g, differ) = found-other e in absurd (differ (alone τ g))

pub each-round : EachRound
each-round p ss n prime round =
    record {
      shortest = record { generator = found-generator p ss n prime round; least = found-least p ss n prime round };
      alone = found-alone p ss n prime round;
      marked = found-marked p ss n prime round;
    }
