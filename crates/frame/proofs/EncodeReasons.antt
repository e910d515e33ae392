-- The tests of encode say their reasons in turn: where the frame has its size and symbols for data, the only codeword with these data is uniform exactly
-- where no legal frame has them. Where the tests pass, what the encoder leaves is the only legal frame with the data.
use mathlib.Core.Path.{◌≡◌, refl, sym, subst, ◌∙◌}
use mathlib.Core.Logic.{◌⊎◌, inl, inr}
use mathlib.Core.Bool.{true, false, false≢true}
use mathlib.Core.List.{List}
use Prim.Native.Nat.{ℕ, ◌*◌}
use native.Mathlib.Decide.{dec_lt, ℕ_discrete}
use native.Mathlib.Omega.{arith}
use lib.ListN.{length}
use Rattle.columns.proofs.Listing.{by-test}
use Rattle.refusal.specs.Order.{First}
use Rattle.refusal.specs.Outcome.{refused, outcome}
use Rattle.refusal.proofs.Orders.{Pass, Says, SayInTurn, pass-none_in_turn, outcome_in_turn}
use Rattle.frame.proofs.Encoding.{OnlyCoded, encoder}
use Rattle.frame.proofs.Reasons.{size-says, data_says}
use Rattle.frame.proofs.Shapes.{shape-ranges}
use Rattle.frame.proofs.Uniform.{varied-says}
use Rattle.frame.specs.Demands.{size_reason, data_reason, no_legal_reason, encode_reasons}
use Rattle.frame.specs.Encode.{encoded, encode_tests, OnlyLegal, OnlyUniform}
use Rattle.frame.specs.Frame.{cell, uniform}
use Rattle.frame.specs.Shape.{is_shape}
use Rattle.frame.specs.declared.Shape.{Shape}

module _ (s : Shape) (f : List ℕ) (shape : is_shape s ≡ true) where
  only-coded : ((size_reason s f).holds → ⊥) → ((data_reason s f).holds → ⊥) → OnlyCoded s f (encoded s f)
  only-coded size symbols =
      encoder s f (shape-ranges s shape)
      (elim (ℕ_discrete (length f) (s.rows * s.columns)) [ yes e ↦ e | no n ↦ absurd (size n) ])
      (λ h i r d c. elim (dec_lt (cell s.columns f h i) 257) [ yes l ↦ l | no n ↦ absurd (symbols (h, i, r, d, c, omega arith)) ])

  uniform-says : OnlyCoded s f (encoded s f) → Says (record { number = 34; fails = uniform (encoded s f) }) (no_legal_reason s f)
  uniform-says e = record {
    number = refl;
    reason = λ u g legal same.
        false≢true (sym (subst (λ x. uniform x ≡ false) (e.only g legal.coded same) ((varied-says g).0 legal.varied)) ∙ u);
    fails = λ none. pick none (by-test (uniform (encoded s f)));
  }
    where
      pick : (no_legal_reason s f).holds → (uniform (encoded s f) ≡ true) ⊎ (uniform (encoded s f) ≡ false) → uniform (encoded s f) ≡ true
      pick none (inl u) = u
      pick none (inr v) = absurd (none (encoded s f) (record { coded = e.coded; varied = (varied-says _).1 v }) e.same_data)

  pub encode-says : SayInTurn (encode_tests s f) (encode_reasons s f)
  unfolding encode_tests
  encode-says = (size-says s f, λ size. (data_says s f, λ symbols. (uniform-says (only-coded size symbols), λ varied. tt)))

  pub encode-passes : Pass (encode_tests s f) → OnlyLegal s f (encoded s f)
  unfolding encode_tests
  encode-passes p =
      let (size, (symbols, rest)) = pass-none_in_turn (encode_tests s f) (encode_reasons s f) encode-says p in
      let e : OnlyCoded s f (encoded s f) = only-coded size symbols in
      record {
        legal = record { coded = e.coded; varied = (varied-says _).1 p.1.1.0 };
        same_data = e.same_data;
        only = e.only;
      }

  -- where 34 is given, no test before it fails
  pub encode-uniform : outcome (encode_tests s f) ≡ refused 34 → OnlyUniform s f (encoded s f)
  encode-uniform e = pick ((outcome_in_turn (encode_tests s f) (encode_reasons s f) encode-says 34).0 e)
    where
      pick : First 34 (encode_reasons s f) → OnlyUniform s f (encoded s f)
      pick (inl (size, number)) = absurd (let z : ⊥ = omega arith in z)
      pick (inr (size, inl (symbols, number))) = absurd (let z : ⊥ = omega arith in z)
      pick (inr (size, inr (symbols, inr (none, first)))) = absurd first
      pick (inr (size, inr (symbols, inl (none, number)))) =
          let e : OnlyCoded s f (encoded s f) = only-coded size symbols in
          record {
            coded = e.coded;
            same_data = e.same_data;
            only = e.only;
            not-varied = λ varied. none (encoded s f) (record { coded = e.coded; varied = varied }) e.same_data;
          }
