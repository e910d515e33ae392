-- What is owed of the search.
use mathlib.Core.Path.{◌≡◌, refl, sym, ap, subst⁻¹, ◌∙◌}
use mathlib.Core.Logic.{◌↔◌}
use mathlib.Core.Bool.{true, and-eq-true_iff, false≢true}
use mathlib.Core.List.{List}
use Prim.Native.Nat.{ℕ, ◌-◌, ◌%◌, ◌≤◌, ◌<◌}
use native.Mathlib.Decide.{dec_lt}
use native.Mathlib.Omega.{arith}
use lib.Dec.{ltb}
use lib.ListN.{length, get_or}
use borrow.Author.Tests.{lt-ltb, ltb-true}
use Rattle.columns.specs.Columns.{has}
use Rattle.columns.proofs.Marks.{has-columns_of, has-past, columns_of-sound}
use Rattle.decoding.specs.Locating.{is_root}
use Rattle.decoding.specs.Search.{tried_for, sought_columns}
use Rattle.decoding.proofs.Sought.{few-roots, root-tried, first_found}
use Rattle.decoding.proofs.Tried.{tried-least}
use Rattle.frame.proofs.Reasons.{columns-says, symbols-says}
use Rattle.refusal.specs.Order.{Test, First}
use Rattle.refusal.specs.Outcome.{passed, refused, outcome}
use Rattle.refusal.proofs.Orders.{SayAll, first_of_map, outcome-refused}
use Rattle.refusal.proofs.Outcomes.{given-passed, given-refused}
use Rattle.search.proofs.Answers.{in_range, taps-below}
use Rattle.search.specs.Demands.{reasons, Demand1, Finds, Demand2}
use Rattle.search.specs.Search.{Answer, nothing, sought, search_tests, answer}

search-says : (n : ℕ) (σ : List ℕ) → SayAll (search_tests n σ) (reasons n σ)
unfolding search_tests
search-says n σ = (columns-says n, (symbols-says σ, tt))

module _ (n : ℕ) (σ : List ℕ) where
  abbrev tests : List Test
  tests = search_tests n σ

  outcome-is : (answer n σ).outcome ≡ outcome tests
  unfolding answer
  outcome-is = first_of_map (λ (a : Answer). a.outcome) _ tests _

  refused-alone : (k : ℕ) → (answer n σ).outcome ≡ refused k → (answer n σ).sought ≡ nothing
  unfolding answer
  refused-alone k e = ap (λ (a : Answer). a.sought) (given-refused _ _ tests k (sym outcome-is ∙ e))

  passed-sought : (answer n σ).outcome ≡ passed → (answer n σ).sought ≡ sought n σ
  unfolding answer
  passed-sought e = ap (λ (a : Answer). a.sought) (given-passed _ _ tests (sym outcome-is ∙ e))

pub demand_1 : Demand1
demand_1 =
    record {
      exact = λ n σ k.
          subst⁻¹ (λ o. (o ≡ refused k) ↔ First k (reasons n σ)) (outcome-is n σ)
          (outcome-refused (search_tests n σ) (reasons n σ) (search-says n σ) k);
      alone = refused-alone;
    }

-- ---- what is found

module _ (n : ℕ) (σ : List ℕ) (few : n ≤ 256) (below : (k : ℕ) → get_or σ k 0 < 257) where
  found-tried : (i : ℕ) → (has (sought_columns n σ) i ≡ true) ↔ ((i < tried_for n σ) × (is_root σ i ≡ true))
  unfolding sought_columns tried_for
  found-tried i = elim (dec_lt i 256) [
    | yes small ↦ (
      λ e. let (l, r) = (and-eq-true_iff (ltb i (tried_for n σ)) (is_root σ i)).0 (sym (has-columns_of _ i small) ∙ e) in (ltb-true i _ l, r),
      λ (l, r). has-columns_of _ i small ∙ (and-eq-true_iff (ltb i (tried_for n σ)) (is_root σ i)).1 (lt-ltb i _ l, r),
    )
    | no past ↦ (
      λ e. absurd (false≢true (sym (has-past (sought_columns n σ) (columns_of-sound _) i (omega arith)) ∙ e)),
      λ (l, r). absurd (let m = tried-least.most n (is_root σ) (length σ - 1) in let z : ⊥ = omega arith in z),
    )
  ]

  not-zero : (k : ℕ) → (get_or σ k 0 ≡ 0 → ⊥) → get_or σ k 0 % 257 ≡ 0 → ⊥
  not-zero k apart e = apart (omega (arith, below k, e))

  finds : Finds n σ (sought_columns n σ) (tried_for n σ)
  unfolding tried_for
  finds =
      record {
        tried = refl;
        found = found-tried;
        few = λ k apart. few-roots n σ few k (not-zero k apart);
        none_lost = λ k apart i inside root. ltb-true i _ (root-tried n σ few k (not-zero k apart) i root ∙ lt-ltb i n inside);
        zeros = λ zeros. let z = first_found n σ (λ k. ap (λ (m : ℕ). m % 257) (zeros k)) in (z.tried, z.roots);
      }

pub demand_2 : Demand2
demand_2 n σ e =
    let passes = sym (outcome-is n σ) ∙ e in
    subst⁻¹ (λ r. Finds n σ r.columns r.tried) (passed-sought n σ e) (finds n σ (in_range n σ passes) (taps-below n σ passes))
