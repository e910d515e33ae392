-- The search that ends with the last column to find loses none: at most as many columns are named as the register is long.
use mathlib.Core.Path.{◌≡◌, refl, sym, ap, ◌∙◌}
use mathlib.Core.Bool.{Bool, true, false, ◌&&◌, and-false}
use mathlib.Core.List.{List, [], ◌∷◌}
use Prim.Native.Nat.{ℕ, suc, ◌-◌, ◌*◌, ◌%◌, ◌^◌, ◌≤◌, min, zero-le}
use native.Mathlib.Nat.{mod-lt, zero-mul}
use native.Mathlib.Decide.{dec_lt}
use native.Mathlib.Omega.{arith}
use lib.Dec.{ltb, lit<}
use lib.ListN.{length, get_or}
use borrow.Author.Tests.{lt-ltb, le-ltb, eq-eqb, eqb-true}
use Rattle.columns.specs.Listed.{count}
use Rattle.columns.proofs.Listing.{count-all, count-lt}
use Rattle.columns.proofs.Marks.{columns_of_ext}
use Rattle.decoding.specs.Locating.{is_root, named, named_columns}
use Rattle.decoding.specs.Search.{tried, tried_for, sought_columns, RootsAre, FewRoots, NoneLost, FirstFound}
use Rattle.decoding.proofs.NamedColumns.{roots-most}
use Rattle.decoding.proofs.Tried.{tried-least, tried_ext}
use Rattle.field.specs.Coefficients.{value}
use Rattle.field.specs.Residue.{inverse}
use Rattle.field.proofs.Bridge.{res-mod}
use Rattle.field.proofs.Prime257.{prime_257}
use Rattle.field.proofs.Remainders.{mod-mul-mod}
use Rattle.field257.specs.Powers.{locator_of}
use Rattle.frame.specs.declared.Shape.{Shape}
use Rattle.field257.proofs.Field257.{res-tells-zero}
use Rattle.field257.proofs.Locators.{inverse-is}
use Rattle.lists.specs.Total.{total}
use Rattle.lists.proofs.Totals.{total-bound, total_ext, total-mod}

pub roots_are : RootsAre
unfolding value
roots_are σ i y small e = (λ root. sym (ap (value 257 σ) is) ∙ eqb-true _ 0 root, λ zero. eq-eqb _ 0 (ap (value 257 σ) is ∙ zero))
  where
    is : inverse 257 (locator_of i) ≡ y
    is = inverse-is i y small e

not-empty : (σ : List ℕ) (k : ℕ) → (get_or σ k 0 % 257 ≡ 0 → ⊥) → length σ ≡ suc (length σ - 1)
not-empty [] k apart = absurd (apart refl)
not-empty (x ∷ σ) k apart = omega arith

pub few-roots : FewRoots
few-roots n σ few k apart =
    roots-most (length σ - 1) σ (not-empty σ k apart) n k few
    (λ e. apart (res-tells-zero (get_or σ k 0 % 257) (mod-lt _ (lit< tt)) (res-mod 257 prime_257 (get_or σ k 0) ∙ e)))

module _ (n : ℕ) (σ : List ℕ) (few : n ≤ 256) (k : ℕ) (apart : get_or σ k 0 % 257 ≡ 0 → ⊥) where
  -- each root among the columns is tried
  pub root-tried : (i : ℕ) → is_root σ i ≡ true → ltb i (tried_for n σ) ≡ ltb i n
  unfolding tried_for
  root-tried i e = elim (dec_lt i n) [
    | yes below ↦ lt-ltb i _
        (tried-least.goes_on n (is_root σ) (length σ - 1) i below (omega (arith, count-lt i n (is_root σ) below e, few-roots n σ few k apart)))
        ∙ sym (lt-ltb i n below)
    | no past ↦ le-ltb i _ (omega (arith, tried-least.most n (is_root σ) (length σ - 1))) ∙ sym (le-ltb i n (omega arith))
  ]

  found-named : (i : ℕ) (b : Bool) → is_root σ i ≡ b → (ltb i (tried_for n σ) && is_root σ i) ≡ (ltb i n && is_root σ i)
  found-named i true e = ap (λ (b : Bool). b && is_root σ i) (root-tried i e)
  found-named i false e =
      ap (λ (b : Bool). ltb i (tried_for n σ) && b) e ∙ and-false (ltb i (tried_for n σ))
      ∙ sym (ap (λ (b : Bool). ltb i n && b) e ∙ and-false (ltb i n))

pub none_lost : NoneLost
unfolding sought_columns named_columns named
none_lost s σ few k apart = columns_of_ext _ _ (λ i _. found-named s.columns σ few k apart i (is_root σ i) refl)

-- the columns of a shape that are named are tried for
pub tried-named : (s : Shape) (σ : List ℕ) → tried_for s.columns σ ≡ tried s.columns (named s σ) (length σ - 1)
unfolding tried_for named
tried-named s σ =
    tried_ext s.columns (is_root σ) _ (length σ - 1) (λ i below. ap (λ (b : Bool). b && is_root σ i) (sym (lt-ltb i s.columns below)))

-- ---- taps that are all 0

module _ (n : ℕ) (σ : List ℕ) (zeros : (k : ℕ) → get_or σ k 0 % 257 ≡ 0) where
  zero-value : (y : ℕ) → value 257 σ y ≡ 0
  unfolding value
  zero-value y =
      sym (total-mod (length σ) 257 (λ k. get_or σ k 0 * y ^ k))
      ∙ ap (λ (m : ℕ). m % 257) (total_ext (length σ) _ (λ k. 0) (λ k _. zero-term k) ∙ total-none (length σ))
    where
      zero-term : (k : ℕ) → get_or σ k 0 * y ^ k % 257 ≡ 0
      zero-term k =
          sym (mod-mul-mod (get_or σ k 0) 257 (y ^ k)) ∙ ap (λ (m : ℕ). m * y ^ k % 257) (zeros k) ∙ ap (λ (m : ℕ). m % 257) (zero-mul (y ^ k))

      total-none : (m : ℕ) → total m (λ k. 0) ≡ 0
      total-none m = let le = total-bound m 0 (λ k. 0) (λ k _. zero-le) in omega arith

  all-roots : (i : ℕ) → is_root σ i ≡ true
  all-roots i = eq-eqb _ 0 (zero-value (inverse 257 (locator_of i)))

  all_pass : (i : ℕ) → count i (is_root σ) ≡ i
  all_pass i = count-all i (is_root σ) (λ k _. all-roots k)

  first-tried : tried_for n σ ≡ min n (length σ - 1)
  unfolding tried_for
  first-tried =
      let c : ℕ = length σ - 1 in
      let t : ℕ = tried n (is_root σ) c in
      elim (dec_lt t (min n c)) [
        | yes fewer ↦ absurd (let l = tried-least.goes_on n (is_root σ) c t (omega arith) (omega (arith, all_pass t)) in omega arith)
        | no enough ↦ omega (arith, tried-least.most n (is_root σ) c, tried-least.ends n (is_root σ) c c (omega (arith, all_pass c)))
      ]

pub first_found : FirstFound
first_found n σ zeros = record { roots = all-roots n σ zeros; tried = first-tried n σ zeros }
