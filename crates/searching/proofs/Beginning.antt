-- What is lent can be searched in slices.
use mathlib.Core.Path.{◌≡◌, ap, subst⁻¹, ◌∙◌}
use mathlib.Core.List.{List}
use Prim.Native.Nat.{ℕ}
use native.Mathlib.Omega.{arith}
use lib.ListN.{get_or, take}
use Rattle.lists.specs.Total.{total}
use Rattle.locating.proofs.Lending.{Lent, lent-most, lent_split, lent-sortable, lent-short}
use Rattle.register.specs.Sequences.{split}
use Rattle.slices.specs.Lent as sliced
use Rattle.slices.specs.Synthesis.{Synthesis, begun}
use Rattle.searching.specs.Beginning.{Beginnable}

module _ {rows : ℕ} {lengths symbols : List ℕ} {ss : List (List ℕ)} (lent : Lent rows lengths symbols ss) (all : ℕ)
    (counted : all ≡ total rows (λ h. get_or lengths h 0)) where
  pub lent_beginnable : Beginnable rows lengths all symbols
  lent_beginnable =
      record {
        few = lent.rows-most;
        room = omega (arith, counted, lent-most lent, lent.width);
        lent =
            subst⁻¹ (λ (n : ℕ). sliced.Lent (take rows lengths) (take n symbols)) counted record { sortable = lent-sortable lent; short = lent-short lent };
      }

  pub lent-begun : {told : List (List ℕ)} → ss ≡ told → (old : Synthesis) {x : Synthesis} → x ≡ begun (split (take rows lengths) (take all symbols)) old
      → x ≡ begun told old
  lent-begun e old given =
      given
      ∙ ap (λ (l : List (List ℕ)). begun l old) (ap (λ (n : ℕ). split (take rows lengths) (take n symbols)) counted ∙ lent_split lent ∙ e)
