-- A row cleared at the columns of a set, from each to the next: the columns that are passed hold 0, the others what they held.
use mathlib.Core.Path.{◌≡◌, refl, sym, ap, ◌∙◌}
use mathlib.Core.Bool.{Bool, cond}
use mathlib.Core.List.{List}
use Prim.Native.Nat.{ℕ, ◌+◌, ◌≤◌, ◌<◌}
use native.Mathlib.Omega.{arith}
use lib.ListN.{length, get_or, set, length-set}
use Rattle.columns.specs.declared.Columns.{Columns}
use Rattle.columns.proofs.Passing.{passed, passed_none, passed_here, passed-other, passed-all}
use Rattle.columns.proofs.Walk.{Walk, next_at, walk_start, walk-next}
use Rattle.lists.specs.Tabulate.{tabulate}
use Rattle.lists.proofs.Filling.{by_entries, set-tabulate}
use Rattle.lists.proofs.Tabulated.{tabulate_ext}
use Rattle.frame.specs.Completion.{cleared}

module _ (J : Columns) (x : List ℕ) where
  -- what column k holds, by whether it is passed
  abbrev chosen : ℕ → Bool → ℕ
  chosen k b = cond b 0 (get_or x k 0)

  -- the columns of the set before i are cleared
  pub record Clearing (i : ℕ) (row : List ℕ) : Type 0 where
    pub count : ℕ
    pub walk : Walk J count i
    pub size : length row ≡ length x
    pub entries : row ≡ tabulate (length x) (λ k. chosen k (passed J i k))

  pub clearing_none : (i : ℕ) → i ≡ next_at J 0 → Clearing i x
  clearing_none i e = record {
    count = 0;
    walk = walk_start J i e;
    size = refl;
    entries = by_entries (length x) (λ k. chosen k (passed J i k)) x refl (λ k l. sym (ap (chosen k) (passed_none J i e k)));
  }

  pub clearing_more : (i j : ℕ) (row : List ℕ) → Clearing i row → i < 256 → i < length row → j ≡ next_at J (i + 1) → Clearing j (set row i 0)
  clearing_more i j row a low inside e = record {
    count = a.count + 1;
    walk = walk-next J a.count i a.walk j low e;
    size = length-set row i 0 ∙ a.size;
    entries =
        ap (λ (l : List ℕ). set l i 0) a.entries
        ∙ set-tabulate (length x) (λ k. chosen k (passed J i k)) (λ k. chosen k (passed J j k)) i 0 (let s = a.size in omega arith)
        (sym (ap (chosen i) (passed_here J a.count i a.walk j low e)))
        (λ k l other. ap (chosen k) (passed-other J a.count i a.walk j low e k other));
  }

  pub clearing_all : (i : ℕ) (row : List ℕ) → Clearing i row → length row ≤ i → row ≡ cleared (length x) J x
  unfolding cleared
  clearing_all i row a le =
      a.entries ∙ tabulate_ext (length x) _ _ (λ k l. ap (chosen k) (passed-all J i k (let s = a.size in omega arith)))
