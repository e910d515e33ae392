-- Whether the next marked column at or after n is none tells whether all marked columns are below n.
use mathlib.Core.Path.{◌≡◌, sym, ap, ◌∙◌}
use mathlib.Core.Bool.{Bool, not, ◌&&◌, ◌||◌, or-true, or-false}
use Prim.Native.Nat.{ℕ, ◌<◌}
use native.Mathlib.Decide.{dec_lt}
use native.Mathlib.Omega.{arith}
use lib.Dec.{leb, ltb, eqb}
use borrow.Author.Tests.{lt-ltb, le-ltb, le-leb, lt-leb, eq-eqb, ne_eqb}
use Rattle.columns.specs.Columns.{has}
use Rattle.columns.specs.Listed.{least}
use Rattle.columns.specs.declared.Columns.{Columns}
use Rattle.columns.proofs.Least.{least-is}
use Rattle.lists.specs.Tabulate.{every}
use Rattle.lists.proofs.Tabulated.{every_of, every-fails, every_ext}

-- none below n passes where the least that does is n
none_passes : (n : ℕ) (P : ℕ → Bool) → eqb (least n P) n ≡ every n (λ k. not (P k))
none_passes n P = pick (dec_lt (least n P) n)
  where
    pick : Dec (least n P < n) → eqb (least n P) n ≡ every n (λ k. not (P k))
    pick (yes l) =
        ne_eqb (least n P) n (omega arith)
        ∙ sym (every-fails n (λ k. not (P k)) (least n P) l (ap not ((least-is n P).here l)))
    pick (no l) =
        let e : least n P ≡ n = let w = (least-is n P).within in omega arith in
        eq-eqb (least n P) n e
        ∙ sym (every_of n (λ k. not (P k)) (λ k b. ap not ((least-is n P).before k (omega arith))))

pub next-none : (c : Columns) (n : ℕ) → eqb (least 256 (λ k. leb n k && has c k)) 256 ≡ every 256 (λ i. not (has c i) || ltb i n)
next-none c n = none_passes 256 (λ k. leb n k && has c k) ∙ every_ext 256 _ _ (λ k l. at k (dec_lt k n))
  where
    at : (k : ℕ) → Dec (k < n) → not (leb n k && has c k) ≡ (not (has c k) || ltb k n)
    at k (yes l) = rw (lt-leb n k l, lt-ltb k n l) (sym (or-true (not (has c k))))
    at k (no l) = rw (le-leb n k (omega arith), le-ltb k n (omega arith)) (sym (or-false (not (has c k))))
