-- The coefficients of a polynomial multiplied in place by a·z + b, one after the other: each is made from the one below it, as it was, and from itself. Where
-- the front of a list is changed so, the whole is where it is 0 past the front.
use mathlib.Core.Path.{◌≡◌, refl, sym, ap, ap₂, ◌∙◌}
use mathlib.Core.Bool.{Bool, cond}
use mathlib.Core.List.{List}
use Prim.Native.Nat.{ℕ, zero, suc, ◌+◌, ◌-◌, ◌*◌, ◌%◌, ◌≤◌, ◌<◌}
use native.Mathlib.Nat.{zero-add}
use native.Mathlib.Numerals.{add-one}
use native.Mathlib.Omega.{arith}
use mir.Syntax.{w16}
use mir.Val.{Fits}
use borrow.Author.Tests.{le-ltb}
use borrow.Rule.Slice.PartMut.{mid_of, put_mid, same_len_mid}
use lib.ListN.{length, get_or, set}
use lib.Seq.{get_or-take, length-take-le}
use Rattle.field.specs.Coefficients.{shifted}
use Rattle.lists.specs.Tabulate.{tabulate}
use Rattle.lists.proofs.Filling.{Filled, filled_none, filled_more, filled-rest, filled-all}
use Rattle.lists.proofs.Parts.{replaced_in, replaced-after}
use Rattle.lists.proofs.Tabulated.{get_d_tabulate, length-tabulate}

pub shifted-zero : (f : List ℕ) → shifted 1 f 0 ≡ 0
unfolding shifted
shifted-zero f = refl

pub shifted-suc : (f : List ℕ) (k : ℕ) → shifted 1 f (suc k) ≡ get_or f k 0
unfolding shifted
shifted-suc f k =
    ap₂ (λ (b : Bool) (m : ℕ). cond b 0 (get_or f m 0)) (le-ltb (suc k) 1 (omega arith)) (let q : suc k - 1 ≡ k = omega arith in q)

module _ (p a b : ℕ) where
  -- coefficient k, made from the one below it and from itself
  abbrev make : (below own : ℕ) → ℕ
  make below own = (a * below + b * own) % p

  abbrev pub made : List ℕ → ℕ → ℕ
  made f k = make (shifted 1 f k) (get_or f k 0)

  module _ (from : List ℕ) where
    -- k coefficients are done, and `below` is the one below the next as it was
    pub record Multiplied (k below : ℕ) (f : List ℕ) : Type 0 where
      pub filled : Filled (made from) from k f
      pub kept : below ≡ shifted 1 from k
      pub fits : Fits w16 below

    pub multiplied_none : Multiplied 0 0 from
    multiplied_none = record { filled = filled_none (made from) from; kept = sym (shifted-zero from); fits = omega arith }

    module _ (k below : ℕ) (f : List ℕ) (m : Multiplied k below f) where
      pub multiplied_more : (old v : ℕ) → k < length from → old ≡ get_or f k 0 → Fits w16 old → v ≡ (a * below + b * old) % p
          → Multiplied (k + 1) old (set f k v)
      multiplied_more old v h e fits is =
          let same = e ∙ filled-rest (made from) from k f m.filled k (omega arith) h in
          record {
            filled = filled_more (made from) from k v f m.filled (let s = m.filled.size in omega arith) (is ∙ ap₂ make m.kept same);
            kept = same ∙ sym (shifted-suc from k) ∙ ap (shifted 1 from) (sym (add-one k));
            fits = fits;
          }

      pub multiplied_all : length from ≤ k → f ≡ tabulate (length from) (made from)
      multiplied_all h = filled-all (made from) from k f m.filled (let s = m.filled.size in omega arith)

  -- the first n coefficients of f changed
  module _ (n : ℕ) (f : List ℕ) (room : n ≤ length f) where
    abbrev front : List ℕ
    front = mid_of 0 n f

    length_front : length front ≡ n
    length_front = length-take-le n f room

    front-entry : (k : ℕ) → k < n → get_or front k 0 ≡ get_or f k 0
    front-entry k h = get_or-take n f k 0 h

    front-shifted : (k : ℕ) → k < n → shifted 1 front k ≡ shifted 1 f k
    front-shifted zero h = shifted-zero front ∙ sym (shifted-zero f)
    front-shifted (suc k) h = shifted-suc front k ∙ front-entry k (omega arith) ∙ sym (shifted-suc f k)

    module _ (y : List ℕ) (e : y ≡ tabulate (length front) (made front)) where
      length-y : length y ≡ length front
      length-y = ap length e ∙ length-tabulate (length front) (made front)

      fits : length y ≡ n
      fits = length-y ∙ length_front

      pub front_length : length (put_mid 0 n f y) ≡ length f
      front_length = same_len_mid 0 n f y length-y

      pub front-made : (k : ℕ) → k < n → get_or (put_mid 0 n f y) k 0 ≡ made f k
      front-made k h =
          ap (λ (i : ℕ). get_or (put_mid 0 n f y) i 0) (sym (zero-add k)) ∙ replaced_in 0 n f y (omega arith) fits 0 k h
          ∙ ap (λ (l : List ℕ). get_or l k 0) e ∙ get_d_tabulate (length front) (made front) k 0 (let q = length_front in omega arith)
          ∙ ap₂ make (front-shifted k h) (front-entry k h)

      pub front_rest : (k : ℕ) → n ≤ k → get_or (put_mid 0 n f y) k 0 ≡ get_or f k 0
      front_rest k h = replaced-after 0 n f y (omega arith) fits 0 k (omega arith)
