-- Division by the generator polynomial in place, from the last cell down: taking off the leading cell by a multiple of the generator changes no check
-- sum that the generator has 0, and the cells fit 32 bits all the while.
use mathlib.Core.Path.{◌≡◌, refl, sym, ap, ap₂, ◌∙◌}
use mathlib.Core.List.{List}
use Prim.Native.Nat.{ℕ, suc, ◌+◌, ◌-◌, ◌*◌, ◌%◌, ◌≤◌, ◌<◌}
use native.Mathlib.Decide.{dec_lt}
use native.Mathlib.Nat.{mul-le-mul, zero-add}
use native.Mathlib.Omega.{arith}
use borrow.Rule.Slice.PartMut.{mid_of, put_mid, mid_len, same_len_mid}
use lib.ListN.{length, get_or}
use Rattle.field.proofs.Bridge.{res-mod, res-add, res-mul}
use Rattle.field.proofs.Prime257.{prime_257}
use Rattle.frame.specs.Frame.{check_sum}
use Rattle.frame.proofs.Weights.{weight_at, weight_at-add}
use Rattle.frame.proofs.CheckSums.{row_sum, check_sum-below, res-check_sum, zero_in_field}
use Rattle.field257.proofs.Field257.{symbols, R257, res257, res-tells, res-minus-one}
use Rattle.lists.specs.Tabulate.{tabulate}
use Rattle.lists.proofs.Entries.{get_d_part}
use Rattle.lists.proofs.Parts.{replaced-before, replaced_in, replaced-after}
use Rattle.lists.proofs.Tabulated.{length-tabulate, get_d_tabulate}
use Rattle.division.specs.GeneratorPolynomial.{Divisor, GeneratorPolynomial}
use Rattle.algebra.proofs.WeighedSums.{multiple_added}
open R257 use {add as ◌⊕◌, mul as ◌⊗◌}

infixl 60 ◌⊕◌
infixl 70 ◌⊗◌
module _ (m : ℕ) (g from : List ℕ) where
  -- the cells from i on are taken off
  pub record Divided (i : ℕ) (cells : List ℕ) : Type 0 where
    pub size : length cells ≡ length from
    pub above : m ≤ i
    pub within : i ≤ length from
    pub bound : (k : ℕ) → get_or cells k 0 ≤ 65535 + 65536 * (length from - i)
    pub sums : (b : ℕ) → GeneratorPolynomial b m g → (j : ℕ) → j < m → check_sum b i cells (suc j) ≡ check_sum b (length from) from (suc j)

  pub divided_none : m ≤ length from → ((k : ℕ) → get_or from k 0 < 65536) → Divided (length from) from
  divided_none le small = record {
    size = refl;
    above = le;
    within = omega arith;
    bound = λ k. let s = small k in omega arith;
    sums = λ b of j h. refl;
  }

  pub divided_all : (i : ℕ) (cells : List ℕ) → Divided i cells → i ≤ m
      → (b : ℕ) → GeneratorPolynomial b m g → (j : ℕ) → j < m → check_sum b m cells (suc j) ≡ check_sum b (length from) from (suc j)
  divided_all i cells a le b of j h =
      ap (λ (k : ℕ). check_sum b k cells (suc j)) (let q : m ≡ i = let l = a.above in omega arith in q) ∙ a.sums b of j h

  module _ (divisor : Divisor m g) (i : ℕ) (cells : List ℕ) (a : Divided i cells) (less : m < i) where
    -- where the part begins to which the multiple is added
    abbrev start : ℕ
    start = i - 1 - m

    abbrev leading : ℕ
    leading = get_or cells (i - 1) 0 % 257

    abbrev part : List ℕ
    part = mid_of start (i - 1 - start) cells

    abbrev lower : List ℕ
    lower = mid_of 0 (m - 0) g

    abbrev added : ℕ → ℕ
    added k = get_or part k 0 + get_or lower k 0 * leading

    length_part : length part ≡ m
    length_part = let l = mid_len start (i - 1) cells (let s = a.size in let w = a.within in omega arith) in omega arith

    length-lower : length lower ≡ m
    length-lower = let l = mid_len 0 m g (let s = divisor.size in omega arith) in omega arith

    pub same_size : length part ≡ length lower
    same_size = length_part ∙ sym length-lower

    added_is : (k : ℕ) → k < m → added k ≡ get_or cells (start + k) 0 + get_or g k 0 * leading
    added_is k h =
        ap₂ (λ (c d : ℕ). c + d * leading) (get_d_part start (i - 1 - start) cells k 0 (omega arith))
        (get_d_part 0 (m - 0) g k 0 (omega arith) ∙ ap (λ (t : ℕ). get_or g t 0) (zero-add k))

    multiple_small : (k : ℕ) → get_or g k 0 * leading ≤ 256 * 256
    multiple_small k =
        mul-le-mul (let b = divisor.below k in let l : get_or g k 0 ≤ 256 = omega arith in l)
        (let l : leading ≤ 256 = omega arith in l)

    added-bound : (k : ℕ) → k < m → added k ≤ 65535 + 65536 * (length from - (i - 1))
    added-bound k h =
        let e = added_is k h in let b = a.bound (start + k) in let s = multiple_small k in let w = a.within in omega arith

    pub added-fits : length from ≤ 256 → (k : ℕ) → k < length lower → added k < 4294967296
    added-fits narrow k h = let b = added-bound k (let l = length-lower in omega arith) in omega arith

    module _ (y : List ℕ) (e : y ≡ tabulate (length lower) added) where
      abbrev after : List ℕ
      after = put_mid start (i - 1 - start) cells y

      inside : start + (i - 1 - start) ≤ length cells
      inside = let s = a.size in let w = a.within in omega arith

      length-y : length y ≡ length part
      length-y = ap length e ∙ length-tabulate (length lower) added ∙ sym same_size

      width-y : length y ≡ i - 1 - start
      width-y = let l = length-y in let p = length_part in omega arith

      after-before : (k : ℕ) → k < start → get_or after k 0 ≡ get_or cells k 0
      after-before = replaced-before start (i - 1 - start) cells y inside width-y 0

      after_in : (k : ℕ) → k < m → get_or after (start + k) 0 ≡ added k
      after_in k h =
          replaced_in start (i - 1 - start) cells y inside width-y 0 k (omega arith)
          ∙ ap (λ (l : List ℕ). get_or l k 0) e ∙ get_d_tabulate (length lower) added k 0 (let l = length-lower in omega arith)

      after-bound : (k : ℕ) → Dec (k < start) → Dec (k < i - 1) → get_or after k 0 ≤ 65535 + 65536 * (length from - (i - 1))
      after-bound k (yes h) d = let e = after-before k h in let b = a.bound k in let w = a.within in omega arith
      after-bound k (no h) (yes l) =
          let t : ℕ = k - start in
          let q : start + t ≡ k = omega arith in
          let b = added-bound t (omega arith) in
          let e = ap (λ (s : ℕ). get_or after s 0) (sym q) ∙ after_in t (omega arith) in
          omega arith
      after-bound k (no h) (no l) =
          let e = replaced-after start (i - 1 - start) cells y inside width-y 0 k (omega arith) in
          let b = a.bound k in
          let w = a.within in
          omega arith

      after-symbol : (k : ℕ) → k < m → symbols after (start + k) ≡ symbols cells (start + k) ⊕ symbols g k ⊗ symbols cells (start + m)
      after-symbol k h =
          ap res257 (after_in k h ∙ added_is k h) ∙ res-add 257 prime_257 (get_or cells (start + k) 0) (get_or g k 0 * leading)
          ∙ ap (λ z. symbols cells (start + k) ⊕ z)
          (res-mul 257 prime_257 (get_or g k 0) leading
          ∙ ap (λ z. symbols g k ⊗ z)
          (res-mod 257 prime_257 (get_or cells (i - 1) 0) ∙ ap (symbols cells) (let q : i - 1 ≡ start + m = omega arith in q)))

      same_sum : (b : ℕ) → GeneratorPolynomial b m g → (j : ℕ) → j < m → check_sum b (i - 1) after (suc j) ≡ check_sum b i cells (suc j)
      same_sum b of j h =
          res-tells _ _ (check_sum-below b (i - 1) after (suc j)) (check_sum-below b i cells (suc j))
          (res-check_sum b (i - 1) after j
          ∙ ap (λ n. row_sum b n (symbols after) j) (let q : i - 1 ≡ start + m = omega arith in q)
          ∙ multiple_added R257 (λ k. weight_at b k j) (weight_at-add b j) start m (symbols cells) (symbols g) (symbols after)
          (ap res257 divisor.leading ∙ res-minus-one) (zero_in_field b (suc m) g j (of.sums j h)) (λ k l. ap res257 (after-before k l)) after-symbol
          ∙ ap (λ n. row_sum b n (symbols cells) j) (let q : suc (start + m) ≡ i = omega arith in q)
          ∙ sym (res-check_sum b i cells j))

      pub divided_more : Divided (i - 1) after
      divided_more = record {
        size = same_len_mid start (i - 1 - start) cells y length-y ∙ a.size;
        above = omega arith;
        within = (let w = a.within in omega arith);
        bound = λ k. after-bound k (dec_lt k start) (dec_lt k (i - 1));
        sums = λ b of j h. same_sum b of j h ∙ a.sums b of j h;
      }
