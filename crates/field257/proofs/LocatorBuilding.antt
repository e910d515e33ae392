-- The locator polynomial of a set, built by one factor for each member in rising order, in a list of 65 coefficients.
use mathlib.Core.Path.{◌≡◌, refl, sym, ap, ap₂, fun_ext, ◌∙◌}
use mathlib.Core.List.{List, [], ◌∷◌, ◌++◌, map}
use Prim.Native.Nat.{ℕ, zero, suc, ◌+◌, ◌-◌, ◌*◌, ◌/◌, ◌%◌, ◌^◌, ◌≤◌, ◌<◌}
use native.Mathlib.Nat.{add-mul, add-mul-mod_self_right, div-add-mod', le_of_lt, mod-lt, mul-zero}
use native.Mathlib.Decide.{dec_lt}
use native.Mathlib.Numerals.{add-one}
use native.Mathlib.Omega.{arith}
use borrow.Rule.Slice.PartMut.{mid_of, put_mid}
use lib.Dec.{lit<}
use lib.ListN.{length, get_or, take, replicate, length-map, get_or-eq_default}
use lib.Seq.{length-take-le, take_all, take-suc}
use Rattle.algebra.specs.Locator.{factor, locator, unit}
use Rattle.algebra.proofs.LocatorLaws.{locator_degree}
use Rattle.columns.specs.Columns.{members}
use Rattle.columns.specs.declared.Columns.{Columns}
use Rattle.field.specs.Coefficients.{reduced, shifted}
use Rattle.field.specs.Residue.{minus, times}
use Rattle.field.proofs.Bridge.{res-zero, res_one}
use Rattle.field.proofs.Prime257.{prime_257}
use Rattle.lists.specs.Tabulate.{tabulate}
use Rattle.lists.proofs.Filling.{by_entries}
use Rattle.lists.proofs.Zeros.{zeros-entry}
use Rattle.lists.proofs.Tabulated.{length-tabulate, get_d_tabulate}
use Rattle.field257.specs.LocatorPolynomial.{locator_polynomial}
use Rattle.field257.specs.Powers.{locator_of}
use Rattle.field257.proofs.Field257.{symbols, R257, res257, res-tells, locator_at}
use Rattle.field257.proofs.LocatorPolynomial.{factor-entry, locator-coefficients}
use Rattle.algebra.proofs.LocatorOrder.{locator-last}
use Rattle.field.proofs.Multiplication.{made, shifted-zero, shifted-suc, front_length, front-made, front_rest}

length-reduced : (l : ℕ) (f : List ℕ) (x : ℕ) → length (reduced 257 l f x 1 f) ≡ suc l
unfolding reduced
length-reduced l f x = length-tabulate (suc l) _

-- past the end, and where it is reduced, an entry is below 257
reduced-below : (l : ℕ) (f : List ℕ) (x k : ℕ) → get_or (reduced 257 l f x 1 f) k 0 < 257
unfolding reduced
reduced-below l f x k = pick (dec_lt k (suc l))
  where
    pick : Dec (k < suc l) → get_or (reduced 257 l f x 1 f) k 0 < 257
    pick (yes h) = rw (get_d_tabulate {A = ℕ} (suc l) _ k 0 h) (mod-lt _ (lit< tt))
    pick (no h) = rw (get_or-eq_default (reduced 257 l f x 1 f) 0 {n = k} (let e = length-reduced l f x in omega arith)) (lit< tt)

-- a coefficient of f times 1 − x·z, from the one below it and from itself
lowered : (x below own : ℕ) → x ≤ 257 → ((257 - x) * below + 1 * own) % 257 ≡ minus 257 own (times 257 x below)
lowered x below own le =
    let r : ℕ = (x * below) % 257 in
    let q : ℕ = (x * below) / 257 in
    let whole = div-add-mod' (x * below) 257 in
    let less : r < 257 = mod-lt (x * below) (lit< tt) in
    let parts : (257 - x) * below + x * below ≡ 257 * below = sym (add-mul (257 - x) x below) ∙ ap (λ (n : ℕ). n * below) (omega arith) in
    sym (add-mul-mod_self_right ((257 - x) * below + 1 * own) (q + 1) 257)
    ∙ ap (λ (n : ℕ). n % 257) (let e : (257 - x) * below + 1 * own + (q + 1) * 257 ≡ own + (257 - r) + below * 257 = omega arith in e)
    ∙ add-mul-mod_self_right (own + (257 - r)) below 257

-- where f is 0 from n − 1 on, multiplying its first n coefficients multiplies all of them
front_multiplied : (l n x : ℕ) (f y : List ℕ) → length f ≡ suc l → n ≤ suc l → ((k : ℕ) → n ≤ suc k → get_or f k 0 ≡ 0) → x ≤ 257
    → (let front = mid_of 0 n f in y ≡ tabulate (length front) (made 257 (257 - x) 1 front)) → put_mid 0 n f y ≡ reduced 257 l f x 1 f
unfolding reduced
front_multiplied l n x f y size room past le e =
    by_entries (suc l) (λ k. minus 257 (get_or f k 0) (times 257 x (shifted 1 f k))) (put_mid 0 n f y)
    (front_length 257 a 1 n f inside y e ∙ size) (λ k h. at k (dec_lt k n) ∙ lowered x (shifted 1 f k) (get_or f k 0) le)
  where
    a : ℕ
    a = 257 - x

    inside : n ≤ length f
    inside = omega arith

    shifted_past : (k : ℕ) → n ≤ k → shifted 1 f k ≡ 0
    shifted_past zero h = shifted-zero f
    shifted_past (suc k) h = shifted-suc f k ∙ past k h

    at : (k : ℕ) → Dec (k < n) → get_or (put_mid 0 n f y) k 0 ≡ made 257 a 1 f k
    at k (yes h) = front-made 257 a 1 n f inside y e k h
    at k (no h) =
        front_rest 257 a 1 n f inside y e k (omega arith) ∙ past k (omega arith)
        ∙ sym (ap₂ (λ (below own : ℕ). (a * below + 1 * own) % 257) (shifted_past k (omega arith)) (past k (omega arith)) ∙ rw (mul-zero a) refl)

pub polynomial_below : (is : List ℕ) (k : ℕ) → get_or (locator_polynomial is) k 0 < 257
unfolding locator_polynomial
polynomial_below [] zero = lit< tt
polynomial_below [] (suc k) = lit< tt
polynomial_below (i ∷ is) k = reduced-below _ (locator_polynomial is) (locator_of i) k

module _ (J : Columns) where
  -- the polynomial of the first d members
  abbrev firsts : ℕ → ℕ → R257.car
  firsts d = locator R257 (map locator_at (take d (members J)))

  pub record Building (d : ℕ) (f : List ℕ) : Type 0 where
    pub size : length f ≡ 65
    pub small : (k : ℕ) → get_or f k 0 < 257
    pub coefficients : (k : ℕ) → symbols f k ≡ firsts d k

  pub building_none : Building 0 (1 ∷ replicate 64 0)
  unfolding locator unit
  building_none = record { size = refl; small = small; coefficients = entries }
    where
      small : (k : ℕ) → get_or (1 ∷ replicate 64 0) k 0 < 257
      small zero = lit< tt
      small (suc k) = rw (zeros-entry 64 k) (lit< tt)

      entries : (k : ℕ) → symbols (1 ∷ replicate 64 0) k ≡ firsts 0 k
      entries zero = res_one 257 prime_257
      entries (suc k) = ap res257 (zeros-entry 64 k) ∙ res-zero 257 prime_257

  module _ (d : ℕ) (f : List ℕ) (b : Building d f) where
    -- there are no coefficients past the degree
    past : d ≤ length (members J) → (k : ℕ) → d < k → get_or f k 0 ≡ 0
    past le k h =
        res-tells (get_or f k 0) 0 (b.small k) (lit< tt)
        (b.coefficients k
        ∙ locator_degree R257 (map locator_at (take d (members J))) k
        (let s = length-map (take d (members J)) locator_at in let t = length-take-le d (members J) le in omega arith)
        ∙ sym (res-zero 257 prime_257))

    grown : (i : ℕ) (g : List ℕ) → length (members J) ≤ 64 → d < length (members J) → get_or (members J) d 0 ≡ i
        → g ≡ reduced 257 64 f (locator_of i) 1 f → Building (d + 1) g
    grown i g le h e q = record {
      size = ap length q ∙ length-reduced 64 f (locator_of i);
      small = λ k. rw q (reduced-below 64 f (locator_of i) k);
      coefficients = λ k. ap (λ (l : List ℕ). symbols l k) q ∙ at k (dec_lt k 65);
    }
      where
        one_more : firsts (d + 1) ≡ factor R257 (locator_at i) (firsts d)
        one_more =
            ap (λ (l : List ℕ). locator R257 (map locator_at l))
            (ap (λ (n : ℕ). take n (members J)) (add-one d) ∙ take-suc (members J) d 0 h ∙ ap (λ (m : ℕ). take d (members J) ++ (m ∷ [])) e)
            ∙ locator-last R257 locator_at (take d (members J)) i

        at : (k : ℕ) → Dec (k < 65) → symbols (reduced 257 64 f (locator_of i) 1 f) k ≡ firsts (d + 1) k
        at k (yes l) =
            factor-entry i 64 f k l ∙ ap (λ g. factor R257 (locator_at i) g k) (fun_ext b.coefficients) ∙ ap (λ g. g k) (sym one_more)
        at k (no l) =
            ap res257 (get_or-eq_default (reduced 257 64 f (locator_of i) 1 f) 0 {n = k} (let s = length-reduced 64 f (locator_of i) in omega arith))
            ∙ res-zero 257 prime_257
            ∙ sym (locator_degree R257 (map locator_at (take (d + 1) (members J))) k
            (let s = length-map (take (d + 1) (members J)) locator_at in let t = length-take-le (d + 1) (members J) (omega arith) in omega arith))

    -- a factor changes one coefficient more than there are
    pub building_more : (i e : ℕ) (y : List ℕ) → length (members J) ≤ 64 → d < length (members J) → get_or (members J) d 0 ≡ i → e ≡ d + 2
        → (let front = mid_of 0 (e - 0) f in y ≡ tabulate (length front) (made 257 (257 - locator_of i) 1 front))
        → Building (d + 1) (put_mid 0 (e - 0) f y)
    building_more i e y le h here q m =
        grown i (put_mid 0 (e - 0) f y) le h here
        (front_multiplied 64 (e - 0) (locator_of i) f y b.size (omega arith) (λ k l. past (omega arith) k (omega arith))
        (le_of_lt (mod-lt (3 ^ i) (lit< tt))) m)

    pub building_all : d ≡ length (members J) → (k : ℕ) → get_or f k 0 ≡ get_or (locator_polynomial (members J)) k 0
    building_all e k =
        res-tells (get_or f k 0) (get_or (locator_polynomial (members J)) k 0) (b.small k) (polynomial_below (members J) k)
        (b.coefficients k ∙ ap (λ (l : List ℕ). locator R257 (map locator_at l) k) (take_all d (members J) (omega arith))
        ∙ sym (locator-coefficients (members J) k))
