-- What the lanes of a set of columns have is what the columns read off with their coefficients.
use mathlib.Core.Path.{◌≡◌, refl, sym, ap, ap₂, ◌∙◌}
use mathlib.Core.List.{List, map}
use Prim.Native.Nat.{ℕ, zero, suc, ◌+◌, ◌-◌, ◌*◌, ◌%◌, ◌≤◌, ◌<◌}
use native.Mathlib.Decide.{dec_lt}
use native.Mathlib.Omega.{arith}
use lib.ListN.{length, get_or, length-map, get_or-eq_default}
use Rattle.columns.specs.Columns.{members}
use Rattle.columns.specs.declared.Columns.{Columns}
use Rattle.field.specs.Coefficients.{value}
use Rattle.field.specs.Residue.{inverse, minus, times}
use Rattle.field.proofs.Remainders.{mul-mod-mod}
use Rattle.field257.specs.LocatorPolynomial.{locator_polynomial}
use Rattle.field257.specs.Montgomery.{companion}
use Rattle.field257.specs.Powers.{locator_of, power_of3}
use Rattle.field257.proofs.LocatorBuilding.{polynomial_below}
use Rattle.frame.specs.Completion.{without}
use Rattle.frame.specs.Frame.{weight}
use Rattle.frame.proofs.Weights.{weight-power}
use Rattle.lanes.specs.Lanes.{Runnable, Ran}
use Rattle.lanes.specs.Symbols.{ReadableSet, locators_to, symbol_of, symbols_in, symbols_of}
use Rattle.lanes.specs.declared.run.Lanes.{Lanes}
use Rattle.lists.specs.Tabulate.{tabulate}
use Rattle.lists.specs.Total.{total}
use Rattle.lists.proofs.Mapped.{get_or_mapped}
use Rattle.lists.proofs.Tabulated.{get_d_tabulate, get_or-tabulate-past, length-tabulate}
use Rattle.lists.proofs.Totals.{total_ext}
use Rattle.weights.specs.Weights.{carried, coefficient, factor_of, read_off, symbol_read}
use Rattle.weights.proofs.CarriedValue.{carried-scale}
use Rattle.weights.proofs.Quotient.{quotient-others}
use Rattle.weights.proofs.ReadForm.{factored}

-- ---- the symbols of m lanes

module _ (m : ℕ) (w : List ℕ) (r : Lanes) where
  pub lane-at : (k : ℕ) → k < m → get_or (symbols_in m w r) k 0 ≡ symbol_of (get_or w k 0) (get_or r.values k 0) (get_or r.totals k 0)
  unfolding symbols_in
  lane-at k l = get_d_tabulate m _ k 0 l

  pub lane_past : (k : ℕ) → m ≤ k → get_or (symbols_in m w r) k 0 ≡ 0
  unfolding symbols_in
  lane_past k l = get_or-tabulate-past m _ k 0 l

-- ---- the lists of a set

module _ (J : Columns) (list : List ℕ) (listed : (k : ℕ) → get_or list k 0 ≡ get_or (members J) k 0) (k : ℕ) (l : k < length (members J)) where
  power_at : (e : ℕ) → get_or (locators_to (length (members J)) list e) k 0 ≡ power_of3 (get_or (members J) k 0 * e)
  power_at e = get_d_tabulate (length (members J)) _ k 0 l ∙ ap (λ (i : ℕ). power_of3 (i * e)) (listed k)

  locator-at : get_or (locators_to (length (members J)) list 1) k 0 ≡ locator_of (get_or (members J) k 0)
  locator-at = power_at 1 ∙ ap power_of3 (let q : get_or (members J) k 0 * 1 ≡ get_or (members J) k 0 = omega arith in q)

module _ (b : ℕ) (J : Columns) where
  abbrev m : ℕ
  m = length (members J)

  module _ (sums : List ℕ) where
    abbrev read : ℕ → ℕ
    read i = symbol_read (tabulate m (coefficient b J i)) sums

    pub symbol-at : (k : ℕ) → k < length (members J)
        → get_or (symbols_of b J sums) k 0 ≡ symbol_read (tabulate (length (members J)) (coefficient b J (get_or (members J) k 0))) sums
    unfolding symbols_of
    symbol-at k l = get_or_mapped read (members J) k 0 l

    symbol-past : (k : ℕ) → m ≤ k → get_or (symbols_of b J sums) k 0 ≡ 0
    unfolding symbols_of
    symbol-past k l = get_or-eq_default (map read (members J)) 0 (let e = length-map (members J) read in omega arith)

  -- ---- the lanes of the set, with the locators x

  module _ (f sums list x : List ℕ) (locator : (k : ℕ) → get_or f k 0 ≡ get_or (locator_polynomial (members J)) k 0)
      (listed : (k : ℕ) → get_or list k 0 ≡ get_or (members J) k 0) (lent : (k : ℕ) → get_or x k 0 ≡ get_or (locators_to (length (members J)) list 1) k 0) where
    locator-small : (k : ℕ) → k < m → get_or x k 0 ≤ 256
    locator-small k l = let e = lent k ∙ locator-at J list listed k l in omega arith

    pub runnable : (z : List ℕ) → ReadableSet b J sums → z ≡ tabulate 64 (λ k. companion (get_or x k 0)) → Runnable (length (members J)) f sums x z
    runnable z asked e = record {
      lent = record {
        few = asked.few;
        locators = locator-small;
        companions = λ k l. ap (λ (y : List ℕ). get_or y k 0) e ∙ get_d_tabulate 64 (λ k. companion (get_or x k 0)) k 0 (let few = asked.few in omega arith);
      };
      reach = asked.reach;
      coefficients = λ k. rw (locator k) (polynomial_below (members J) k);
      sums-small = asked.sums-small;
    }

    module _ (w : List ℕ) (weights : (k : ℕ) → get_or w k 0 ≡ get_or (locators_to (length (members J)) list b) k 0) (r : Lanes)
        (ran : Ran (length (members J)) f sums x r) where
      module _ (k : ℕ) (inside : k < m) where
        abbrev i : ℕ
        i = get_or (members J) k 0

        abbrev others : List ℕ
        others = locator_polynomial (without i (members J))

        -- the locator of the lane
        here : get_or x k 0 ≡ locator_of i
        here = lent k ∙ locator-at J list listed k inside

        -- its weight in the first check sum
        weight-here : get_or w k 0 ≡ weight b i 1 % 257
        weight-here =
            weights k ∙ power_at J list listed k inside b
            ∙ sym (weight-power b i 0 ∙ ap (λ (e : ℕ). power_of3 (i * e)) (let q : b + 0 ≡ b = omega arith in q))

        quotient : tabulate m (λ t. carried f (locator_of i) (suc t)) ≡ others
        quotient = quotient-others J k i inside refl f locator

        size-others : length others ≡ m
        size-others = ap length (sym quotient) ∙ length-tabulate m _

        -- what the symbol is multiplied by
        scale-is : (get_or w k 0 * get_or r.values k 0) % 257 ≡ times 257 (weight b i m % 257) (value 257 others (inverse 257 (locator_of i)))
        scale-is =
            sym (mul-mod-mod (get_or w k 0) (get_or r.values k 0) 257)
            ∙ ap₂ (times 257) weight-here
            (ran.values k inside
            ∙ ap (λ (y : ℕ). carried (tabulate m (λ t. carried f y (suc t))) y m) here ∙ ap (λ (q : List ℕ). carried q (locator_of i) m) quotient)
            ∙ step m refl
          where
            step : (n : ℕ) → m ≡ n → times 257 (weight b i 1 % 257) (carried others (locator_of i) n)
                ≡ times 257 (weight b i n % 257) (value 257 others (inverse 257 (locator_of i)))
            step zero e = absurd (let z : ⊥ = omega arith in z)
            step (suc d) e = carried-scale i others b d (size-others ∙ e)

        total-is : get_or r.totals k 0 % 257 ≡ total m (λ t. get_or others t 0 * get_or sums (m - suc t) 0) % 257
        total-is =
            ran.totals k inside
            ∙ ap (λ (y : ℕ). total m (λ t. carried f y (suc t) * get_or sums (m - suc t) 0) % 257) here
            ∙ ap (λ (t : ℕ). t % 257) (total_ext m _ _ (λ t l.
            ap (λ (c : ℕ). c * get_or sums (m - suc t) 0)
            (sym (get_d_tabulate m (λ t. carried f (locator_of i) (suc t)) t 0 l) ∙ ap (λ (q : List ℕ). get_or q t 0) quotient)))

        read_is : read sums i ≡ times 257 (total m (λ t. get_or others t 0 * get_or sums (m - suc t) 0) % 257) (factor_of b m i others)
        unfolding symbol_read coefficient read_off
        read_is =
            ap (λ (n : ℕ). total n (λ t. get_or (tabulate m (coefficient b J i)) t 0 * get_or sums (n - suc t) 0) % 257) (length-tabulate m (coefficient b J i))
            ∙ ap (λ (t : ℕ). t % 257) (total_ext m _ _ (λ t l. ap (λ (c : ℕ). c * get_or sums (m - suc t) 0) (get_d_tabulate m (coefficient b J i) t 0 l)))
            ∙ factored m (factor_of b m i others) (λ t. get_or others t 0) (λ t. get_or sums (m - suc t) 0)

        lane-symbol : symbol_of (get_or w k 0) (get_or r.values k 0) (get_or r.totals k 0) ≡ read sums i
        unfolding factor_of
        lane-symbol =
            ap₂ (λ (t s : ℕ). times 257 t (minus 257 0 (inverse 257 s))) total-is scale-is ∙ sym read_is

      pub symbols_are : (k : ℕ) → get_or (symbols_in (length (members J)) w r) k 0 ≡ get_or (symbols_of b J sums) k 0
      symbols_are k = pick (dec_lt k m)
        where
          pick : Dec (k < m) → get_or (symbols_in m w r) k 0 ≡ get_or (symbols_of b J sums) k 0
          pick (yes l) = lane-at m w r k l ∙ lane-symbol k l ∙ sym (symbol-at sums k l)
          pick (no l) = lane_past m w r k (omega arith) ∙ sym (symbol-past sums k (omega arith))
