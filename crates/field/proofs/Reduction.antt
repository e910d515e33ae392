-- The taps of a register less q·x^e·τ, worked tap by tap: `reduced` by no tap of τ, by one more, and by all of them; and its entries at one length and
-- at another.
use mathlib.Core.Path.{◌≡◌, sym, ap, ap₂, ◌∙◌}
use mathlib.Core.Logic.{◌≢◌}
use mathlib.Core.List.{List, []}
use Prim.Native.Nat.{ℕ, suc, ◌+◌, ◌-◌, ◌*◌, ◌%◌, ◌≤◌, ◌<◌}
use native.Mathlib.Decide.{dec_lt, ℕ_discrete}
use native.Mathlib.Nat.{mul-one, mod-eq_of_lt, add-sub_cancel_left, pow-zero}
use native.Mathlib.Numerals.{add-one}
use native.Mathlib.Omega.{arith}
use lib.ListN.{length, get_or, take, set, length-take, length-set, get_or-eq_default}
use lib.Seq.{ext_get_or, get_or-take, get_or-set_same, get_or-set_other}
use Rattle.field.specs.Coefficients.{reduced, shifted}
use Rattle.field.specs.Residue.{minus, times, inverse, quotient}
use Rattle.field.proofs.Coefficients.{minus-zero, shifted-below, shifted-above, length-reduced, get_or-reduced}
use Rattle.field.proofs.Remainders.{mod-mul-mod, mul-mod-mod}
use Rattle.lists.proofs.Entries.{get_or-take-suc}

-- x^e·τ has no coefficient past its last
pub shifted_past : (e : ℕ) (τ : List ℕ) (k : ℕ) → e + length τ ≤ k → shifted e τ k ≡ 0
shifted_past e τ k h = shifted-above e τ k (omega arith) ∙ get_or-eq_default τ 0 (let b : length τ ≤ k - e = omega arith in b)

shifted_none : (e k : ℕ) → shifted e [] k ≡ 0
shifted_none e k = pick (dec_lt k e)
  where
    pick : Dec (k < e) → shifted e [] k ≡ 0
    pick (yes h) = shifted-below e [] k h
    pick (no h) = shifted-above e [] k (omega arith)

module _ (p l : ℕ) (σ : List ℕ) (q e : ℕ) where
  -- tap i of σ − q·x^e·τ
  abbrev tap : (τ : List ℕ) (i : ℕ) → ℕ
  tap τ i = minus p (get_or σ i 0) (times p q (shifted e τ i))

  tap-same : (τ ρ : List ℕ) (i : ℕ) → shifted e τ i ≡ shifted e ρ i → tap τ i ≡ tap ρ i
  tap-same τ ρ i h = ap (λ (x : ℕ). minus p (get_or σ i 0) (times p q x)) h

  pub tap-kept : (τ : List ℕ) (i : ℕ) → shifted e τ i ≡ 0 → get_or σ i 0 < p → tap τ i ≡ get_or σ i 0
  tap-kept τ i h less = ap (λ (x : ℕ). minus p (get_or σ i 0) (times p q x)) h ∙ minus-zero p (get_or σ i 0) q less

  pub reduced-none : length σ ≡ suc l → ((i : ℕ) → get_or σ i 0 < p) → σ ≡ reduced p l σ q e []
  reduced-none len less =
      ext_get_or 0 σ (reduced p l σ q e []) (len ∙ sym (length-reduced p l σ q e []))
      (λ i h. sym (get_or-reduced p l σ q e [] i (omega arith) ∙ tap-kept [] i (shifted_none e i) (less i)))

  -- the tap at which one more entry of τ comes into play
  next-tap : (τ : List ℕ) (i : ℕ) {now : List ℕ} → now ≡ reduced p l σ q e (take i τ) →
      e + i < suc l → get_or σ (e + i) 0 < p → get_or now (e + i) 0 ≡ get_or σ (e + i) 0
  next-tap τ i eq h less =
      ap (λ (s : List ℕ). get_or s (e + i) 0) eq ∙ get_or-reduced p l σ q e (take i τ) (e + i) (omega arith)
      ∙ tap-kept (take i τ) (e + i) (shifted_past e (take i τ) (e + i) (omega (arith, length-take i τ))) less

  reduced-more :
      (τ : List ℕ) (i : ℕ) {now : List ℕ} → now ≡ reduced p l σ q e (take i τ) → e + i < suc l →
      set now (e + i) (minus p (get_or σ (e + i) 0) (times p q (get_or τ i 0))) ≡ reduced p l σ q e (take (suc i) τ)
  reduced-more τ i {now} eq h =
      ext_get_or 0 (set now (e + i) v) (reduced p l σ q e (take (suc i) τ)) (length-set now (e + i) v ∙ len ∙ sym (length-reduced p l σ q e (take (suc i) τ)))
      (λ k b.
      let inside : k < suc l = omega (arith, len, length-set now (e + i) v) in
      at k inside (ℕ_discrete k (e + i)) ∙ sym (get_or-reduced p l σ q e (take (suc i) τ) k (omega arith)))
    where
      v : ℕ
      v = minus p (get_or σ (e + i) 0) (times p q (get_or τ i 0))

      len : length now ≡ suc l
      len = ap length eq ∙ length-reduced p l σ q e (take i τ)

      entry : shifted e (take (suc i) τ) (e + i) ≡ get_or τ i 0
      entry =
          shifted-above e (take (suc i) τ) (e + i) (omega arith)
          ∙ ap (λ (j : ℕ). get_or (take (suc i) τ) j 0) (add-sub_cancel_left e i)
          ∙ get_or-take (suc i) τ i 0 (omega arith)

      other : (k : ℕ) → k ≢ e + i → shifted e (take i τ) k ≡ shifted e (take (suc i) τ) k
      other k ne = pick (dec_lt k e)
        where
          pick : Dec (k < e) → shifted e (take i τ) k ≡ shifted e (take (suc i) τ) k
          pick (yes b) = shifted-below e (take i τ) k b ∙ sym (shifted-below e (take (suc i) τ) k b)
          pick (no b) =
              shifted-above e (take i τ) k (omega arith)
              ∙ sym (get_or-take-suc i τ (k - e) 0 (λ same. ne (omega (arith, same))))
              ∙ sym (shifted-above e (take (suc i) τ) k (omega arith))

      at : (k : ℕ) → k < suc l → Dec (k ≡ e + i) → get_or (set now (e + i) v) k 0 ≡ tap (take (suc i) τ) k
      at k b (yes same) =
          rw same
          (get_or-set_same now (e + i) v 0 (omega (arith, len))
          ∙ ap (λ (x : ℕ). minus p (get_or σ (e + i) 0) (times p q x)) (sym entry))
      at k b (no ne) =
          get_or-set_other now (e + i) k v 0 ne
          ∙ ap (λ (s : List ℕ). get_or s k 0) eq
          ∙ get_or-reduced p l σ q e (take i τ) k (omega arith)
          ∙ tap-same (take i τ) (take (suc i) τ) k (other k ne)

  -- ---- a turn of the code's loop, at entry i of τ, which is y

  module _ (τ : List ℕ) (i : ℕ) {now : List ℕ} (eq : now ≡ reduced p l σ q e (take i τ)) (within : e + i < suc l) (less : get_or σ (e + i) 0 < p) where
    pub tap-less : get_or now (e + i) 0 < p
    tap-less = rw (next-tap τ i eq within less) less

    pub turn_reduces : {y v : ℕ} → y ≡ get_or τ i 0 → v ≡ minus p (get_or now (e + i) 0) (times p q y) → set now (e + i) v ≡ reduced p l σ q e (take (i + 1) τ)
    turn_reduces entry difference =
        ap (λ (x : ℕ). set now (e + i) x) (difference ∙ ap₂ (λ (x y : ℕ). minus p x (times p q y)) (next-tap τ i eq within less) entry)
        ∙ reduced-more τ i eq within
        ∙ ap (λ (k : ℕ). reduced p l σ q e (take k τ)) (sym (add-one i))

-- residues stay so where one is written
pub set_below : (p : ℕ) (now : List ℕ) (k v : ℕ) → ((i : ℕ) → get_or now i 0 < p) → v < p → (i : ℕ) → get_or (set now k v) i 0 < p
set_below p now k v less small i = pick (ℕ_discrete i k) (dec_lt k (length now))
  where
    pick : Dec (i ≡ k) → Dec (k < length now) → get_or (set now k v) i 0 < p
    pick (yes same) (yes inside) = rw (same, get_or-set_same now k v 0 inside) small
    pick (yes same) (no past) =
        rw (get_or-eq_default (set now k v) 0 (let b : length (set now k v) ≤ i = omega (arith, length-set now k v) in b)) (omega arith)
    pick (no other) _ = rw (get_or-set_other now k i v 0 other) (less i)

-- ---- the factors of a turn modulo an odd p, whose inverse modulo 2^16 is v: z, read from the array, is p, and w is z less (p − u)

module _ {p u z w : ℕ} (read : z ≡ p) (factor : w ≡ z - (p - u)) (small : u < p) where
  factor-back : w ≡ u
  factor-back = omega arith

  -- what `less_product` requires
  pub factors : (v : ℕ) {x : ℕ} → (v * p) % 65536 ≡ u → x < p → (x < z) × (w < z) × ((v * z) % 65536 ≡ w)
  factors v match less = (omega arith, omega (arith, factor-back), ap (λ (k : ℕ). (v * k) % 65536) read ∙ match ∙ sym factor-back)

  -- what it ensures, of p and u
  pub taken-by : (x y r : ℕ) → (65536 * r + y * w) % z ≡ (65536 * x) % z → (65536 * r + y * u) % p ≡ (65536 * x) % p
  taken-by x y r taken =
      ap₂ (λ (j k : ℕ). (65536 * r + y * j) % k) (sym factor-back) (sym read) ∙ taken ∙ ap (λ (k : ℕ). (65536 * x) % k) read

-- ---- by what is taken: d over c, of which 2^16 over c is told

pub quotient-unit : (p d c : ℕ) {over : ℕ} → over ≡ quotient p (65536 % p) c → (d * over) % p ≡ (quotient p d c * 65536) % p
quotient-unit p d c eq =
    ap (λ (x : ℕ). (d * x) % p) eq ∙ mul-mod-mod d (65536 % p * inverse p c) p
    ∙ ap (λ (x : ℕ). x % p) (let e : d * (65536 % p * inverse p c) ≡ d * inverse p c * (65536 % p) = omega arith in e)
    ∙ mul-mod-mod (d * inverse p c) 65536 p ∙ sym (mod-mul-mod (d * inverse p c) p 65536)

-- modulo 2 there is nothing to divide by
pub quotient-two : (p d c : ℕ) → p ≡ 2 → d < p → quotient p d c ≡ d
quotient-two p d c two less = rw two (rw (pow-zero c, mul-one d) (mod-eq_of_lt (omega arith)))
