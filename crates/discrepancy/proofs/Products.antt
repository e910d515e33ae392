-- The products that a discrepancy sums: they are small, those past the register are 0, and the symbols before one are those after it where the sequence stands
-- backwards.
use mathlib.Core.Path.{◌≡◌, sym, ap, ◌∙◌}
use mathlib.Core.List.{List}
use Prim.Native.Nat.{ℕ, suc, ◌+◌, ◌-◌, ◌*◌, ◌/◌, ◌%◌, ◌≤◌, ◌<◌}
use native.Mathlib.Decide.{dec_le}
use native.Mathlib.Nat.{mul-le-mul, zero-mul}
use native.Mathlib.Omega.{arith}
use borrow.Author.Tests.{lt-ltb, le-ltb}
use lib.ListN.{length, get_or}
use Rattle.field.proofs.ProductSums.{sum_below}
use Rattle.lists.specs.Total.{total}
use Rattle.lists.proofs.Summing.{Summed, summed-all}
use Rattle.lists.proofs.Tabulated.{length-tabulate, get_d_tabulate}
use Rattle.lists.proofs.Totals.{total_ext, total-bound}
use Rattle.register.specs.Register.{discrepancy}
use Rattle.register.specs.Sequences.{symbol}
use Rattle.discrepancy.specs.Discrepancies.{InReach, Loose, Narrow, Summable, sum_at, sequence_in, due_at}
use Rattle.discrepancy.specs.declared.Modulus.{Modulus}
use Rattle.lists.proofs.Halves.{Halved, total_first}

-- ---- zeros follow the register

module _ (l : ℕ) (taps symbols : List ℕ) (from : ℕ) (zeros : (i : ℕ) → l < i → i < l + 8 → get_or taps i 0 ≡ 0) where
  none-past : (k : ℕ) → suc l ≤ k → k < l + 8 → get_or taps k 0 * get_or symbols (from + k) 0 ≡ 0
  none-past k past near = ap (λ (x : ℕ). x * get_or symbols (from + k) 0) (zeros k (omega arith) near) ∙ zero-mul (get_or symbols (from + k) 0)

  -- a few products more
  and-more : (end : ℕ) → suc l ≤ end → end ≤ l + 8 → total end (λ k. get_or taps k 0 * get_or symbols (from + k) 0) ≡ sum_at l taps symbols from
  and-more end enough few = total_first (suc l) end _ enough (λ k past inside. none-past k past (omega arith))

-- ---- products that are small, once all are summed

pub narrow-all : {l end : ℕ} {taps symbols : List ℕ} {from k s : ℕ} → Narrow l taps symbols from → suc l ≤ end → end ≤ l + 8 →
    Summed end 66049 (λ i. get_or taps i 0 * get_or symbols (from + i) 0) k s → end ≤ k → s ≡ sum_at l taps symbols from
narrow-all {l} {end} {taps} {symbols} {from} narrow enough few a done =
    summed-all _ _ _ _ _ a done ∙ and-more l taps symbols from narrow.zeros end enough few

-- ---- products of residues

module _ {f : Modulus} {l : ℕ} {taps symbols : List ℕ} {from : ℕ} (s : Summable f l taps symbols from) where
  abbrev term : ℕ → ℕ
  term k = get_or taps k 0 * get_or symbols (from + k) 0

  abbrev p : ℕ
  p = f.p

  term-below : (k : ℕ) → k < l + 8 → term k ≤ p * p
  term-below k near = pick (dec_le k l)
    where
      pick : Dec (k ≤ l) → term k ≤ p * p
      pick (yes within) =
          mul-le-mul (let e : get_or taps k 0 ≤ p = omega (arith, s.ending.residues k within) in e)
          (let e : get_or symbols (from + k) 0 ≤ p = omega (arith, s.below k within) in e)
      pick (no past) = omega (arith, none-past l taps symbols from s.ending.zeros k (omega arith) near)

  all-below : sum_at l taps symbols from ≤ 129 * (p * p)
  all-below = sum_below p (let e : suc l ≤ 129 = omega (arith, s.short) in e) (total-bound (suc l) (p * p) term (λ k within. term-below k (omega arith)))

  -- modulo a small p: the products are small, and their sum stands for its residue
  module _ (small : p ≤ 257) where
    pub narrow : Narrow l taps symbols from
    narrow =
        record {
          short = s.short;
          inside = s.inside;
          zeros = s.ending.zeros;
          products = λ k near. omega (arith, term-below k near, mul-le-mul small small);
        }

    pub narrow-loose : {r : ℕ} → r ≡ sum_at l taps symbols from → Loose p r
    narrow-loose e = record { small = λ _. rw e all-below; large = λ more. absurd (let no : ⊥ = omega arith in no) }

  pub top_small : (k : ℕ) → k < l + 8 → term k / 65536 < 65536
  top_small k near = let m = s.modulus.taken.modulus in omega (arith, term-below k near, mul-le-mul m m)

  -- all of the sum, once the loop has ended
  module _ {end k low high : ℕ} (enough : suc l ≤ end) (few : end ≤ l + 8) (h : Halved end term k low high) (done : end ≤ k) where
    pub whole : low + 65536 * high ≡ sum_at l taps symbols from
    whole =
        h.so_far ∙ ap (λ (n : ℕ). total n term) (let e : k ≡ end = omega (arith, h.within) in e)
        ∙ and-more l taps symbols from s.ending.zeros end enough few

    pub whole_below : low + 65536 * high ≤ 129 * (p * p)
    whole_below = rw whole all-below

module _ {p N l h size n : ℕ} {symbols : List ℕ} (r : InReach p N l h size n symbols) where
  abbrev s : List ℕ
  s = sequence_in symbols h size

  pub length-sequence : length s ≡ size
  unfolding sequence_in
  length-sequence = length-tabulate size (λ i. get_or symbols (h * 144 + (size - suc i)) 0)

  pub not-due : (σ : List ℕ) → n ≤ l + (N - size) → 0 ≡ due_at p N l σ s n
  unfolding due_at
  not-due σ early = rw (length-sequence, le-ltb (l + (N - size)) n early)

  module _ (asked : l + (N - size) < n) where
    -- the symbol k places before the one at round n
    back : (k : ℕ) → k ≤ l → get_or symbols (h * 144 + (N - n) + k) 0 ≡ symbol s (n + size - N - k)
    unfolding sequence_in
    back k le =
        let shorter = r.shorter in
        let round = r.round in
        sym (get_d_tabulate size (λ i. get_or symbols (h * 144 + (size - suc i)) 0) (n + size - N - k - 1) 0 (omega arith)
        ∙ ap (λ (i : ℕ). get_or symbols i 0) (let e : h * 144 + (size - suc (n + size - N - k - 1)) ≡ h * 144 + (N - n) + k = omega arith in e))

    pub is-due : (σ : List ℕ) {d : ℕ} → d ≡ sum_at l σ symbols (h * 144 + (N - n)) % p → d ≡ due_at p N l σ s n
    unfolding due_at discrepancy
    is-due σ e =
        rw (length-sequence, lt-ltb (l + (N - size)) n asked)
        (e ∙ ap (λ (x : ℕ). x % p)
        (total_ext (suc l) (λ k. get_or σ k 0 * get_or symbols (h * 144 + (N - n) + k) 0) (λ k. get_or σ k 0 * symbol s (n + size - N - k))
        (λ k b. ap (λ (x : ℕ). get_or σ k 0 * x) (back k (omega arith)))))
