-- A symbol read off the check sums, coefficient after coefficient, the last sum first: each term, and that the sum fits 32 bits.
use mathlib.Core.Path.{◌≡◌, ap, ◌∙◌}
use mathlib.Core.List.{List}
use Prim.Native.Nat.{ℕ, suc, ◌+◌, ◌-◌, ◌*◌, ◌%◌, ◌≤◌, ◌<◌}
use native.Mathlib.Nat.{mul-le-mul}
use native.Mathlib.Omega.{arith}
use mir.Syntax.{w16}
use mir.Val.{Fits}
use lib.ListN.{length, get_or}
use Rattle.lists.proofs.Summing.{Summed, summed-more, summed-all}
use Rattle.weights.specs.Weights.{symbol_read}

module _ (coefficients sums : List ℕ) where
  abbrev m : ℕ
  m = length coefficients

  abbrev term : ℕ → ℕ
  term k = get_or coefficients k 0 * get_or sums (m - suc k) 0

  -- the products of k coefficients are summed
  abbrev pub Read : (k t : ℕ) → Type 0
  Read k t = Summed m (65535 * 256) term k t

  pub read_more : (k t : ℕ) → Read k t → (r : ℕ) → k < m → r ≡ get_or coefficients k 0 * get_or sums (m - 1 - k) 0
      → Fits w16 (get_or coefficients k 0) → get_or sums (m - 1 - k) 0 < 257 → Read (k + 1) (t + r)
  read_more k t a r h e known small =
      summed-more m (65535 * 256) term k t a r h
      (e ∙ ap (λ (j : ℕ). get_or coefficients k 0 * get_or sums j 0) (let q : m - 1 - k ≡ m - suc k = omega arith in q))
      (let l = mul-le-mul (let c : get_or coefficients k 0 ≤ 65535 = omega arith in c) (let s : get_or sums (m - 1 - k) 0 ≤ 256 = omega arith in s) in omega arith)

  pub read_all : (k t : ℕ) → Read k t → m ≤ k → t % 257 ≡ symbol_read coefficients sums
  unfolding symbol_read
  read_all k t a le = ap (λ (j : ℕ). j % 257) (summed-all m (65535 * 256) term k t a le)
