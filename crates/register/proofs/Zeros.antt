-- Sequences of zeros: no step finds a discrepancy, so that the register found is the one of the start, of length 0, and it is alone.
use mathlib.Core.Path.{◌≡◌, ap, ◌∙◌}
use mathlib.Core.Bool.{true}
use mathlib.Core.List.{List, [], ◌∷◌}
use Prim.Native.Nat.{ℕ, suc, ◌+◌, ◌-◌, ◌*◌, ◌%◌, ◌<◌, max, zero-le}
use native.Mathlib.Decide.{dec_lt}
use native.Mathlib.Nat.{mul-zero, not-suc-le-zero, zero-mod}
use native.Mathlib.Omega.{arith}
use borrow.Author.Tests.{le-leb}
use lib.ListN.{length, get_or, take, drop}
use lib.Seq.{get_or-take, get_or-drop}
use Rattle.lists.proofs.BlockSums.{total-rest}
use Rattle.lists.proofs.Entries.{get_or-take-past}
use Rattle.lists.proofs.Tabulated.{every_of}
use Rattle.lists.proofs.Totals.{total-zero}
use Rattle.lists.specs.Total.{total}
use Rattle.register.specs.Algorithm4.{start, rounds, is_alone, found, found_alone}
use Rattle.register.specs.Register.{discrepancy}
use Rattle.register.specs.Sequences.{symbol, longest, ordered, split}
use Rattle.register.proofs.Ordering.{All, all_cons, all-ordered}
use Rattle.register.proofs.Settled.{settled}

-- every symbol is 0, past the end too
abbrev pub Zeros : List ℕ → Type 0
Zeros s = (i : ℕ) → get_or s i 0 ≡ 0

zeros-take : (n : ℕ) (s : List ℕ) → Zeros s → Zeros (take n s)
zeros-take n s zeros i = pick (dec_lt i n)
  where
    pick : Dec (i < n) → get_or (take n s) i 0 ≡ 0
    pick (yes l) = get_or-take n s i 0 l ∙ zeros i
    pick (no l) = get_or-take-past n s i 0 (omega arith)

-- zeros are cut into sequences of zeros
pub zeros-split : (lengths symbols : List ℕ) → Zeros symbols → All Zeros (split lengths symbols)
unfolding split
zeros-split [] symbols zeros = λ h l. absurd (not-suc-le-zero l)
zeros-split (n ∷ ns) symbols zeros =
    all_cons Zeros (take n symbols) (split ns (drop n symbols)) (zeros-take n symbols zeros)
    (zeros-split ns (drop n symbols) (λ i. get_or-drop n symbols i 0 ∙ zeros (n + i)))

zeros-discrepancy : (p l : ℕ) (σ s : List ℕ) (j : ℕ) → Zeros s → discrepancy p l σ s j ≡ 0
unfolding discrepancy
zeros-discrepancy p l σ s j zeros =
    let term : ℕ → ℕ = λ i. get_or σ i 0 * symbol s (j - i) in
    let none : total (suc l) term ≡ 0 =
    total-rest 0 (suc l) term zero-le (λ i _. ap (λ (x : ℕ). get_or σ i 0 * x) (zeros (j - i - 1)) ∙ mul-zero (get_or σ i 0)) ∙ total-zero term
    in
    ap (λ (x : ℕ). x % p) none ∙ zero-mod p

module _ (p : ℕ) (ss : List (List ℕ)) (n : ℕ) (zeros : All Zeros ss) where
  pub zeros-found : found p ss n ≡ start (longest ss) (ordered ss)
  unfolding found rounds
  zeros-found =
      settled p (longest ss) (ordered ss) 0 n zero-le
      (λ k _ _ h l _. zeros-discrepancy p _ _ (get_or (ordered ss) h []) _ (all-ordered Zeros ss zeros h l))

  pub zeros-alone : found_alone p ss n ≡ true
  unfolding found_alone is_alone start
  zeros-alone =
      let lag : ℕ → ℕ = λ h. longest ss - length (get_or (ordered ss) h []) in
      ap (is_alone (longest ss) (ordered ss) n) zeros-found
      ∙ every_of (length (ordered ss)) _ (λ h _. le-leb (lag h) (0 + max (n - 0) (lag h)) (omega arith))
