-- A settled register answers all that is still asked for, so the rounds that are left change nothing on the arrays. (`settled` of `register` says this of the
-- state of Algorithm 4; here each step is shown to rest, by the law that the code of a step has, so that the arrays need not be read back.)
use mathlib.Core.Path.{◌≡◌, refl, sym, subst}
use mathlib.Core.Bool.{true}
use mathlib.Core.List.{List}
use Prim.Native.Nat.{ℕ, zero, suc, ◌+◌, ◌-◌, ◌*◌, ◌%◌, ◌≤◌, ◌<◌}
use native.Mathlib.Decide.{dec_lt}
use native.Mathlib.Numerals.{add-one}
use native.Mathlib.Omega.{arith}
use borrow.Author.Tests.{eqb-true}
use lib.ListN.{get_or}
use Rattle.lists.proofs.Tabulated.{every-at}
use Rattle.register.specs.Algorithm4.{rounds}
use Rattle.discrepancy.specs.Discrepancies.{InReach, sequence_in, sum_at, due_at}
use Rattle.discrepancy.specs.Modulus.{WorkedOut, Moduli}
use Rattle.register_step.specs.Parts.{Parts}
use Rattle.discrepancy.specs.declared.Modulus.{Modulus}
use Rattle.register_step.proofs.Steps.{ending, step-rests}
use Rattle.discrepancy.proofs.Products.{not-due, is-due}
use Rattle.settled.specs.Settled.{Testable, settled, settled_in}
use Rattle.rounds.specs.Rounds.{Running, Reached, sequences_in}
use Rattle.rounds.proofs.Running.{during, in_reach, steppable, stepped, round-begins, round-ends, all-run}

-- what is asked where it is tested
pub testable : {f : Modulus} {moduli : List ℕ} {N : ℕ} {lengths : List ℕ} {k : ℕ} {blocks : List ℕ} {n : ℕ} {x : Parts} →
    WorkedOut f → (f.p ≡ 2 → ⊥) → Moduli f.p moduli → Running f.p N lengths k blocks → n < N →
    Reached f.p k (rounds f.p N (sequences_in lengths k blocks) n) x → (h : ℕ) → h < k → Testable f moduli x.length x.taps h (get_or lengths h 0)
testable {k = k} worked not-two lent r round reached h more =
    let begun = round-begins r _ reached in
    let first : 0 < k = omega arith in
    let reach = in_reach r round first begun in
    record {
      modulus = worked;
      not-two = not-two;
      lent = lent;
      residues = (ending (steppable r round first begun).readable).residues;
      short = omega (arith, reach.grown, reach.round, reach.longest);
      sequence = omega (arith, r.count);
      shorter = omega (arith, r.shorter h more, r.longest);
    }

module _ {p N : ℕ} {lengths : List ℕ} {k : ℕ} {blocks : List ℕ} (r : Running p N lengths k blocks) {n : ℕ} (x : Parts)
    (within : n ≤ N) (is-settled : settled p x.length x.taps blocks lengths k (N - n) ≡ true) where
  abbrev size : ℕ → ℕ
  size h = get_or lengths h 0

  -- the discrepancy at the symbol j places before the last of sequence h
  no-sum : (h : ℕ) → h < k → (j : ℕ) → j < N - n → j < size h - x.length → sum_at x.length x.taps blocks (h * 144 + j) % p ≡ 0
  unfolding settled settled_in
  no-sum h more j left asked = eqb-true _ _ (every-at _ _ (every-at k _ is-settled h more) j (omega arith))

  none-due : (m h : ℕ) → n ≤ m → h < k → InReach p N x.length h (size h) (m + 1) blocks →
      0 ≡ due_at p N x.length x.taps (sequence_in blocks h (size h)) (m + 1)
  none-due m h later more reach = pick (dec_lt (x.length + (N - size h)) (m + 1))
    where
      pick : Dec (x.length + (N - size h) < m + 1) → 0 ≡ due_at p N x.length x.taps (sequence_in blocks h (size h)) (m + 1)
      pick (yes asked) =
          is-due reach asked x.taps (sym (no-sum h more (N - (m + 1)) (omega (arith, reach.round)) (omega (arith, reach.round, reach.shorter))))
      pick (no early) = not-due reach x.taps (omega arith)

  -- in round m + 1 each step rests
  each-rests : (m h : ℕ) → n ≤ m → m < N → h ≤ k → Reached p k (rounds p N (sequences_in lengths k blocks) m) x → Reached p k (during r m h) x
  each-rests m zero later round all reached = round-begins r m reached
  each-rests m (suc h) later round all reached =
      let before = each-rests m h later round (omega arith) reached in
      let more : h < k = omega arith in
      let rests = step-rests p N (sequence_in blocks h (size h)) (m + 1) h x (none-due m h later more (in_reach r round more before)) refl in
      rw (← add-one h) (subst (Reached p k (during r m (h + 1))) (sym rests) (stepped r round more before))

  rests : (d : ℕ) → n + d ≤ N → Reached p k (rounds p N (sequences_in lengths k blocks) n) x →
      Reached p k (rounds p N (sequences_in lengths k blocks) (n + d)) x
  rests zero le reached = all-run r n (n + 0) (omega arith) reached
  rests (suc d) le reached =
      all-run r (n + d + 1) (n + suc d) (omega arith)
      (round-ends r (n + d) k refl (each-rests (n + d) k (omega arith) (omega arith) (omega arith) (rests d (omega arith) reached)))

  pub settles : Reached p k (rounds p N (sequences_in lengths k blocks) n) x → Reached p k (rounds p N (sequences_in lengths k blocks) N) x
  settles reached = all-run r (n + (N - n)) N (omega arith) (rests (N - n) (omega arith) reached)
