-- What holds of input that no test refuses: the bounds.
use mathlib.Core.Path.{◌≡◌}
use mathlib.Core.Bool.{and-eq-true_iff}
use mathlib.Core.List.{List}
use Prim.Native.Nat.{ℕ, ◌≤◌, ◌<◌}
use borrow.Author.Tests.{ltb-true, ltb-false, leb-true, eqb-true}
use lib.ListN.{length, get_or}
use Rattle.field.proofs.Modulus.{modulus-prime}
use Rattle.field.specs.Prime.{Prime}
use Rattle.lists.specs.Total.{total}
use Rattle.lists.proofs.Tabulated.{every-at}
use Rattle.refusal.proofs.Orders.{Pass, no_fail, none_pass, outcome-passed}
use Rattle.refusal.specs.Outcome.{passed, outcome}
use Rattle.register.specs.Sequences.{largest}
use Rattle.finder.specs.Demands.{reasons}
use Rattle.sequences.specs.Tests.{is_short, tests}
use Rattle.sequences.proofs.Checks.{counted-bounds}
use Rattle.finder.proofs.Reasons.{whole, finder_says}

pub record Accepted (p : ℕ) (lengths symbols : List ℕ) (room : ℕ) : Type 0 where
  pub prime : Prime p
  pub modulus : p ≤ 65521
  pub one_or_more : 1 ≤ length lengths
  pub count : length lengths ≤ 8
  pub short : (h : ℕ) → h < length lengths → get_or lengths h 0 ≤ 128
  pub whole : total (length lengths) (λ h. get_or lengths h 0) ≡ length symbols
  pub enough : largest lengths < room
  pub below : (i : ℕ) → i < length symbols → get_or symbols i 0 < p

module _ (p : ℕ) (lengths symbols : List ℕ) (room : ℕ) where
  pub accepted : outcome (tests p lengths symbols room) ≡ passed → Accepted p lengths symbols room
  unfolding tests
  accepted e =
      let says = finder_says p lengths symbols room in
      let ts = tests p lengths symbols room in
      let ok : Pass ts = none_pass ts (reasons p lengths symbols room) says ((outcome-passed ts (reasons p lengths symbols room) says).0 e) in
      let taken = modulus-prime p (no_fail _ ok.0) in
      let counted = counted-bounds (length lengths) (no_fail _ ok.1.0) in
      let measured = (and-eq-true_iff (is_short lengths) (whole lengths symbols)).0 (no_fail _ ok.1.1.0) in
      record {
        prime = taken.0;
        modulus = taken.1;
        one_or_more = counted.0;
        count = counted.1;
        short = λ h b. leb-true (get_or lengths h 0) 128 (every-at (length lengths) _ measured.0 h b);
        whole = eqb-true _ _ measured.1;
        enough = ltb-false _ _ ok.1.1.1.0;
        below = λ i b. ltb-true _ _ (every-at (length symbols) _ (no_fail _ ok.1.1.1.1.0) i b);
      }
