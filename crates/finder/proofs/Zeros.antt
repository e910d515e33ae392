-- Where all symbols are 0 the answer is a register of length 0, alone, with the one tap 1.
use mathlib.Core.Path.{◌≡◌, refl, sym, ap, ap₂, ◌∙◌}
use mathlib.Core.Bool.{true}
use mathlib.Core.List.{List, [], ◌∷◌, ◌++◌}
use Prim.Native.Nat.{ℕ, ◌≤◌, ◌<◌}
use native.Mathlib.Decide.{dec_lt}
use native.Mathlib.Omega.{arith}
use borrow.Author.Tests.{eqb-true}
use lib.ListN.{length, get_or, drop, set, get_or-eq_default}
use Rattle.std.specs.Prelude.{Ok}
use Rattle.lists.proofs.Tabulated.{every-at}
use Rattle.refusal.proofs.Outcomes.{given-passed}
use Rattle.refusal.specs.Outcome.{passed, outcome}
use Rattle.register.proofs.Zeros.{Zeros, zeros-split, zeros-found, zeros-alone}
use Rattle.register.specs.Algorithm4.{State, start}
use Rattle.register.specs.Sequences.{longest, split}
use Rattle.sequences.specs.Tests.{tests}
use Rattle.sequences.specs.Zeros.{all_zero}
use Rattle.finder.specs.Finder.{register, refused, answer, taps_left, Finds}

all-zeros : (s : List ℕ) → all_zero s ≡ true → Zeros s
all-zeros s e i = pick (dec_lt i (length s))
  where
    pick : Dec (i < length s) → get_or s i 0 ≡ 0
    pick (yes l) = eqb-true (get_or s i 0) 0 (every-at (length s) _ e i l)
    pick (no l) = get_or-eq_default s 0 (let h : length s ≤ i = omega arith in h)

first-set : (buffer : List ℕ) → 0 < length buffer → set buffer 0 1 ≡ (1 ∷ []) ++ drop 1 buffer
first-set [] l = absurd (let z : ⊥ = omega arith in z)
first-set (x ∷ xs) l = refl

pub finds-none : {p : ℕ} {lengths symbols buffer : List ℕ} → outcome (tests p lengths symbols (length buffer)) ≡ passed → 0 < length buffer →
    all_zero symbols ≡ true → Finds p lengths symbols buffer (set buffer 0 1) (Ok (record { length = 0; alone = true }))
unfolding answer taps_left start
finds-none {p} {lengths} {symbols} {buffer} ok room e =
    let ss : List (List ℕ) = split lengths symbols in
    let ts = tests p lengths symbols (length buffer) in
    let zeros = zeros-split lengths symbols (all-zeros symbols e) in
    let begun = zeros-found p ss (longest ss) zeros in
    record {
      answers = sym (given-passed refused _ ts ok ∙ ap₂ register (ap (λ (st : State). st.size) begun) (zeros-alone p ss (longest ss) zeros));
      leaves =
          first-set buffer room
          ∙ sym (given-passed (λ _. buffer) _ ts ok ∙ ap (λ (st : State). st.taps ++ drop (length st.taps) buffer) begun);
    }
