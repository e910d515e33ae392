-- What is given where a search goes on, and where it has ended: it is located by the register that is held.
use mathlib.Core.Path.{◌≡◌, refl, sym, ap, ap₂, ◌∙◌}
use mathlib.Core.Bool.{Bool, true, false}
use mathlib.Core.List.{List, ◌++◌}
use Prim.Native.Nat.{ℕ, suc, ◌-◌, ◌≤◌, ◌<◌}
use native.Mathlib.Omega.{arith}
use lib.ListN.{length, get_or, take, replicate}
use lib.Seq.{length-take-le, get_or-take, take_at}
use Rattle.ends.specs.Ends.{alone_mark}
use Rattle.frame.specs.DeclaredCells.{nothing_declared}
use Rattle.frame.specs.declared.Shape.{Shape}
use Rattle.from_register.specs.Register.{Held, by_register, after}
use Rattle.job.specs.Answers.{answered_outcome}
use Rattle.job.specs.Calls.{arrives_tests, arrives}
use Rattle.job.specs.Job.{Arrays, with_taps, with_found}
use Rattle.job.specs.declared.Answered.{Answered}
use Rattle.job.specs.declared.Progress.{Progress}
use Rattle.refusal.specs.declared.Refusal.{Refusal}
use Rattle.std.specs.Prelude.{Result, Ok, Err}
use Rattle.slices.specs.Synthesis.{Synthesis, all_rounds, ended, size}
use Rattle.searching.specs.Arriving.{Endable, all_arrays, arriving, goes_on}

pub goes-on-given : (s : Shape) (a : Arrays) (f : List ℕ) {r : Answered} → ended a.synthesis ≡ false → r ≡ goes_on s
    → answered_outcome r a f ≡ arriving s a f
unfolding arrives_tests arrives
goes-on-given s a f e g = rw (g, e) refl

-- an array that holds already what is written
same_after : (x : Result Progress Refusal) (l : List ℕ) → after x l l ≡ l
same_after (Ok (Progress.Columns c)) l = refl
same_after (Ok Progress.Unfinished) l = refl
same_after (Err why) l = refl

-- by the register that stands in a buffer, of length l
pub ends-given : (s : Shape) (sums taps left declared : List ℕ) (x : Synthesis) (f : List ℕ) (r : Answered) → ended x ≡ true → (buffer : List ℕ) (mark : Bool)
    (l : ℕ) → l ≡ size x → take (suc l) buffer ≡ take (suc l) x.taps → mark ≡ alone_mark (all_rounds x) x.lengths s.rows l x.places x.sizes
    → ((a : Arrays) (g : List ℕ) →
    answered_outcome r (with_found a (after r.reply a.sums sums) left (after r.reply a.declared declared)) g
    ≡ by_register s (with_taps a taps) declared sums l (take (suc l) buffer) mark g)
    → answered_outcome r (all_arrays sums left declared x) f ≡ arriving s (all_arrays sums taps declared x) f
unfolding arrives_tests arrives
ends-given s sums taps left declared x f r e buffer mark l is own marked located =
    let a = all_arrays sums taps declared x in
    ap₂ (λ (u v : List ℕ). answered_outcome r (all_arrays u left v x) f) (sym (same_after r.reply sums)) (sym (same_after r.reply declared))
    ∙ located a f
    ∙ ap₂ (λ (σ : List ℕ) (alone : Bool). by_register s a declared sums l σ alone f) own marked
    ∙ ap (λ (n : ℕ). by_register s a declared sums n (take (suc n) x.taps) (alone_mark (all_rounds x) x.lengths s.rows n x.places x.sizes) f) is
    ∙ rw e refl

-- ---- the register, copied to a buffer of 65 entries

pub copies : (l w : ℕ) (register : List ℕ) → w ≡ suc l → l ≤ 64 → length register ≡ 144
    → (take w register ++ replicate (65 - length (take w register)) 0 ≡ take (suc l) register ++ replicate (64 - l) 0) × (length (take (suc l) register) ≡ suc l)
copies l w register is short width =
    let own : length (take (suc l) register) ≡ suc l = length-take-le (suc l) register (omega arith) in (
      ap (λ (n : ℕ). take n register ++ replicate (65 - length (take n register)) 0) is
          ∙ ap (λ (n : ℕ). take (suc l) register ++ replicate n 0) (let n : 65 - length (take (suc l) register) ≡ 64 - l = omega arith in n),
      own,
    )

module _ (c : ℕ) (register buffer : List ℕ) (short : c ≤ 64)
    (copied : (buffer ≡ take (suc c) register ++ replicate (64 - c) 0) × (length (take (suc c) register) ≡ suc c)) where
  pub own-taps : take (suc c) buffer ≡ take (suc c) register
  own-taps = ap (take (suc c)) copied.0 ∙ take_at (take (suc c) register) (replicate (64 - c) 0) (suc c) copied.1

  -- what locating by it asks
  pub held_so : (s : Shape) (none : Bool) (declared sums counts lengths : List ℕ) → none ≡ nothing_declared declared → c ≡ get_or counts 4 0
      → Endable s declared sums counts lengths register → Held s none declared sums c buffer
  held_so s none declared sums counts lengths flag is end =
      let sized : length (take (suc c) buffer) ≡ suc c = ap length own-taps ∙ copied.1 in
      record {
        locatable = record { shape = end.shape; flag = flag; declarable = end.declarable; small = end.small };
        short = short;
        register =
            rw own-taps record {
              taps = omega (arith, copied.1);
              first = get_or-take (suc c) register 0 0 (omega arith) ∙ end.first;
              residues = λ i b.
                  rw (get_or-take (suc c) register i 0 (let l : i < suc c = omega (arith, copied.1) in l)) (end.residues i (omega (arith, copied.1)));
            };
        zeros =
            copied.0 ∙ ap₂ (λ (σ : List ℕ) (n : ℕ). σ ++ replicate n 0) (sym own-taps)
            (let n : 64 - c ≡ 65 - length (take (suc c) buffer) = omega (arith, sized) in n);
      }
