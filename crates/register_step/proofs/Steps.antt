-- A step on the parts is a step of Algorithm 4 on the state that they hold: it rests where nothing is due, as nothing is asked for or the discrepancy is 0, and
-- else it is the change by what is due.
use mathlib.Core.Path.{◌≡◌, refl, sym, ap, subst, ◌∙◌}
use mathlib.Core.Logic.{◌≢◌}
use mathlib.Core.List.{List, []}
use Prim.Native.Nat.{ℕ, suc, ◌+◌, ◌-◌, ◌*◌, ◌%◌, ◌<◌}
use native.Mathlib.Decide.{dec_lt, ℕ_discrete}
use native.Mathlib.Nat.{mod-lt}
use native.Mathlib.Omega.{arith}
use borrow.Author.Tests.{eq-eqb, ne_eqb, lt-ltb, le-ltb}
use lib.ListN.{length, get_or, take}
use lib.Seq.{get_or-take}
use Rattle.lists.proofs.Totals.{total_ext}
use Rattle.register.proofs.Bounds.{discrepancy-less}
use Rattle.register.proofs.Cases.{step_cases}
use Rattle.register.specs.Algorithm4.{State, step}
use Rattle.register.specs.Register.{discrepancy}
use Rattle.register.specs.Sequences.{symbol}
use Rattle.discrepancy.proofs.Products.{length-sequence}
use Rattle.discrepancy.specs.Discrepancies.{Ending, due_at, sequence_in}
use Rattle.register_step.specs.Parts.{Parts, state_of, changed_parts, step_parts, Readable, Changeable, Steppable, Ended, Ready, Stepped}
use Rattle.register_step.proofs.Change.{own-taps, change-made}

-- a discrepancy looks at the register's own taps only
discrepancy-own : (p l : ℕ) (σ s : List ℕ) (j : ℕ) → discrepancy p l σ s j ≡ discrepancy p l (take (suc l) σ) s j
unfolding discrepancy
discrepancy-own p l σ s j =
    ap (λ (x : ℕ). x % p)
    (total_ext (suc l) (λ i. get_or σ i 0 * symbol s (j - i)) (λ i. get_or (take (suc l) σ) i 0 * symbol s (j - i))
    (λ i h. ap (λ (x : ℕ). x * symbol s (j - i)) (sym (get_or-take (suc l) σ i 0 h))))

-- ---- the cases

module _ (p N : ℕ) (s : List ℕ) (n h : ℕ) (x : Parts) {d : ℕ} (due : d ≡ due_at p N x.length x.taps s n) where
  pub step-rests : d ≡ 0 → x ≡ step_parts p N s n h x
  unfolding step_parts
  step-rests none = rw (eq-eqb (due_at p N x.length x.taps s n) 0 (sym due ∙ none))

  pub step-changes : d ≢ 0 → changed_parts p n h d x ≡ step_parts p N s n h x
  unfolding step_parts
  step-changes some = rw (← due, ne_eqb d 0 some)

-- ---- what the code asks

module _ {p h : ℕ} {x : Parts} (r : Readable p h x) where
  pub ending : Ending p x.length x.taps
  ending = record { width = r.width; residues = λ i _. r.residues i; zeros = r.zeros }

-- what is not 0 was asked for
pub asked : (p N l : ℕ) (σ s : List ℕ) (n : ℕ) {d : ℕ} → d ≡ due_at p N l σ s n → d ≢ 0 → l + (N - length s) < n
unfolding due_at
asked p N l σ s n due some = pick (dec_lt (l + (N - length s)) n)
  where
    pick : Dec (l + (N - length s) < n) → l + (N - length s) < n
    pick (yes late) = late
    pick (no early) = absurd (some (due ∙ rw (le-ltb (l + (N - length s)) n (omega arith))))

module _ {p N h long n : ℕ} {symbols : List ℕ} {x : Parts} (a : Steppable p N h long n symbols x) {d : ℕ} where
  -- a change by a discrepancy for which a sum stands
  pub change_asks : 0 < p → (sum : ℕ) → d ≡ sum % p → sum % p ≡ due_at p N x.length x.taps (sequence_in symbols h long) n → d ≢ 0
      → Changeable p n h d x
  change_asks positive sum is due some =
      let reach = a.reach in
      let late = asked p N x.length x.taps (sequence_in symbols h long) n (is ∙ due) some in
      record {
        readable = a.readable;
        round = omega (arith, reach.round, reach.longest);
        discrepancy = rw is (mod-lt sum positive);
        size = reach.grown;
        place = omega (arith, a.place, length-sequence reach);
      }

-- ---- arrays that hold a state

module _ {p N : ℕ} {s : List ℕ} {n h : ℕ} {x : Parts} (positive : 0 < p) (ready : Ready p N s n h (state_of x)) (z : Ended p x) where
  pub readable : Readable p h x
  unfolding state_of
  readable =
      record {
        sequence = ready.sequence;
        width = z.whole.taps;
        saved-width = z.whole.saved;
        residues = λ i. rw (← own-taps p x.length x.taps z.zeros 0 0 [] i) (ready.residues i);
        zeros = λ i past _. z.zeros i past;
        saved-size = ready.saved-size;
        saved-zeros = z.saved-zeros h ready.sequence;
        quotient = z.quotients h ready.sequence;
      }

  abbrev st : State
  st = state_of x

  abbrev d : ℕ
  d = due_at p N x.length x.taps s n

  abbrev at : ℕ
  at = n + length s - N

  due-early : (x.length + (N - length s) < n → ⊥) → d ≡ 0
  unfolding due_at
  due-early early = rw (le-ltb (x.length + (N - length s)) n (omega arith))

  due-late : x.length + (N - length s) < n → d ≡ discrepancy p st.size st.taps s at
  unfolding due_at state_of
  due-late late = rw (lt-ltb (x.length + (N - length s)) n late) (discrepancy-own p x.length x.taps s at)

  abbrev Made : Parts → Type 0
  Made y = Stepped p (step p N s n h st) y

  rests : d ≡ 0 → Made x
  unfolding state_of
  rests none =
      record {
        state = step_cases p N s n h st (λ t. st ≡ t) (λ _. refl) (λ _ _. refl) (λ late some. absurd (some (sym (due-late late) ∙ none)));
        ended = z;
      }

  changes : d ≢ 0 → Made (changed_parts p n h d x)
  unfolding state_of
  changes some =
      let late = asked p N x.length x.taps s n refl some in
      let c : Changeable p n h d x =
      record {
        readable = readable;
        round = omega (arith, ready.round, ready.longest);
        discrepancy = rw (due-late late) (discrepancy-less p st.size st.taps s at positive);
        size = ready.size;
        place = omega (arith, ready.place);
      }
      in
      step_cases p N s n h st (λ t. Stepped p t (changed_parts p n h d x))
      (λ early. absurd (let no : ⊥ = omega arith in no))
      (λ _ none. absurd (some (due-late late ∙ none)))
      (λ _ _. rw (← due-late late) (change-made positive c z))

  pub step-made : Made (step_parts p N s n h x)
  step-made = pick (ℕ_discrete d 0)
    where
      pick : Dec (d ≡ 0) → Made (step_parts p N s n h x)
      pick (yes none) = subst Made (step-rests p N s n h x refl none) (rests none)
      pick (no some) = subst Made (step-changes p N s n h x refl some) (changes some)
