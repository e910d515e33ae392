-- A change of the parts is the change that Algorithm 4 makes of the state they hold: the taps are reduced at the whole width of their array, which is the
-- same as at the new length since the entries past the register are 0, and one block of the saved registers is replaced.
use mathlib.Core.Path.{◌≡◌, refl, sym, ap, ap₂, subst, ◌∙◌}
use mathlib.Core.Logic.{◌≢◌}
use mathlib.Core.List.{List}
use Prim.Native.Nat.{ℕ, suc, ◌+◌, ◌-◌, ◌*◌, ◌%◌, ◌≤◌, ◌<◌}
use native.Mathlib.Decide.{dec_lt, dec_le, ℕ_discrete}
use native.Mathlib.Omega.{arith}
use borrow.Author.Tests.{lt-ltb, le-ltb}
use lib.ListN.{length, get_or, take, set, length-take, length-set}
use lib.Seq.{ext_get_or, get_or-take, get_or-set_same, get_or-set_other, length-take-le}
use Rattle.field.specs.Coefficients.{reduced, shifted}
use Rattle.field.specs.Residue.{minus, times, quotient}
use Rattle.field.proofs.Coefficients.{minus-zero, length-reduced, get_or-reduced, get_or-reduced-past}
use Rattle.lists.proofs.Entries.{get_or-take-past}
use Rattle.lists.specs.Parts.{replaced}
use Rattle.register.proofs.Cases.{changed_cases, grown, stayed, saved-at, saved-beside}
use Rattle.register.specs.Algorithm4.{Saved, State, changed, with_saved}
use Rattle.register_step.specs.Parts.{Parts, parts, state_of, reduced_taps, stayed_parts, grown_parts, changed_parts, Ended, Changeable, Stepped}
use Rattle.reduction.specs.Reductions.{ZerosAfter, block}
use Rattle.reduction.proofs.Blocks.{block-replaced, block-other, replaced-whole, replaced-entry, other-entry}
use Rattle.field.proofs.Reduction.{shifted_past}

-- ---- the taps

module _ (p l : ℕ) (σ : List ℕ) (zeros : (i : ℕ) → l < i → get_or σ i 0 ≡ 0) (q e : ℕ) (τ : List ℕ) where
  -- the register's own taps are those of the array, also past the register
  pub own-taps : (i : ℕ) → get_or (take (suc l) σ) i 0 ≡ get_or σ i 0
  own-taps i = pick (dec_lt i (suc l))
    where
      pick : Dec (i < suc l) → get_or (take (suc l) σ) i 0 ≡ get_or σ i 0
      pick (yes h) = get_or-take (suc l) σ i 0 h
      pick (no h) = get_or-take-past (suc l) σ i 0 (omega arith) ∙ sym (zeros i (omega arith))

  -- the first m + 1 taps, reduced at the width w of the array, are those reduced at length m
  reduced-narrow : (w m : ℕ) → m ≤ w → take (suc m) (reduced p w σ q e τ) ≡ reduced p m (take (suc l) σ) q e τ
  reduced-narrow w m le =
      ext_get_or 0 (take (suc m) (reduced p w σ q e τ)) (reduced p m (take (suc l) σ) q e τ)
      (len ∙ sym (length-reduced p m (take (suc l) σ) q e τ))
      (λ i h.
      let b : i ≤ m = omega (arith, len) in
      get_or-take (suc m) (reduced p w σ q e τ) i 0 (omega arith)
      ∙ get_or-reduced p w σ q e τ i (omega arith)
      ∙ ap (λ (x : ℕ). minus p x (times p q (shifted e τ i))) (sym (own-taps i))
      ∙ sym (get_or-reduced p m (take (suc l) σ) q e τ i b))
    where
      len : length (take (suc m) (reduced p w σ q e τ)) ≡ suc m
      len = length-take-le (suc m) (reduced p w σ q e τ) (omega (arith, length-reduced p w σ q e τ))

  -- past m there are zeros where neither σ nor x^e·τ reaches past it
  reduced-zeros : (w m : ℕ) → 0 < p → l ≤ m → e + length τ ≤ suc m → (i : ℕ) → m < i → get_or (reduced p w σ q e τ) i 0 ≡ 0
  reduced-zeros w m pos le reach i past = pick (dec_le i w)
    where
      none : shifted e τ i ≡ 0
      none = shifted_past e τ i (omega arith)

      pick : Dec (i ≤ w) → get_or (reduced p w σ q e τ) i 0 ≡ 0
      pick (yes within) =
          get_or-reduced p w σ q e τ i within
          ∙ ap₂ (λ (x y : ℕ). minus p x (times p q y)) (zeros i (omega arith)) none
          ∙ minus-zero p 0 q pos
      pick (no outside) = get_or-reduced-past p w σ q e τ i (omega arith)

-- ---- the cases

module _ (p n h d : ℕ) (x : Parts) {taps : List ℕ} (less : taps ≡ reduced_taps p n h d x) where
  pub changed-stays : n + get_or x.sizes h 0 ≤ get_or x.places h 0 + x.length →
      parts x.length x.places x.sizes x.discs x.quotients taps x.saved ≡ changed_parts p n h d x
  unfolding changed_parts
  changed-stays short =
      rw (le-ltb (get_or x.places h 0 + x.length) (n + get_or x.sizes h 0) short)
      (ap (λ (t : List ℕ). parts x.length x.places x.sizes x.discs x.quotients t x.saved) less)

  pub changed-grows : {l q : ℕ} {saved : List ℕ} → l ≡ n + get_or x.sizes h 0 - get_or x.places h 0 → q ≡ quotient p (65536 % p) d →
      saved ≡ replaced (h * 144) 144 x.saved x.taps → get_or x.places h 0 + x.length < n + get_or x.sizes h 0 →
      parts l (set x.places h n) (set x.sizes h x.length) (set x.discs h d) (set x.quotients h q) taps saved ≡ changed_parts p n h d x
  unfolding changed_parts
  changed-grows size over kept long =
      rw (lt-ltb (get_or x.places h 0 + x.length) (n + get_or x.sizes h 0) long)
      (λ i. parts (size i) (set x.places h n) (set x.sizes h x.length) (set x.discs h d) (set x.quotients h (over i)) (less i) (kept i))

-- the taps by a number that stands for d, at any discrepancy over which the saved quotient stands
module _ {p n h d : ℕ} {x : Parts} (c : Changeable p n h d x) where
  pub by-sum : (sum : ℕ) {now : List ℕ} → sum % p ≡ d →
      ((over : ℕ) → get_or x.quotients h 0 ≡ quotient p (65536 % p) over →
      now ≡ reduced p 143 x.taps (quotient p (sum % p) over) (n - get_or x.places h 0) (take (suc (get_or x.sizes h 0)) (block h x.saved))) →
      now ≡ reduced_taps p n h d x
  by-sum sum stands at =
      at (get_or x.discs h 0) c.readable.quotient
      ∙ ap
      (λ (y : ℕ).
      reduced p 143 x.taps (quotient p y (get_or x.discs h 0)) (n - get_or x.places h 0) (take (suc (get_or x.sizes h 0)) (block h x.saved)))
      stands

-- ---- the state

-- what is kept for a sequence, read off the arrays
abbrev pub saved_of : (x : Parts) (h : ℕ) → Saved
saved_of x h =
    record {
      place = get_or x.places h 0;
      size = get_or x.sizes h 0;
      disc = get_or x.discs h 0;
      taps = take (suc (get_or x.sizes h 0)) (block h x.saved);
    }

pub saved_path : {v w : Saved} → v.place ≡ w.place → v.size ≡ w.size → v.disc ≡ w.disc → v.taps ≡ w.taps → v ≡ w
saved_path a b c t = λ i. record { place = a i; size = b i; disc = c i; taps = t i }

module _ {p n h d : ℕ} {x : Parts} (positive : 0 < p) (c : Changeable p n h d x) (z : Ended p x) where
  abbrev place : ℕ
  place = get_or x.places h 0

  abbrev size : ℕ
  size = get_or x.sizes h 0

  abbrev now : List ℕ
  now = reduced_taps p n h d x

  bounds : (place ≤ n) × (size ≤ place) × (n ≤ 128) × (x.length ≤ n) × (h < 8)
  bounds = (c.place, c.readable.saved-size, c.round, c.size, c.readable.sequence)

  width : length now ≡ 144
  width = length-reduced p 143 x.taps (quotient p d (get_or x.discs h 0)) (n - place) (take (suc size) (block h x.saved))

  -- the taps of a new length m, and the zeros past it
  narrowed : (m : ℕ) → m ≤ 143 →
      take (suc m) now ≡ reduced p m (take (suc x.length) x.taps) (quotient p d (get_or x.discs h 0)) (n - place) (take (suc size) (block h x.saved))
  narrowed m le =
      reduced-narrow p x.length x.taps z.zeros (quotient p d (get_or x.discs h 0)) (n - place) (take (suc size) (block h x.saved)) 143 m le

  zeros-past : (m : ℕ) → x.length ≤ m → n - place + size ≤ m → (i : ℕ) → m < i → get_or now i 0 ≡ 0
  zeros-past m le reach i past =
      reduced-zeros p x.length x.taps z.zeros (quotient p d (get_or x.discs h 0)) (n - place) (take (suc size) (block h x.saved)) 143 m positive le
      (omega (arith, length-take (suc size) (block h x.saved))) i past

  same_length : state_of (stayed_parts p n h d x) ≡ stayed p n h d (state_of x)
  unfolding state_of
  same_length = ap {B = State} (λ (l : List ℕ). record { size = x.length; taps = l; saved = saved_of x }) (narrowed x.length (omega (arith, bounds)))

  stays : n + size ≤ place + x.length → Stepped p (changed p n h d (state_of x)) (stayed_parts p n h d x)
  unfolding state_of
  stays short =
      record {
        state =
            changed_cases p n h d (state_of x) (λ s. state_of (stayed_parts p n h d x) ≡ s)
            (λ more. absurd (let no : ⊥ = omega arith in no)) (λ _. same_length);
        ended =
            record {
              whole =
                  record {
                    places = z.whole.places;
                    sizes = z.whole.sizes;
                    discs = z.whole.discs;
                    quotients = z.whole.quotients;
                    taps = width;
                    saved = z.whole.saved;
                  };
              zeros = zeros-past x.length (omega arith) (omega (arith, bounds));
              short = z.short;
              saved-zeros = z.saved-zeros;
              quotients = z.quotients;
            };
      }

  abbrev grown-parts : Parts
  grown-parts = grown_parts p n h d x

  new : Saved
  new = record { place = n; size = x.length; disc = d; taps = take (suc x.length) x.taps }

  saved-there : saved_of grown-parts h ≡ new
  unfolding new
  saved-there =
      saved_path
      (get_or-set_same x.places h n 0 (omega (arith, bounds, z.whole.places)))
      (get_or-set_same x.sizes h x.length 0 (omega (arith, bounds, z.whole.sizes)))
      (get_or-set_same x.discs h d 0 (omega (arith, bounds, z.whole.discs)))
      (ap₂ (λ (m : ℕ) (l : List ℕ). take (suc m) l) (get_or-set_same x.sizes h x.length 0 (omega (arith, bounds, z.whole.sizes)))
      (block-replaced h x.taps x.saved z.whole.taps z.whole.saved c.readable.sequence))

  saved_elsewhere : (k : ℕ) → k ≢ h → saved_of grown-parts k ≡ saved_of x k
  saved_elsewhere k ne =
      saved_path
      (get_or-set_other x.places h k n 0 ne)
      (get_or-set_other x.sizes h k x.length 0 ne)
      (get_or-set_other x.discs h k d 0 ne)
      (ap₂ (λ (m : ℕ) (l : List ℕ). take (suc m) l) (get_or-set_other x.sizes h k x.length 0 ne)
      (block-other h x.taps x.saved z.whole.taps z.whole.saved c.readable.sequence k ne))

  is-saved : (k : ℕ) → saved_of grown-parts k ≡ with_saved (saved_of x) h new k
  is-saved k = pick (ℕ_discrete k h)
    where
      pick : Dec (k ≡ h) → saved_of grown-parts k ≡ with_saved (saved_of x) h new k
      pick (yes same) = rw same (saved-there ∙ sym (saved-at (saved_of x) h new))
      pick (no ne) = saved_elsewhere k ne ∙ sym (saved-beside (saved_of x) h new k ne)

  new-length : state_of grown-parts ≡ grown p n h d (state_of x)
  unfolding state_of new
  new-length = λ j. record { size = n + size - place; taps = narrowed (n + size - place) (omega (arith, bounds)) j; saved = λ k. is-saved k j }

  quotients-kept : (k : ℕ) → k < 8 → get_or grown-parts.quotients k 0 ≡ quotient p (65536 % p) (get_or grown-parts.discs k 0)
  quotients-kept k b = pick (ℕ_discrete k h)
    where
      pick : Dec (k ≡ h) → get_or grown-parts.quotients k 0 ≡ quotient p (65536 % p) (get_or grown-parts.discs k 0)
      pick (yes same) =
          rw (same, get_or-set_same x.discs h d 0 (omega (arith, bounds, z.whole.discs)))
          (get_or-set_same x.quotients h (quotient p (65536 % p) d) 0 (omega (arith, bounds, z.whole.quotients)))
      pick (no ne) =
          rw (get_or-set_other x.discs h k d 0 ne) (get_or-set_other x.quotients h k (quotient p (65536 % p) d) 0 ne ∙ z.quotients k b)

  short-kept : (k : ℕ) → k < 8 → get_or grown-parts.sizes k 0 ≤ 128
  short-kept k b = pick (ℕ_discrete k h)
    where
      pick : Dec (k ≡ h) → get_or grown-parts.sizes k 0 ≤ 128
      pick (yes same) = rw (same, get_or-set_same x.sizes h x.length 0 (omega (arith, bounds, z.whole.sizes))) (omega (arith, bounds))
      pick (no ne) = rw (get_or-set_other x.sizes h k x.length 0 ne) (z.short k b)

  zeros-kept : (k : ℕ) → k < 8 → ZerosAfter grown-parts.saved k (get_or grown-parts.sizes k 0)
  zeros-kept k b i past near = pick (ℕ_discrete k h)
    where
      pick : Dec (k ≡ h) → get_or grown-parts.saved (k * 144 + i) 0 ≡ 0
      pick (yes same) =
          let size_is : get_or grown-parts.sizes k 0 ≡ x.length =
          rw same (get_or-set_same x.sizes h x.length 0 (omega (arith, bounds, z.whole.sizes)))
          in
          rw same
          (replaced-entry h x.taps x.saved z.whole.taps z.whole.saved c.readable.sequence i (omega (arith, short-kept k b))
          ∙ z.zeros i (omega (arith, size_is)))
      pick (no ne) =
          let same = get_or-set_other x.sizes h k x.length 0 ne in
          other-entry h x.taps x.saved z.whole.taps z.whole.saved c.readable.sequence k ne i (omega (arith, short-kept k b))
          ∙ z.saved-zeros k b i (omega (arith, same)) (omega (arith, same))

  grows : place + x.length < n + size → Stepped p (changed p n h d (state_of x)) grown-parts
  unfolding state_of
  grows long =
      record {
        state =
            changed_cases p n h d (state_of x) (λ s. state_of grown-parts ≡ s) (λ _. new-length) (λ short. absurd (let no : ⊥ = omega arith in no));
        ended =
            record {
              whole =
                  record {
                    places = length-set x.places h n ∙ z.whole.places;
                    sizes = length-set x.sizes h x.length ∙ z.whole.sizes;
                    discs = length-set x.discs h d ∙ z.whole.discs;
                    quotients = length-set x.quotients h (quotient p (65536 % p) d) ∙ z.whole.quotients;
                    taps = width;
                    saved = replaced-whole h x.taps x.saved z.whole.taps z.whole.saved c.readable.sequence;
                  };
              zeros = zeros-past (n + size - place) (omega (arith, bounds)) (omega (arith, bounds));
              short = short-kept;
              saved-zeros = zeros-kept;
              quotients = quotients-kept;
            };
      }

  pub change-made : Stepped p (changed p n h d (state_of x)) (changed_parts p n h d x)
  change-made = pick (dec_lt (place + x.length) (n + size))
    where
      pick : Dec (place + x.length < n + size) → Stepped p (changed p n h d (state_of x)) (changed_parts p n h d x)
      pick (yes long) = subst (λ (y : Parts). Stepped p (changed p n h d (state_of x)) y) (changed-grows p n h d x refl refl refl refl long) (grows long)
      pick (no short) = subst (λ (y : Parts). Stepped p (changed p n h d (state_of x)) y) (changed-stays p n h d x refl (omega arith)) (stays (omega arith))
