-- Searches in slices that share what counts: a step leaves them so, and so they start whatever stood in the arrays.
use mathlib.Core.Path.{◌≡◌, refl, sym, ap, ap₂, subst, ◌∙◌}
use mathlib.Core.Bool.{Bool, true, false, cond}
use mathlib.Core.List.{List, [], ◌∷◌}
use Prim.Native.Nat.{ℕ, suc, ◌+◌, ◌-◌, ◌*◌, ◌≤◌, ◌<◌, min}
use native.Mathlib.Decide.{dec_lt, ℕ_discrete}
use native.Mathlib.Omega.{arith}
use lib.Dec.{ltb, eqb}
use lib.ListN.{length, get_or, take, drop, set, replicate, length-take, length-drop, length-set, length-replicate}
use lib.ListN.{get_or-eq_default}
use lib.Seq.{ext_get_or, get_or-take, get_or-set_same, get_or-set_other}
use Rattle.field.proofs.Coefficients.{length-reduced}
use Rattle.field.specs.Coefficients.{reduced}
use Rattle.field.specs.Residue.{quotient}
use Rattle.lists.proofs.Entries.{get_d_part}
use Rattle.lists.proofs.SameBlocks.{same_width, same-entry}
use Rattle.lists.proofs.Tabulated.{get_d_tabulate, tabulate_ext}
use Rattle.lists.proofs.Zeros.{zeros-entry}
use Rattle.lists.specs.Parts.{replaced}
use Rattle.register.specs.Sequences.{longest, ordered}
use Rattle.sequences.proofs.Reversing.{backwards_in}
use Rattle.discrepancy.specs.Discrepancies.{sequence_in, due_at}
use Rattle.reduction.specs.Reductions.{block}
use Rattle.register_step.specs.Parts.{Parts, step_parts, changed_parts, grown_parts, stayed_parts, reduced_taps}
use Rattle.slices.specs.Same.{SameSynthesis}
use Rattle.slices.specs.Synthesis.{Synthesis, all_rounds, rounds, steps, found, size, long, parts_in, with_parts}
use Rattle.slices.specs.Synthesis.{begun, advanced, synthesis_sound}
use Rattle.slices.proofs.Starting.{cleared, shorter}
use Rattle.slices.proofs.Stepping.{rounds-few, rounds-left, steps-left, size-grown}
use Rattle.slices.proofs.SameTest.{over, by_over}

-- ---- a step

-- parts that share what counts
record SameParts (x y : Parts) : Type 0 where
  size : x.length ≡ y.length
  places : x.places ≡ y.places
  sizes : x.sizes ≡ y.sizes
  discs : x.discs ≡ y.discs
  quotients : x.quotients ≡ y.quotients
  taps : x.taps ≡ y.taps
  saved : (h i : ℕ) → h < 8 → i ≤ get_or y.sizes h 0 + 8 → get_or x.saved (h * 144 + i) 0 ≡ get_or y.saved (h * 144 + i) 0
  width : length x.saved ≡ length y.saved
  taps-width : length y.taps ≡ 144

same-either : (b : Bool) {x y z w : Parts} → SameParts x y → SameParts z w → SameParts (cond b x z) (cond b y w)
same-either true s t = s
same-either false s t = t

module _ (k : ℕ) (few : k ≤ 8) (x : Synthesis) (symbols saved : List ℕ) (s : SameSynthesis x (over x symbols saved)) (sound : synthesis_sound k x ≡ true) where
  abbrev z : Synthesis
  z = over x symbols saved

  abbrev h : ℕ
  h = steps x

  abbrev n : ℕ
  n = suc (rounds x)

  below : h < 8
  below = omega (arith, steps-left k x few sound)

  same-sequence : sequence_in x.symbols h (long x) ≡ sequence_in symbols h (long x)
  unfolding sequence_in
  same-sequence = tabulate_ext (long x) _ _ (λ i b. s.symbols h (long x - suc i) below (omega arith))

  abbrev m : ℕ
  m = get_or x.sizes h 0

  -- what a step reads of the register saved for its sequence
  same_read : take (suc m) (block h x.saved) ≡ take (suc m) (block h saved)
  same_read =
      ext_get_or 0 _ _ (width x.saved ∙ ap (λ (w : ℕ). min (suc m) (min 144 (w - h * 144))) s.width ∙ sym (width saved)) (λ i b.
      let near : i < suc m = omega (arith, width x.saved) in
      let inside : i < 144 = omega (arith, width x.saved) in
      entry x.saved i near inside ∙ s.saved h i below (omega arith) ∙ sym (entry saved i near inside))
    where
      width : (l : List ℕ) → length (take (suc m) (block h l)) ≡ min (suc m) (min 144 (length l - h * 144))
      width l =
          length-take (suc m) (block h l)
          ∙ ap (λ (w : ℕ). min (suc m) w) (length-take 144 (drop (h * 144) l) ∙ ap (λ (w : ℕ). min 144 w) (length-drop (h * 144) l))

      entry : (l : List ℕ) (i : ℕ) → i < suc m → i < 144 → get_or (take (suc m) (block h l)) i 0 ≡ get_or l (h * 144 + i) 0
      entry l i near inside = get_or-take (suc m) (block h l) i 0 near ∙ get_d_part (h * 144) 144 l i 0 inside

  module _ (d : ℕ) where
    same-reduced : reduced_taps 257 n h d (parts_in x) ≡ reduced_taps 257 n h d (parts_in z)
    same-reduced = ap (reduced 257 143 x.taps (quotient 257 d (get_or x.discs h 0)) (n - get_or x.places h 0)) same_read

    reduced-width : length (reduced_taps 257 n h d (parts_in z)) ≡ 144
    reduced-width = length-reduced 257 143 _ _ _ _

    same-stayed : SameParts (stayed_parts 257 n h d (parts_in x)) (stayed_parts 257 n h d (parts_in z))
    same-stayed =
        record {
          size = refl;
          places = refl;
          sizes = refl;
          discs = refl;
          quotients = refl;
          taps = same-reduced;
          saved = s.saved;
          width = s.width;
          taps-width = reduced-width;
        }

    -- the size that is saved is that of the register, which is short, or nothing is saved
    saved-small : get_or (set x.sizes h (size x)) h 0 ≤ 64
    saved-small = pick (dec_lt h (length x.sizes))
      where
        pick : Dec (h < length x.sizes) → get_or (set x.sizes h (size x)) h 0 ≤ 64
        pick (yes b) =
            rw (get_or-set_same x.sizes h (size x) 0 b) (omega (arith, size-grown k x few sound, rounds-left k x few sound, rounds-few k x few sound))
        pick (no b) =
            let past : length (set x.sizes h (size x)) ≤ h = omega (arith, length-set x.sizes h (size x)) in
            rw (get_or-eq_default (set x.sizes h (size x)) 0 past) (omega arith)

    abbrev Same : ℕ → Type 0
    Same i = get_or (replaced (h * 144) 144 x.saved x.taps) i 0 ≡ get_or (replaced (h * 144) 144 saved x.taps) i 0

    same-replaced : (g i : ℕ) → g < 8 → i ≤ get_or (set x.sizes h (size x)) g 0 + 8 → Same (g * 144 + i)
    same-replaced g i b near = subst (λ (w : ℕ). get_or (replaced (h * 144) w x.saved x.taps) (g * 144 + i) 0
        ≡ get_or (replaced (h * 144) w saved x.taps) (g * 144 + i) 0) s.taps-width (pick (ℕ_discrete g h))
      where
        pick : Dec (g ≡ h) → get_or (replaced (h * 144) (length x.taps) x.saved x.taps) (g * 144 + i) 0
            ≡ get_or (replaced (h * 144) (length x.taps) saved x.taps) (g * 144 + i) 0
        pick (yes here) =
            let short : i ≤ 72 = omega (arith, saved-small, subst (λ (j : ℕ). i ≤ get_or (set x.sizes h (size x)) j 0 + 8) here near) in
            same-entry (h * 144) x.taps x.saved saved s.width (g * 144 + i)
            (λ e. absurd (let f : ⊥ = omega arith in f)) (λ e. absurd (let f : ⊥ = omega (arith, s.taps-width) in f))
        pick (no other) =
            let old : i ≤ get_or x.sizes g 0 + 8 = subst (λ (j : ℕ). i ≤ j + 8) (get_or-set_other x.sizes h g (size x) 0 other) near in
            same-entry (h * 144) x.taps x.saved saved s.width (g * 144 + i) (λ e. s.saved g i b old) (λ e. s.saved g i b old)

    same-grown : SameParts (grown_parts 257 n h d (parts_in x)) (grown_parts 257 n h d (parts_in z))
    same-grown =
        record {
          size = refl;
          places = refl;
          sizes = refl;
          discs = refl;
          quotients = refl;
          taps = same-reduced;
          saved = same-replaced;
          width =
              subst (λ (w : ℕ). length (replaced (h * 144) w x.saved x.taps) ≡ length (replaced (h * 144) w saved x.taps)) s.taps-width
              (same_width (h * 144) x.taps x.saved saved s.width);
          taps-width = reduced-width;
        }

  same_parts : SameParts (parts_in x) (parts_in z)
  same_parts =
      record {
        size = refl;
        places = refl;
        sizes = refl;
        discs = refl;
        quotients = refl;
        taps = refl;
        saved = s.saved;
        width = s.width;
        taps-width = s.taps-width;
      }

  same_step : (q : List ℕ) → SameParts (step_parts 257 (all_rounds x) q n h (parts_in x)) (step_parts 257 (all_rounds x) q n h (parts_in z))
  unfolding step_parts changed_parts
  same_step q =
      let d : ℕ = due_at 257 (all_rounds x) (size x) x.taps q n in
      same-either (eqb d 0) same_parts
      (same-either (ltb (get_or x.places h 0 + size x) (n + m)) (same-grown d) (same-stayed d))

  same_with : (r g : ℕ) {l o : ℕ} {y w : Parts} → l ≡ o → SameParts y w → SameSynthesis (with_parts x r g l y) (with_parts z r g o w)
  same_with r g e t =
      record {
        counts = ap₂ (λ (l o : ℕ). all_rounds x ∷ r ∷ g ∷ l ∷ o ∷ []) e t.size;
        lengths = refl;
        symbols = s.symbols;
        places = t.places;
        sizes = t.sizes;
        discs = t.discs;
        quotients = t.quotients;
        taps = t.taps;
        saved = t.saved;
        width = t.width;
        taps-width = t.taps-width;
      }

  over-advanced : SameSynthesis (advanced k x) (advanced k z)
  unfolding advanced
  over-advanced =
      subst (λ (q : List ℕ). SameSynthesis (after x (sequence_in x.symbols h (long x))) (after z q)) same-sequence
      (pick (ltb (suc h) k) (same_step (sequence_in x.symbols h (long x))))
    where
      after : Synthesis → List ℕ → Synthesis
      after w q =
          let y : Parts = step_parts 257 (all_rounds w) q (suc (rounds w)) (steps w) (parts_in w) in
          cond (ltb (suc (steps w)) k) (with_parts w (rounds w) (suc (steps w)) (found w) y) (with_parts w (suc (rounds w)) 0 y.length y)

      pick : (b : Bool) {y w : Parts} → SameParts y w →
          SameSynthesis (cond b (with_parts x (rounds x) (suc h) (found x) y) (with_parts x n 0 y.length y))
          (cond b (with_parts z (rounds x) (suc h) (found x) w) (with_parts z n 0 w.length w))
      pick true t = same_with (rounds x) (suc h) refl t
      pick false t = same_with n 0 t.size t

pub same-advanced : (k : ℕ) → k ≤ 8 → {x y : Synthesis} → SameSynthesis x y → synthesis_sound k x ≡ true → SameSynthesis (advanced k x) (advanced k y)
same-advanced k few = by_over (λ x y. synthesis_sound k x ≡ true → SameSynthesis (advanced k x) (advanced k y)) (over-advanced k few)

-- ---- the start

pub same-begun : (ss : List (List ℕ)) → longest ss ≤ 64 → (old new : Synthesis) → SameSynthesis (begun ss old) (begun ss new)
unfolding begun
same-begun ss short old new =
    record {
      counts = refl;
      lengths = refl;
      symbols = λ h i b l.
          let q : List ℕ = get_or (ordered ss) h [] in
          let near : i < length q = subst (λ (j : ℕ). i < j) (get_d_tabulate 8 (λ g. length (get_or (ordered ss) g [])) h 0 b) l in
          let fits : length q ≤ 144 = omega (arith, shorter ss h) in
          backwards_in (ordered ss) old.symbols h i b near fits ∙ sym (backwards_in (ordered ss) new.symbols h i b near fits);
      places = refl;
      sizes = refl;
      discs = refl;
      quotients = refl;
      taps = refl;
      saved = λ h i b l.
          let near : i ≤ 8 = omega (arith, zeros-entry 8 h) in
          (cleared old.saved).zeros h b i near ∙ sym ((cleared new.saved).zeros h b i near);
      width = (cleared old.saved).width ∙ sym (cleared new.saved).width;
      taps-width = length-set {A = ℕ} (replicate 144 0) 0 1 ∙ length-replicate {A = ℕ} 144 0;
    }
