-- A repair of a frame, well-formed with the declared cells, of a job that another frame has located: refused by 23 exactly where some check sum of the two, as
-- read, differs, and by 26 where none does and no legal frame lies at the distance that was located.
use mathlib.Core.Path.{◌≡◌, refl, sym, ap, subst, subst⁻¹, ◌∙◌}
use mathlib.Core.Logic.{◌⊎◌, inl, inr}
use mathlib.Core.Bool.{Bool, true, false, false≢true}
use mathlib.Core.List.{List}
use Prim.Native.Nat.{ℕ, zero, suc, ◌+◌}
use native.Mathlib.Omega.{arith}
use lib.Dec.{eqb}
use lib.ListN.{get_or}
use borrow.Author.Tests.{eqb-true, eqb-false}
use Rattle.columns.proofs.Listing.{by-test}
use Rattle.decoding.specs.Locating.{size_of}
use Rattle.decoding.specs.Remaining.{read_sequences}
use Rattle.decoding.proofs.LegalNearest.{legal-at-size}
use Rattle.decoding.proofs.MendedFrame.{read_facts}
use Rattle.decoding.proofs.SoleNearest.{left-reach}
use Rattle.frame.specs.DeclaredCells.{Declared, declared_by, as_read, BadCells, reread_tests, reread_reasons, WellFormedRead}
use Rattle.frame.specs.Frame.{held_sums, sums_before}
use Rattle.frame.specs.Shape.{is_shape, checks_of}
use Rattle.frame.specs.declared.Shape.{Shape}
use Rattle.frame.proofs.Declarable.{reread-says, well_formed_reread}
use Rattle.frame.proofs.HeldEntries.{held-entry, same-held}
use Rattle.frame.proofs.HeldSums.{held-length}
use Rattle.lists.specs.Tabulate.{every}
use Rattle.lists.proofs.Tabulated.{every-at, every_witness}
use Rattle.refusal.proofs.Orders.{pass-none}
use Rattle.job.specs.Calls.{repair, refused, Outcome, step, same_sums}
use Rattle.job.specs.Demands.{CheckSumsDiffer, RepairRefused}
use Rattle.job.specs.Job.{Arrays, Job, is_located_phase, sound}
use Rattle.job.specs.Left.{sum_of}
use Rattle.job.specs.Refusals.{LegalAt, ShortRow, SumsDiffer}
use Rattle.job.specs.Runs.{IsRefused}
use Rattle.job.specs.declared.Phase.TheVariants.{Empty}
use Rattle.job.proofs.AfterRefusal.{same_number, never-columns}
use Rattle.job.proofs.Forms.{Locates, located_frame, located}
use Rattle.job.proofs.Refusals.{demand_1}
use Rattle.job.proofs.Repairing.{same-sums, same-sequences, same-located, same-locates, one, repair_takes, repair-refuses}
use Rattle.job.proofs.Soundness.{form_sound}

-- ---- the check sums of two frames

module _ (s : Shape) (D : Declared) (f g : List ℕ) where
  abbrev F : List ℕ
  F = as_read s D f

  abbrev G : List ℕ
  G = as_read s D g

  pub differ_held : CheckSumsDiffer s D f g → held_sums s (as_read s D f) ≡ held_sums s (as_read s D g) → ⊥
  differ_held (h, zero, inside, first, last, differ) e = absurd (let z : ⊥ = omega arith in z)
  differ_held (h, suc j, inside, first, last, differ) e =
      differ (sym (held-entry s F h j inside last) ∙ ap (λ (x : List ℕ). get_or x (sums_before s h + j) 0) e ∙ held-entry s G h j inside last)

  same_at : ℕ → ℕ → Bool
  same_at h j = eqb (sum_of s F h (suc j)) (sum_of s G h (suc j))

  all_same : Bool
  all_same = every s.rows (λ h. every (checks_of s h) (same_at h))

  held_differ : (held_sums s F ≡ held_sums s G → ⊥) → CheckSumsDiffer s D f g
  unfolding all_same same_at
  held_differ other = pick all_same refl
    where
      pick : (b : Bool) → every s.rows (λ h. every (checks_of s h) (same_at h)) ≡ b → CheckSumsDiffer s D f g
      pick true e = absurd (other (same-held s F G (λ h j inside short. eqb-true _ _ (every-at (checks_of s h) _ (every-at s.rows _ e h inside) j short))))
      pick false e =
          let (h, inside, d) = every_witness s.rows (λ h. every (checks_of s h) (same_at h)) e in
          let (j, short, n) = every_witness (checks_of s h) (same_at h) d in
          (h, suc j, inside, omega arith, short, eqb-false _ _ n)

-- ---- the repair

module _ (s : Shape) (a : Arrays) (words f g : List ℕ) (t : is_shape s ≡ true) (l : Locates s (declared_by words) g)
    (w : WellFormedRead s (declared_by words) f) where
  abbrev D : Declared
  D = declared_by words

  abbrev j : Job
  j = located_frame s a words g

  abbrev held_read : List ℕ → List ℕ
  held_read x = held_sums s (as_read s D x)

  abbrev o : Outcome
  o = step j (repair f)

  abbrev c : ℕ
  c = size_of (read_sequences s D g)

  -- where the check sums are the same the job is the one that f leaves
  module _ (e : held_read f ≡ held_read g) where
    l-f : Locates s D f
    l-f = same-locates s D f g e w l

    same-c : size_of (read_sequences s D f) ≡ c
    same-c = ap size_of (same-sequences s D f g e)

    at_c : LegalAt s D f (size_of (read_sequences s D f)) → LegalAt s D f c
    at_c = subst (LegalAt s D f) same-c

    taken : one s D f ≡ false → IsRefused o → ⊥
    taken mixed =
        subst (λ (i : Job). IsRefused (step i (repair f)) → ⊥) (same-located s a words f g e)
        (λ (k, refusal). never-columns (sym (ap (λ o. o.answer) (repair_takes s a words f t l-f mixed)) ∙ refusal))

    by_26 : one s D f ≡ true → o.answer ≡ refused 26
    by_26 u = subst (λ (i : Job). (step i (repair f)).answer ≡ refused 26) (same-located s a words f g e) (repair-refuses s a words f t l-f u)

    legal-f : one s D f ≡ false → LegalAt s D f c
    legal-f mixed = at_c ((legal-at-size s t D f (read_facts s t D f w) l-f.alone l-f.reach).0 (l-f.names, l-f.fits, mixed))

    none-f : one s D f ≡ true → LegalAt s D f c → ⊥
    none-f u at =
        let (names, fits, mixed) =
        (legal-at-size s t D f (read_facts s t D f w) l-f.alone l-f.reach).1 (subst⁻¹ (LegalAt s D f) same-c at) in
        false≢true (sym mixed ∙ u)

    same-refused : RepairRefused s D f g c o
    same-refused = pick (by-test (one s D f))
      where
        same : CheckSumsDiffer s D f g → ⊥
        same d = differ_held s D f g d e

        pick : (one s D f ≡ true) ⊎ (one s D f ≡ false) → RepairRefused s D f g c o
        pick (inl u) = record {
          at_all = (λ refusal. inr (none-f u), λ why. (26, by_26 u));
          by_23 = (λ e. absurd (apart (sym (by_26 u) ∙ e)), λ d. absurd (same d));
          by_26 = (λ e. (same, none-f u), λ why. by_26 u);
        }
          where
            apart : refused 26 ≡ refused 23 → ⊥
            apart e = let q = same_number e in omega arith
        pick (inr mixed) = record {
          at_all = (λ refusal. absurd (taken mixed refusal), λ why. elim why [ inl d ↦ absurd (same d) | inr none ↦ absurd (none (legal-f mixed)) ]);
          by_23 = (λ e. absurd (taken mixed (23, e)), λ d. absurd (same d));
          by_26 = (λ e. absurd (taken mixed (26, e)), λ (s, none). absurd (none (legal-f mixed)));
        }

  not_taken : SumsDiffer (held_read f) (held_read g) → o.answer ≡ refused 23
  not_taken d =
      let (size, (symbols, u)) = pass-none (reread_tests s D f) (reread_reasons s D f) (reread-says s D f) (well_formed_reread s D f w) in
      (demand_1.exact j (repair f) 23).1 (inr (not-empty, inr (located_so, inr (size, inr (symbols, inl (d, refl))))))
    where
      not-empty : (j.head.phase ≡ Empty) ⊎ (sound j ≡ false) → ⊥
      not-empty (inl e) = let z : ◌≡◌ {A = ℕ} 0 1 = cc in omega arith
      not-empty (inr e) = false≢true (sym e ∙ form_sound j (located s a words g t l))

      located_so : (is_located_phase j.head.phase ≡ false) ⊎ (BadCells s D ⊎ ShortRow s D (size_of (read_sequences s D g))) → ⊥
      located_so (inl e) = false≢true (sym e)
      located_so (inr (inl bad)) = l.well_formed.declared bad
      located_so (inr (inr (h, below, short))) = let r = left-reach s D (size_of (read_sequences s D g)) l.reach h below in omega arith

  pub repair-refused : RepairRefused s (declared_by words) f g (size_of (read_sequences s (declared_by words) g)) (step (located_frame s a words g) (repair f))
  unfolding same_sums
  repair-refused = pick (same_sums (held_read f) (held_read g)) refl
    where
      pick : (b : Bool) → same_sums (held_read f) (held_read g) ≡ b → RepairRefused s D f g c o
      pick true e = same-refused (same-sums _ _ (held-length s (as_read s D f) t) (held-length s (as_read s D g) t) e)
      pick false e =
          let (k, short, n) = every_witness 512 _ e in
          let refusal : o.answer ≡ refused 23 = not_taken (k, short, eqb-false _ _ n) in
          let d = held_differ s D f g (λ same. eqb-false _ _ n (ap (λ (x : List ℕ). get_or x k 0) same)) in
          record {
            at_all = (λ why. inl d, λ why. (23, refusal));
            by_23 = (λ why. d, λ d. refusal);
            by_26 = (λ e. absurd (let q = same_number (sym refusal ∙ e) in let z : ⊥ = omega arith in z), λ (same, none). absurd (same d));
          }
