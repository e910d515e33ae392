-- What adding an equation comes to, once it is reduced. Either an unknown is met that leads no row, and the equation becomes its row, or the
-- constant is left and decides.
use mathlib.Core.Path.{◌≡◌, refl, sym, ap, subst, ◌∙◌}
use mathlib.Core.List.{List}
use mathlib.Core.Logic.{◌↔◌}
use Prim.Native.Nat.{ℕ, ◌≤◌, ◌<◌}
use native.Mathlib.Decide.{ℕ_discrete}
use native.Mathlib.Omega.{arith}
use lib.ListN.{get_or}
use Rattle.plain.proofs.Congruences.{rem-small}
use Rattle.elimination.proofs.Cancelling.{constant-left}
use Rattle.elimination.proofs.Places.{places_differ}
use Rattle.elimination.proofs.Reducing.{Reduced, reduced-row, reduced-room}
use Rattle.elimination.proofs.SameRows.{solves_ext, same-echelon, same-solved}
use Rattle.elimination.specs.Equations.{LeadsRow, Numbers, Posed, Settled, Solves, SolvesAdded, SolvesRows, Stored, place_of, value_at}
use Rattle.elimination.specs.declared.Added.TheVariants.{Follows, Leads, Contradicts}

module _ (p n : ℕ) (old : List ℕ) (posed : Posed p n old) (k : ℕ) (new : List ℕ) (w : Reduced p n old k new) where
  row : (g j : ℕ) → 1 ≤ g → value_at new g j ≡ value_at old g j
  row = reduced-row p n old posed k new w

  module _ (low : 1 ≤ k) (high : k < n) (fresh : (get_or new k 0 ≡ 0 → ⊥) × (value_at new k k ≡ 0)) (next : List ℕ) (c : Stored new next k n) where
    short : n ≤ 129
    short = posed.room.most

    stored : (j : ℕ) → j < n → value_at next k j ≡ get_or new j 0
    stored j h = c.row (reduced-room p n old posed k new w) low (let m = short in omega arith) j (omega arith) h

    apart : (g j : ℕ) → 1 ≤ g → g < n → j < n → (g ≡ k → ⊥) → value_at next g j ≡ value_at old g j
    apart g j l h inside other =
        c.kept (place_of g j) (λ i a b. let m = short in
        places_differ g j k i (omega arith) (omega arith) (omega arith) (omega arith) (λ q. other q.0))
        ∙ row g j l

    leads-next : LeadsRow next k
    leads-next z = fresh.0 (sym (stored k high) ∙ z)

    led_none : value_at old k k ≡ 0
    led_none = sym (row k k low) ∙ fresh.1

    leads-zero : (g j : ℕ) → 1 ≤ j → j < g → g < n → LeadsRow next g → Dec (g ≡ k) → value_at next g j ≡ 0
    leads-zero g j l h inside lead (yes e) =
        ap (λ (i : ℕ). value_at next i j) e ∙ stored j (omega arith) ∙ w.zeros j l (omega arith)
    leads-zero g j l h inside lead (no other) =
        apart g j (omega arith) inside (omega arith) other
        ∙ posed.echelon.leads g j l h inside (λ z. lead (apart g g (omega arith) inside inside other ∙ z))

    leads-below : (g j : ℕ) → 1 ≤ g → g < n → j < n → LeadsRow next g → Dec (g ≡ k) → value_at next g j < p
    leads-below g j l h inside lead (yes e) =
        let s = ap (λ (i : ℕ). value_at next i j) e ∙ stored j inside in let b = w.residues j (omega arith) inside in omega arith
    leads-below g j l h inside lead (no other) =
        let s = apart g j l h inside other in
        let b = posed.echelon.below g j l h inside (λ z. lead (apart g g l h h other ∙ z)) in
        omega arith

    solved-before : (t : ℕ → ℕ) → SolvesRows p n next t → SolvesRows p n old t
    solved-before t s g l h lead =
        let other : g ≡ k → ⊥ = λ e. lead (ap (λ (i : ℕ). value_at old i i) e ∙ led_none) in
        solves_ext p n (value_at next g) (value_at old g) t (λ j inside. apart g j l h inside other)
        (s g l h (λ z. lead (sym (apart g g l h h other) ∙ z)))

    solved-after : (t : ℕ → ℕ) → SolvesRows p n old t → SolvesAdded p n new t → (g : ℕ) → 1 ≤ g → g < n → LeadsRow next g → Dec (g ≡ k) →
        Solves p n (value_at next g) t
    solved-after t s a g l h lead (yes e) =
        subst (λ (i : ℕ). Solves p n (value_at next i) t) (sym e)
        (solves_ext p n (λ j. get_or new j 0) (value_at next k) t (λ j inside. sym (stored j inside)) a)
    solved-after t s a g l h lead (no other) =
        solves_ext p n (value_at old g) (value_at next g) t (λ j inside. sym (apart g j l h inside other))
        (s g l h (λ z. lead (apart g g l h h other ∙ z)))

    -- the equation becomes the row of unknown k
    pub leading : Settled p n Leads old next
    leading = record {
      echelon = record {
        leads = λ g j l h inside lead. leads-zero g j l h inside lead (ℕ_discrete g k);
        below = λ g j l h inside lead. leads-below g j l h inside lead (ℕ_discrete g k);
      };
      follows = λ e. absurd (let z : ◌≡◌ {A = ℕ} 0 1 = cc in omega arith);
      contradicts = λ e. absurd (let z : ◌≡◌ {A = ℕ} 0 1 = cc in omega arith);
      leads = λ e. (k, low, high, led_none, leads-next);
      solved = λ e t numbers. (
        λ s. let rows = solved-before t s in
            (rows, (w.same t rows).0 (solves_ext p n (value_at next k) (λ j. get_or new j 0) t stored (s k low high leads-next))),
        λ s g l h lead. solved-after t s.0 ((w.same t s.0).1 s.1) g l h lead (ℕ_discrete g k),
      );
      kept = λ other. absurd (other refl);
    }

  module _ (all : n ≤ k) where
    -- the constant decides
    left : (t : ℕ → ℕ) → Numbers p t → SolvesRows p n old t → SolvesAdded p n old t ↔ (get_or new 0 0 ≡ 0)
    left t numbers s =
        let some = posed.some in
        let constant = constant-left p n (λ j. get_or new j 0) t (omega arith) (λ j l h. w.zeros j l (omega arith)) numbers.one in
        let small = rem-small (get_or new 0 0) p (w.residues 0 (omega arith) (omega arith)) in (
          λ a. sym small ∙ constant.0 ((w.same t s).1 a),
          λ z. (w.same t s).0 (constant.1 (small ∙ z)),
        )

    same : (t : ℕ → ℕ) → SolvesRows p n new t ↔ SolvesRows p n old t
    same = same-solved p n old new posed.room.most w.kept

    pub following : get_or new 0 0 ≡ 0 → Settled p n Follows old new
    following z = record {
      echelon = same-echelon p n old new posed.room.most w.kept posed.echelon;
      follows = λ e t numbers s. (left t numbers s).1 z;
      contradicts = λ e. absurd (let z : ◌≡◌ {A = ℕ} 0 1 = cc in omega arith);
      leads = λ e. absurd (let z : ◌≡◌ {A = ℕ} 0 1 = cc in omega arith);
      solved = λ e t numbers. (
        λ s. let rows = (same t).0 s in (rows, (left t numbers rows).1 z),
        λ s. (same t).1 s.0,
      );
      kept = λ other. w.kept;
    }

    pub contradicting : (get_or new 0 0 ≡ 0 → ⊥) → Settled p n Contradicts old new
    contradicting some = record {
      echelon = same-echelon p n old new posed.room.most w.kept posed.echelon;
      follows = λ e. absurd (let z : ◌≡◌ {A = ℕ} 0 1 = cc in omega arith);
      contradicts = λ e t numbers s a. some ((left t numbers s).0 a);
      leads = λ e. absurd (let z : ◌≡◌ {A = ℕ} 0 1 = cc in omega arith);
      solved = λ other. absurd (other refl);
      kept = λ other. w.kept;
    }
