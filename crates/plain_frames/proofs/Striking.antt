-- Damage of one cell after the other, and of one column after the other.
use mathlib.Core.Path.{◌≡◌, refl, sym, ap, subst, ◌∙◌}
use mathlib.Core.List.{List}
use Prim.Native.Nat.{ℕ, ◌+◌, ◌*◌, ◌/◌, ◌%◌, ◌≤◌, ◌<◌}
use native.Mathlib.Decide.{dec_lt, ℕ_discrete}
use native.Mathlib.Nat.{add_comm, add-mul-mod_self_right, mod-eq_of_lt, mul-div_cancel}
use native.Mathlib.Omega.{arith}
use lib.ListN.{length, get_or, set, length-set}
use lib.Seq.{get_or-set_same, get_or-set_other, set_out}
use Rattle.plain_frames.proofs.Errors.{moved}
use Rattle.plain_frames.proofs.Mixing.{different-first}
use Rattle.plain.proofs.Remainders.{rem_lt}
use Rattle.plain_frames.specs.Frames.{DamagedBy, Different, Differs, Nonzero, Reached, Struck}
use Rattle.plain.specs.Plain.{rem}

below_put : (l : List ℕ) (at v k : ℕ) → v < 257 → get_or l k 0 < 257 → get_or (set l at v) k 0 < 257
below_put l at v k small less = pick (ℕ_discrete k at) (dec_lt k (length l))
  where
    pick : Dec (k ≡ at) → Dec (k < length l) → get_or (set l at v) k 0 < 257
    pick (no other) d = let e = get_or-set_other l at k v 0 other in omega arith
    pick (yes here) (yes held) = let e = ap (λ (m : ℕ). get_or (set l at v) m 0) here ∙ get_or-set_same l at v 0 (omega arith) in omega arith
    pick (yes here) (no past) = let e = ap (λ (x : List ℕ). get_or x k 0) (set_out l at v (omega arith)) in omega arith

module _ (columns : ℕ) where
  -- cells of one column, and cells of two
  same_row : (g h i : ℕ) → i < columns → g * columns + i ≡ h * columns + i → g ≡ h
  same_row g h i less e =
      let some : 0 < columns = omega arith in
      let rows : g * columns ≡ h * columns = omega arith in
      sym (mul-div_cancel g some) ∙ ap (λ (x : ℕ). x / columns) rows ∙ mul-div_cancel h some

  column_of : (h i : ℕ) → i < columns → (h * columns + i) % columns ≡ i
  column_of h i less = ap (λ (x : ℕ). x % columns) (add_comm (h * columns) i) ∙ add-mul-mod_self_right i h columns ∙ mod-eq_of_lt less

  same-column : (g h i j : ℕ) → i < columns → j < columns → g * columns + i ≡ h * columns + j → i ≡ j
  same-column g h i j less low e = sym (column_of g i less) ∙ ap (λ (x : ℕ). x % columns) e ∙ column_of h j low

  pub struck_none : (i : ℕ) (factors l : List ℕ) → Struck columns 0 i factors l l
  struck_none i factors l = record {
    size = refl;
    kept = λ k out. refl;
    symbols = λ k less. less;
    altered = λ h r. absurd (let z : ⊥ = omega (arith, r.row) in z);
  }

  -- the cell's symbol y and the error x give v
  module _ {h i at x y v : ℕ} {factors old new next : List ℕ} (w : Struck columns h i factors old new) (p : at ≡ h * columns + i)
      (some : Nonzero (get_or factors h 0) → Nonzero x) (r : y ≡ get_or new at 0) (q : v ≡ rem (y + x * 1) 257) (e : next ≡ set new at v) where
    other : (k : ℕ) → (k ≡ at → ⊥) → get_or next k 0 ≡ get_or new k 0
    other k n = ap (λ (l : List ℕ). get_or l k 0) e ∙ get_or-set_other new at k v 0 n

    struck_here : Reached columns (h + 1) factors old h i → get_or next at 0 ≡ get_or old at 0 → ⊥
    struck_here c z = moved y x (some c.factor) (sym q ∙ sym put ∙ z ∙ sym (r ∙ before))
      where
        before : get_or new at 0 ≡ get_or old at 0
        before = w.kept at (λ g less s. let t = same_row g h i c.column (sym s ∙ p) in omega arith)

        put : get_or next at 0 ≡ v
        put = ap (λ (l : List ℕ). get_or l at 0) e ∙ get_or-set_same new at v 0 (let s = w.size in let t = c.cell in omega arith)

    struck_at : (g : ℕ) → Dec (g ≡ h) → Reached columns (h + 1) factors old g i → Differs columns g i old next
    struck_at g (yes s) c z =
        let cell : g * columns + i ≡ at = ap (λ (k : ℕ). k * columns + i) s ∙ sym p in
        struck_here (subst (λ (k : ℕ). Reached columns (h + 1) factors old k i) s c) (subst (λ (k : ℕ). get_or next k 0 ≡ get_or old k 0) cell z)
    struck_at g (no s) c z =
        w.altered g (record { row = omega (arith, c.row); column = c.column; cell = c.cell; factor = c.factor })
        (sym (other (g * columns + i) (λ f. s (same_row g h i c.column (f ∙ p)))) ∙ z)

    pub struck_more : Struck columns (h + 1) i factors old next
    struck_more = record {
      size = ap length e ∙ length-set new at v ∙ w.size;
      kept = λ k out. other k (λ c. out h (omega arith) (c ∙ p)) ∙ w.kept k (λ g less. out g (omega arith));
      symbols = λ k less. subst (λ (l : List ℕ). get_or l k 0 < 257) (sym e) (below_put new at v k small (w.symbols k less));
      altered = λ g. struck_at g (ℕ_discrete g h);
    }
      where
        small : v < 257
        small = omega (arith, rem_lt (y + x * 1) 257 (omega arith))

  -- the last row was reached
  pub struck_all : (h rows i : ℕ) {factors old new : List ℕ} → Struck columns h i factors old new → h ≤ rows → rows ≤ h → Struck columns rows i factors old new
  struck_all h rows i {factors} {old} {new} w le ge = subst (λ (n : ℕ). Struck columns n i factors old new) (let e : h ≡ rows = omega arith in e) w

  module _ (rows : ℕ) (factors order : List ℕ) where
    pub damaged-none : (l : List ℕ) → DamagedBy factors columns rows order 0 l l
    damaged-none l = record {
      damaged = record { size = refl; kept = λ k out. refl; symbols = λ k less. less };
      altered = λ d m h less. absurd (let z : ⊥ = omega arith in z);
    }

    module _ (n : ℕ) {old new next : List ℕ} (w : DamagedBy factors columns rows order n old new)
        (s : Struck columns rows (get_or order n 0) factors new next) where
      altered-at : Different columns (n + 1) order → (m h : ℕ) → m < n + 1 → Dec (m ≡ n) → Reached columns rows factors old h (get_or order m 0) →
          Differs columns h (get_or order m 0) old next
      altered-at d m h less (yes e) r z =
          s.altered h reached (subst (λ (k : ℕ). get_or next (h * columns + get_or order k 0) 0 ≡ get_or new (h * columns + get_or order k 0) 0) e (z ∙ sym before))
        where
          before : get_or new (h * columns + get_or order m 0) 0 ≡ get_or old (h * columns + get_or order m 0) 0
          before = w.damaged.kept (h * columns + get_or order m 0)
              (λ j g low row c. let t = d.apart m j less (omega arith) (same-column h g _ _ r.column (d.below j (omega arith)) c) in omega arith)

          reached : Reached columns rows factors new h (get_or order n 0)
          reached = subst (λ (k : ℕ). Reached columns rows factors new h (get_or order k 0)) e
              (record { row = r.row; column = r.column; cell = (let t = r.cell in let l = w.damaged.size in omega arith); factor = r.factor })
      altered-at d m h less (no e) r z =
          w.altered (different-first columns n (n + 1) (omega arith) d) m h (omega arith) r (sym after ∙ z)
        where
          after : get_or next (h * columns + get_or order m 0) 0 ≡ get_or new (h * columns + get_or order m 0) 0
          after = s.kept (h * columns + get_or order m 0)
              (λ g low c. e (d.apart m n less (omega arith) (same-column h g _ _ r.column (d.below n (omega arith)) c)))

      next-damaged : DamagedBy factors columns rows order (n + 1) old next
      next-damaged = record {
        damaged = record {
          size = s.size ∙ w.damaged.size;
          kept = λ k out. s.kept k (λ h. out n h (omega arith)) ∙ w.damaged.kept k (λ j h less. out j h (omega arith));
          symbols = λ k less. s.symbols k (w.damaged.symbols k less);
        };
        altered = λ d m h less. altered-at d m h less (ℕ_discrete m n);
      }

    pub damaged-more : (n i : ℕ) {old new next : List ℕ} → DamagedBy factors columns rows order n old new → i ≡ get_or order n 0 →
        Struck columns rows i factors new next → DamagedBy factors columns rows order (n + 1) old next
    damaged-more n i {old} {new} {next} w e s = next-damaged n w (subst (λ (j : ℕ). Struck columns rows j factors new next) e s)

    -- the last column was reached
    pub damaged-all : (m n : ℕ) {old new : List ℕ} → DamagedBy factors columns rows order m old new → m ≤ n → n ≤ m →
        DamagedBy factors columns rows order n old new
    damaged-all m n {old} {new} w le ge = subst (λ (k : ℕ). DamagedBy factors columns rows order k old new) (let e : m ≡ n = omega arith in e) w
