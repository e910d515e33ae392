-- A record is bad exactly for one of its five reasons; the others say sequences or a frame, by the places of their fields.
use mathlib.Core.Path.{◌≡◌, refl, sym, ap, ap₂, ◌∙◌}
use mathlib.Core.Logic.{◌⊎◌, inl, inr, ◌↔◌}
use mathlib.Core.Bool.{Bool, true, false, cond, ◌&&◌}
use mathlib.Core.List.{List}
use Prim.Native.Nat.{ℕ, ◌+◌, ◌-◌, ◌*◌, ◌/◌, ◌%◌, ◌≤◌, ◌<◌}
use native.Mathlib.Decide.{dec_lt, ℕ_discrete}
use native.Mathlib.Omega.{arith}
use lib.ListN.{length, get_or, take, drop, length-drop}
use lib.Seq.{get_or-drop}
use borrow.Author.Tests.{le-leb, eq-eqb, ne_eqb}
use Rattle.lists.proofs.Filling.{take-tabulate}
use Rattle.lists.proofs.Tabulated.{length-tabulate, get_d_tabulate, tabulate_ext, tabulate-get_or}
use Rattle.lists.specs.Tabulate.{tabulate}
use Rattle.reader.specs.Fields.{field_of, fields_of}
use Rattle.record.specs.Record.{bad, sequences, frame, claimed_by, is_whole, counted_of, body_of, record_of}
use Rattle.record.proofs.Parsing.{short_claim, odd_claim, counted-short, body-short, body-unknown}
use Rattle.lines.specs.Demands.{size_of, kind_of, fields_from, OfOneRecord, UnknownKind, Bad}
use Rattle.lines.specs.Demands.{lengths_of, sequence_symbols, check_counts_of, frame_symbols}
use Rattle.lines.specs.Streams.{IsWhole}
use Rattle.lines.proofs.Streams.{claimed_said, not-all}

field_after : (r : List ℕ) (k : ℕ) → field_of (drop 2 r) k ≡ field_of r (1 + k)
unfolding field_of
field_after r k =
    ap₂ (λ (a b : ℕ). a + 256 * b)
    (get_or-drop 2 r (2 * k) 0 ∙ ap (λ (n : ℕ). get_or r n 0) (let e : 2 + 2 * k ≡ 2 * (1 + k) = omega arith in e))
    (get_or-drop 2 r (2 * k + 1) 0 ∙ ap (λ (n : ℕ). get_or r n 0) (let e : 2 + (2 * k + 1) ≡ 2 * (1 + k) + 1 = omega arith in e))

-- n fields from the kind on, of a record r that has them all
module _ (r : List ℕ) (n : ℕ) where
  abbrev xs : List ℕ
  xs = fields_from r 1 n

  width : length xs ≡ n
  width = length-tabulate n (λ i. field_of r (1 + i))

  at : (k : ℕ) → k < n → get_or xs k 0 ≡ field_of r (1 + k)
  at k h = get_d_tabulate n (λ i. field_of r (1 + i)) k 0 h

  counted : (c : ℕ) → 3 + c ≤ n → take c (drop 3 xs) ≡ fields_from r 4 c
  counted c h =
      let w = length-drop 3 xs in let l = width in
      take-tabulate c (drop 3 xs) (omega arith) ∙
      tabulate_ext c _ _ (λ i b. get_or-drop 3 xs i 0 ∙ at (3 + i) (omega arith) ∙ ap (field_of r) (let e : 1 + (3 + i) ≡ 4 + i = omega arith in e))

  after : (c : ℕ) → 3 + c ≤ n → drop (3 + c) xs ≡ fields_from r (4 + c) (n - 3 - c)
  after c h =
      let w = length-drop (3 + c) xs in let l = width in
      let m : length (drop (3 + c) xs) ≡ n - 3 - c = omega arith in
      sym (tabulate-get_or (drop (3 + c) xs) 0) ∙
      ap (λ (k : ℕ). tabulate k (λ i. get_or (drop (3 + c) xs) i 0)) m ∙
      tabulate_ext (n - 3 - c) _ _ (λ i b.
      get_or-drop (3 + c) xs i 0 ∙ at (3 + c + i) (omega arith) ∙ ap (field_of r) (let e : 1 + (3 + c + i) ≡ 4 + c + i = omega arith in e))

said-sequences : (xs : List ℕ) → get_or xs 0 0 ≡ 1 → 3 + get_or xs 2 0 ≤ length xs
    → body_of xs ≡ sequences (get_or xs 1 0) (take (get_or xs 2 0) (drop 3 xs)) (drop (3 + get_or xs 2 0) xs)
unfolding body_of counted_of
said-sequences xs k h = rw (eq-eqb (get_or xs 0 0) 1 k, le-leb (3 + get_or xs 2 0) (length xs) h) refl

said-frame : (xs : List ℕ) → get_or xs 0 0 ≡ 2 → 3 + get_or xs 1 0 ≤ length xs
    → body_of xs ≡ frame (get_or xs 2 0) (take (get_or xs 1 0) (drop 3 xs)) (drop (3 + get_or xs 1 0) xs)
unfolding body_of counted_of
said-frame xs k h =
    rw (ne_eqb (get_or xs 0 0) 1 (λ e. let z : ⊥ = omega arith in z), eq-eqb (get_or xs 0 0) 2 k, le-leb (3 + get_or xs 1 0) (length xs) h) refl

unsaid_sequences : (xs : List ℕ) → get_or xs 0 0 ≡ 1 → length xs < 3 + get_or xs 2 0 → body_of xs ≡ bad
unfolding body_of
unsaid_sequences xs k h = rw (eq-eqb (get_or xs 0 0) 1 k) (counted-short xs (sequences (get_or xs 1 0)) (get_or xs 2 0) h)

unsaid_frame : (xs : List ℕ) → get_or xs 0 0 ≡ 2 → length xs < 3 + get_or xs 1 0 → body_of xs ≡ bad
unfolding body_of
unsaid_frame xs k h =
    rw (ne_eqb (get_or xs 0 0) 1 (λ e. let z : ⊥ = omega arith in z), eq-eqb (get_or xs 0 0) 2 k) (counted-short xs (frame (get_or xs 2 0)) (get_or xs 1 0) h)

broken : (r : List ℕ) → false ≡ is_whole r → record_of r ≡ bad
unfolding record_of
broken r e = ap (λ (b : Bool). cond b (body_of (fields_of (drop 2 r))) bad) (sym e)

-- a whole record of two bytes or more and even
module _ (r : List ℕ) (whole : IsWhole r) (two : 2 ≤ size_of r) (even : size_of r % 2 ≡ 0) where
  is-whole : is_whole r ≡ true
  unfolding is_whole
  is-whole =
      let c = claimed_said r whole.0 in
      ap₂ ◌&&◌ (le-leb 2 (claimed_by r) (omega arith))
      (ap₂ ◌&&◌ (eq-eqb (claimed_by r % 2) 0 (ap (λ (k : ℕ). k % 2) c ∙ even)) (eq-eqb (length r) (2 + claimed_by r) (omega (arith, whole.1))))

  body : record_of r ≡ body_of (fields_from r 1 (size_of r / 2))
  unfolding record_of fields_of
  body =
      let l = length-drop 2 r in
      ap (λ (b : Bool). cond b (body_of (fields_of (drop 2 r))) bad) is-whole ∙
      ap body_of
      (ap (λ (n : ℕ). tabulate n (field_of (drop 2 r))) (ap (λ (n : ℕ). n / 2) (let e : length (drop 2 r) ≡ size_of r = omega (arith, whole.1) in e)) ∙
      tabulate_ext (size_of r / 2) _ _ (λ i h. field_after r i))

  abbrev ys : List ℕ
  ys = fields_from r 1 (size_of r / 2)

  kind : get_or ys 0 0 ≡ kind_of r
  kind = at r (size_of r / 2) 0 (omega arith)

  unknown-bad : UnknownKind r → record_of r ≡ bad
  unknown-bad (p, q) = body ∙ body-unknown ys (λ e. p (sym kind ∙ e)) (λ e. q (sym kind ∙ e))

  shorter-bad : size_of r < 6 → record_of r ≡ bad
  shorter-bad h = body ∙ body-short ys (omega (arith, width r (size_of r / 2)))

  module _ (six : 6 ≤ size_of r) where
    second : get_or ys 1 0 ≡ field_of r 2
    second = at r (size_of r / 2) 1 (omega arith)

    third : get_or ys 2 0 ≡ field_of r 3
    third = at r (size_of r / 2) 2 (omega arith)

    short-sequences : kind_of r ≡ 1 → size_of r < 6 + 2 * field_of r 3 → record_of r ≡ bad
    short-sequences k h = body ∙ unsaid_sequences ys (kind ∙ k) (omega (arith, third, width r (size_of r / 2)))

    short-frame : kind_of r ≡ 2 → size_of r < 6 + 2 * field_of r 2 → record_of r ≡ bad
    short-frame k h = body ∙ unsaid_frame ys (kind ∙ k) (omega (arith, second, width r (size_of r / 2)))

    says-sequences : kind_of r ≡ 1 → 6 + 2 * field_of r 3 ≤ size_of r → record_of r ≡ sequences (field_of r 2) (lengths_of r) (sequence_symbols r)
    says-sequences k h =
        let fits : 3 + field_of r 3 ≤ size_of r / 2 = omega arith in
        body ∙ said-sequences ys (kind ∙ k) (omega (arith, third, width r (size_of r / 2))) ∙
        ap₂ (λ (p c : ℕ). sequences p (take c (drop 3 ys)) (drop (3 + c) ys)) second third ∙
        ap₂ (sequences (field_of r 2)) (counted r (size_of r / 2) (field_of r 3) fits) (after r (size_of r / 2) (field_of r 3) fits)

    says-frame : kind_of r ≡ 2 → 6 + 2 * field_of r 2 ≤ size_of r → record_of r ≡ frame (field_of r 3) (check_counts_of r) (frame_symbols r)
    says-frame k h =
        let fits : 3 + field_of r 2 ≤ size_of r / 2 = omega arith in
        body ∙ said-frame ys (kind ∙ k) (omega (arith, second, width r (size_of r / 2))) ∙
        ap₂ (λ (n c : ℕ). frame n (take c (drop 3 ys)) (drop (3 + c) ys)) third second ∙
        ap₂ (frame (field_of r 3)) (counted r (size_of r / 2) (field_of r 2) fits) (after r (size_of r / 2) (field_of r 2) fits)

-- ---- the five reasons

-- what is so of a record that is not bad, by its kind
pub record SaysSequences (r : List ℕ) : Type 0 where
  pub whole : IsWhole r
  pub even : size_of r % 2 ≡ 0
  pub six : 6 ≤ size_of r
  pub kind : kind_of r ≡ 1
  pub fits : 6 + 2 * field_of r 3 ≤ size_of r
  pub says : record_of r ≡ sequences (field_of r 2) (lengths_of r) (sequence_symbols r)

pub record SaysFrame (r : List ℕ) : Type 0 where
  pub whole : IsWhole r
  pub even : size_of r % 2 ≡ 0
  pub six : 6 ≤ size_of r
  pub kind : kind_of r ≡ 2
  pub fits : 6 + 2 * field_of r 2 ≤ size_of r
  pub says : record_of r ≡ frame (field_of r 3) (check_counts_of r) (frame_symbols r)

pub sequences-not-bad : (r : List ℕ) → SaysSequences r → Bad r → ⊥
sequences-not-bad r g = no
  where
    no : Bad r → ⊥
    no (inl h) = let s = g.six in omega arith
    no (inr (inl h)) = let e = g.even in omega arith
    no (inr (inr (inl h))) = h.0 g.kind
    no (inr (inr (inr (inl (inl h))))) = let s = g.six in omega arith
    no (inr (inr (inr (inl (inr (inl h)))))) = omega (arith, h.1, g.fits)
    no (inr (inr (inr (inl (inr (inr h)))))) = omega (arith, h.0, g.kind)
    no (inr (inr (inr (inr (inl h))))) = omega (arith, h, g.whole.0)
    no (inr (inr (inr (inr (inr h))))) = omega (arith, h, g.whole.1)

pub frame-not-bad : (r : List ℕ) → SaysFrame r → Bad r → ⊥
frame-not-bad r g = no
  where
    no : Bad r → ⊥
    no (inl h) = let s = g.six in omega arith
    no (inr (inl h)) = let e = g.even in omega arith
    no (inr (inr (inl h))) = h.1 g.kind
    no (inr (inr (inr (inl (inl h))))) = let s = g.six in omega arith
    no (inr (inr (inr (inl (inr (inl h)))))) = omega (arith, h.0, g.kind)
    no (inr (inr (inr (inl (inr (inr h)))))) = omega (arith, h.1, g.fits)
    no (inr (inr (inr (inr (inl h))))) = omega (arith, h, g.whole.0)
    no (inr (inr (inr (inr (inr h))))) = omega (arith, h, g.whole.1)

-- by its tests: bad for a reason, or not
abbrev pub Told : List ℕ → Type 0
Told r = (Bad r × (record_of r ≡ bad)) ⊎ (SaysSequences r ⊎ SaysFrame r)

told-whole : (r : List ℕ) → IsWhole r → Told r
told-whole r whole = pick (dec_lt (size_of r) 2) (ℕ_discrete (size_of r % 2) 1)
  where
    short : size_of r < 2 → record_of r ≡ bad
    short h = broken r (short_claim r (claimed_by r) refl (omega (arith, h, claimed_said r whole.0)))

    odd : 2 ≤ size_of r → size_of r % 2 ≡ 1 → record_of r ≡ bad
    odd l h =
        let c = claimed_said r whole.0 in
        broken r (odd_claim r (size_of r) (sym c) l (λ e. let z : ⊥ = omega arith in z))

    kinds : 2 ≤ size_of r → size_of r % 2 ≡ 0 → Dec (size_of r < 6) → Dec (kind_of r ≡ 1) → Dec (kind_of r ≡ 2) → Dec (size_of r < 6 + 2 * field_of r 3)
        → Dec (size_of r < 6 + 2 * field_of r 2) → Told r
    kinds l e (yes s) one two a b = inl (inr (inr (inr (inl (inl s)))), shorter-bad r whole l e s)
    kinds l e (no s) (yes k) two (yes a) b =
        inl (inr (inr (inr (inl (inr (inl (k, a)))))), short-sequences r whole l e (omega arith) k a)
    kinds l e (no s) (yes k) two (no a) b =
        let six : 6 ≤ size_of r = omega arith in let fits : 6 + 2 * field_of r 3 ≤ size_of r = omega arith in
        inr (inl (record { whole = whole; even = e; six = six; kind = k; fits = fits; says = says-sequences r whole l e six k fits }))
    kinds l e (no s) (no k) (yes t) a (yes b) =
        inl (inr (inr (inr (inl (inr (inr (t, b)))))), short-frame r whole l e (omega arith) t b)
    kinds l e (no s) (no k) (yes t) a (no b) =
        let six : 6 ≤ size_of r = omega arith in let fits : 6 + 2 * field_of r 2 ≤ size_of r = omega arith in
        inr (inr (record { whole = whole; even = e; six = six; kind = t; fits = fits; says = says-frame r whole l e six t fits }))
    kinds l e (no s) (no k) (no t) a b = inl (inr (inr (inl (k, t))), unknown-bad r whole l e (k, t))

    pick : Dec (size_of r < 2) → Dec (size_of r % 2 ≡ 1) → Told r
    pick (yes h) o = inl (inl h, short h)
    pick (no h) (yes o) = inl (inr (inl o), odd (omega arith) o)
    pick (no h) (no o) =
        kinds (omega arith) (omega arith) (dec_lt (size_of r) 6) (ℕ_discrete (kind_of r) 1) (ℕ_discrete (kind_of r) 2) (dec_lt (size_of r) (6 + 2 * field_of r 3))
        (dec_lt (size_of r) (6 + 2 * field_of r 2))

pub told : (r : List ℕ) → OfOneRecord r → Told r
told r one = pick (dec_lt (length r) 2) (dec_lt (length r) (2 + size_of r))
  where
    pick : Dec (length r < 2) → Dec (length r < 2 + size_of r) → Told r
    pick (yes h) d = inl (inr (inr (inr (inr (inl h)))), broken r (not-all r (inl h)))
    pick (no h) (yes d) = inl (inr (inr (inr (inr (inr d)))), broken r (not-all r (inr d)))
    pick (no h) (no d) = told-whole r (omega arith, omega (arith, one (omega arith)))

pub bad_exactly : (r : List ℕ) → OfOneRecord r → (record_of r ≡ bad) ↔ Bad r
bad_exactly r one = (to (told r one), from (told r one))
  where
    sequences_differ : (p : ℕ) (lengths symbols : List ℕ) → sequences p lengths symbols ≡ bad → ⊥
    sequences_differ p lengths symbols e = let z : ◌≡◌ {A = ℕ} 0 1 = cc in omega arith

    frame-differs : (n : ℕ) (checks symbols : List ℕ) → frame n checks symbols ≡ bad → ⊥
    frame-differs n checks symbols e = let z : ◌≡◌ {A = ℕ} 0 1 = cc in omega arith

    to : Told r → record_of r ≡ bad → Bad r
    to (inl (b, e)) h = b
    to (inr (inl g)) h = absurd (sequences_differ _ _ _ (sym g.says ∙ h))
    to (inr (inr g)) h = absurd (frame-differs _ _ _ (sym g.says ∙ h))

    from : Told r → Bad r → record_of r ≡ bad
    from (inl (b, e)) h = e
    from (inr (inl g)) h = absurd (sequences-not-bad r g h)
    from (inr (inr g)) h = absurd (frame-not-bad r g h)
