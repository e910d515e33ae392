-- What a record is, by the tests of its bytes and of its fields.
use mathlib.Core.Path.{◌≡◌, refl, sym, ap, ap₂, ◌∙◌}
use mathlib.Core.Bool.{Bool, true, false, cond, ◌&&◌}
use mathlib.Core.List.{List, ◌++◌}
use Prim.Native.Nat.{ℕ, ◌+◌, ◌-◌, ◌*◌, ◌%◌, ◌/◌, ◌≤◌, ◌<◌, min}
use native.Mathlib.Nat.{min-eq_left, sub-zero}
use native.Mathlib.Omega.{arith}
use lib.Dec.{leb, eqb}
use lib.ListN.{length, get_or, take, drop, length-drop, take-append-drop}
use lib.Seq.{take_all}
use borrow.Author.Tests.{le-leb, lt-leb, eq-eqb, ne_eqb, eqb-true}
use Rattle.std.specs.Prelude.{Some, None}
use Rattle.reader.specs.Fields.{field_at, field_of, fields_of, Filled}
use Rattle.reader.proofs.Filling.{length_fields}
use Rattle.reader.proofs.Handed.{value_means, none_means}
use Rattle.text.specs.Line.{refusal_line}
use Rattle.record.specs.Line.{output_of, line_of}
use Rattle.record.specs.Record.{Record, bad, sequences, frame, claimed_by, is_whole, of_kind, counted_of, body_of, record_of, fields_left}

module _ (bytes : List ℕ) where
  pub claims : (n : ℕ) → Some n ≡ field_at bytes (2 * 0) → n ≡ claimed_by bytes
  unfolding claimed_by
  claims n e =
      let m = value_means bytes 0 n e in
      m.1 ∙ sym (ap (λ (b : Bool). cond b (field_of bytes 0) 0) (le-leb 2 (length bytes) (let h = m.0 in omega arith)))

  pub claims-nothing : None ≡ field_at bytes (2 * 0) → 0 ≡ claimed_by bytes
  unfolding claimed_by
  claims-nothing e =
      let m = none_means bytes 0 e in
      sym (ap (λ (b : Bool). cond b (field_of bytes 0) 0) (lt-leb 2 (length bytes) (omega arith)))

  module _ (n : ℕ) (claim : n ≡ claimed_by bytes) where
    tests : is_whole bytes ≡ (leb 2 n && (eqb (n % 2) 0 && eqb (length bytes) (2 + n)))
    unfolding is_whole
    tests = ap (λ (k : ℕ). leb 2 k && (eqb (k % 2) 0 && eqb (length bytes) (2 + k))) (sym claim)

    pub short_claim : n < 2 → false ≡ is_whole bytes
    short_claim h = sym (tests ∙ ap (λ (b : Bool). b && (eqb (n % 2) 0 && eqb (length bytes) (2 + n))) (lt-leb 2 n h))

    module _ (long : 2 ≤ n) where
      past-length : is_whole bytes ≡ (eqb (n % 2) 0 && eqb (length bytes) (2 + n))
      past-length = tests ∙ ap (λ (b : Bool). b && (eqb (n % 2) 0 && eqb (length bytes) (2 + n))) (le-leb 2 n long)

      pub odd_claim : (n % 2 ≡ 0 → ⊥) → false ≡ is_whole bytes
      odd_claim h = sym (past-length ∙ ap (λ (b : Bool). b && eqb (length bytes) (2 + n)) (ne_eqb (n % 2) 0 h))

      pub even_claim : n % 2 ≡ 0 → eqb (length bytes) (2 + n) ≡ is_whole bytes
      even_claim h = sym (past-length ∙ ap (λ (b : Bool). b && eqb (length bytes) (2 + n)) (eq-eqb (n % 2) 0 h))

  pub all_claimed : (n : ℕ) → n < 65536 → eqb (length bytes) (2 + n) ≡ true → (2 ≤ length bytes) × (length bytes < 65538)
  all_claimed n h e = let l = eqb-true (length bytes) (2 + n) e in (omega arith, omega arith)

pub bad-line : (r : Record) → r ≡ bad → refusal_line 9 ≡ output_of r
unfolding output_of
bad-line r e = ap output_of (sym e)

rest : (n : ℕ) (xs : List ℕ) → take (length xs - n) (drop n xs) ≡ drop n xs
rest n xs = take_all (length xs - n) (drop n xs) (omega (arith, length-drop n xs))

cond_same : (b c : Bool) → cond b bad (cond c bad bad) ≡ bad
cond_same true c = refl
cond_same false true = refl
cond_same false false = refl

module _ (kind n : ℕ) (counted symbols : List ℕ) where
  pub kind-sequences : kind ≡ 1 → sequences n counted symbols ≡ of_kind kind n counted symbols
  kind-sequences e = rw (eq-eqb kind 1 e) refl

  pub kind-frame : (kind ≡ 1 → ⊥) → frame n counted symbols ≡ of_kind kind n counted symbols
  kind-frame h = rw (ne_eqb kind 1 h) refl

-- what the fields from the kind on say, by the tests of the kind and of the number of fields
module _ (xs : List ℕ) where
  module _ (made : List ℕ → List ℕ → Record) (n : ℕ) where
    pub counted-short : length xs < 3 + n → counted_of made n xs ≡ bad
    unfolding counted_of
    counted-short h = rw (lt-leb (3 + n) (length xs) h) refl

    -- the counted fields and those after them, as parts that end at 3 + n
    pub counted-said : 3 + n ≤ length xs
        → made (take (3 + n - 3) (drop 3 xs)) (take (length xs - (3 + n)) (drop (3 + n) xs)) ≡ counted_of made n xs
    unfolding counted_of
    counted-said h =
        ap₂ made (ap (λ (k : ℕ). take k (drop 3 xs)) (let e : 3 + n - 3 ≡ n = omega arith in e)) (rest (3 + n) xs) ∙
        rw (le-leb (3 + n) (length xs) h) refl

  pub body-short : length xs < 3 → body_of xs ≡ bad
  unfolding body_of
  body-short h =
      rw (counted-short (sequences (get_or xs 1 0)) (get_or xs 2 0) (omega arith), counted-short (frame (get_or xs 2 0)) (get_or xs 1 0) (omega arith))
      (cond_same (eqb (get_or xs 0 0) 1) (eqb (get_or xs 0 0) 2))

  pub body-unknown : (get_or xs 0 0 ≡ 1 → ⊥) → (get_or xs 0 0 ≡ 2 → ⊥) → body_of xs ≡ bad
  unfolding body_of
  body-unknown p q = rw (ne_eqb (get_or xs 0 0) 1 p, ne_eqb (get_or xs 0 0) 2 q) refl

  pub body-sequences : get_or xs 0 0 ≡ 1 → counted_of (of_kind (get_or xs 0 0) (get_or xs 1 0)) (get_or xs 2 0) xs ≡ body_of xs
  unfolding body_of
  body-sequences kind = rw (eq-eqb (get_or xs 0 0) 1 kind) refl

  pub body-frame : get_or xs 0 0 ≡ 2 → counted_of (of_kind (get_or xs 0 0) (get_or xs 2 0)) (get_or xs 1 0) xs ≡ body_of xs
  unfolding body_of
  body-frame kind = rw (ne_eqb (get_or xs 0 0) 1 (λ e. let z : ⊥ = omega arith in z), eq-eqb (get_or xs 0 0) 2 kind) refl

-- a record that is not whole is bad; the fields of a whole one are read into entries enough
module _ (bytes : List ℕ) (b : Bool) (tested : b ≡ is_whole bytes) where
  pub broken-line : b ≡ false → refusal_line 9 ≡ line_of bytes
  unfolding line_of record_of
  broken-line e = bad-line (record_of bytes) (rw (sym tested ∙ e) refl)

  pub broken-left : b ≡ false → (before : List ℕ) → before ≡ fields_left bytes before
  unfolding fields_left
  broken-left e before = rw (sym tested ∙ e) refl

  module _ (t : b ≡ true) (small : length bytes < 65538) (before after : List ℕ) (n : ℕ) (room : 32768 ≤ length before)
      (all : n ≡ min (length (take (length bytes - 2) (drop 2 bytes)) / 2) (length before))
      (f : Filled (take (length bytes - 2) (drop 2 bytes)) before after n) where
    every_field : n ≡ length (fields_of (drop 2 bytes))
    every_field =
        let part = ap length (rest 2 bytes) in
        let d = length-drop 2 bytes in
        all ∙ min-eq_left (omega arith) ∙ ap (λ (l : List ℕ). length l / 2) (rest 2 bytes) ∙ sym (length_fields (drop 2 bytes))

    read : take n after ≡ fields_of (drop 2 bytes)
    read =
        f.read ∙ ap (λ (l : List ℕ). take n (fields_of l)) (rest 2 bytes) ∙
        take_all n (fields_of (drop 2 bytes)) (omega (arith, every_field))

    pub whole-line : output_of (body_of (take (n - 0) after)) ≡ line_of bytes
    unfolding line_of record_of
    whole-line =
        ap (λ (xs : List ℕ). output_of (body_of xs)) (ap (λ (k : ℕ). take k after) (sub-zero n) ∙ read) ∙
        ap output_of (sym (ap (λ (x : Bool). cond x (body_of (fields_of (drop 2 bytes))) bad) (sym tested ∙ t)))

    pub whole-left : after ≡ fields_left bytes before
    unfolding fields_left
    whole-left =
        sym (take-append-drop n after) ∙
        ap₂ ◌++◌ read (f.kept ∙ ap (λ (k : ℕ). drop k before) every_field) ∙
        sym (ap (λ (x : Bool). cond x (fields_of (drop 2 bytes) ++ drop (length (fields_of (drop 2 bytes))) before) before) (sym tested ∙ t))
