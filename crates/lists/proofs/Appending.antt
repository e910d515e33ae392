-- Lists written one after the other over zeros: what stands there after some of them.
use mathlib.Core.Path.{◌≡◌, sym, ap, ap₂, ◌∙◌}
use mathlib.Core.List.{List, ◌++◌, append_assoc}
use Prim.Native.Nat.{ℕ, ◌+◌, ◌-◌, ◌≤◌}
use native.Mathlib.Numerals.{add-one}
use native.Mathlib.Omega.{arith}
use lib.ListN.{length, take, drop, length-append, length-replicate}
use lib.Seq.{take_at, drop_at}
use borrow.Rule.Slice.PartMut.{put_mid}
use Rattle.lists.specs.Tabulate.{tabulate, joined}
use Rattle.lists.proofs.Joined.{joined-zero, joined-more}
use Rattle.lists.proofs.Zeros.{zeros, drop-zeros}

-- n places, and part h the list that is written as number h
module _ (n : ℕ) (part : ℕ → List ℕ) where
  -- the lists before number h
  abbrev before : ℕ → List ℕ
  before h = joined (tabulate h part)

  -- with h lists written, `at` places are taken, and the rest is 0
  pub record Appended (h at : ℕ) (l : List ℕ) : Type 0 where
    pub room : at ≤ n
    pub place : length (before h) ≡ at
    pub entries : l ≡ before h ++ zeros (n - at)

  pub appended-none : Appended 0 0 (zeros n)
  appended-none = record {
    room = omega arith;
    place = ap length (joined-zero part);
    entries =
        ap (λ (l : List ℕ). l ++ zeros n) (sym (joined-zero part))
        ∙ ap (λ (k : ℕ). before 0 ++ zeros k) (let q : n ≡ n - 0 = omega arith in q);
  }

  pub appended-length : (h at : ℕ) (l : List ℕ) → Appended h at l → length l ≡ n
  appended-length h at l a =
      let some = length-append (before h) (zeros (n - at)) in
      let rest = length-replicate {A = ℕ} (n - at) 0 in
      let p = a.place in
      let r = a.room in
      ap length a.entries ∙ (let q : length (before h ++ zeros (n - at)) ≡ n = omega arith in q)

  pub appended-more : (h at to : ℕ) (l y : List ℕ) → Appended h at l → to ≡ at + length (part h) → to ≤ n → y ≡ part h
      → Appended (h + 1) to (put_mid at (to - at) l y)
  appended-more h at to l y a e fits same = record {
    room = fits;
    place = ap length more ∙ length-append (before h) (part h) ∙ ap (λ (k : ℕ). k + length (part h)) a.place ∙ sym e;
    entries =
        ap₂ (λ (b z : List ℕ). b ++ (y ++ drop (to - at) z)) (ap (take at) a.entries ∙ take_at (before h) (zeros (n - at)) at a.place)
        (ap (drop at) a.entries ∙ drop_at (before h) (zeros (n - at)) at a.place)
        ∙ ap₂ (λ (b z : List ℕ). before h ++ (b ++ z)) same
        (ap (λ (m : ℕ). drop (to - at) (zeros m)) (let q : n - at ≡ to - at + (n - to) = omega arith in q) ∙ drop-zeros (to - at) (n - to))
        ∙ sym (append_assoc (before h) (part h) (zeros (n - to)))
        ∙ ap (λ (b : List ℕ). b ++ zeros (n - to)) (sym more);
  }
    where
      more : before (h + 1) ≡ before h ++ part h
      more = ap before (add-one h) ∙ joined-more h part
