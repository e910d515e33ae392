-- Columns taken out of check sums, one after the other.
use Rattle.std.proofs.Common.{◌≡◌, ℕ, suc, ◌+◌, ◌-◌, ◌*◌, ◌%◌, ◌^◌, ◌≤◌, List, length, get_or, sym, refl, ap, ◌∙◌, subst, ap₂, add-one, arith}
use Rattle.plain.proofs.Powers.{mod-is-rem}
use Rattle.plain.proofs.Remainders.{rem-add-mul, rem-mul-rem}
use Rattle.plain.specs.Plain.{Each, rem}
use Rattle.plain.specs.Written.{Wrote}
use Rattle.brute.specs.Erasures.{without, without_column}

without-none : (list : List ℕ) (s : ℕ → ℕ) (j : ℕ) → without list 0 s j ≡ s j
unfolding without
without-none list s j = refl

without-suc : (list : List ℕ) (n : ℕ) (s : ℕ → ℕ) (j : ℕ) → without list (suc n) s j ≡ without_column (get_or list n 0) (without list n s) j
unfolding without
without-suc list n s j = refl

-- a sum less its weight times the one before, computed with the weight reduced
pub taken_out : (i : ℕ) (s : ℕ → ℕ) (j : ℕ) {weight power a b v : ℕ} → power ≡ 3 ^ i % 257 → weight ≡ rem (256 * power) 257 → a ≡ s (j + 1) → b ≡ s j →
    v ≡ rem (a + weight * b) 257 → v ≡ without_column i s j
taken_out i s j {weight} {power} {a} {b} {v} ep ew ea eb ev =
    ev ∙ ap (λ (x : ℕ). rem x 257) (ap₂ ◌+◌ (ea ∙ ap s (add-one j)) (ap₂ ◌*◌ reduced eb ∙ swapped))
    ∙ rem-add-mul (s (suc j)) (s j) (256 * 3 ^ i) 257
    ∙ ap (λ (x : ℕ). rem (s (suc j) + x) 257) (let z : s j * (256 * 3 ^ i) ≡ 256 * 3 ^ i * s j = omega arith in z)
  where
    reduced : weight ≡ rem (256 * 3 ^ i) 257
    reduced = ew ∙ ap (λ (x : ℕ). rem (256 * x) 257) (ep ∙ mod-is-rem (3 ^ i)) ∙ rem-mul-rem 256 (3 ^ i) 257

    swapped : rem (256 * 3 ^ i) 257 * s j ≡ s j * rem (256 * 3 ^ i) 257
    swapped = omega arith

module _ (list old : List ℕ) (n : ℕ) where
  -- the first k columns are taken out of the first n sums
  pub record TakenOut (k : ℕ) (new : List ℕ) : Type 0 where
    pub size : length new ≡ length old
    pub sums : n ≤ length old → Each 0 (n - k) (λ j. get_or new j 0 ≡ without list k (λ m. get_or old m 0) j)

  pub none_out : TakenOut 0 old
  none_out = record { size = refl; sums = λ fits j low high. sym (without-none list (λ m. get_or old m 0) j) }

  pub one_out : (k : ℕ) (new next : List ℕ) → TakenOut k new → (m i : ℕ) → m ≡ n - (k + 1) → i ≡ get_or list k 0 →
      Wrote new next 0 m (without_column i (λ j. get_or new j 0)) → TakenOut (k + 1) next
  one_out k new next t m i em ei w = record {
    size = w.size ∙ t.size;
    sums = λ fits j low high.
        w.within j low (omega arith) (let e = t.size in omega arith)
        ∙ ap (λ (c : ℕ). without_column c (λ q. get_or new q 0) j) ei
        ∙ ap₂ (λ (a b : ℕ). rem (a + 256 * 3 ^ get_or list k 0 * b) 257) (t.sums fits (suc j) (omega arith) (omega arith)) (t.sums fits j low (omega arith))
        ∙ sym (without-suc list k (λ q. get_or old q 0) j) ∙ ap (λ (c : ℕ). without list c (λ q. get_or old q 0) j) (sym (add-one k));
  }

  pub all_out : (k : ℕ) (new : List ℕ) → TakenOut k new → k ≡ length list → n ≤ length old →
      Each 0 (n - length list) (λ j. get_or new j 0 ≡ without list (length list) (λ m. get_or old m 0) j)
  all_out k new t e fits =
      subst (λ (q : ℕ). Each 0 (n - q) (λ j. get_or new j 0 ≡ without list q (λ m. get_or old m 0) j)) e (t.sums fits)
