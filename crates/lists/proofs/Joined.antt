-- Lists one after the other: one more, the place of each, how long they are together, and what all their entries share.
use mathlib.Core.Path.{◌≡◌, refl, sym, ap, ◌∙◌}
use mathlib.Core.List.{List, [], ◌∷◌, ◌++◌, append_assoc, append-nil}
use Prim.Native.Nat.{ℕ, zero, suc, ◌*◌, ◌≤◌, ◌<◌}
use native.Mathlib.Decide.{ℕ_discrete}
use native.Mathlib.Omega.{arith}
use lib.ListN.{length, get_or, take, drop, replicate, length-append}
use lib.Seq.{take_at, drop_at}
use Rattle.lists.proofs.Tabulated.{tabulate-zero, tabulate-suc}
use Rattle.lists.proofs.Totals.{total-zero, total-suc}
use Rattle.lists.specs.Tabulate.{tabulate, joined}
use Rattle.lists.specs.Total.{total}

module _ {ℓ} {A : Type ℓ} where
  pub joined-zero : (f : ℕ → List A) → joined (tabulate 0 f) ≡ []
  unfolding joined
  joined-zero f = ap joined (tabulate-zero f)

  joined-suc : (n : ℕ) (f : ℕ → List A) → joined (tabulate (suc n) f) ≡ f 0 ++ joined (tabulate n (λ h. f (suc h)))
  unfolding joined
  joined-suc n f = ap joined (tabulate-suc n f)

  -- one list more stands at the end
  pub joined-more : (n : ℕ) (f : ℕ → List A) → joined (tabulate (suc n) f) ≡ joined (tabulate n f) ++ f n
  joined-more zero f =
      joined-suc 0 f ∙ ap (λ l. f 0 ++ l) (joined-zero (λ h. f (suc h))) ∙ append-nil (f 0) ∙ ap (λ l. l ++ f 0) (sym (joined-zero f))
  joined-more (suc n) f =
      joined-suc (suc n) f ∙ ap (λ l. f 0 ++ l) (joined-more n (λ h. f (suc h)))
      ∙ sym (append_assoc (f 0) (joined (tabulate n (λ h. f (suc h)))) (f (suc n)))
      ∙ ap (λ l. l ++ f (suc n)) (sym (joined-suc n f))

  -- the lists up to h stand first
  joined-first : (f : ℕ → List A) (h n : ℕ) → h < n → (rest : List A) × (joined (tabulate n f) ≡ joined (tabulate (suc h) f) ++ rest)
  joined-first f h zero l = absurd (let z : ⊥ = omega arith in z)
  joined-first f h (suc n) l = pick (ℕ_discrete h n) (joined-first f h n)
    where
      First : ℕ → Type ℓ
      First k = (rest : List A) × (joined (tabulate k f) ≡ joined (tabulate (suc h) f) ++ rest)

      pick : Dec (h ≡ n) → (h < n → First n) → First (suc n)
      pick (yes e) before = ([], ap (λ (k : ℕ). joined (tabulate (suc k) f)) (sym e) ∙ sym (append-nil (joined (tabulate (suc h) f))))
      pick (no e) before =
          let (rest, q) = before (omega arith) in
          (rest ++ f n, joined-more n f ∙ ap (λ (l : List A). l ++ f n) q ∙ append_assoc (joined (tabulate (suc h) f)) rest (f n))

  -- so that list h is found again at the place where it begins
  pub joined-part : (f : ℕ → List A) (h n : ℕ) → h < n → (rest : List A)
      → take (length (f h)) (drop (length (joined (tabulate h f))) (joined (tabulate n f) ++ rest)) ≡ f h
  joined-part f h n l rest =
      let (more, q) = joined-first f h n l in
      let before : List A = joined (tabulate h f) in
      ap (λ (x : List A). take (length (f h)) (drop (length before) (x ++ rest))) (q ∙ ap (λ (x : List A). x ++ more) (joined-more h f))
      ∙ ap (λ (x : List A). take (length (f h)) (drop (length before) x)) (append_assoc (before ++ f h) more rest ∙ append_assoc before (f h) (more ++ rest))
      ∙ ap (take (length (f h))) (drop_at before (f h ++ (more ++ rest)) (length before) refl)
      ∙ take_at (f h) (more ++ rest) (length (f h)) refl

  pub length-joined : (b n : ℕ) (f : ℕ → List A) → ((h : ℕ) → h < n → length (f h) ≤ b) → length (joined (tabulate n f)) ≤ n * b
  length-joined b zero f short = let e = ap length (joined-zero f) in omega arith
  length-joined b (suc n) f short =
      let e = ap length (joined-suc n f) ∙ length-append (f 0) (joined (tabulate n (λ h. f (suc h)))) in
      let l = short 0 (omega arith) in
      let ih = length-joined b n (λ h. f (suc h)) (λ h p. short (suc h) (omega arith)) in
      omega arith

  pub length-joined-total : (size : ℕ → ℕ) (n : ℕ) (f : ℕ → List A) → ((h : ℕ) → h < n → length (f h) ≡ size h)
      → length (joined (tabulate n f)) ≡ total n size
  length-joined-total size zero f each = ap length (joined-zero f) ∙ sym (total-zero size)
  length-joined-total size (suc n) f each =
      let e = ap length (joined-more n f) ∙ length-append (joined (tabulate n f)) (f n) in
      let ih = length-joined-total size n f (λ h l. each h (omega arith)) in
      omega (arith, each n (omega arith), total-suc n size)

  module _ (P : A → Type ℓ) (d : A) where
    pub append-each : (xs ys : List A) → ((i : ℕ) → P (get_or xs i d)) → ((i : ℕ) → P (get_or ys i d)) → (i : ℕ) → P (get_or (xs ++ ys) i d)
    append-each [] ys p q i = q i
    append-each (x ∷ xs) ys p q zero = p 0
    append-each (x ∷ xs) ys p q (suc i) = append-each xs ys (λ k. p (suc k)) q i

    pub tabulate-each : P d → (n : ℕ) (f : ℕ → A) → ((i : ℕ) → P (f i)) → (i : ℕ) → P (get_or (tabulate n f) i d)
    tabulate-each z zero f p i = rw tabulate-zero z
    tabulate-each z (suc n) f p zero = rw (tabulate-suc n f) (p 0)
    tabulate-each z (suc n) f p (suc i) = rw (tabulate-suc n f) (tabulate-each z n (λ k. f (suc k)) (λ k. p (suc k)) i)

    pub replicate-each : P d → (n i : ℕ) → P (get_or (replicate n d) i d)
    replicate-each z zero i = z
    replicate-each z (suc n) zero = z
    replicate-each z (suc n) (suc i) = replicate-each z n i

    pub joined-each : P d → (n : ℕ) (f : ℕ → List A) → ((h i : ℕ) → P (get_or (f h) i d)) → (i : ℕ) → P (get_or (joined (tabulate n f)) i d)
    joined-each z zero f p i = rw joined-zero z
    joined-each z (suc n) f p i =
        rw (joined-suc n f) (append-each (f 0) (joined (tabulate n (λ h. f (suc h)))) (p 0) (joined-each z n (λ h. f (suc h)) (λ h. p (suc h))) i)
