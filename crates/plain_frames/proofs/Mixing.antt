-- Lists of different numbers: the numbers in their order, the first entries of a list, and a list with two entries exchanged.
use mathlib.Core.Path.{◌≡◌, sym, ap, ◌∙◌}
use mathlib.Core.List.{List}
use Prim.Native.Nat.{ℕ, ◌≤◌, ◌<◌}
use native.Mathlib.Decide.{ℕ_discrete}
use native.Mathlib.Omega.{arith}
use lib.ListN.{length, get_or, take, set, length-set}
use lib.Seq.{get_or-set_same, get_or-set_other, get_or-take}
use Rattle.plain_frames.specs.Frames.{Different}
use Rattle.plain.specs.Written.{Wrote}

pub numbered : {old new : List ℕ} (n : ℕ) → n ≤ length old → Wrote old new 0 n (λ k. k) → Different n n new
numbered {old} {new} n fits w = record { below = λ k less. let e = at k less in omega arith; apart = λ j k l m e. sym (at j l) ∙ e ∙ at k m }
  where
    at : (k : ℕ) → k < n → get_or new k 0 ≡ k
    at k less = w.within k (omega arith) less (omega arith)

pub different-first : (bound m n : ℕ) {l : List ℕ} → m ≤ n → Different bound n l → Different bound m l
different-first bound m n le d = record { below = λ k less. d.below k (omega arith); apart = λ j k s t. d.apart j k (omega arith) (omega arith) }

pub different-taken : (bound m : ℕ) (l : List ℕ) → Different bound m l → Different bound m (take m l)
different-taken bound m l d = record {
  below = λ k less. let e = get_or-take m l k 0 less in let b = d.below k less in omega arith;
  apart = λ j k s t e. d.apart j k s t (sym (get_or-take m l j 0 s) ∙ e ∙ get_or-take m l k 0 t);
}

module _ (l : List ℕ) (n i j : ℕ) (fits : n ≤ length l) (low : i < n) (high : j < n) where
  -- the place from which the entry at place k comes
  abbrev from : (k : ℕ) → Dec (k ≡ j) → Dec (k ≡ i) → ℕ
  from k (yes p) q = i
  from k (no p) (yes q) = j
  from k (no p) (no q) = k

  from-apart : (a b : ℕ) (p : Dec (a ≡ j)) (q : Dec (a ≡ i)) (s : Dec (b ≡ j)) (t : Dec (b ≡ i)) → from a p q ≡ from b s t → a ≡ b
  from-apart a b (yes p) q (yes s) t e = omega arith
  from-apart a b (yes p) q (no s) (yes t) e = omega arith
  from-apart a b (yes p) q (no s) (no t) e = omega arith
  from-apart a b (no p) (yes q) (yes s) t e = omega arith
  from-apart a b (no p) (yes q) (no s) (yes t) e = omega arith
  from-apart a b (no p) (yes q) (no s) (no t) e = omega arith
  from-apart a b (no p) (no q) (yes s) t e = omega arith
  from-apart a b (no p) (no q) (no s) (yes t) e = omega arith
  from-apart a b (no p) (no q) (no s) (no t) e = e

  abbrev exchanged : List ℕ
  exchanged = set (set l i (get_or l j 0)) j (get_or l i 0)

  after : (k : ℕ) → (k ≡ j → ⊥) → get_or exchanged k 0 ≡ get_or (set l i (get_or l j 0)) k 0
  after k p = get_or-set_other (set l i (get_or l j 0)) j k (get_or l i 0) 0 p

  from_at : (k : ℕ) (p : Dec (k ≡ j)) (q : Dec (k ≡ i)) → k < n → (from k p q < n) × (get_or exchanged k 0 ≡ get_or l (from k p q) 0)
  from_at k (yes p) q less =
      (low, ap (λ (m : ℕ). get_or exchanged m 0) p ∙ get_or-set_same (set l i (get_or l j 0)) j (get_or l i 0) 0 (omega (arith, length-set l i (get_or l j 0))))
  from_at k (no p) (yes q) less =
      (high, after k p ∙ ap (λ (m : ℕ). get_or (set l i (get_or l j 0)) m 0) q ∙ get_or-set_same l i (get_or l j 0) 0 (omega arith))
  from_at k (no p) (no q) less = (less, after k p ∙ get_or-set_other l i k (get_or l j 0) 0 q)

  pub swapped : {next : List ℕ} (bound : ℕ) → next ≡ exchanged → Different bound n l → Different bound n next
  swapped {next} bound e d = record {
    below = λ k less. let s = at k less in let b = d.below _ s.0 in omega arith;
    apart = λ a b s t q.
        from-apart a b (ℕ_discrete a j) (ℕ_discrete a i) (ℕ_discrete b j) (ℕ_discrete b i)
        (d.apart _ _ (at a s).0 (at b t).0 (sym (at a s).1 ∙ q ∙ (at b t).1));
  }
    where
      at : (k : ℕ) → k < n → (from k (ℕ_discrete k j) (ℕ_discrete k i) < n) × (get_or next k 0 ≡ get_or l (from k (ℕ_discrete k j) (ℕ_discrete k i)) 0)
      at k less = let f = from_at k (ℕ_discrete k j) (ℕ_discrete k i) less in (f.0, ap (λ (x : List ℕ). get_or x k 0) e ∙ f.1)
