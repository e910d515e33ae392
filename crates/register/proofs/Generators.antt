-- A list of taps generates the sequences without their last N − n symbols exactly where its polynomial generates the ordered and aligned sequences
-- up to position n. N is the longest length; the order does not matter, since it is asked of every sequence.
use mathlib.Core.Path.{◌≡◌, sym, ap, subst, ◌∙◌}
use mathlib.Core.List.{List, []}
use Prim.Native.Nat.{ℕ, suc, ◌-◌, ◌≤◌, ◌<◌}
use native.Mathlib.Nat.{mod-eq_of_lt}
use native.Mathlib.Decide.{dec_lt}
use native.Mathlib.Omega.{arith}
use lib.ListN.{length, get_or, take, length-map, get_or-map, get_or-eq_default}
use lib.Seq.{take-nil}
use Rattle.register.proofs.Theory.Generates.{Sequences}
use Rattle.register.proofs.Theory.Shortest.{Generates as GeneratesUpTo}
use Rattle.field.specs.Prime.{Prime}
use Rattle.field.proofs.Bridge.{res, res_one, res_same}
use Rattle.field.proofs.Instance.{residues}
use Rattle.field.proofs.Polynomials.{poly, poly_degree}
use Rattle.register.specs.Register.{Generates, Generator}
use Rattle.register.specs.Sequences.{longest, shortened, ordered}
use Rattle.register.proofs.Aligned.{sequences, generates-aligned, aligned-generates}
use Rattle.register.proofs.Ordering.{All, all-ordered, ordered-all, longest-bounds}

shortened-at : (k : ℕ) (ss : List (List ℕ)) (h : ℕ) → get_or (shortened k ss) h [] ≡ take (length (get_or ss h []) - k) (get_or ss h [])
unfolding shortened
shortened-at k ss h =
    ap (get_or (shortened k ss) h) (sym (take-nil (0 - k))) ∙ get_or-map (λ s. take (length s - k) s) ss h []

length-shortened : (k : ℕ) (ss : List (List ℕ)) → length (shortened k ss) ≡ length ss
unfolding shortened
length-shortened k ss = length-map ss (λ s. take (length s - k) s)

-- also past the last sequence
pub within-longest : (ss : List (List ℕ)) (h : ℕ) → length (get_or (ordered ss) h []) ≤ longest ss
within-longest ss h = pick (dec_lt h (length (ordered ss)))
  where
    pick : Dec (h < length (ordered ss)) → length (get_or (ordered ss) h []) ≤ longest ss
    pick (yes inside) = all-ordered (λ s. length s ≤ longest ss) ss (longest-bounds ss) h inside
    pick (no past) = rw (get_or-eq_default (ordered ss) [] (let h : length (ordered ss) ≤ h = omega arith in h)) (omega arith)

module _ (p : ℕ) (prime : Prime p) (ss : List (List ℕ)) (n : ℕ) (round : n ≤ longest ss) (l : ℕ) (σ : List ℕ) where
  abbrev N : ℕ
  N = longest ss

  abbrev Q : Sequences (residues p prime).ring.car
  Q = sequences p prime N (ordered ss)

  -- σ generates a sequence without its last N − n symbols
  abbrev Shortened : List ℕ → Type 0
  Shortened s = Generates p l σ (take (length s - (N - n)) s)

  pub generator-poly : Generator p l (shortened (N - n) ss) σ → GeneratesUpTo (residues p prime) Q (poly p prime σ) l n
  generator-poly g =
      let taps : length σ ≡ suc l = omega (arith, g.register.taps) in
      let each : All Shortened ss =
      λ h b. subst (Generates p l σ) (shortened-at (N - n) ss h) (g.generates h (rw length-shortened b)) in
      record {
        one = ap (res p prime) g.register.first ∙ res_one p prime;
        degree = poly_degree p prime l σ taps;
        zero = λ h m b asked within.
            generates-aligned p prime N l σ (get_or (ordered ss) h []) taps (within-longest ss h) n round
            (all-ordered Shortened ss each h b) m asked within;
      }

  pub poly-generator : length σ ≡ suc l → ((i : ℕ) → get_or σ i 0 < p) → GeneratesUpTo (residues p prime) Q (poly p prime σ) l n
      → Generator p l (shortened (N - n) ss) σ
  poly-generator taps small g =
      let each : All Shortened (ordered ss) =
      λ h b. aligned-generates p prime N l σ (get_or (ordered ss) h []) taps (within-longest ss h) n round (λ m. g.zero h m b) in
      record {
        register = record {
          taps = omega arith;
          first = sym (mod-eq_of_lt (small 0)) ∙ (res_same p prime (get_or σ 0 0) 1).0 (g.one ∙ sym (res_one p prime)) ∙ mod-eq_of_lt prime.two_or_more;
          residues = λ i _. small i;
        };
        generates = λ h b.
            subst (Generates p l σ) (sym (shortened-at (N - n) ss h))
            (ordered-all Shortened ss each h (rw length-shortened at b));
      }
