-- Algorithm 4 of Schmidt and Sidorenko as SPECIFICATION.md, "Registers", states it, on lists of numbers modulo p.
-- Sequences are ordered by falling length and numbered from 0. N is the longest length, n a round from 1 to N.
use Rattle.std.specs.Prelude.{Bool, cond, List, [], ◌∷◌, ℕ, zero, suc, ◌+◌, ◌-◌, max, leb, ltb, eqb, length, get_or}
use Rattle.field.specs.Coefficients.{reduced}
use Rattle.field.specs.Residue.{quotient}
use Rattle.lists.specs.Tabulate.{every}
use Rattle.register.specs.Register.{discrepancy}
use Rattle.register.specs.Sequences.{longest, ordered}

-- what is kept for a sequence h: n_h, l_h, d_h and the taps 0 .. l_h of σ of h
pub record Saved : Type 0 where
  pub place : ℕ
  pub size : ℕ
  pub disc : ℕ
  pub taps : List ℕ

-- the register found so far: l and the taps 0 .. l of σ; and what is kept for each h
pub record State : Type 0 where
  pub size : ℕ
  pub taps : List ℕ
  pub saved : ℕ → Saved

unfoldable pub start : (N : ℕ) (ss : List (List ℕ)) → State
start N ss =
    record {
      size = 0;
      taps = 1 ∷ [];
      saved = λ h. record { place = N - length (get_or ss h []); size = 0; disc = 1; taps = 0 ∷ [] };
    }

-- what is kept, with v in the place of what was kept for h
unfoldable pub with_saved : (ℕ → Saved) → ℕ → Saved → ℕ → Saved
with_saved saved h v g = cond (eqb g h) v (saved g)

-- the register changed by a discrepancy d ≠ 0 at (n, h). The test is n − l > n_h − l_h, and the new length n − (n_h − l_h).
unfoldable pub changed : (p n h d : ℕ) → State → State
changed p n h d st =
    let v : Saved = st.saved h in
    let taps : ℕ → List ℕ = λ l. reduced p l st.taps (quotient p d v.disc) (n - v.place) v.taps in
    let grown : ℕ = n + v.size - v.place in
    cond (ltb (v.place + st.size) (n + v.size))
    (record {
      size = grown;
      taps = taps grown;
      saved = with_saved st.saved h (record { place = n; size = st.size; disc = d; taps = st.taps });
    })
    (record { size = st.size; taps = taps st.size; saved = st.saved })

-- one step (n, h), s being sequence h. The test is n − l > N − N_h, and the discrepancy is that at j = n − N + N_h.
unfoldable pub step : (p N : ℕ) (s : List ℕ) (n h : ℕ) → State → State
step p N s n h st =
    let d : ℕ = discrepancy p st.size st.taps s (n + length s - N) in
    cond (ltb (st.size + (N - length s)) n) (cond (eqb d 0) st (changed p n h d st)) st

-- the steps (n, 0) .. (n, h − 1)
unfoldable pub turn : (p N : ℕ) (ss : List (List ℕ)) (n h : ℕ) → State → State
turn p N ss n zero st = st
turn p N ss n (suc h) st = step p N (get_or ss h []) n h (turn p N ss n h st)

-- the rounds 1 .. n
unfoldable pub rounds : (p N : ℕ) (ss : List (List ℕ)) (n : ℕ) → State
rounds p N ss zero = start N ss
rounds p N ss (suc n) = turn p N ss (suc n) (length ss) (rounds p N ss n)

-- whether the register after n rounds is alone, read off the state: n_h − l_h is at most n − l or N − N_h for every h
unfoldable pub is_alone : (N : ℕ) (ss : List (List ℕ)) (n : ℕ) → State → Bool
is_alone N ss n st =
    every (length ss)
    (λ h. leb (st.saved h).place ((st.saved h).size + max (n - st.size) (N - length (get_or ss h []))))

-- the register found for sequences in the order given, after n rounds of N
unfoldable pub found : (p : ℕ) (ss : List (List ℕ)) (n : ℕ) → State
found p ss n = rounds p (longest ss) (ordered ss) n

unfoldable pub found_alone : (p : ℕ) (ss : List (List ℕ)) (n : ℕ) → Bool
found_alone p ss n = is_alone (longest ss) (ordered ss) n (found p ss n)
