-- All registers of a length that generate given sequences, found by trying every list of taps: what the marked examples are compared with.
use Rattle.std.specs.Prelude.{Bool, cond, List, [], ◌∷◌, ◌++◌, map, ℕ, zero, suc, ◌+◌, ◌-◌, eqb, length, get_or}
use Rattle.lists.specs.Tabulate.{tabulate, every, joined}
use Rattle.register.specs.Register.{discrepancy}

-- every list of l residues modulo p, in rising order
unfoldable pub residue_lists : (p l : ℕ) → List (List ℕ)
residue_lists p zero = [] ∷ []
residue_lists p (suc l) = joined (tabulate p (λ a. map (λ xs. a ∷ xs) (residue_lists p l)))

-- whether the register of length l with taps σ generates all of the sequences
unfoldable pub does_generate : (p l : ℕ) (ss : List (List ℕ)) (σ : List ℕ) → Bool
does_generate p l ss σ =
    every (length ss)
    (λ h. every (length (get_or ss h []) - l) (λ k. eqb (discrepancy p l σ (get_or ss h []) (suc (l + k))) 0))

unfoldable pub kept : (List ℕ → Bool) → List (List ℕ) → List (List ℕ)
kept P [] = []
kept P (x ∷ xs) = cond (P x) (x ∷ []) [] ++ kept P xs

-- all registers of length l that generate the sequences
unfoldable pub registers : (p l : ℕ) (ss : List (List ℕ)) → List (List ℕ)
registers p l ss = kept (does_generate p l ss) (map (λ xs. 1 ∷ xs) (residue_lists p l))
