-- The alone mark read off the arrays is that of the state that they hold.
use mathlib.Core.Path.{◌≡◌, sym, ap, ap₂, ◌∙◌}
use mathlib.Core.List.{List}
use Prim.Native.Nat.{ℕ, ◌+◌, ◌-◌, max}
use lib.Dec.{leb}
use lib.ListN.{length}
use Rattle.lists.proofs.Tabulated.{every_ext}
use Rattle.register.specs.Algorithm4.{Saved, State, is_alone}
use Rattle.register_step.specs.Parts.{Parts, state_of}
use Rattle.ends.specs.Ends.{alone_mark}
use Rattle.rounds.specs.Rounds.{Agree, sequences_in}
use Rattle.rounds.proofs.Running.{length_part, length-sequences, sequence-at}

pub mark-is : (N : ℕ) (lengths : List ℕ) (k : ℕ) (blocks : List ℕ) (x : Parts) (st : State) →
    Agree k (state_of x) st → alone_mark N lengths k x.length x.places x.sizes ≡ is_alone N (sequences_in lengths k blocks) N st
unfolding alone_mark is_alone state_of
mark-is N lengths k blocks x st agree =
    rw (length-sequences lengths k blocks)
    (every_ext k _ _ (λ h b.
    ap₂ (λ (v : Saved) (m : ℕ). leb v.place (v.size + m)) (agree.saved h b)
    (ap₂ (λ (l n : ℕ). max (N - l) (N - n)) agree.size (sym (ap length (sequence-at lengths k blocks h b) ∙ length_part lengths k blocks h)))))
