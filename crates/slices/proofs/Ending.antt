-- After the last round the arrays hold what Algorithm 4 finds.
use mathlib.Core.Path.{◌≡◌, ap, ap₂, ◌∙◌}
use mathlib.Core.List.{List}
use Prim.Native.Nat.{ℕ, suc}
use lib.ListN.{length, take}
use Rattle.register.specs.Algorithm4.{State, is_alone, found, found_alone}
use Rattle.register.specs.Sequences.{longest}
use Rattle.ends.specs.Ends.{alone_mark}
use Rattle.register_step.specs.Parts.{state_of}
use Rattle.rounds.proofs.Marking.{mark-is}
use Rattle.slices.specs.Kept.{Kept, state_at}
use Rattle.slices.specs.Synthesis.{Synthesis, all_rounds, size, parts_in}
use Rattle.slices.proofs.Advancing.{kept-rounds, round-next}

module _ {ss : List (List ℕ)} {x : Synthesis} (kept : Kept ss (longest ss) 0 x) where
  state-is : state_at ss (longest ss) 0 ≡ found 257 ss (longest ss)
  unfolding found
  state-is = round-next ss (longest ss)

  pub ended-size : size x ≡ (found 257 ss (longest ss)).size
  unfolding state_of
  ended-size = kept.reached.state.size ∙ ap (λ (st : State). st.size) state-is

  pub ended-taps : take (suc (size x)) x.taps ≡ (found 257 ss (longest ss)).taps
  unfolding state_of
  ended-taps = kept.reached.state.taps ∙ ap (λ (st : State). st.taps) state-is

  pub ended-mark : alone_mark (all_rounds x) x.lengths (length ss) (size x) x.places x.sizes ≡ found_alone 257 ss (longest ss)
  unfolding found_alone
  ended-mark =
      ap (λ (N : ℕ). alone_mark N x.lengths (length ss) (size x) x.places x.sizes) (kept-rounds kept)
      ∙ mark-is (longest ss) x.lengths (length ss) x.symbols (parts_in x) (state_at ss (longest ss) 0) kept.reached.state
      ∙ ap₂ (λ (l : List (List ℕ)) (st : State). is_alone (longest ss) l (longest ss) st) kept.sequences state-is
