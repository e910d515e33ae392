-- `shortest` answers and leaves the register that Algorithm 4 finds.
use mathlib.Core.List.{List}
use mathlib.Core.Path.{◌≡◌, subst, sym, ◌∙◌}
use Prim.Native.Nat.{ℕ, ◌+◌, ◌≤◌}
use native.Mathlib.Omega.{arith}
use lib.ListN.{length, get_or-replicate, length-replicate}
use lib.Seq.{length-take-le}
use Rattle.refusal.specs.Outcome.{passed, outcome}
use Rattle.sequences.specs.Tests.{tests}
use Rattle.finder.proofs.Accepted.{Accepted, accepted}
use Rattle.rounds.proofs.Starting.{reached-start}
use Rattle.finder.proofs.Synthesis.{sortable, startable, reversible, taken, running, size-within, taps-room, buffer_room, finds, finds-same}
use Rattle.finder.proofs.find.shortest.Goals as goal
use Rattle.finder.proofs.find.shortest.Goals.{After-rounds}

-- what is known of the input, of the modulus as it is worked out
fine : {p q : ℕ} {lengths symbols : List ℕ} {room : ℕ} → q ≡ p → outcome (tests p lengths symbols room) ≡ passed → Accepted q lengths symbols room
fine {lengths = lengths} {symbols = symbols} {room = room} same ok =
    subst (λ (q : ℕ). Accepted q lengths symbols room) (sym same) (accepted _ _ _ _ ok)

-- ---- the needs

pub worked_out-f-requires : goal.worked_out-f-requires
worked_out-f-requires c = taken (accepted _ _ _ _ c.requires)

pub by_length-order-requires : goal.by_length-order-requires
by_length-order-requires c = sortable (fine c.worked_out-f.ensures.0 c.requires)

pub all_backwards-requires : goal.all_backwards-requires
all_backwards-requires c =
    (reversible (fine c.worked_out-f.ensures.0 c.requires) c.longest-most.ensures c.by_length-order.ensures, length-replicate {A = ℕ} 1152 0)

pub start-requires : goal.start-requires
start-requires c =
    startable (fine c.worked_out-f.ensures.0 c.requires) c.longest-most.ensures c.by_length-order.ensures

pub rounds-requires : goal.rounds-requires
rounds-requires c =
    let r = running (fine c.worked_out-f.ensures.0 c.requires) c.longest-most.ensures c.by_length-order.ensures _ c.all_backwards.ensures in
    let known = c.worked_out-f.ensures in
    let p = c.args.p in
    record {
      posed = record {
        worked_out = known.1;
        moduli = record { width = length-replicate {A = ℕ} 144 p; each = λ i b. get_or-replicate {A = ℕ} 144 i p 0 b ∙ sym known.0 };
        running = r;
      };
      made = reached-start r c.start.ensures known.1.unit;
    }

pub overflow_add-e : goal.overflow_add-e
overflow_add-e c =
    let known = fine c.worked_out-f.ensures.0 c.requires in
    let most = c.longest-most.ensures in
    let stands = c.by_length-order.ensures in
    let size = size-within known most stands _ c.all_backwards.ensures c.rounds.ensures in
    record { fits = omega (arith, (startable known most stands).longest) }

-- ---- the taps found have room in the buffer

room : (c : After-rounds) → c.rounds.new.state.length + 1 ≤ length c.args.taps.now
room c = buffer_room (fine c.worked_out-f.ensures.0 c.requires) c.longest-most.ensures c.by_length-order.ensures _ c.all_backwards.ensures c.rounds.ensures

held : (c : After-rounds) → c.rounds.new.state.length + 1 ≤ length c.rounds.new.state.taps
held c = taps-room (fine c.worked_out-f.ensures.0 c.requires) c.longest-most.ensures c.by_length-order.ensures _ c.all_backwards.ensures c.rounds.ensures

pub slice_bounds-copy_from_slice-end : goal.slice_bounds-copy_from_slice-end
slice_bounds-copy_from_slice-end c = room (goal.at.slice_bounds-copy_from_slice-end c).After-rounds

pub slice_bounds-copy_from_slice-end-2 : goal.slice_bounds-copy_from_slice-end-2
slice_bounds-copy_from_slice-end-2 c = sym (length-take-le _ _ (room (goal.at.slice_bounds-copy_from_slice-end-2 c).After-rounds))

pub shared_ref_as_front-copy_from_slice : goal.shared_ref_as_front-copy_from_slice
shared_ref_as_front-copy_from_slice c =
    omega (arith, held (goal.at.shared_ref_as_front-copy_from_slice c).After-rounds, c.rounds.ensures.ended.whole.taps)

pub copy_from_slice-requires : goal.copy_from_slice-requires
copy_from_slice-requires c =
    let found = (goal.at.copy_from_slice-requires c).After-rounds in
    length-take-le _ _ (room found) ∙ sym (length-take-le _ _ (held found))

pub alone-requires : goal.alone-requires
alone-requires c =
    startable (fine c.worked_out-f.ensures.0 c.requires) c.longest-most.ensures c.by_length-order.ensures

pub returns : goal.returns
returns c =
    let same = c.worked_out-f.ensures.0 in
    let passes =
    subst (λ (q : ℕ). outcome (tests q c.args.lengths.now c.args.symbols.now (length c.args.taps.now)) ≡ passed) (sym same) c.requires
    in
    finds-same same
    (finds (fine c.worked_out-f.ensures.0 c.requires) c.longest-most.ensures c.by_length-order.ensures _ c.all_backwards.ensures
    c.rounds.ensures passes _ c.alone.ensures (omega arith) c.copy_from_slice.ensures.after)
