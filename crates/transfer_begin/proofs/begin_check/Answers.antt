-- `begin_check`: the slot in the endpoint's place is the endpoint's, or 7 comes first.
use Rattle.std.proofs.Common.{[], sym, ◌∙◌}
use Rattle.state.specs.Fresh.{slot_at}
use Rattle.state.specs.RefusalsLaws.{first_passed}
use Rattle.state_slots.specs.Slots.{slot_place}
use Rattle.state_call.specs.Turn.{admitted}
use Rattle.transfer_piece.specs.Piece.{begin_own}
use Rattle.transfer_begin.specs.BeginLaws.{check_place}
use Rattle.transfer_begin.proofs.begin_check.Goals as goal

pub returns : goal.returns
returns c =
    let a = c.args in
    let s = a.state.now in
    let e = a.endpoint in
    let own = begin_own s.powered e.index e.incoming a.piece.address a.piece.length a.faults.long a.faults.unfit (slot_at s (slot_place e.index e.incoming)) in
    let passed = rw c.new.ensures at (sym c.admit.ensures ∙ c.in_ok-admit.was) in
    (rw c.slot_place-i.ensures at c.slot_check.ensures)
    ∙ sym (first_passed (admitted a.room s a.events []) own _ passed)
    ∙ check_place a.room s a.events e.index e.incoming a.piece a.faults.long a.faults.unfit
