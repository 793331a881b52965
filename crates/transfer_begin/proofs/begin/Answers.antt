-- `begin`: the windows and then the first chain, with the slot stored where it lies.
use Rattle.std.proofs.Common.{rules, ◌≡◌, length, arith, ap, sym, ◌∙◌}
use Rattle.std.proofs.lemmas.List.{get_or-set_same}
use Rattle.base.specs.EachLaws.{length_mapped}
use Rattle.ops.specs.ListsLaws.{◌▹◌, lent}
use Rattle.ops.specs.WroteLaws.{same}
use Rattle.state.specs.Fresh.{fresh_slot}
use Rattle.state.specs.Numbers.{check_number}
use Rattle.state.specs.Setters.{with_slot}
use Rattle.state_slots.specs.Slots.{slot_of}
use Rattle.state_call.specs.OutcomeLaws.{admitted_room}
use Rattle.transfer_window.specs.WindowLaws.{windows_room}
use Rattle.transfer_piece.specs.Piece.{begin_own}
use Rattle.transfer_begin.specs.BeginLaws.{begin_stored}
use Rattle.transfer_begin.proofs.begin.Goals as goal
use Rattle.transfer_begin.proofs.begin.Goals.{After-slot_place-i}

sixteen : (c : After-slot_place-i) → length c.args.state.endpoints ≡ 16
sixteen c = search length_mapped

pub queue-requires : goal.queue-requires
queue-requires c =
    let a = c.args in
    let e = a.endpoint in
    let own = begin_own a.state.powered e.index e.incoming a.piece.address a.piece.length a.faults.long a.faults.unfit (slot_of a.state e.index e.incoming) in
    let lent = admitted_room (length a.ops.now) a.state a.events own (sym c.begin_check-check.ensures ∙ c.in_default.is) in
    let w = c.windows.ensures in
    let n = c.new-list.ensures in
    omega (arith, ap length n.numbers, n.end, w.room, w.end, windows_room (with_slot a.state c.slot_place-i.result c.begun_slot.result), lent)

pub returns : goal.returns
returns c =
    let a = c.args in
    let e = a.endpoint in
    let here = get_or-set_same a.state.endpoints c.slot_place-i.result c.begun_slot.result fresh_slot (omega (arith, sixteen (goal.at.returns c).After-slot_place-i, c.slot_place-i.ensures)) in
    let q = rw here at c.queue.ensures in
    let o = begin_stored (length a.ops.now) a.state a.events e.index e.incoming a.piece a.faults.long a.faults.unfit _ _ _ (sym c.begin_check-check.ensures ∙ c.in_default.is) c.slot_place-i.ensures c.begun_slot.ensures q.slot in
    let x = c.wrote.ensures in
    record { answer = x.answer ∙ o.0; state = x.state ∙ o.1.0; list = same o.1.1.0 (rw x.end (search (lent c.new-list.ensures.numbers c.new-list.ensures.end (c.windows.ensures ▹ q.list), rules))); wakes = x.wakes ∙ o.1.1.1.0; number = ap check_number x.answer ∙ o.1.1.1.1 }
