-- `report`: the slot and the set are stored where they lie; where no slot has the number, nothing follows.
use Rattle.std.proofs.Common.{◌≡◌, length, refl, ap, ◌∙◌}
use Rattle.ops.specs.ListsLaws.{◌▹◌, none, same}
use Rattle.base.specs.EachLaws.{length_mapped}
use Rattle.state.specs.Fresh.{slot_at}
use Rattle.state.specs.Setters.{limit_of}
use Rattle.state_slots.specs.Slots.{slot_number}
use Rattle.state_slots.specs.SlotsLaws.{no_slot}
use Rattle.transfer_window.specs.Window.{in_hand_count, window_of}
use Rattle.transfer_step.specs.Step.{report_step}
use Rattle.transfer_report.specs.Report.{report_state, report_ops, slots_counted}
use Rattle.transfer_report.specs.ReportLaws.{stored_after, list_after_lem}
use Rattle.transfer_report.proofs.report.Goals as goal
use Rattle.transfer_report.proofs.report.Goals.{After-window_of-window}

-- the window is that of the state that came in
own : (c : After-window_of-window) → c.window_of-window.result ≡ window_of (in_hand_count c.args.state (slots_counted c.args.endpoint.incoming))
own c = c.window_of-window.ensures ∙ ap window_of (rw c.slots_counted-most.ensures at c.in_hand_count.ensures)

pub returns-then-i-ge16 : goal.returns-then-i-ge16
unfolding report_state report_ops
returns-then-i-ge16 c =
    let sixteen : length c.args.state.endpoints ≡ 16 = search length_mapped in
    rw (no_slot c.args.state _ sixteen (rw c.slot_number-i.ensures at c.if-i-ge16.true)) (record { state = refl; list = c.chain_ack.ensures ▹ none _ })

pub returns : goal.returns
unfolding report_state report_ops
returns c =
    let s = c.args.state in
    let e = c.args.endpoint in
    let step = report_step (limit_of s) e.incoming c.args.report.packets c.args.report.last (slot_at s (slot_number e.index e.incoming)) in
    let f = c.report_slot-followed.ensures in
    let window = own (goal.at.returns c).After-window_of-window in
    record {
      state = rw (f.slot, f.wake, c.slot_number-i.ensures) (stored_after s (slot_number e.index e.incoming) e.incoming step);
      list = c.chain_ack.ensures ▹ same (rw (window, c.slot_number-i.ensures) (list_after_lem s e.index e.incoming step)) f.list;
    }
