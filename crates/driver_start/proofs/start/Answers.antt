-- `start`: the slots so far are started where they lie.
use Rattle.std.proofs.Common.{ap, sym}
use Rattle.state.specs.declared.State.{State}
use Rattle.state.specs.Setters.{with_slots}
use Rattle.driver_start.specs.StartLaws.{started_none, started_next}
use Rattle.driver_start.proofs.start.Goals as goal

pub loop-i-init : goal.loop-i-init
loop-i-init c = ap (λ (t : State). t.endpoints) (sym (started_none c.args.state c.args.driver))

pub loop-i-preserved : goal.loop-i-preserved
loop-i-preserved c =
    let s = c.args.state in
    let l = c.loop-i in
    ap (λ (t : State). t.endpoints) (started_next s (with_slots s l.slot-items) c.args.driver l.i c.start_slot.result (ap (with_slots s) l.invariant) c.start_slot.ensures)
