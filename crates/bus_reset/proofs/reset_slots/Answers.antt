-- `reset_slots`: one slot after the other.
use Rattle.std.proofs.Common.{sym}
use Rattle.base.specs.EachLaws.{change_none, change_next, change_not_yet}
use Rattle.state.specs.Fresh.{fresh_slot}
use Rattle.bus_reset.specs.Reset.{slot_after}
use Rattle.bus_reset.proofs.reset_slots.Goals as goal

pub loop-i-init : goal.loop-i-init
loop-i-init c = sym (change_none (slot_after c.args.control) _)

pub loop-i-preserved : goal.loop-i-preserved
loop-i-preserved c =
    let slots = c.args.slots.now in
    let l = c.loop-i in
    let f = slot_after c.args.control in
    let e = rw (l.invariant, change_not_yet f l.i slots fresh_slot) at c.reset.ensures in
    rw (l.invariant, e) (change_next f l.i slots fresh_slot)
