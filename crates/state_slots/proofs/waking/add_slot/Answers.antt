-- `add_slot`: a slot's bit is set where it isn't yet.
use Rattle.std.proofs.Common.{arith}
use Rattle.state_slots.specs.WakingLaws.{add_room}
use Rattle.state_slots.proofs.waking.add_slot.Goals as goal

pub overflow_add-result : goal.overflow_add-result
overflow_add-result c = omega (arith, add_room c.args.slots c.args.i _ c.slot_set-one.ensures (omega arith) c.if-one-eq0.false c.if-slots-one-eq1.false)
