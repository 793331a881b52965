-- `control_reset`: one slot after the other, where they lie.
use Rattle.bus_reset.specs.ResetLaws.{control_slots}
use Rattle.bus_reset.proofs.control_reset.Goals as goal

pub returns : goal.returns
returns c = rw (c.add_slot.ensures, c.stages_over.ensures, control_slots c.args.state _ _ c.reset.ensures c.reset-2.ensures)
