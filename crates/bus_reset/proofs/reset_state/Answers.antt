-- `reset_state`: all slots, and then what else a bus reset changes.
use Rattle.bus_reset.specs.ResetLaws.{reset_both}
use Rattle.bus_reset.proofs.reset_state.Goals as goal

pub returns : goal.returns
returns c = rw (c.stages_over.ensures, c.reset_slots.ensures, reset_both)
