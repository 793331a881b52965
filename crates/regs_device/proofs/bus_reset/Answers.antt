-- The operations of both calls.
use Rattle.ops.specs.ListsLaws.{◌▹◌}
use Rattle.regs_device.proofs.bus_reset.Goals as goal

pub returns : goal.returns
returns c = c.protocol_reset.ensures ▹ c.link_power_allow.ensures
