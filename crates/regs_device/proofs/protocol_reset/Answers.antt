-- The operations of the six calls, one after the other.
use Rattle.ops.specs.ListsLaws.{◌▹◌}
use Rattle.regs_device.proofs.protocol_reset.Goals as goal

pub returns : goal.returns
returns c =
    c.reset_protocol_layer.ensures
    ▹ c.clear_all.ensures
    ▹ c.set_ep0_memory.ensures
    ▹ c.ep0_tx_clear.ensures
    ▹ c.ep0_rx_ready.ensures
    ▹ c.set_address.ensures
