-- The registers, one after the other.
use Rattle.ops.specs.ListsLaws.{◌▹◌}
use Rattle.interrupt_link.proofs.warm_status.Goals as goal

pub returns-clause-list : goal.returns-clause-list
returns-clause-list c = rw c.if-not-warm.false (c.bus_reset.ensures ▹ c.go_disabled.ensures ▹ c.delay_cycles.ensures ▹ c.go_disabled-2.ensures)
