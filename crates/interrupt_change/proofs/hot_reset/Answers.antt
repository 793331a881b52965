-- The registers of both calls.
use Rattle.ops.specs.ListsLaws.{◌▹◌}
use Rattle.interrupt_change.proofs.hot_reset.Goals as goal

pub returns-clause-list : goal.returns-clause-list
returns-clause-list c = c.bus_reset.ensures ▹ c.hot_reset_done.ensures
