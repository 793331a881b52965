-- Before the turn of an endpoint both directions of those below it are cleared.
use Rattle.std.proofs.Common.{◌-◌}
use Rattle.ops.specs.Lists.{Adds}
use Rattle.ops.specs.Sequence.{up_to}
use Rattle.regs_device.specs.Device.{clear_both}
use Rattle.regs_device.proofs.clear_all.Given as goal

abbrev pub invariant-loop-index : goal.invariant-loop-index
invariant-loop-index l = Adds l.initial.list (up_to clear_both (l.index - 1)) l.list
