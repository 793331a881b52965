-- `windows`: those of the endpoints seen so far.
use Rattle.std.proofs.Common.{◌-◌}
use Rattle.ops.specs.Lists.{Adds}
use Rattle.ops.specs.Sequence.{up_to}
use Rattle.transfer_window.specs.Window.{window_at}
use Rattle.transfer_begin.proofs.windows.Given as goal

abbrev pub invariant-loop-index : goal.invariant-loop-index
invariant-loop-index l = Adds l.initial.list (up_to (window_at l.state l.window) (l.index - 1)) l.list
