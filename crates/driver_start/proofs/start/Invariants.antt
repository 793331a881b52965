-- `start`: the slots so far are started where they lie.
use Rattle.std.proofs.Common.{◌≡◌}
use Rattle.driver_start.specs.Start.{started_slots}
use Rattle.driver_start.proofs.start.Given as goal

abbrev pub invariant-loop-i : goal.invariant-loop-i
invariant-loop-i l = l.slot-items ≡ started_slots l.driver l.i l.initial.slot-items
