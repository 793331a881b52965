-- `reset_slots`: the slots so far are reset where they lie.
use Rattle.std.proofs.Common.{◌≡◌}
use Rattle.base.specs.Each.{change}
use Rattle.bus_reset.specs.Reset.{slot_after}
use Rattle.bus_reset.proofs.reset_slots.Given as goal

abbrev pub invariant-loop-i : goal.invariant-loop-i
invariant-loop-i l = l.slots ≡ change (slot_after l.control) l.i l.initial.slots
