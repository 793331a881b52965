-- `driver_sound`: the allocations and the memory.
use Rattle.std.proofs.Common.{sym, ◌∙◌}
use Rattle.state_sound.proofs.SoundLaws.{driver_parts}
use Rattle.driver_sound.proofs.driver_sound.Goals as goal

pub returns-then-allocations_sound : goal.returns-then-allocations_sound
returns-then-allocations_sound c =
    c.memory_sound.ensures ∙ (rw (sym c.allocations_sound.ensures ∙ c.if-allocations_sound.true) at (driver_parts c.args.driver))

pub returns-else-allocations_sound : goal.returns-else-allocations_sound
returns-else-allocations_sound c =
    c.if-allocations_sound.false ∙ (rw (sym c.allocations_sound.ensures ∙ c.if-allocations_sound.false) at (driver_parts c.args.driver))
