-- The world behind a start (docs/REPLAY.md, "Driver, start, power").
-- Assumes nothing.
use Rattle.std.specs.Prelude.{ℕ}
use Rattle.driver_start.specs.Start.{start_call}
use Rattle.world.specs.declared.World.{World}

-- a start leaves its state and its events, and the driver in the making as it was
abbrev pub world_started : World → ℕ → World
world_started w size =
    record w {
      state = (start_call w.state w.events w.driver size).state;
      events = (start_call w.state w.events w.driver size).events;
    }
