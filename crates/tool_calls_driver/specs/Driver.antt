-- The driver in the making, behind a call (docs/REPLAY.md, "Driver, start, power").
-- Assumes nothing.
use Rattle.std.specs.Prelude.{Bool, Option, Some, None, Result, Ok, Err}
use Rattle.state.specs.declared.Driver.{Driver}
use Rattle.state.specs.declared.EndpointRequest.{EndpointRequest}
use Rattle.state.specs.declared.Refusal.{Refusal}
use Rattle.driver_allocate.specs.Allocate.{allocate_result}

-- where creation is refused, the one of before stays
abbrev pub made_or_kept : Driver → Result Driver Refusal → Driver
made_or_kept kept (Ok made) = made
made_or_kept kept (Err r) = kept

-- without a request nothing is allocated
abbrev pub allocated_by : Driver → Bool → Option EndpointRequest → Driver
allocated_by d incoming (Some request) = (allocate_result d incoming request).driver
allocated_by d incoming None = d
