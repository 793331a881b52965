-- `obey`: made, or refused.
use Rattle.std.proofs.Common.{sym}
use Rattle.ops.specs.WroteLaws.{none}
use Rattle.state_call.specs.Outcome.{or_else}
use Rattle.bus_endpoint.proofs.obey.Goals as goal

pub returns-in-Ok : goal.returns-in-Ok
unfolding or_else
returns-in-Ok c = rw (sym c.in-Ok.ensures) (record { result = c.make.ensures.result; list = c.make.ensures.list })

pub returns-in-Err : goal.returns-in-Err
unfolding or_else
returns-in-Err c = rw (sym c.in-Err.ensures) (record { result = rw c.no_wakes.ensures; list = none _ 0 })
