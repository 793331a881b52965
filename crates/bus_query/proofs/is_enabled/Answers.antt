-- `is_enabled`: the slot's flag, of a device that is on.
use Rattle.std.specs.Prelude.{◌&&◌}
use Rattle.bus_query.specs.Query.{enabled_call}
use Rattle.bus_query.proofs.Asked.{asked_told}
use Rattle.bus_query.proofs.is_enabled.Goals as goal

pub returns : goal.returns
unfolding enabled_call
returns c =
    let a = c.args in
    let said = rw (c.new-entry.ensures, c.slot_place.ensures) at c.answer.ensures in
    let t = asked_told (λ x. a.state.powered && x.enabled) a.state a.events a.endpoint.index a.endpoint.incoming _ _ said.answer said.wakes in
    record { answer = t.0; wakes = t.1.0; numbers = t.1.1 }
