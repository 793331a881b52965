-- `is_stalled`: the slot's flag.
use Rattle.bus_query.specs.Query.{stalled_call}
use Rattle.bus_query.proofs.Asked.{asked_told}
use Rattle.bus_query.proofs.is_stalled.Goals as goal

pub returns : goal.returns
unfolding stalled_call
returns c =
    let a = c.args in
    let said = rw (c.new-entry.ensures, c.slot_place.ensures) at c.answer.ensures in
    let t = asked_told (λ x. x.stalled) a.state a.events a.endpoint.index a.endpoint.incoming _ _ said.answer said.wakes in
    record { answer = t.0; wakes = t.1.0; numbers = t.1.1 }
