-- `order`: obeyed where its slot lies.
use Rattle.bus_order.specs.OrderLaws.{order_told}
use Rattle.bus_order.proofs.order.Goals as goal

pub returns : goal.returns
returns c =
    let a = c.args in
    let e = rw (c.new-entry.ensures, c.slot_place-i.ensures) at c.obey-obeyed.ensures in
    let t = order_told c.obey-obeyed.result a.ops.now c.obey-obeyed.new.ops a.state a.events a.endpoint.index a.endpoint.incoming a.order e.result e.list in
    record { answer = t.0; state = rw c.slot_place-i.ensures t.1.0; list = t.1.1.0; wakes = t.1.1.1.0; number = t.1.1.1.1 }
