-- `take`: the slot is taken where it lies.
use Rattle.std.proofs.Common.{ap, ◌∙◌}
use Rattle.transfer_take.specs.Take.{take_numbers}
use Rattle.transfer_take.specs.TakeLaws.{took_parts}
use Rattle.transfer_take.proofs.take.Goals as goal

pub returns : goal.returns
returns c =
    let a = c.args in
    let took = rw (c.take_check-check.ensures, c.new-entry.ensures, c.slot_place-i.ensures) at c.take_slot-answer.ensures in
    let o = took_parts a.state a.events a.endpoint.index a.endpoint.incoming a.unfit a.most took.answer took.slot in
    let x = c.quiet.ensures in
    record { answer = x.answer ∙ o.0; state = x.state ∙ rw c.slot_place-i.ensures o.1.0; wakes = x.wakes ∙ o.1.1.0; numbers = ap take_numbers x.answer ∙ o.1.1.1 }
