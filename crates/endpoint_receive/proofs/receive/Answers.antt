-- `receive`: begun by what stands in the endpoint's place.
use Rattle.std.proofs.Common.{refl, ap, ◌∙◌, length}
use Rattle.ops.specs.WroteLaws.{same}
use Rattle.endpoint_choice.specs.Choice.{asked_of}
use Rattle.endpoint_answer.specs.Answers.{move_numbers}
use Rattle.endpoint_receive.specs.ReceiveLaws.{receive_begun}
use Rattle.endpoint_receive.proofs.receive.Goals as goal

pub returns : goal.returns
returns c =
    let a = c.args in
    let k = asked_of a.request (length a.bytes.now) in
    let o = receive_begun (length a.ops.now) a.state a.events a.index k a.request.own_address (length a.own.now) a.bytes.now a.own.now refl refl in
    let asked = c.of_length-asked.ensures in
    let plan = c.receive_plan-plan.ensures in
    let place = c.slot_place.ensures in
    let r = c.begin-begun.ensures in
    let begun = rw (rw (plan, asked, place) at r.answer, plan, asked, place) at c.begun_piece.ensures in
    record { answer = begun ∙ o.0; state = rw (plan, asked, place) at r.state ∙ o.1.0; list = same o.1.1.0 (rw (plan, asked, place) at r.list); wakes = rw (plan, asked, place) at r.wakes ∙ o.1.1.1.0; numbers = ap move_numbers begun ∙ o.1.1.1.1 }
