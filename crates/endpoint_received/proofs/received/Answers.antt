-- `received`: taken by what stands in the endpoint's place.
use Rattle.std.proofs.Common.{refl, ap, ◌∙◌, length}
use Rattle.endpoint_parts.specs.Parts.{put}
use Rattle.endpoint_choice.specs.Choice.{asked_of, place}
use Rattle.endpoint_answer.specs.Answers.{move_numbers}
use Rattle.endpoint_received.specs.ReceivedLaws.{received_place, received_copied, received_numbers_lem}
use Rattle.endpoint_received.proofs.received.Goals as goal

pub returns : goal.returns
returns c =
    let a = c.args in
    let k = asked_of a.request (length a.bytes.now) in
    let o = received_place a.state a.events a.index k a.own.now a.request.own_address in
    let copied = received_copied a.state a.events a.index k a.own.now a.request.own_address a.bytes.now refl in
    let asked = c.of_length-asked.ensures in
    let room = rw asked at c.most-room.ensures in
    let unfit = c.is_unfit-unfit.ensures in
    let here = c.slot_place.ensures in
    let r = c.take-taken.ensures in
    let took = rw (unfit, room, here) at r.answer in
    let says = rw (took, asked, here) at c.received_answer.ensures ∙ o.0 in
    let stored = rw (took, asked, here) at c.store.ensures in
    record { answer = says; state = rw (unfit, room, here) at r.state ∙ o.1.0; wakes = rw (unfit, room, here) at r.wakes ∙ o.1.1; numbers = ap move_numbers says ∙ received_numbers_lem a.state a.events a.index k a.own.now a.request.own_address; lent = stored ∙ ap (put a.bytes.now (place k)) copied }
