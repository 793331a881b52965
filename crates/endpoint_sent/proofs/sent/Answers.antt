-- `sent`: taken by what stands in the endpoint's place.
use Rattle.std.proofs.Common.{length}
use Rattle.endpoint_choice.specs.Choice.{asked_of}
use Rattle.endpoint_sent.specs.SentLaws.{sent_place, sent_numbers_lem}
use Rattle.endpoint_sent.proofs.sent.Goals as goal

pub returns : goal.returns
returns c =
    let a = c.args in
    let k = asked_of a.request (length a.bytes.now) in
    let o = sent_place a.state a.events a.index k a.request.own_address (length a.own.now) in
    let n = sent_numbers_lem a.state a.events a.index k a.request.own_address (length a.own.now) in
    record { answer = cc; state = cc; wakes = cc; numbers = cc }
