-- `send`: nothing left, or a piece begun and its bytes in place.
use Rattle.std.proofs.Common.{refl, ap, sym, ◌∙◌, length}
use Rattle.std.proofs.lemmas.Bool.{not-true, not-false}
use Rattle.ops.specs.WroteLaws.{same, none}
use Rattle.endpoint_choice.specs.Choice.{asked_of}
use Rattle.endpoint_answer.specs.Answers.{move_numbers}
use Rattle.endpoint_send.specs.SendLaws.{send_nothing, send_begun}
use Rattle.endpoint_send.proofs.send.Goals as goal

pub returns-then-not-plan : goal.returns-then-not-plan
returns-then-not-plan c =
    let a = c.args in
    let k = asked_of a.request (length a.bytes.now) in
    let asked = c.of_length-asked.ensures in
    let plan = c.send_plan-plan.ensures in
    let place = c.slot_place.ensures in
    let o = send_nothing (length a.ops.now) a.state a.events a.index k a.bytes.now a.request.own_address (length a.own.now) (not-true _ (rw (plan, asked, place) at c.if-not-plan.true)) in
    let n = c.nothing.ensures in
    let says = rw (plan, asked, place) at n.answer in
    record { answer = says ∙ o.0; state = n.state ∙ o.1.0; list = same o.1.1.0 (rw n.end (none _ 0)); wakes = n.wakes ∙ o.1.1.1.0; numbers = ap move_numbers says ∙ o.1.1.1.1.0; lent = rw (sym o.1.1.1.1.1) refl }

pub returns : goal.returns
returns c =
    let a = c.args in
    let k = asked_of a.request (length a.bytes.now) in
    let asked = c.of_length-asked.ensures in
    let plan = c.send_plan-plan.ensures in
    let place = c.slot_place.ensures in
    let o = send_begun (length a.ops.now) a.state a.events a.index k a.bytes.now a.request.own_address (length a.own.now) c.hand_over.new.own c.hand_over.auto.own refl (not-false _ (rw (plan, asked, place) at c.if-not-plan.false)) in
    let r = c.begin-begun.ensures in
    let answer = rw (plan, asked, place) at r.answer in
    let says = rw (answer, plan, asked, place) at c.begun_piece.ensures in
    record { answer = says ∙ o.0; state = rw (plan, asked, place) at r.state ∙ o.1.0; list = same o.1.1.0 (rw (plan, asked, place) at r.list); wakes = rw (plan, asked, place) at r.wakes ∙ o.1.1.1.0; numbers = ap move_numbers says ∙ o.1.1.1.1.0; lent = rw (sym o.1.1.1.1.1) (rw (answer, plan, asked, place) at c.hand_over.ensures) }
