-- `poll`: 26 and 24, or the next event.
use Rattle.std.proofs.Common.{◌≡◌, ap, sym, ◌∙◌}
use Rattle.state.specs.Refusals.{first_refusal}
use Rattle.bus_events.specs.Poll.{poll_conditions, poll_numbers}
use Rattle.bus_events.specs.EventLaws.{poll_refused, poll_made}
use Rattle.bus_events.proofs.poll.Goals as goal
use Rattle.bus_events.proofs.poll.Goals.{After-admit-check}

checked : (c : After-admit-check) → first_refusal (poll_conditions c.args.state c.args.events.now) ≡ c.admit-check.result
checked c = sym (rw c.new.ensures at c.admit-check.ensures)

pub returns-in-Err : goal.returns-in-Err
returns-in-Err c =
    let a = c.args in
    let o = poll_refused a.state a.events.now _ (checked (goal.at.returns-in-Err c).After-admit-check ∙ c.in-Err.is) in
    let x = c.quiet.ensures in
    record { answer = x.answer ∙ o.0; events = o.1.0; wakes = x.wakes ∙ o.1.1.0; numbers = ap poll_numbers x.answer ∙ o.1.1.1 }

pub returns : goal.returns
returns c =
    let a = c.args in
    let o = poll_made a.state a.events.now (checked (goal.at.returns c).After-admit-check ∙ c.in_default.is) in
    let x = c.quiet-2.ensures in
    record { answer = x.answer ∙ rw c.next_pending-pending.ensures o.0; events = rw (c.without.ensures, c.next_pending-pending.ensures) o.1.0; wakes = x.wakes ∙ o.1.1.0; numbers = ap poll_numbers x.answer ∙ rw c.next_pending-pending.ensures o.1.1.1 }
