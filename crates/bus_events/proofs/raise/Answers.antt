-- `raise`: 26, 24 and 11, or the byte.
use Rattle.std.proofs.Common.{◌≡◌, ap, sym, ◌∙◌}
use Rattle.state.specs.Numbers.{check_number}
use Rattle.state.specs.Refusals.{first_refusal}
use Rattle.bus_events.specs.Raise.{raise_conditions}
use Rattle.bus_events.specs.EventLaws.{raise_refused, raise_made}
use Rattle.bus_events.proofs.raise.Goals as goal
use Rattle.bus_events.proofs.raise.Goals.{After-raise_check-check}

checked : (c : After-raise_check-check) → first_refusal (raise_conditions c.args.state c.args.events.now c.args.event) ≡ c.raise_check-check.result
checked c = sym (rw c.new.ensures at c.raise_check-check.ensures)

pub returns-in-Err : goal.returns-in-Err
returns-in-Err c =
    let a = c.args in
    let o = raise_refused a.state a.events.now a.event _ (checked (goal.at.returns-in-Err c).After-raise_check-check ∙ c.in-Err.is) in
    let x = c.quiet.ensures in
    record { answer = x.answer ∙ o.0; events = o.1.0; wakes = x.wakes ∙ o.1.1.0; number = ap check_number x.answer ∙ o.1.1.1 }

pub returns : goal.returns
returns c =
    let a = c.args in
    let o = raise_made a.state a.events.now a.event (checked (goal.at.returns c).After-raise_check-check ∙ c.in_default.is) in
    let x = c.quiet-2.ensures in
    record { answer = x.answer ∙ o.0; events = rw c.raise_byte.ensures o.1.0; wakes = x.wakes ∙ o.1.1.0; number = ap check_number x.answer ∙ o.1.1.1 }
