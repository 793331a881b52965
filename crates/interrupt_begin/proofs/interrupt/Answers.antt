-- Refused, or the first reading is awaited, or handling has ended.
use Rattle.std.proofs.Common.{◌≡◌, Ok, ap, sym, ◌∙◌, length}
use Rattle.state.specs.Refusals.{first_refusal}
use Rattle.ops.specs.WroteLaws.{same, none}
use Rattle.interrupt_asks.specs.Settled.{interrupt_numbers}
use Rattle.interrupt_begin.specs.Begin.{interrupt_conditions, interrupt_call}
use Rattle.interrupt_begin.specs.BeginLaws.{interrupt_refused, interrupt_made, interrupt_says_lem}
use Rattle.interrupt_begin.proofs.interrupt.Goals as goal
use Rattle.interrupt_begin.proofs.interrupt.Goals.{After-admit-check}

checked : (c : After-admit-check) → first_refusal (interrupt_conditions (length c.args.ops.now) c.args.state c.args.events) ≡ c.admit-check.result
checked c = sym (rw c.new.ensures at c.admit-check.ensures)

pub returns-in-Err : goal.returns-in-Err
returns-in-Err c =
    let a = c.args in
    let o = interrupt_refused (length a.ops.now) a.state a.events _ (checked (goal.at.returns-in-Err c).After-admit-check ∙ c.in-Err.is) in
    let x = c.refused.ensures in
    let said = x.answer ∙ o.0 in
    record { answer = said; state = x.state ∙ o.1.0; events = x.events ∙ o.1.1.0; list = same o.1.1.1.0 (rw x.end (none _ 0)); wakes = x.wakes ∙ o.1.1.1.1; numbers = ap interrupt_numbers said ∙ interrupt_says_lem (length a.ops.now) a.state a.events }

pub returns : goal.returns
returns c =
    let a = c.args in
    let e = rw c.first_awaited.ensures at c.settle-ending.ensures in
    let o = interrupt_made (length a.ops.now) a.state a.events (checked (goal.at.returns c).After-admit-check ∙ c.in_default.is) in
    let said : Ok c.settle-ending.result.awaited.next ≡ (interrupt_call (length a.ops.now) a.state a.events).answer = rw e.next o.0 in
    record { answer = said; state = rw (e.wake, e.awaited) o.1.0; events = o.1.1.0; list = same o.1.1.1.0 (none _ 0); wakes = e.wakes ∙ o.1.1.1.1; numbers = ap interrupt_numbers said ∙ interrupt_says_lem (length a.ops.now) a.state a.events }
