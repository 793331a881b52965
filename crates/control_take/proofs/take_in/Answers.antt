-- Refused, busy, or done.
use Rattle.std.proofs.Common.{◌≡◌, ap, sym, ◌∙◌}
use Rattle.state.specs.Refusals.{first_refusal}
use Rattle.transfer_take.specs.Take.{take_numbers}
use Rattle.control_take.specs.Take.{take_in_conditions}
use Rattle.control_take.specs.TakeLaws.{take_in_refused, take_in_busy, take_in_done}
use Rattle.control_take.proofs.take_in.Goals as goal
use Rattle.control_take.proofs.take_in.Goals.{After-stage_check-check}

checked : (c : After-stage_check-check) → first_refusal (take_in_conditions c.args.state c.args.events c.args.generation) ≡ c.stage_check-check.result
checked c = sym (rw (c.is_served-served.ensures, c.new.ensures) at c.stage_check-check.ensures)

pub returns-in-Err : goal.returns-in-Err
returns-in-Err c =
    let a = c.args in
    let o = take_in_refused a.state a.events a.generation _ (checked (goal.at.returns-in-Err c).After-stage_check-check ∙ c.in-Err.is) in
    let x = c.answered.ensures in
    record { answer = x.answer ∙ o.0; state = x.state ∙ o.1.0; wakes = x.wakes ∙ o.1.1.0; numbers = ap take_numbers x.answer ∙ o.1.1.1.1 }

pub returns-then-not-is_done : goal.returns-then-not-is_done
returns-then-not-is_done c =
    let a = c.args in
    let o = take_in_busy a.state a.events a.generation (checked (goal.at.returns-then-not-is_done c).After-stage_check-check ∙ c.in_default.is) (sym c.is_done.ensures ∙ c.if-not-is_done.true) in
    let x = c.answered-then-not-is_done.ensures in
    record { answer = x.answer ∙ o.0; state = x.state ∙ o.1.0; wakes = x.wakes ∙ o.1.1.0; numbers = ap take_numbers x.answer ∙ o.1.1.1.1 }

pub returns : goal.returns
returns c =
    let a = c.args in
    let o = take_in_done a.state a.events a.generation (checked (goal.at.returns c).After-stage_check-check ∙ c.in_default.is) (sym c.is_done.ensures ∙ c.if-not-is_done.false) in
    let x = c.answered-2.ensures in
    record { answer = x.answer ∙ o.0; state = rw c.idle.ensures at x.state ∙ o.1.0; wakes = x.wakes ∙ o.1.1.0; numbers = ap take_numbers x.answer ∙ o.1.1.1.1 }
