-- Refused, busy, or closed.
use Rattle.std.proofs.Common.{◌≡◌, refl, ap, sym, ◌∙◌, length, arith}
use Rattle.state.specs.Refusals.{first_refusal}
use Rattle.transfer_take.specs.Take.{take_numbers}
use Rattle.control_stage.specs.Stage.{ep0_unfit}
use Rattle.control_take_out.specs.TakeOut.{take_out_conditions}
use Rattle.control_take_out.specs.TakeOutLaws.{take_out_lent, take_out_refused, take_out_busy, take_out_closed}
use Rattle.control_take_out.proofs.take_out.Goals as goal
use Rattle.control_take_out.proofs.take_out.Goals.{After-stage_check-check}

checked : (c : After-stage_check-check) → first_refusal (take_out_conditions c.args.state c.args.events c.args.generation (ep0_unfit c.args.state c.args.address (length c.args.ep0.now))) ≡ c.stage_check-check.result
checked c = sym (rw (c.is_unfit-unfit.ensures, c.is_served-served.ensures, c.new.ensures) at c.stage_check-check.ensures)

pub returns-in-Err : goal.returns-in-Err
returns-in-Err c =
    let a = c.args in
    let o = take_out_refused a.state a.events a.generation (length a.out.now) a.ep0.now a.address _ (checked (goal.at.returns-in-Err c).After-stage_check-check ∙ c.in-Err.is) in
    let x = c.answered.ensures in
    record { answer = x.answer ∙ o.0; state = x.state ∙ o.1.0; wakes = x.wakes ∙ o.1.1.0; numbers = ap take_numbers x.answer ∙ o.1.1.1.1; lent = rw (sym o.1.1.1.0) refl }

pub returns-then-not-is_done : goal.returns-then-not-is_done
returns-then-not-is_done c =
    let a = c.args in
    let o = take_out_busy a.state a.events a.generation (length a.out.now) a.ep0.now a.address (checked (goal.at.returns-then-not-is_done c).After-stage_check-check ∙ c.in_default.is) (sym c.is_done.ensures ∙ c.if-not-is_done.true) in
    let x = c.answered-then-not-is_done.ensures in
    record { answer = x.answer ∙ o.0; state = x.state ∙ o.1.0; wakes = x.wakes ∙ o.1.1.0; numbers = ap take_numbers x.answer ∙ o.1.1.1.1; lent = rw (sym o.1.1.1.0) refl }

pub returns : goal.returns
returns c =
    let a = c.args in
    let o = take_out_closed a.state a.events a.generation (length a.out.now) a.ep0.now a.address (checked (goal.at.returns c).After-stage_check-check ∙ c.in_default.is) (sym c.is_done.ensures ∙ c.if-not-is_done.false) in
    let x = c.answered-2.ensures in
    let y = c.copy_out-answer.ensures in
    record { answer = x.answer ∙ (y.answer ∙ o.0); state = rw c.idle.ensures at x.state ∙ o.1.0; wakes = x.wakes ∙ o.1.1.0; numbers = ap take_numbers (x.answer ∙ y.answer) ∙ o.1.1.1.1; lent = rw (sym o.1.1.1.0) y.lent }
