-- Refused, too late, or stalled.
use Rattle.std.proofs.Common.{rules, ◌≡◌, ap, sym, ◌∙◌, length}
use Rattle.ops.specs.WroteLaws.{same, none}
use Rattle.state.specs.Refusals.{first_refusal}
use Rattle.control_stage.specs.Stage.{stage_numbers}
use Rattle.control_reject.specs.Reject.{reject_conditions}
use Rattle.control_reject.specs.RejectLaws.{reject_refused, reject_made, reject_unanswered}
use Rattle.control_reject.proofs.reject.Goals as goal
use Rattle.control_reject.proofs.reject.Goals.{After-admit-check}

checked : (c : After-admit-check) → first_refusal (reject_conditions (length c.args.ops.now) c.args.state c.args.events) ≡ c.admit-check.result
checked c = sym (rw (c.of-lent.ensures, c.sound.ensures) at c.admit-check.ensures)

pub returns-in-Err : goal.returns-in-Err
returns-in-Err c =
    let a = c.args in
    let o = reject_refused (length a.ops.now) a.state a.events a.generation _ (checked (goal.at.returns-in-Err c).After-admit-check ∙ c.in-Err.is) in
    let x = c.answered.ensures in
    record { answer = x.answer ∙ o.0; state = x.state ∙ o.1.0; list = same o.1.1.0 (rw x.end (none _ 0)); wakes = x.wakes ∙ o.1.1.1.0; numbers = ap stage_numbers x.answer ∙ o.1.1.1.1.1 }

pub returns-then-not-is_served : goal.returns-then-not-is_served
returns-then-not-is_served c =
    let a = c.args in
    let o = reject_unanswered (length a.ops.now) a.state a.events a.generation (checked (goal.at.returns-then-not-is_served c).After-admit-check ∙ c.in_default.is) (sym c.is_served.ensures ∙ c.if-not-is_served.true) in
    let x = c.answered-then-not-is_served.ensures in
    record { answer = x.answer ∙ o.0; state = x.state ∙ o.1.0; list = same o.1.1.0 (rw x.end (none _ 0)); wakes = x.wakes ∙ o.1.1.1.0; numbers = ap stage_numbers x.answer ∙ o.1.1.1.1.1 }

pub returns : goal.returns
returns c =
    let a = c.args in
    let o = reject_made (length a.ops.now) a.state a.events a.generation (checked (goal.at.returns c).After-admit-check ∙ c.in_default.is) (sym c.is_served.ensures ∙ c.if-not-is_served.false) in
    let x = c.wrote.ensures in
    record { answer = x.answer ∙ o.0; state = x.state ∙ o.1.0; list = same o.1.1.0 (rw x.end (search rules)); wakes = x.wakes ∙ o.1.1.1.0; numbers = ap stage_numbers x.answer ∙ o.1.1.1.1.1 }
