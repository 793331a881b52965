-- Refused, or begun.
use Rattle.std.proofs.Common.{◌≡◌, ap, sym, ◌∙◌, length}
use Rattle.ops.specs.WroteLaws.{same, none}
use Rattle.state.specs.Refusals.{first_refusal}
use Rattle.control_stage.specs.Stage.{stage_numbers}
use Rattle.control_accept.specs.Accept.{accept_conditions}
use Rattle.control_accept.specs.AcceptLaws.{accept_refused, accept_made}
use Rattle.control_accept.proofs.accept.Goals as goal
use Rattle.control_accept.proofs.accept.Goals.{After-admit_stage-check}

checked : (c : After-admit_stage-check) → first_refusal (accept_conditions (length c.args.ops.now) c.args.state c.args.events c.args.generation) ≡ c.admit_stage-check.result
checked c = sym (rw (c.is_served.ensures, c.of-lent.ensures, c.sound.ensures) at c.admit_stage-check.ensures)

pub returns-in-Err : goal.returns-in-Err
returns-in-Err c =
    let a = c.args in
    let o = accept_refused (length a.ops.now) a.state a.events a.generation _ (checked (goal.at.returns-in-Err c).After-admit_stage-check ∙ c.in-Err.is) in
    let x = c.answered.ensures in
    record { answer = x.answer ∙ o.0; state = x.state ∙ o.1.0; list = same o.1.1.0 (rw x.end (none _ 0)); wakes = x.wakes ∙ o.1.1.1.0; numbers = ap stage_numbers x.answer ∙ o.1.1.1.1.1 }

pub returns : goal.returns
returns c =
    let a = c.args in
    let o = accept_made (length a.ops.now) a.state a.events a.generation (checked (goal.at.returns c).After-admit_stage-check ∙ c.in_default.is) in
    let x = c.status_stage.ensures in
    record { answer = x.answer ∙ o.0; state = x.state ∙ o.1.0; list = same o.1.1.0 x.list; wakes = x.wakes ∙ o.1.1.1.0; numbers = ap stage_numbers x.answer ∙ o.1.1.1.1.1 }
