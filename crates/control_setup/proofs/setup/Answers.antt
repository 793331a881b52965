-- Refused, or fetched where one waits.
use Rattle.std.proofs.Common.{◌≡◌, ap, sym, ◌∙◌}
use Rattle.state.specs.Refusals.{first_refusal}
use Rattle.control_setup.specs.Setup.{setup_conditions, setup_numbers}
use Rattle.control_setup.specs.SetupLaws.{setup_refused, setup_made}
use Rattle.control_setup.proofs.setup.Goals as goal
use Rattle.control_setup.proofs.setup.Goals.{After-admit-check}

checked : (c : After-admit-check) → first_refusal (setup_conditions c.args.state c.args.events) ≡ c.admit-check.result
checked c = sym (rw c.new.ensures at c.admit-check.ensures)

pub returns-in-Err : goal.returns-in-Err
returns-in-Err c =
    let a = c.args in
    let o = setup_refused a.state a.events _ (checked (goal.at.returns-in-Err c).After-admit-check ∙ c.in-Err.is) in
    let x = c.quiet.ensures in
    record { answer = x.answer ∙ o.0; state = x.state ∙ o.1.0; wakes = x.wakes ∙ o.1.1.0; numbers = ap setup_numbers x.answer ∙ o.1.1.1.1 }

pub returns : goal.returns
returns c =
    let a = c.args in
    let o = setup_made a.state a.events (checked (goal.at.returns c).After-admit-check ∙ c.in_default.is) in
    let x = c.quiet-2.ensures in
    let f = rw c.take-waiting.ensures.value at c.fetch-fetched.ensures in
    record { answer = x.answer ∙ rw f o.0; state = x.state ∙ rw c.take-waiting.ensures.after o.1.0; wakes = x.wakes ∙ o.1.1.0; numbers = ap setup_numbers x.answer ∙ rw f o.1.1.1.1 }
