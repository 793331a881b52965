-- A request rejected (reference: `reject` of control.rs).
-- Assumes nothing.
use Rattle.std.specs.Prelude.{ℕ, cond, List, [], Err, Result}
use Rattle.state.specs.declared.State.{State}
use Rattle.state.specs.declared.Events.{Events}
use Rattle.state.specs.declared.Refusal.{Refusal}
use Rattle.state.specs.Refusals.{Condition, first_refusal}
use Rattle.state_call.specs.Turn.{admitted}
use Rattle.state_call.specs.Outcome.{Outcome, unless}
use Rattle.regs_control.specs.Control.{ep0_stall_ops}
use Rattle.control_stage.specs.declared.Stage.{Stage}
use Rattle.control_stage.specs.Stage.{servedb, begun, unanswered}

-- both directions answer STALL; a reject that comes too late, or while there is no power, is answered without a number
abbrev pub reject_conditions : ℕ → State → Events → List Condition
reject_conditions room s v = admitted room s v []

unfoldable pub reject_call : ℕ → State → Events → ℕ → Outcome (Result Stage Refusal)
reject_call room s v generation =
    unless Err (first_refusal (reject_conditions room s v)) s v (cond (servedb s generation) (begun s v ep0_stall_ops []) (unanswered s v))
