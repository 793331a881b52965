-- An OUT data stage begun (reference: `data_out` of control.rs).
-- Assumes nothing.
use Rattle.std.specs.Prelude.{ℕ, not, List, [], ◌∷◌, Err, Result}
use Rattle.state.specs.declared.State.{State}
use Rattle.state.specs.declared.Events.{Events}
use Rattle.state.specs.declared.Refusal.{Refusal}
use Rattle.state.specs.declared.Refusal.TheVariants.{Disabled}
use Rattle.state.specs.Fresh.{slot_at}
use Rattle.state.specs.Refusals.{Condition, ◌if◌, first_refusal}
use Rattle.state.specs.Setters.{with_slot}
use Rattle.state_call.specs.Turn.{admitted}
use Rattle.state_call.specs.Outcome.{Outcome, unless}
use Rattle.regs_control.specs.Control.{ep0_rx_ready_ops}
use Rattle.control_stage.specs.declared.Stage.{Stage}
use Rattle.control_stage.specs.Stage.{servedb, staged_slot, begun}

abbrev pub data_out_conditions : ℕ → State → Events → ℕ → List Condition
data_out_conditions room s v generation = admitted room s v (Disabled if not (servedb s generation) ∷ [])

unfoldable pub data_out_call : ℕ → State → Events → ℕ → Outcome (Result Stage Refusal)
data_out_call room s v generation =
    unless Err (first_refusal (data_out_conditions room s v generation)) s v (begun (with_slot s 0 (staged_slot (slot_at s 0))) v ep0_rx_ready_ops [])
