-- A request accepted (reference: `accept` and `accept_set_address` of control.rs).
-- Assumes nothing.
use Rattle.std.specs.Prelude.{ℕ, true, not, ◌&&◌, cond, Some, None, List, [], ◌∷◌, ◌++◌, leb, Err, Result}
use Rattle.ops.specs.Ops.{Op}
use Rattle.state.specs.declared.State.{State}
use Rattle.state.specs.declared.Events.{Events}
use Rattle.state.specs.declared.Refusal.{Refusal}
use Rattle.state.specs.declared.Refusal.TheVariants.{Disabled}
use Rattle.state.specs.Refusals.{Condition, ◌if◌, first_refusal}
use Rattle.state_call.specs.Turn.{admitted}
use Rattle.state_call.specs.Outcome.{Outcome, unless}
use Rattle.regs_control.specs.Control.{ep0_rx_ready_ops, ep0_tx_ready_ops}
use Rattle.control_stage.specs.declared.Stage.{Stage}
use Rattle.control_stage.specs.Stage.{servedb, begun, unanswered, in_stage}

-- an empty packet, and the next one taken: the status stage of a request without data, or with data from the host
abbrev pub accept_ops : List Op
accept_ops = ep0_tx_ready_ops 0 0 ++ ep0_rx_ready_ops

abbrev pub accept_conditions : ℕ → State → Events → ℕ → List Condition
accept_conditions room s v generation = admitted room s v (Disabled if not (servedb s generation) ∷ [])

unfoldable pub accept_call : ℕ → State → Events → ℕ → Outcome (Result Stage Refusal)
accept_call room s v generation =
    unless Err (first_refusal (accept_conditions room s v generation)) s v (begun (in_stage s true None) v accept_ops [])

-- an address waits for the end of the status stage; one above 127 is answered without a number, whatever the generation
abbrev pub address_conditions : ℕ → State → Events → ℕ → ℕ → List Condition
address_conditions room s v generation address = admitted room s v (Disabled if (leb address 127 && not (servedb s generation)) ∷ [])

unfoldable pub accept_address_call : ℕ → State → Events → ℕ → ℕ → Outcome (Result Stage Refusal)
accept_address_call room s v generation address =
    unless Err (first_refusal (address_conditions room s v generation address)) s v
    (cond (leb address 127) (begun (in_stage s true (Some address)) v accept_ops []) (unanswered s v))
