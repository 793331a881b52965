-- An IN data stage begun (reference: `data_in` of control.rs).
-- Assumes nothing.
use Rattle.std.specs.Prelude.{ℕ, ◌+◌, ◌%◌, Bool, not, cond, List, [], ◌∷◌, ltb, length, Err, Result}
use Rattle.state.specs.declared.State.{State}
use Rattle.state.specs.declared.Events.{Events}
use Rattle.state.specs.declared.Refusal.{Refusal}
use Rattle.state.specs.declared.Refusal.TheVariants.{TooLong, Disabled, UnfitBuffer}
use Rattle.state.specs.Refusals.{Condition, ◌if◌, first_refusal}
use Rattle.state_call.specs.Turn.{admitted}
use Rattle.state_call.specs.Outcome.{Outcome, unless}
use Rattle.regs_control.specs.Control.{ep0_tx_ready_ops}
use Rattle.control_stage.specs.declared.Stage.{Stage}
use Rattle.control_stage.specs.Stage.{servedb, ep0_unfit, begun, in_stage}

-- the sequence number of a data packet (USB 3.2, 8.6): 0 of the first, then one more, modulo 32
abbrev pub next_sequence : Bool → ℕ → ℕ
next_sequence first previous = cond first 0 ((previous + 1) % 32)

-- 9, 22, 8
abbrev pub data_in_conditions : ℕ → State → Events → ℕ → ℕ → Bool → List Condition
data_in_conditions room s v generation len unfit = admitted room s v (TooLong if ltb 512 len ∷ Disabled if not (servedb s generation) ∷ UnfitBuffer if unfit ∷ [])

-- the bytes go to the start of EP0's buffer, which lies at an address and is so long
unfoldable pub data_in_call : ℕ → State → Events → ℕ → List ℕ → ℕ → ℕ → Bool → Bool → Outcome (Result Stage Refusal)
data_in_call room s v generation bytes address size first last =
    unless Err (first_refusal (data_in_conditions room s v generation (length bytes) (ep0_unfit s address size))) s v
    (begun (in_stage s last s.address) v (ep0_tx_ready_ops (next_sequence first s.tx_seq) (length bytes)) bytes)
