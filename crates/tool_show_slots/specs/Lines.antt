-- The line of a slot (docs/REPLAY.md, "State").
-- Assumes nothing.
use Rattle.std.specs.Prelude.{ℕ, List, [], ◌∷◌, ◌++◌, Option, Some, None, is_some, codes}
use Rattle.base.specs.Bits.{bit}
use Rattle.state.specs.declared.EndpointConfig.{EndpointConfig}
use Rattle.state.specs.declared.EndpointType.{EndpointType}
use Rattle.state.specs.declared.EndpointType.TheVariants as kind
use Rattle.state.specs.declared.Phase.{Phase}
use Rattle.state.specs.declared.Phase.TheVariants as phase
use Rattle.state.specs.declared.Slot.{Slot}
use Rattle.tool_print.specs.Text.{line_feed, cells}

abbrev pub phase_number : Phase → ℕ
phase_number phase.Idle = 0
phase_number phase.Busy = 1
phase_number phase.Done = 2

abbrev pub kind_number : EndpointType → ℕ
kind_number kind.Control = 0
kind_number kind.Isochronous = 1
kind_number kind.Bulk = 2
kind_number kind.Interrupt = 3

-- what a slot was allocated with; zeros where nothing is configured
abbrev pub configured : Option EndpointConfig → List ℕ
configured None = 0 ∷ 0 ∷ 0 ∷ 0 ∷ 0 ∷ 0 ∷ []
configured (Some config) =
    kind_number config.ep_type ∷ config.max_packet_size ∷ config.interval_ms ∷ config.max_burst ∷ config.buffer.address ∷ config.buffer.size ∷ []

-- slot i: its number and whether it is configured, its flags and phase, and its transfer
abbrev pub held : ℕ → Slot → List ℕ
held i slot =
    i ∷ bit (is_some slot.config) ∷ bit slot.enabled ∷ bit slot.stalled ∷ phase_number slot.phase
    ∷ slot.transfer.address ∷ slot.transfer.length ∷ slot.transfer.progress ∷ bit slot.transfer.zlp ∷ []

abbrev pub slot_text : ℕ → Slot → List ℕ
slot_text i slot = cells (cells (codes "slot") (held i slot)) (configured slot.config) ++ line_feed
