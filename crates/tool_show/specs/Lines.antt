-- The lines of the state besides its slots' (docs/REPLAY.md, "State").
-- Assumes nothing.
use Rattle.std.specs.Prelude.{ℕ, List, [], ◌∷◌, Option, is_some, unwrap_or, codes}
use Rattle.base.specs.Bits.{bit}
use Rattle.state.specs.declared.State.{State}
use Rattle.state.specs.declared.Events.{Events}
use Rattle.tool_print.specs.Text.{row}

abbrev pub device_numbers : State → Events → List ℕ
device_numbers state events =
    state.ep0_address ∷ bit state.powered ∷ bit state.suspended ∷ state.wake ∷ bit (is_some state.setup) ∷ state.control_generation
    ∷ bit state.in_last ∷ state.tx_seq ∷ bit (is_some state.address) ∷ state.revision ∷ bit state.reset_seen ∷ bit state.low_power
    ∷ events.events ∷ []

abbrev pub device_text : State → Events → List ℕ
device_text state events = row (codes "device") (device_numbers state events)

-- the bytes of a SETUP that nobody has fetched; zeros where there is none
abbrev pub pending_text : Option (List ℕ) → List ℕ
pending_text setup = row (codes "pending") (unwrap_or setup (0 ∷ 0 ∷ 0 ∷ 0 ∷ 0 ∷ 0 ∷ 0 ∷ 0 ∷ []))

-- the address that waits, or 0
abbrev pub address_text : Option ℕ → List ℕ
address_text address = row (codes "address") (unwrap_or address 0 ∷ [])
