-- Slots, and the state they stand in.
-- Assumes nothing.
use Rattle.std.specs.Prelude.{ℕ, ◌+◌, ◌*◌, ◌%◌, ◌^◌, Bool, true, false, not, ◌&&◌, List, nat_le, Option, Some, None}
use Rattle.base.specs.Bits.{bit}
use Rattle.state.specs.declared.Buffer.{Buffer}
use Rattle.state.specs.declared.EndpointConfig.{EndpointConfig}
use Rattle.state.specs.declared.Phase.{Phase}
use Rattle.state.specs.declared.Phase.TheVariants.{Idle, Busy, Done}
use Rattle.state.specs.declared.Transfer.{Transfer}
use Rattle.state.specs.declared.Tally.{Tally}
use Rattle.state.specs.declared.Slot.{Slot}
use Rattle.state.specs.declared.State.{State}
use Rattle.state.specs.Fresh.{slot_at}
use Rattle.base.specs.Each.{change}

abbrev pub idleb : Phase → Bool
idleb Idle = true
idleb Busy = false
idleb Done = false

abbrev pub busyb : Phase → Bool
busyb Idle = false
busyb Busy = true
busyb Done = false

-- document 01: slot = 2 × endpoint + 1 for IN
abbrev pub slot_number : ℕ → Bool → ℕ
slot_number index incoming = index * 2 + bit incoming

-- the endpoints that have transfers, 1–7
abbrev pub data_endpoint : ℕ → Bool
data_endpoint e = nat_le 1 e && nat_le e 7

-- the slot of an endpoint's direction
abbrev pub slot_of : State → ℕ → Bool → Slot
slot_of s e incoming = slot_at s (slot_number e incoming)

-- one of the sixteen places
abbrev pub slot_place : ℕ → Bool → ℕ
slot_place e incoming = slot_number e incoming % 16

-- a slot takes transfers while the device is powered and it is enabled and not stalled
abbrev pub ready : Bool → Slot → Bool
ready powered x = (powered && x.enabled) && not x.stalled

-- whether an endpoint is configured
abbrev pub configured : Option EndpointConfig → Bool
configured None = false
configured (Some k) = true

-- M; 0 where nothing is configured
abbrev pub size_of : Option EndpointConfig → ℕ
size_of None = 0
size_of (Some k) = k.max_packet_size

abbrev pub slot_size : Slot → ℕ
slot_size x = size_of x.config

-- the endpoint's own buffer; one of no bytes where nothing is configured
abbrev pub buffer_of : Option EndpointConfig → Buffer
buffer_of None = record { address = 0; size = 0 }
buffer_of (Some k) = k.buffer

abbrev pub own_buffer : Slot → Buffer
own_buffer x = buffer_of x.config

-- a slot with another phase, transfer and tally
abbrev pub changed_slot : Slot → Phase → Transfer → Tally → Slot
changed_slot x phase t y = record x { phase = phase; transfer = t; tally = y }

-- with another phase and transfer
abbrev pub moved_slot : Slot → Phase → Transfer → Slot
moved_slot x phase t = changed_slot x phase t x.tally

-- a cut transfer adds itself and its progress, modulo 2^32
abbrev pub tally_cut : Tally → Bool → ℕ → Tally
tally_cut t false n = t
tally_cut t true n = record t { cut = (t.cut + 1) % 2 ^ 32; bytes = (t.bytes + n) % 2 ^ 32 }

-- a transfer of a data slot that is busy or done is cut; its fields stay
abbrev pub forgotten : Slot → Bool → Bool → Bool → Slot
forgotten x tallied enabled stalled =
    record x {
      enabled = enabled;
      stalled = stalled;
      phase = Idle;
      tally = tally_cut x.tally (tallied && not (idleb x.phase)) x.transfer.progress;
    }

abbrev pub reset_slot : Slot → Bool → Bool → Slot
reset_slot x tallied enabled = forgotten x tallied enabled false

-- a slot that is off: what it had in hand is cut. Endpoint 0 has no tally.
abbrev pub off_slot : ℕ → Slot → Slot
off_slot i x = reset_slot x (nat_le 2 i) false

abbrev pub slots_off : List Slot → List Slot
slots_off l = change off_slot 16 l
