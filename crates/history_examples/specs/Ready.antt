-- The worlds before and behind the transfer to the host, and before the one that is cut, written out.
-- Assumes nothing.
use Rattle.std.specs.Prelude.{ℕ, Bool, true, false, ◌∷◌, replicate, Some, None}
use Rattle.state.specs.declared.EndpointType.{EndpointType}
use Rattle.state.specs.declared.EndpointType.TheVariants as kind
use Rattle.state.specs.declared.EndpointConfig.{EndpointConfig}
use Rattle.state.specs.declared.Slot.{Slot}
use Rattle.state.specs.declared.Tally.{Tally}
use Rattle.state.specs.declared.Transfer.{Transfer}
use Rattle.state.specs.Fresh.{fresh_slot, nothing_awaited}
use Rattle.usbss.specs.Call.{World}

-- an endpoint with its own buffer
abbrev pub endpoint_at : ℕ → Bool → EndpointType → ℕ → ℕ → EndpointConfig
endpoint_at e incoming kind size address =
    record {
      endpoint = record { index = e; incoming = incoming };
      ep_type = kind;
      max_packet_size = size;
      interval_ms = 1;
      max_burst = 0;
      buffer = record { address = address; size = size };
    }

-- one that is put in use
abbrev pub in_use : EndpointConfig → Slot
in_use k = record fresh_slot { enabled = true; config = Some k }

-- endpoint 1 to the host and from it, and the two others
abbrev pub to_host : Slot
to_host = in_use (endpoint_at 1 true kind.Bulk 1024 0x200A_0200)

abbrev pub from_host : Slot
from_host = in_use (endpoint_at 1 false kind.Bulk 1024 0x200A_0600)

abbrev pub reports : Slot
reports = in_use (endpoint_at 2 true kind.Interrupt 64 0x200A_0A00)

abbrev pub orders : Slot
orders = in_use (endpoint_at 3 false kind.Interrupt 16 0x200A_0A40)

-- Endpoint 0 has received seven bytes; the data slots are as these have them.
abbrev pub with_slots : (to_host from_host reports orders : Slot) → World
with_slots x y z u =
    record {
      state =
          record {
            endpoints =
                record fresh_slot { enabled = true; transfer = record { address = 0; length = 0; progress = 7; zlp = false } }
                ∷ record fresh_slot { enabled = true }
                ∷ y
                ∷ x
                ∷ fresh_slot
                ∷ z
                ∷ u
                ∷ replicate 9 fresh_slot;
            ep0_address = 0x200A_0000;
            powered = true;
            suspended = false;
            wake = 0;
            setup = None;
            control_generation = 5;
            in_last = false;
            tx_seq = 0;
            address = None;
            revision = 3;
            reset_seen = true;
            low_power = false;
            awaited = nothing_awaited;
          };
      events = record { events = 0 };
    }

abbrev pub ready : World
ready = with_slots to_host from_host reports orders

-- what a slot has moved last, and its tally
abbrev pub moved : Slot → Transfer → Tally → Slot
moved x t k = record x { transfer = t; tally = k }

-- the image has gone, and is counted
abbrev pub image_gone : World
image_gone =
    with_slots
    (moved to_host (record { address = 0x200B_0000; length = 262144; progress = 262144; zlp = false }) (record { begun = 1; finished = 1; cut = 0; bytes = 262144 }))
    from_host reports orders

-- Four packets to the host have been given up, and the other slots have moved theirs.
abbrev pub copies_gone : World
copies_gone =
    with_slots
    (moved to_host (record { address = 0x200B_0000; length = 4096; progress = 4096; zlp = false }) (record { begun = 2; finished = 1; cut = 1; bytes = 266240 }))
    (moved from_host (record { address = 0x2010_0000; length = 4096; progress = 2148; zlp = false }) (record { begun = 1; finished = 1; cut = 0; bytes = 2148 }))
    (moved reports (record { address = 0x200A_0A00; length = 3; progress = 3; zlp = false }) (record { begun = 1; finished = 1; cut = 0; bytes = 3 }))
    (moved orders (record { address = 0x200A_0A40; length = 16; progress = 5; zlp = false }) (record { begun = 1; finished = 1; cut = 0; bytes = 5 }))
