-- What an order does on one endpoint (reference: `set_endpoint_stalled` and `endpoint_set_enabled` of device.rs).
-- Assumes nothing.
use Rattle.std.specs.Prelude.{ℕ, Bool, true, false, ◌&&◌, cond, List, [], ◌++◌, length, Err, Ok, Option, Some, None}
use Rattle.ops.specs.Ops.{Op, flat}
use Rattle.state.specs.declared.EndpointType.{EndpointType}
use Rattle.state.specs.declared.EndpointType.TheVariants as kind
use Rattle.state.specs.declared.EndpointConfig.{EndpointConfig}
use Rattle.state.specs.declared.Slot.{Slot}
use Rattle.state.specs.declared.Wakes.{Wakes}
use Rattle.state_slots.specs.Slots.{busyb, slot_number, data_endpoint, configured, forgotten, reset_slot}
use Rattle.state_slots.specs.Waking.{no_wakes, wake_slot}
use Rattle.regs_endpoint.specs.Endpoint.{abort_busy_ops, halt_ops, clear_ops, configure_ops, enable_ops}
use Rattle.bus_endpoint.specs.declared.Order.{Order}
use Rattle.bus_endpoint.specs.declared.Order.TheVariants.{Stall, Enable}
use Rattle.state.specs.Refusals.{Check}
use Rattle.state_call.specs.Outcome.{or_else}
use Rattle.bus_endpoint.specs.declared.Obeyed.{Obeyed}

abbrev pub isochronous : EndpointType → Bool
isochronous kind.Control = false
isochronous kind.Isochronous = true
isochronous kind.Bulk = false
isochronous kind.Interrupt = false

-- of what is configured; nothing is where nothing is
abbrev pub isochronous_of : Option EndpointConfig → Bool
isochronous_of None = false
isochronous_of (Some k) = isochronous k.ep_type

-- a stall order wants an enabled endpoint, an enable order any
abbrev pub wanted : Order → Bool → Bool
wanted (Stall stalled) enabled = enabled
wanted (Enable on) enabled = true

-- orders reach a data endpoint that is configured, while the device is powered
abbrev pub fits : Bool → ℕ → Order → Slot → Bool
fits powered e o x = (data_endpoint e && (powered && configured x.config)) && wanted o x.enabled

-- the slot behind an order: either cuts a transfer in hand
abbrev pub ordered_slot : Order → Slot → Slot
ordered_slot (Stall stalled) x = forgotten x true x.enabled stalled
ordered_slot (Enable enabled) x = reset_slot x true enabled

-- the operations on an endpoint that has this slot. A stall order first ends the chain of a busy transfer; an enable
-- order has the endpoint off before it is set up anew or cleared.
abbrev pub ordered_ops : Order → ℕ → Bool → Slot → List Op
ordered_ops (Stall stalled) e incoming x = abort_busy_ops e incoming (busyb x.phase) ++ cond stalled (halt_ops e incoming) (clear_ops e incoming)
ordered_ops (Enable enabled) e incoming x =
    enable_ops e incoming false ++ cond enabled (configure_ops e incoming (isochronous_of x.config) ++ enable_ops e incoming true) (clear_ops e incoming)

-- On an unfit endpoint an order makes no operation and changes nothing,
abbrev pub made_slot : Bool → ℕ → Order → Slot → Slot
made_slot powered e o x = cond (fits powered e o x) (ordered_slot o x) x

abbrev pub made_ops : Bool → ℕ → Bool → Order → Slot → List Op
made_ops powered e incoming o x = cond (fits powered e o x) (ordered_ops o e incoming x) []

-- yet a data endpoint's slot is woken
abbrev pub order_wakes : ℕ → Bool → Wakes
order_wakes e incoming = cond (data_endpoint e) (wake_slot (slot_number e incoming)) no_wakes

-- what an order comes to for the slot by itself
abbrev pub obeyed_ops : Check → Bool → ℕ → Bool → Order → Slot → List Op
obeyed_ops c powered e incoming o x = or_else c (λ r. []) (made_ops powered e incoming o x)

abbrev pub obeyed_at : Check → Bool → ℕ → Bool → Order → Slot → Obeyed
obeyed_at c powered e incoming o x =
    record {
      answer = or_else c Err (Ok tt);
      slot = or_else c (λ r. x) (made_slot powered e o x);
      end = length (flat (obeyed_ops c powered e incoming o x));
      wakes = or_else c (λ r. no_wakes) (order_wakes e incoming);
    }
