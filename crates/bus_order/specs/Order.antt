-- Stall and enable orders (reference: `with_endpoint`, `set_endpoint_stalled` and `endpoint_set_enabled` of device.rs).
-- Assumes nothing.
use Rattle.std.specs.Prelude.{ℕ, Bool, List, [], Err, Result, Ok}
use Rattle.state.specs.declared.State.{State}
use Rattle.state.specs.declared.Events.{Events}
use Rattle.state.specs.declared.Refusal.{Refusal}
use Rattle.state.specs.Setters.{with_slot}
use Rattle.state.specs.Refusals.{Condition, first_refusal}
use Rattle.state_slots.specs.Slots.{slot_number, slot_of}
use Rattle.state_call.specs.Turn.{admitted}
use Rattle.state_call.specs.Outcome.{Outcome, unless}
use Rattle.bus_endpoint.specs.declared.Order.{Order}
use Rattle.bus_endpoint.specs.Endpoint.{made_slot, made_ops, order_wakes}

abbrev pub order_conditions : ℕ → State → Events → List Condition
order_conditions room s v = admitted room s v []

unfoldable pub order_call : ℕ → State → Events → ℕ → Bool → Order → Outcome (Result Unit Refusal)
order_call room s v e incoming o =
    unless Err (first_refusal (order_conditions room s v)) s v
    (record {
      answer = Ok tt;
      state = with_slot s (slot_number e incoming) (made_slot s.powered e o (slot_of s e incoming));
      events = v;
      ops = made_ops s.powered e incoming o (slot_of s e incoming);
      wakes = order_wakes e incoming;
      copied = [];
    })
