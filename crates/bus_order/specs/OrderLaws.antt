-- An order on the slot in its place is the order on the state.
-- Assumes nothing.
use Rattle.std.specs.Prelude.{ℕ, ◌≡◌, refl, Bool, true, false, List, length, Ok, Err}
use Rattle.std.proofs.Common.{sym, ◌∙◌}
use Rattle.base.specs.EachLaws.{set_own}
use Rattle.ops.specs.Wrote.{Wrote}
use Rattle.ops.specs.WroteLaws.{same}
use Rattle.state.specs.declared.State.{State}
use Rattle.state.specs.declared.Events.{Events}
use Rattle.state.specs.Fresh.{fresh_slot, slot_at}
use Rattle.state.specs.Setters.{with_slot}
use Rattle.state.specs.Numbers.{check_number}
use Rattle.state.specs.Refusals.{Check, first_refusal, Bound}
use Rattle.state.specs.RefusalsLaws.{bound}
use Rattle.state_slots.specs.Slots.{slot_number, slot_place, slot_of, data_endpoint}
use Rattle.state_slots.specs.SlotsLaws.{data_place}
use Rattle.state_call.specs.Outcome.{or_else}
use Rattle.state_call.specs.OutcomeLaws.{call_answer, call_state, call_ops, call_wakes}
use Rattle.bus_endpoint.specs.declared.Order.{Order}
use Rattle.bus_endpoint.specs.declared.Obeyed.{Obeyed}
use Rattle.bus_order.specs.Order.{order_conditions, order_call}
use Rattle.bus_endpoint.specs.Endpoint.{made_slot, made_ops, obeyed_ops, obeyed_at}

-- Each refusal is given exactly where it is the first that is due, and none where none is.
pub order_bound : (room : ℕ) (s : State) (v : Events) → Bound (order_conditions room s v) (first_refusal (order_conditions room s v))
order_bound room s v = bound (order_conditions room s v)

-- one that does nothing leaves what stands there
made_stored : (s : State) (e : ℕ) (incoming : Bool) (o : Order)
    → (with_slot s (slot_place e incoming) (made_slot s.powered e o (slot_at s (slot_place e incoming))) ≡ with_slot s (slot_number e incoming) (made_slot s.powered e o (slot_of s e incoming)))
    × (made_ops s.powered e incoming o (slot_at s (slot_place e incoming)) ≡ made_ops s.powered e incoming o (slot_of s e incoming))
made_stored s e incoming o = go (data_endpoint e) refl
  where
    go : (b : Bool) → data_endpoint e ≡ b
        → (with_slot s (slot_place e incoming) (made_slot s.powered e o (slot_at s (slot_place e incoming))) ≡ with_slot s (slot_number e incoming) (made_slot s.powered e o (slot_of s e incoming)))
        × (made_ops s.powered e incoming o (slot_at s (slot_place e incoming)) ≡ made_ops s.powered e incoming o (slot_of s e incoming))
    go true d = rw (data_place e incoming d) (refl, refl)
    go false d = rw (d, set_own s.endpoints (slot_place e incoming) fresh_slot, set_own s.endpoints (slot_number e incoming) fresh_slot) (refl, refl)

order_stored : (c : Check) (s : State) (e : ℕ) (incoming : Bool) (o : Order)
    → (with_slot s (slot_place e incoming) (or_else c (λ r. slot_at s (slot_place e incoming)) (made_slot s.powered e o (slot_at s (slot_place e incoming))))
    ≡ or_else c (λ r. s) (with_slot s (slot_number e incoming) (made_slot s.powered e o (slot_of s e incoming))))
    × (obeyed_ops c s.powered e incoming o (slot_at s (slot_place e incoming)) ≡ obeyed_ops c s.powered e incoming o (slot_of s e incoming))
unfolding or_else
order_stored (Ok tt) s e incoming o = made_stored s e incoming o
order_stored (Err r) s e incoming o = (rw (set_own s.endpoints (slot_place e incoming) fresh_slot), refl)

order_answer : (c : Check) → or_else c Err (Ok tt) ≡ c
unfolding or_else
order_answer (Ok tt) = refl
order_answer (Err r) = refl

-- all that is promised of an order, where what it comes to for the slot is stored in its place
pub order_told : (t : Obeyed) (before after : List ℕ) (s : State) (v : Events) (e : ℕ) (incoming : Bool) (o : Order)
    → t ≡ obeyed_at (first_refusal (order_conditions (length before) s v)) s.powered e incoming o (slot_at s (slot_place e incoming))
    → Wrote before 0 (obeyed_ops (first_refusal (order_conditions (length before) s v)) s.powered e incoming o (slot_at s (slot_place e incoming))) t.end after
    → (t.answer ≡ (order_call (length before) s v e incoming o).answer)
    × ((with_slot s (slot_place e incoming) t.slot ≡ (order_call (length before) s v e incoming o).state)
    × ((Wrote before 0 (order_call (length before) s v e incoming o).ops t.end after)
    × ((t.wakes ≡ (order_call (length before) s v e incoming o).wakes) × (check_number t.answer ≡ check_number (first_refusal (order_conditions (length before) s v))))))
unfolding order_call
order_told t before after s v e incoming o h w =
    let c = first_refusal (order_conditions (length before) s v) in
    let k = order_stored c s e incoming o in (
      rw h (sym (call_answer Err c s v _)),
      (
        rw h (k.0 ∙ sym (call_state Err c s v _)),
        (
          same (k.1 ∙ sym (call_ops Err c s v _)) w,
          (rw h (sym (call_wakes Err c s v _)), rw (h, order_answer c)),
        ),
      ),
    )
