-- A query looks at what stands in the endpoint's place, and changes nothing.
-- Assumes nothing.
use Rattle.std.specs.Prelude.{ℕ, ◌≡◌, refl, Bool, true, false, ◌&&◌, ltb, Err, Result, Ok}
use Rattle.std.proofs.Common.{sym, ◌∙◌, arith, ltb-true}
use Rattle.state.specs.declared.Slot.{Slot}
use Rattle.state.specs.declared.State.{State}
use Rattle.state.specs.declared.Events.{Events}
use Rattle.state.specs.declared.Refusal.{Refusal}
use Rattle.state.specs.declared.Wakes.{Wakes}
use Rattle.state.specs.Fresh.{slot_at}
use Rattle.state.specs.Refusals.{first_refusal, Bound}
use Rattle.state.specs.RefusalsLaws.{bound}
use Rattle.state_slots.specs.Slots.{slot_place, slot_of}
use Rattle.state_slots.specs.SlotsLaws.{own_place}
use Rattle.state_slots.specs.Waking.{no_wakes}
use Rattle.state_call.specs.Outcome.{or_else}
use Rattle.state_call.specs.OutcomeLaws.{or_same, or_part, call_answer, call_state, call_wakes}
use Rattle.bus_query.specs.Query.{query_conditions, query_call, query_numbers, query_says}

-- of endpoints 0 to 7 the slot that stands in the endpoint's place is its own, and no other is asked
pub asked_place : (f : Slot → Bool) (s : State) (e : ℕ) (incoming : Bool) → (ltb e 8 && f (slot_at s (slot_place e incoming))) ≡ (ltb e 8 && f (slot_of s e incoming))
asked_place f s e incoming = go (ltb e 8) refl
  where
    go : (b : Bool) → ltb e 8 ≡ b → (b && f (slot_at s (slot_place e incoming))) ≡ (b && f (slot_of s e incoming))
    go true h = rw (own_place e incoming (omega (arith, ltb-true e 8 h)))
    go false h = refl

-- Each refusal is given exactly where it is the first that is due, and none where none is.
pub query_bound : (s : State) (v : Events) → Bound (query_conditions s v) (first_refusal (query_conditions s v))
query_bound s v = bound (query_conditions s v)

module _ (s : State) (v : Events) (b : Bool) where
  -- all that is promised of a query
  pub query_told : (a : Result Bool Refusal) (w : Wakes) → a ≡ or_else (first_refusal (query_conditions s v)) Err (Ok b) → w ≡ no_wakes
      → (a ≡ (query_call s v b).answer) × ((w ≡ (query_call s v b).wakes) × (query_numbers a ≡ query_says s v b))
  query_told a w h k =
      let c = first_refusal (query_conditions s v) in
      (h ∙ sym (call_answer Err c s v _), (k ∙ sym (or_same c no_wakes) ∙ sym (call_wakes Err c s v _), rw h (or_part query_numbers c Err (Ok b))))

  -- it leaves the state
  pub query_state : (query_call s v b).state ≡ s
  query_state = call_state Err (first_refusal (query_conditions s v)) s v _ ∙ or_same (first_refusal (query_conditions s v)) s
