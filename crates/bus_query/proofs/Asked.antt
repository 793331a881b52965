-- A query of what stands in the endpoint's place.
use Rattle.std.specs.Prelude.{ℕ, ◌≡◌, Bool, ◌&&◌, ltb, Err, Result, Ok}
use Rattle.state.specs.declared.Slot.{Slot}
use Rattle.state.specs.declared.State.{State}
use Rattle.state.specs.declared.Events.{Events}
use Rattle.state.specs.declared.Refusal.{Refusal}
use Rattle.state.specs.declared.Wakes.{Wakes}
use Rattle.state.specs.Fresh.{slot_at}
use Rattle.state.specs.Refusals.{first_refusal}
use Rattle.state_slots.specs.Slots.{slot_place, slot_of}
use Rattle.state_slots.specs.Waking.{no_wakes}
use Rattle.state_call.specs.Outcome.{or_else}
use Rattle.bus_query.specs.Query.{query_conditions, query_call, query_numbers, query_says}
use Rattle.bus_query.specs.QueryLaws.{asked_place, query_told}

pub asked_told : (f : Slot → Bool) (s : State) (v : Events) (e : ℕ) (incoming : Bool) (a : Result Bool Refusal) (w : Wakes)
    → a ≡ or_else (first_refusal (query_conditions s v)) Err (Ok (ltb e 8 && f (slot_at s (slot_place e incoming)))) → w ≡ no_wakes
    → (a ≡ (query_call s v (ltb e 8 && f (slot_of s e incoming))).answer)
    × ((w ≡ (query_call s v (ltb e 8 && f (slot_of s e incoming))).wakes) × (query_numbers a ≡ query_says s v (ltb e 8 && f (slot_of s e incoming))))
asked_told f s v e incoming a w h k = query_told s v (ltb e 8 && f (slot_of s e incoming)) a w (rw (asked_place f s e incoming) at h) k
