-- Abandoning a transfer (reference: the `OnDrop` of `run` in endpoint.rs).
-- Assumes nothing.
use Rattle.std.specs.Prelude.{ℕ, Bool, true, ◌&&◌, not, cond, List, [], ◌∷◌, Err, Result, Ok}
use Rattle.state.specs.declared.Slot.{Slot}
use Rattle.state.specs.declared.State.{State}
use Rattle.state.specs.declared.Events.{Events}
use Rattle.state.specs.declared.Refusal.{Refusal}
use Rattle.state.specs.declared.Refusal.TheVariants.{NoDataEndpoint}
use Rattle.state.specs.Setters.{with_slot}
use Rattle.state.specs.Numbers.{refusal_number}
use Rattle.state.specs.Refusals.{Condition, ◌if◌, first_refusal}
use Rattle.state_slots.specs.Slots.{busyb, slot_number, slot_of, data_endpoint, forgotten}
use Rattle.state_slots.specs.Waking.{no_wakes}
use Rattle.state_call.specs.Turn.{admitted}
use Rattle.state_call.specs.Outcome.{Outcome, or_else, unless}
use Rattle.regs_endpoint.specs.Endpoint.{abort_busy_ops}

-- 7
abbrev pub abandon_own : ℕ → List Condition
abandon_own e = NoDataEndpoint if not (data_endpoint e) ∷ []

abbrev pub abandon_conditions : ℕ → State → Events → ℕ → List Condition
abandon_conditions room s v e = admitted room s v (abandon_own e)

-- how long an IN endpoint is left alone once its chain was aborted, in microseconds
abbrev pub settle_time : Bool → Bool → ℕ
settle_time incoming busy = cond (incoming && busy) 100 0

abbrev pub abandon_answer : Bool → Slot → Result ℕ Refusal
abandon_answer incoming x = Ok (settle_time incoming (busyb x.phase))

-- the slot is idle; what was in hand is cut
abbrev pub abandoned_slot : Slot → Slot
abandoned_slot x = forgotten x true x.enabled x.stalled

-- a busy transfer's chain is aborted
unfoldable pub abandon_call : ℕ → State → Events → ℕ → Bool → Outcome (Result ℕ Refusal)
abandon_call room s v e incoming =
    unless Err (first_refusal (abandon_conditions room s v e)) s v
    (record {
      answer = abandon_answer incoming (slot_of s e incoming);
      state = with_slot s (slot_number e incoming) (abandoned_slot (slot_of s e incoming));
      events = v;
      ops = abort_busy_ops e incoming (busyb (slot_of s e incoming).phase);
      wakes = no_wakes;
      copied = [];
    })

-- the numbers of an answer: a refusal's, or 0 and the microseconds that are due
abbrev pub abandon_numbers : Result ℕ Refusal → List ℕ
abandon_numbers (Err r) = refusal_number r ∷ []
abandon_numbers (Ok n) = 0 ∷ n ∷ []

abbrev pub abandon_says : ℕ → State → Events → ℕ → Bool → List ℕ
abandon_says room s v e incoming =
    or_else (first_refusal (abandon_conditions room s v e)) (λ r. refusal_number r ∷ []) (0 ∷ settle_time incoming (busyb (slot_of s e incoming).phase) ∷ [])
