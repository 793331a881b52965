-- Taking a transfer's result (reference: the polling of `run` in endpoint.rs).
-- Assumes nothing.
use Rattle.std.specs.Prelude.{ℕ, ◌+◌, ◌%◌, ◌^◌, Bool, cond, not, List, [], ◌∷◌, nat_lt, Err, Option, Some, None, Result, Ok}
use Rattle.state.specs.declared.Phase.TheVariants.{Idle}
use Rattle.state.specs.declared.Slot.{Slot}
use Rattle.state.specs.declared.State.{State}
use Rattle.state.specs.declared.Events.{Events}
use Rattle.state.specs.declared.Refusal.{Refusal}
use Rattle.state.specs.declared.Refusal.TheVariants.{NoDataEndpoint, Disabled, UnfitBuffer, TooLong}
use Rattle.state.specs.Setters.{with_slot}
use Rattle.state.specs.Numbers.{refusal_number}
use Rattle.state.specs.Refusals.{Check, Condition, ◌if◌, first_refusal}
use Rattle.state_slots.specs.Slots.{idleb, busyb, slot_number, slot_of, data_endpoint, changed_slot}
use Rattle.state_slots.specs.Waking.{no_wakes}
use Rattle.state_call.specs.Turn.{in_turn}
use Rattle.state_call.specs.Outcome.{Outcome, or_else, unless}

-- 7; 22 of a slot that is idle; 8 where what the caller has lent for the bytes is unfit
abbrev pub take_own : ℕ → Bool → Slot → List Condition
take_own e unfit x = NoDataEndpoint if not (data_endpoint e) ∷ Disabled if idleb x.phase ∷ UnfitBuffer if unfit ∷ []

abbrev pub take_conditions : State → Events → ℕ → Bool → Bool → List Condition
take_conditions s v e incoming unfit = in_turn s v (take_own e unfit (slot_of s e incoming))

-- a transfer that was taken is finished, and its bytes are counted
abbrev pub taken_slot : Slot → Slot
taken_slot x =
    changed_slot x Idle x.transfer
    (record x.tally { finished = (x.tally.finished + 1) % 2 ^ 32; bytes = (x.tally.bytes + x.transfer.progress) % 2 ^ 32 })

-- busy before it is done; then the bytes moved, or 9 where they are more than the caller has room for
abbrev pub take_answer : ℕ → Slot → Result (Option ℕ) Refusal
take_answer most x =
    cond (busyb x.phase) (Ok None) (cond (nat_lt most x.transfer.progress) (Err TooLong) (Ok (Some x.transfer.progress)))

-- one that is done is taken, with 9 too
abbrev pub take_leaves : Slot → Slot
take_leaves x = cond (busyb x.phase) x (taken_slot x)

-- `unfit` and `most` are the caller's: whether what it lent is unfit, and how many bytes it has room for
unfoldable pub take_call : State → Events → ℕ → Bool → Bool → ℕ → Outcome (Result (Option ℕ) Refusal)
take_call s v e incoming unfit most =
    unless Err (first_refusal (take_conditions s v e incoming unfit)) s v
    (record {
      answer = take_answer most (slot_of s e incoming);
      state = with_slot s (slot_number e incoming) (take_leaves (slot_of s e incoming));
      events = v;
      ops = [];
      wakes = no_wakes;
      copied = [];
    })

-- the numbers of an answer: a refusal's; or 0, whether it is done, and then its bytes
abbrev pub take_numbers : Result (Option ℕ) Refusal → List ℕ
take_numbers (Err r) = refusal_number r ∷ []
take_numbers (Ok None) = 0 ∷ 0 ∷ []
take_numbers (Ok (Some n)) = 0 ∷ 1 ∷ n ∷ []

abbrev pub take_says : State → Events → ℕ → Bool → Bool → ℕ → List ℕ
take_says s v e incoming unfit most =
    or_else (first_refusal (take_conditions s v e incoming unfit)) (λ r. refusal_number r ∷ [])
    (cond (busyb (slot_of s e incoming).phase) (0 ∷ 0 ∷ [])
    (cond (nat_lt most (slot_of s e incoming).transfer.progress) (9 ∷ []) (0 ∷ 1 ∷ (slot_of s e incoming).transfer.progress ∷ [])))

-- what is said of the slot by itself, and what becomes of it
pub record Took : Type 0 where
  pub answer : Result (Option ℕ) Refusal
  pub slot : Slot

abbrev pub took_at : Check → ℕ → Slot → Took
took_at c most x = record { answer = or_else c Err (take_answer most x); slot = or_else c (λ r. x) (take_leaves x) }
