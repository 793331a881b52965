-- Abandoning: the slot by itself is the call, and its numbers are the paper's.
-- Assumes nothing.
use Rattle.std.specs.Prelude.{ℕ, ◌≡◌, Bool, true, [], Ok, Err}
use Rattle.std.proofs.Math.Path.{sym}
use Rattle.std.proofs.Common.{◌∙◌}
use Rattle.std.proofs.lemmas.Bool.{not-false}
use Rattle.state.specs.declared.State.{State}
use Rattle.state.specs.declared.Events.{Events}
use Rattle.state.specs.Fresh.{slot_at}
use Rattle.state.specs.Setters.{with_slot}
use Rattle.state.specs.Refusals.{Check, first_refusal, Bound}
use Rattle.state.specs.RefusalsLaws.{none_due, not_due, bound}
use Rattle.state_slots.specs.Slots.{busyb, slot_place, slot_of, data_endpoint}
use Rattle.state_slots.specs.Waking.{no_wakes}
use Rattle.state_sound.specs.Sound.{soundb}
use Rattle.state_call.specs.Outcome.{or_else}
use Rattle.state_call.specs.OutcomeLaws.{or_same, or_part, call_answer, call_state, call_ops, call_wakes, passed, stored, told}
use Rattle.regs_endpoint.specs.Endpoint.{abort_busy_ops}
use Rattle.transfer_abandon.specs.Abandon.{abandon_own, abandon_conditions, abandon_answer, abandoned_slot, abandon_call, abandon_numbers, abandon_says}

-- Each refusal is given exactly where it is the first that is due, and none where none is.
pub abandon_bound : (room : ℕ) (s : State) (v : Events) (e : ℕ) → Bound (abandon_conditions room s v e) (first_refusal (abandon_conditions room s v e))
abandon_bound room s v e = bound (abandon_conditions room s v e)

module _ (room : ℕ) (s : State) (v : Events) (e : ℕ) (incoming : Bool) where
  pub abandon_reaches : first_refusal (abandon_conditions room s v e) ≡ Ok tt → data_endpoint e ≡ true
  abandon_reaches h =
      let p = passed room (soundb s v) s.awaited.next (abandon_own e) (none_due (abandon_conditions room s v e) h) in
      not-false _ (not_due p.1.1.1).0

  -- what is stored in the endpoint's place, written, and said of it
  pub abandon_stored : (c : Check) → first_refusal (abandon_conditions room s v e) ≡ c
      → (or_else c Err (abandon_answer incoming (slot_at s (slot_place e incoming))) ≡ (abandon_call room s v e incoming).answer)
      × ((with_slot s (slot_place e incoming) (or_else c (λ r. slot_at s (slot_place e incoming)) (abandoned_slot (slot_at s (slot_place e incoming)))) ≡ (abandon_call room s v e incoming).state)
      × ((or_else c (λ r. []) (abort_busy_ops e incoming (busyb (slot_at s (slot_place e incoming)).phase)) ≡ (abandon_call room s v e incoming).ops)
      × ((no_wakes ≡ (abandon_call room s v e incoming).wakes)
      × (abandon_numbers (abandon_call room s v e incoming).answer ≡ abandon_says room s v e incoming))))
  unfolding abandon_call
  abandon_stored c h =
      let k = first_refusal (abandon_conditions room s v e) in
      let x = slot_of s e incoming in
      let answer = sym (call_answer Err k s v _) in
      rw (sym h) (
        told s e incoming k Err (abandon_answer incoming) abandon_reaches ∙ answer,
        (
          stored s e incoming k abandoned_slot abandon_reaches ∙ sym (call_state Err k s v _),
          (
            told s e incoming k (λ r. []) (λ y. abort_busy_ops e incoming (busyb y.phase)) abandon_reaches ∙ sym (call_ops Err k s v _),
            (
              sym (or_same k no_wakes) ∙ sym (call_wakes Err k s v _),
              rw (sym answer) (or_part abandon_numbers k Err (abandon_answer incoming x)),
            ),
          ),
        ),
      )
