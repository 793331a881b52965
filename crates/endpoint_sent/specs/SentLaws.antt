-- A piece of a send taken: what is next, and its numbers.
-- Assumes nothing.
use Rattle.std.specs.Prelude.{ℕ, Bool, cond, [], ◌∷◌, ◌≡◌, ltb, Ok, Err, Some, None}
use Rattle.std.proofs.Math.Bool.{true, false}
use Rattle.std.proofs.Math.Path.{refl, ap}
use Rattle.std.proofs.Common.{◌∙◌}
use Rattle.state.specs.declared.State.{State}
use Rattle.state.specs.declared.Events.{Events}
use Rattle.state.specs.declared.Refusal.TheVariants.{TooLong}
use Rattle.state.specs.Refusals.{Check}
use Rattle.state.specs.Fresh.{slot_at}
use Rattle.state.specs.Numbers.{refusal_number}
use Rattle.state.specs.Refusals.{first_refusal}
use Rattle.state_slots.specs.Slots.{busyb, slot_place, slot_of}
use Rattle.state_call.specs.Outcome.{or_else}
use Rattle.state_call.specs.OutcomeLaws.{call_answer}
use Rattle.transfer_take.specs.Take.{take_conditions, take_call}
use Rattle.endpoint_choice.specs.declared.Asked.{Asked}
use Rattle.endpoint_choice.specs.Choice.{own_unfit, any_length}
use Rattle.endpoint_answer.specs.Answers.{move_numbers}
use Rattle.endpoint_answer.specs.TakenLaws.{take_by, take_place}
use Rattle.endpoint_sent.specs.Sent.{sent_next, sent_says, sent_call, sent_numbers}

module _ (s : State) (v : Events) (e : ℕ) (k : Asked) (own_address own_size : ℕ) where
  -- by what stands in the endpoint's place
  pub sent_place :
      (sent_says (slot_at s (slot_place e true)) k (take_by s v e true (λ x. own_unfit x own_address own_size) (λ x. any_length) (slot_at s (slot_place e true))).answer ≡ (sent_call s v e k own_address own_size).answer)
      × (((take_by s v e true (λ x. own_unfit x own_address own_size) (λ x. any_length) (slot_at s (slot_place e true))).state ≡ (sent_call s v e k own_address own_size).state)
      × ((take_by s v e true (λ x. own_unfit x own_address own_size) (λ x. any_length) (slot_at s (slot_place e true))).wakes ≡ (sent_call s v e k own_address own_size).wakes))
  unfolding sent_call
  sent_place = take_place s v e true (λ x. own_unfit x own_address own_size) (λ x. any_length) (λ x a. sent_says x k a) (λ x y r. refl)

  pub sent_numbers_lem : move_numbers (sent_call s v e k own_address own_size).answer ≡ sent_numbers s v e k own_address own_size
  unfolding sent_call take_call or_else
  sent_numbers_lem =
      let x = slot_of s e true in
      let c = first_refusal (take_conditions s v e true (own_unfit x own_address own_size)) in
      ap (λ a. move_numbers (sent_says x k a)) (call_answer Err c s v _) ∙ go c (busyb x.phase) (ltb any_length x.transfer.progress)
    where
      go : (c : Check) (b l : Bool) → move_numbers (sent_says (slot_of s e true) k (or_else c Err (cond b (Ok None) (cond l (Err TooLong) (Ok (Some (slot_of s e true).transfer.progress))))))
          ≡ or_else c (λ r. refusal_number r ∷ []) (cond b (0 ∷ 0 ∷ []) (cond l (9 ∷ []) (move_numbers (Ok (sent_next (slot_of s e true) k (slot_of s e true).transfer.progress)))))
      go (Err r) b l = refl
      go (Ok tt) true l = refl
      go (Ok tt) false true = refl
      go (Ok tt) false false = refl
