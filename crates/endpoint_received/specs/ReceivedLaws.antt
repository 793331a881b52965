-- A piece of a receive taken: what fits, its numbers, and its place.
-- Assumes nothing.
use Prim.Native.Nat.{ℕ, ◌-◌, ◌≤◌, min}
use Rattle.std.specs.Prelude.{Bool, cond, List, [], ◌∷◌, ◌≡◌, ltb, length, Ok, Err, Option, Some, None, Result}
use Rattle.std.proofs.Math.Bool.{true, false}
use Rattle.std.proofs.Math.Path.{refl, ap}
use Rattle.std.proofs.Common.{sym, subst, ◌∙◌, arith, ltb-false}
use Rattle.state.specs.declared.Slot.{Slot}
use Rattle.state.specs.declared.State.{State}
use Rattle.state.specs.declared.Events.{Events}
use Rattle.state.specs.declared.Refusal.{Refusal}
use Rattle.state.specs.declared.Refusal.TheVariants.{TooLong}
use Rattle.state.specs.Refusals.{Check}
use Rattle.state.specs.Fresh.{slot_at}
use Rattle.state.specs.Numbers.{refusal_number}
use Rattle.state.specs.Refusals.{first_refusal}
use Rattle.state_slots.specs.Slots.{busyb, slot_place, slot_of}
use Rattle.state_call.specs.Outcome.{or_else}
use Rattle.state_call.specs.OutcomeLaws.{call_answer}
use Rattle.transfer_take.specs.Take.{take_conditions, take_call}
use Rattle.endpoint_parts.specs.Parts.{part}
use Rattle.endpoint_choice.specs.declared.Asked.{Asked}
use Rattle.endpoint_choice.specs.Choice.{place, rest, own_unfit, own_transfer, any_length}
use Rattle.endpoint_answer.specs.Answers.{move_numbers}
use Rattle.endpoint_answer.specs.TakenLaws.{take_by, take_place}
use Rattle.endpoint_received.specs.Received.{receive_most, received_next, received_says, brought_by, received_call, received_numbers}

-- what is brought is no more than a take had room for
brought_most : (own : Bool) (s : State) (v : Events) (e : ℕ) (incoming unfit : Bool) (most : ℕ) → brought_by own (take_call s v e incoming unfit most).answer ≤ most
unfolding take_call or_else
brought_most own s v e incoming unfit most =
    let x = slot_of s e incoming in
    let c = first_refusal (take_conditions s v e incoming unfit) in
    subst (λ a. brought_by own a ≤ most) (sym (call_answer Err c s v _)) (go c (busyb x.phase) (ltb most x.transfer.progress) refl)
  where
    held : (o : Bool) (n : ℕ) → n ≤ most → cond o n 0 ≤ most
    held true n h = h
    held false n h = omega arith

    go : (c : Check) (b l : Bool) → ltb most (slot_of s e incoming).transfer.progress ≡ l
        → brought_by own (or_else c Err (cond b (Ok None) (cond l (Err TooLong) (Ok (Some (slot_of s e incoming).transfer.progress))))) ≤ most
    go (Err r) b l q = omega arith
    go (Ok tt) true l q = omega arith
    go (Ok tt) false true q = omega arith
    go (Ok tt) false false q = held own _ (ltb-false most _ q)

module _ (s : State) (v : Events) (e : ℕ) (k : Asked) (own : List ℕ) (own_address : ℕ) where
  abbrev unfit_by : Slot → Bool
  unfit_by x = own_unfit x own_address (length own)

  abbrev most_by : Slot → ℕ
  most_by x = receive_most x k (length own)

  -- by what stands in the endpoint's place
  pub received_place :
      (received_says (slot_at s (slot_place e false)) k (take_by s v e false unfit_by most_by (slot_at s (slot_place e false))).answer ≡ (received_call s v e k own own_address).answer)
      × (((take_by s v e false unfit_by most_by (slot_at s (slot_place e false))).state ≡ (received_call s v e k own own_address).state)
      × ((take_by s v e false unfit_by most_by (slot_at s (slot_place e false))).wakes ≡ (received_call s v e k own own_address).wakes))
  unfolding received_call
  received_place = take_place s v e false unfit_by most_by (λ x a. received_says x k a) (λ x y r. refl)

  -- what is brought fits in what is left of the caller's bytes
  brought_rest : (x : Slot) → brought_by (own_transfer x) (take_by s v e false unfit_by most_by x).answer ≤ rest k
  brought_rest x = go (own_transfer x) (take_by s v e false unfit_by most_by x).answer (brought_most (own_transfer x) s v e false (unfit_by x) (most_by x))
    where
      go : (o : Bool) (a : Result (Option ℕ) Refusal) → brought_by o a ≤ min any_length (cond o (min (rest k) (length own)) (rest k)) → brought_by o a ≤ rest k
      go true a h = omega (arith, h)
      go false a h = omega (arith, h)

  pub received_copied : (bytes : List ℕ) → length bytes ≡ k.length
      → part own 0 (min (brought_by (own_transfer (slot_at s (slot_place e false))) (take_by s v e false unfit_by most_by (slot_at s (slot_place e false))).answer) (length bytes - place k))
      ≡ (received_call s v e k own own_address).copied
  unfolding received_call
  received_copied bytes lb =
      let x = slot_at s (slot_place e false) in
      let n = brought_by (own_transfer x) (take_by s v e false unfit_by most_by x).answer in
      let held : min n (length bytes - place k) ≡ n = omega (arith, lb, brought_rest x) in
      rw held (ap (part own 0) (take_place s v e false unfit_by most_by (λ y a. brought_by (own_transfer y) a) (λ y z r. refl)).0)

  pub received_numbers_lem : move_numbers (received_call s v e k own own_address).answer ≡ received_numbers s v e k own_address (length own)
  unfolding received_call take_call or_else
  received_numbers_lem =
      let x = slot_of s e false in
      let c = first_refusal (take_conditions s v e false (unfit_by x)) in
      ap (λ a. move_numbers (received_says x k a)) (call_answer Err c s v _) ∙ go c (busyb x.phase) (ltb (most_by x) x.transfer.progress)
    where
      go : (c : Check) (b l : Bool) → move_numbers (received_says (slot_of s e false) k (or_else c Err (cond b (Ok None) (cond l (Err TooLong) (Ok (Some (slot_of s e false).transfer.progress))))))
          ≡ or_else c (λ r. refusal_number r ∷ []) (cond b (0 ∷ 0 ∷ []) (cond l (9 ∷ []) (move_numbers (Ok (received_next (slot_of s e false) k (slot_of s e false).transfer.progress)))))
      go (Err r) b l = refl
      go (Ok tt) true l = refl
      go (Ok tt) false true = refl
      go (Ok tt) false false = refl
