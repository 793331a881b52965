-- The calls of sends and receives keep the state sound, and the account of every data slot.
-- Assumes nothing.
use Rattle.std.specs.Prelude.{ℕ, Bool, List, ◌≡◌, length, Ok, Err, Option, Result}
use Rattle.std.proofs.Math.Bool.{true, false}
use Rattle.std.proofs.Math.Path.{refl}
use Rattle.std.proofs.Common.{subst, ◌∙◌}
use Rattle.state.specs.declared.State.{State}
use Rattle.state.specs.declared.Events.{Events}
use Rattle.state.specs.declared.Refusal.{Refusal}
use Rattle.state.specs.Fresh.{slot_at}
use Rattle.state.specs.Refusals.{Check, first_refusal}
use Rattle.state_slots.specs.Slots.{slot_of}
use Rattle.state_sound.specs.Sound.{soundb}
use Rattle.state_slots.specs.Tally.{SameDifference}
use Rattle.state_call.specs.Outcome.{Outcome, or_else, refusal}
use Rattle.state_call.specs.OutcomeLaws.{or_part, or_same}
use Rattle.state_laws.specs.TallyLaws.{unmoved_difference}
use Rattle.transfer_piece.specs.declared.Piece.{Piece}
use Rattle.transfer_begin.specs.Begin.{begin_conditions, begin_call}
use Rattle.transfer_take.specs.Take.{take_conditions, take_call}
use Rattle.transfer_laws.specs.BeginKeeps.{begin_keeps_sound, begin_keeps_account}
use Rattle.transfer_laws.specs.FinishKeeps.{take_keeps_sound, take_keeps_account}
use Rattle.endpoint_choice.specs.declared.Asked.{Asked}
use Rattle.endpoint_choice.specs.Choice.{longer, own_unfit, send_piece, send_begins, receive_piece, any_length}
use Rattle.endpoint_send.specs.Send.{send_conditions, send_call}
use Rattle.endpoint_sent.specs.Sent.{sent_call}
use Rattle.endpoint_receive.specs.Receive.{receive_conditions, receive_call}
use Rattle.endpoint_received.specs.Received.{receive_most, received_call}

-- neither a begin nor a take touches the events
begin_events : (room : ℕ) (s : State) (v : Events) (e : ℕ) (incoming : Bool) (p : Piece) (long unfit : Bool) → (begin_call room s v e incoming p long unfit).events ≡ v
unfolding begin_call
begin_events room s v e incoming p long unfit =
    let c = first_refusal (begin_conditions room s v e incoming p long unfit) in
    or_part {B = Outcome (Result Unit Refusal)} (λ u. u.events) c (λ r. refusal (Err r) s v) _ ∙ or_same c v

take_events : (s : State) (v : Events) (e : ℕ) (incoming unfit : Bool) (most : ℕ) → (take_call s v e incoming unfit most).events ≡ v
unfolding take_call
take_events s v e incoming unfit most =
    let c = first_refusal (take_conditions s v e incoming unfit) in
    or_part {B = Outcome (Result (Option ℕ) Refusal)} (λ u. u.events) c (λ r. refusal (Err r) s v) _ ∙ or_same c v

begun_sound : (room : ℕ) (s : State) (v : Events) (e : ℕ) (incoming : Bool) (p : Piece) (long unfit : Bool) → soundb s v ≡ true → soundb (begin_call room s v e incoming p long unfit).state v ≡ true
begun_sound room s v e incoming p long unfit h =
    subst (λ w. soundb (begin_call room s v e incoming p long unfit).state w ≡ true) (begin_events room s v e incoming p long unfit) (begin_keeps_sound room s v e incoming p long unfit h)

taken_sound : (s : State) (v : Events) (e : ℕ) (incoming unfit : Bool) (most : ℕ) → soundb s v ≡ true → soundb (take_call s v e incoming unfit most).state v ≡ true
taken_sound s v e incoming unfit most h =
    subst (λ w. soundb (take_call s v e incoming unfit most).state w ≡ true) (take_events s v e incoming unfit most) (take_keeps_sound s v e incoming unfit most h)

-- what holds of the state that a begin leaves, and of the one before, holds behind a send; a receive is a begin
module _ (P : State → Type 0) (room : ℕ) (s : State) (v : Events) (e : ℕ) (k : Asked) (bytes : List ℕ) (own_address own_size : ℕ) where
  send_state : P s → P (begin_call room s v e true (send_piece (slot_of s e true) k) (longer (slot_of s e true) k) (own_unfit (slot_of s e true) own_address own_size)).state
      → P (send_call room s v e k bytes own_address own_size).state
  unfolding send_call begin_call or_else
  send_state before begun = go (first_refusal (send_conditions room s v e k own_address own_size)) (send_begins (slot_of s e true) k) refl refl
    where
      go : (c : Check) (b : Bool) → first_refusal (send_conditions room s v e k own_address own_size) ≡ c → send_begins (slot_of s e true) k ≡ b → P (send_call room s v e k bytes own_address own_size).state
      go (Err r) b h g = rw h before
      go (Ok tt) false h g = rw (h, g) before
      go (Ok tt) true h g = rw (h, g) (rw h at begun)

  receive_state : P s → P (begin_call room s v e false (receive_piece (slot_of s e false) k) false (own_unfit (slot_of s e false) own_address own_size)).state
      → P (receive_call room s v e k own_address own_size).state
  unfolding receive_call begin_call or_else
  receive_state before begun = go (first_refusal (receive_conditions room s v e k own_address own_size)) refl
    where
      go : (c : Check) → first_refusal (receive_conditions room s v e k own_address own_size) ≡ c → P (receive_call room s v e k own_address own_size).state
      go (Err r) h = rw h before
      go (Ok tt) h = rw h (rw h at begun)

-- They keep what 26 doesn't refuse.
module _ (room : ℕ) (s : State) (v : Events) (e : ℕ) (k : Asked) (bytes : List ℕ) (own_address own_size : ℕ) where
  pub send_keeps_sound : soundb s v ≡ true → soundb (send_call room s v e k bytes own_address own_size).state v ≡ true
  send_keeps_sound h =
      let x = slot_of s e true in
      send_state (λ t. soundb t v ≡ true) room s v e k bytes own_address own_size h (begun_sound room s v e true (send_piece x k) (longer x k) (own_unfit x own_address own_size) h)

  pub receive_keeps_sound : soundb s v ≡ true → soundb (receive_call room s v e k own_address own_size).state v ≡ true
  receive_keeps_sound h =
      let x = slot_of s e false in
      receive_state (λ t. soundb t v ≡ true) room s v e k bytes own_address own_size h (begun_sound room s v e false (receive_piece x k) false (own_unfit x own_address own_size) h)

  pub send_keeps_account : (j : ℕ) → SameDifference (slot_at s j) (slot_at (send_call room s v e k bytes own_address own_size).state j)
  send_keeps_account j =
      let x = slot_of s e true in
      send_state (λ t. SameDifference (slot_at s j) (slot_at t j)) room s v e k bytes own_address own_size (unmoved_difference (slot_at s j))
      (begin_keeps_account room s v e true (send_piece x k) (longer x k) (own_unfit x own_address own_size) j)

  pub receive_keeps_account : (j : ℕ) → SameDifference (slot_at s j) (slot_at (receive_call room s v e k own_address own_size).state j)
  receive_keeps_account j =
      let x = slot_of s e false in
      receive_state (λ t. SameDifference (slot_at s j) (slot_at t j)) room s v e k bytes own_address own_size (unmoved_difference (slot_at s j))
      (begin_keeps_account room s v e false (receive_piece x k) false (own_unfit x own_address own_size) j)

module _ (s : State) (v : Events) (e : ℕ) (k : Asked) (own : List ℕ) (own_address own_size : ℕ) where
  pub sent_keeps_sound : soundb s v ≡ true → soundb (sent_call s v e k own_address own_size).state v ≡ true
  unfolding sent_call
  sent_keeps_sound h = taken_sound s v e true (own_unfit (slot_of s e true) own_address own_size) any_length h

  pub received_keeps_sound : soundb s v ≡ true → soundb (received_call s v e k own own_address).state v ≡ true
  unfolding received_call
  received_keeps_sound h = taken_sound s v e false (own_unfit (slot_of s e false) own_address (length own)) (receive_most (slot_of s e false) k (length own)) h

  pub sent_keeps_account : (j : ℕ) → SameDifference (slot_at s j) (slot_at (sent_call s v e k own_address own_size).state j)
  unfolding sent_call
  sent_keeps_account j = take_keeps_account s v e true (own_unfit (slot_of s e true) own_address own_size) any_length j

  pub received_keeps_account : (j : ℕ) → SameDifference (slot_at s j) (slot_at (received_call s v e k own own_address).state j)
  unfolding received_call
  received_keeps_account j = take_keeps_account s v e false (own_unfit (slot_of s e false) own_address (length own)) (receive_most (slot_of s e false) k (length own)) j
