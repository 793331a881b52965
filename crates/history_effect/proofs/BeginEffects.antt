-- What begin, send and receive do to one direction of a data endpoint.
-- Assumes nothing.
use Rattle.std.specs.Prelude.{ℕ, Bool, true, false, List, ◌≡◌, refl, length, Some, Ok}
use Rattle.std.proofs.Common.{sym, ap, ◌∙◌}
use Rattle.base.specs.EachLaws.{true_not_false}
use Rattle.state.specs.declared.State.{State}
use Rattle.state.specs.declared.Events.{Events}
use Rattle.state.specs.declared.EndpointAddress.{EndpointAddress}
use Rattle.state.specs.declared.Slot.{Slot}
use Rattle.state.specs.Refusals.{first_refusal}
use Rattle.state.specs.RefusalsLaws.{none_due}
use Rattle.state.specs.Setters.{limit_of}
use Rattle.state_slots.specs.Slots.{data_endpoint, slot_number, slot_of}
use Rattle.state_laws.specs.SlotLaws.{stored_here}
use Rattle.transfer_chain.specs.Chains.{next_chain}
use Rattle.transfer_piece.specs.declared.Piece.{Piece}
use Rattle.transfer_begin.specs.Begin.{begin_conditions, begun_at, begun_state, begun_ops, begin_call}
use Rattle.transfer_laws.specs.BeginKeeps.{AcceptedBegin, accepted_begin}
use Rattle.endpoint_choice.specs.declared.Asked.{Asked}
use Rattle.endpoint_choice.specs.declared.MoveRequest.{MoveRequest}
use Rattle.endpoint_choice.specs.Choice.{asked_of, longer, own_unfit, send_piece, send_begins, receive_piece}
use Rattle.endpoint_send.specs.Send.{send_conditions, send_made, send_call}
use Rattle.endpoint_receive.specs.Receive.{receive_conditions, receive_call}
use Rattle.history_follows.proofs.FitsLaws.{accepted_fits}
use Rattle.history_ops.specs.Recorded.{recorded}
use Rattle.history_ops.proofs.RecordedLaws.{silent_none, handed_here, handed_there}
use Rattle.history_ops.proofs.TransferOps.{begun_recorded}
use Rattle.usbss.specs.Call.{World, Begin, Send, Receive}
use Rattle.usbss.specs.Step.{step}
use Rattle.history_rows.specs.Memory.{accepted, Sound}
use Rattle.history_effect.specs.Seen.{Begins, only, seen_send, seen}
use Rattle.history_effect.specs.Effect.{Passing, EffectAs, Effect}
use Rattle.history_effect.proofs.SlotCases.{stored_other, At, Others, call_effect}

module _ (s : State) (v : Events) (i : ℕ) (way : Bool) (p : Piece) where
  -- an accepted begin, on its own slot
  begun_here : AcceptedBegin s v i way p → At s (begun_state s i way p) (begun_ops s i way p) (Begins p) i way
  unfolding EffectAs
  begun_here a =
      record {
        idle = a.idle;
        fits = accepted_fits s v i way p a;
        slot = stored_here s (slot_number i way) _ (λ q. true_not_false (sym a.ready.enabled ∙ ap (λ (x : Slot). x.enabled) q));
        chain = begun_recorded s i way p way i ∙ handed_here i way (next_chain (limit_of s) way (begun_at s i way p));
      }

  begun_there : Others s (begun_state s i way p) (begun_ops s i way p) i way
  begun_there e incoming h =
      record {
        silent = begun_recorded s i way p incoming e ∙ handed_there i way (Some (next_chain (limit_of s) way (begun_at s i way p))) incoming e h;
        same = stored_other s i way _ e incoming h;
      }

  -- by the tests of a begin
  begun_by_check : (room : ℕ) (long unfit : Bool) → first_refusal (begin_conditions room s v i way p long unfit) ≡ Ok tt
      → At s (begun_state s i way p) (begun_ops s i way p) (Begins p) i way
  begun_by_check room long unfit e = begun_here (accepted_begin room s v i way p long unfit (none_due (begin_conditions room s v i way p long unfit) e))

-- ---- begin

pub effect_begin : (w : World) → Sound w → (e : ℕ) (incoming : Bool) → data_endpoint e ≡ true → (room : ℕ) (at : EndpointAddress) (p : Piece)
    → Effect e incoming w (Begin room at p)
unfolding seen step begin_call
effect_begin w h e incoming d room at p =
    call_effect (first_refusal (begin_conditions room w.state w.events at.index at.incoming p false false)) w.state w.events _ (Begins p) at.index at.incoming
    (λ q z. begun_by_check w.state w.events at.index at.incoming p room false false q) (begun_there w.state w.events at.index at.incoming p) e incoming d

-- ---- send, where something is left, and where nothing is

module _ (s : State) (v : Events) (i : ℕ) (k : Asked) (bytes : List ℕ) where
  sent_here : (room : ℕ) (long unfit : Bool) → first_refusal (begin_conditions room s v i true (send_piece (slot_of s i true) k) long unfit) ≡ Ok tt
      → At s (send_made s v i k bytes).state (send_made s v i k bytes).ops (only (accepted (send_made s v i k bytes).answer) (seen_send (slot_of s i true) k)) i true
  unfolding EffectAs
  sent_here room long unfit q = go (send_begins (slot_of s i true) k) refl
    where
      go : (b : Bool) → send_begins (slot_of s i true) k ≡ b
          → At s (send_made s v i k bytes).state (send_made s v i k bytes).ops (only (accepted (send_made s v i k bytes).answer) (seen_send (slot_of s i true) k)) i true
      go true e = rw e (begun_by_check s v i true (send_piece (slot_of s i true) k) room long unfit q)
      go false e = rw e (record { silent = silent_none true i; same = refl })

  sent_there : Others s (send_made s v i k bytes).state (send_made s v i k bytes).ops i true
  sent_there e incoming h = go (send_begins (slot_of s i true) k) refl
    where
      go : (b : Bool) → send_begins (slot_of s i true) k ≡ b
          → Passing (slot_of s e incoming) (slot_of (send_made s v i k bytes).state e incoming) (recorded incoming e (send_made s v i k bytes).ops)
      go true q = rw q (begun_there s v i true (send_piece (slot_of s i true) k) e incoming h)
      go false q = rw q (record { silent = silent_none incoming e; same = refl })

pub effect_send : (w : World) → Sound w → (e : ℕ) (incoming : Bool) → data_endpoint e ≡ true
    → (room i : ℕ) (request : MoveRequest) (bytes : List ℕ) (own : ℕ) → Effect e incoming w (Send room i request bytes own)
unfolding seen step send_call
effect_send w h e incoming d room i request bytes own =
    let k = asked_of request (length bytes) in
    let x = slot_of w.state i true in
    call_effect (first_refusal (send_conditions room w.state w.events i k request.own_address own)) w.state w.events (send_made w.state w.events i k bytes) (seen_send x k) i true
    (λ q z. sent_here w.state w.events i k bytes room (longer x k) (own_unfit x request.own_address own) q) (sent_there w.state w.events i k bytes) e incoming d

-- ---- receive

pub effect_receive : (w : World) → Sound w → (e : ℕ) (incoming : Bool) → data_endpoint e ≡ true
    → (room i : ℕ) (request : MoveRequest) (bytes own : ℕ) → Effect e incoming w (Receive room i request bytes own)
unfolding seen step receive_call
effect_receive w h e incoming d room i request bytes own =
    let k = asked_of request bytes in
    let x = slot_of w.state i false in
    let p = receive_piece x k in
    call_effect (first_refusal (receive_conditions room w.state w.events i k request.own_address own)) w.state w.events _ (Begins p) i false
    (λ q z. begun_by_check w.state w.events i false p room false (own_unfit x request.own_address own) q) (begun_there w.state w.events i false p) e incoming d
