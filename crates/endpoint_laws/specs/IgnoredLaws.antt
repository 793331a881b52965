-- What the calls of sends and receives are handed and don't look at.
-- Assumes nothing.
use Rattle.std.specs.Prelude.{ℕ, Bool, List, ◌≡◌, refl}
use Rattle.state.specs.declared.State.{State}
use Rattle.state.specs.declared.Events.{Events}
use Rattle.endpoint_choice.specs.declared.Asked.{Asked}
use Rattle.endpoint_receive.specs.Receive.{receive_call}
use Rattle.endpoint_sent.specs.Sent.{sent_call}
use Rattle.endpoint_received.specs.Received.{received_call}

module _ (room : ℕ) (s : State) (v : Events) (e : ℕ) (k : Asked) (own_address own_size : ℕ) where
  -- a receive has no closing packet
  pub receive_without_flag : (b : Bool) → receive_call room s v e (record k { needs_zlp = b }) own_address own_size ≡ receive_call room s v e k own_address own_size
  unfolding receive_call
  receive_without_flag b = refl

  -- where the caller's bytes lie is asked at the begin
  pub sent_anywhere : (a : ℕ) → sent_call s v e (record k { address = a }) own_address own_size ≡ sent_call s v e k own_address own_size
  unfolding sent_call
  sent_anywhere a = refl

module _ (s : State) (v : Events) (e : ℕ) (k : Asked) (own : List ℕ) (own_address : ℕ) where
  pub received_without_flag : (b : Bool) → received_call s v e (record k { needs_zlp = b }) own own_address ≡ received_call s v e k own own_address
  unfolding received_call
  received_without_flag b = refl

  pub received_anywhere : (a : ℕ) → received_call s v e (record k { address = a }) own own_address ≡ received_call s v e k own own_address
  unfolding received_call
  received_anywhere a = refl
