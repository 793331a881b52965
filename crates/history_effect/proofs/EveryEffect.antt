-- What a call does to a direction of a data endpoint is what it is to it: one line a call.
-- Assumes nothing.
use Rattle.std.specs.Prelude.{ℕ, Bool, true, ◌≡◌}
use Rattle.state_slots.specs.Slots.{data_endpoint}
use Rattle.usbss.specs.Call.{World, Call, Start, PowerOn, PowerOff, Ordered, IsStalled, IsEnabled, Raise, Poll, Wakeup, Begin, Take, Abandon, Send, Sent, Receive, Received, Setup, DataOut, DataIn, Accept, AcceptAddress, Reject, TakeOut, TakeIn, Interrupt, Answer}
use Rattle.history_rows.specs.Memory.{Sound}
use Rattle.history_effect.specs.Effect.{Effect}
use Rattle.history_effect.proofs.AnswerEffects.{answer_effect}
use Rattle.history_effect.proofs.BeginEffects.{effect_begin, effect_send, effect_receive}
use Rattle.history_effect.proofs.CutEffects.{effect_abandon, effect_ordered}
use Rattle.history_effect.proofs.OthersEffects.{is_stalled_effect, is_enabled_effect, raise_effect, poll_effect, wakeup_effect, setup_effect, interrupt_effect, reject_effect, data_out_effect, data_in_effect, accept_effect, accept_address_effect, take_out_effect, take_in_effect, start_effect, power_off_effect, power_on_effect}
use Rattle.history_effect.proofs.TakeEffects.{effect_take, effect_sent, effect_received}

pub every_effect : (w : World) → Sound w → (e : ℕ) (incoming : Bool) → data_endpoint e ≡ true → (c : Call) → Effect e incoming w c
every_effect w h e incoming d (Start driver size) = start_effect w e incoming d driver size
every_effect w h e incoming d (PowerOn room revision) = power_on_effect w e incoming d room revision
every_effect w h e incoming d (PowerOff room) = power_off_effect w e incoming d room
every_effect w h e incoming d (Ordered room at order) = effect_ordered w h e incoming d room at order
every_effect w h e incoming d (IsStalled at) = is_stalled_effect w e incoming at
every_effect w h e incoming d (IsEnabled at) = is_enabled_effect w e incoming at
every_effect w h e incoming d (Raise event) = raise_effect w e incoming event
every_effect w h e incoming d Poll = poll_effect w e incoming
every_effect w h e incoming d (Wakeup room) = wakeup_effect w e incoming room
every_effect w h e incoming d (Begin room at piece) = effect_begin w h e incoming d room at piece
every_effect w h e incoming d (Take at) = effect_take w h e incoming d at
every_effect w h e incoming d (Abandon room at) = effect_abandon w h e incoming d room at
every_effect w h e incoming d (Send room i request bytes own) = effect_send w h e incoming d room i request bytes own
every_effect w h e incoming d (Sent i request bytes own) = effect_sent w h e incoming d i request bytes own
every_effect w h e incoming d (Receive room i request bytes own) = effect_receive w h e incoming d room i request bytes own
every_effect w h e incoming d (Received i request bytes held) = effect_received w h e incoming d i request bytes held
every_effect w h e incoming d Setup = setup_effect w e incoming
every_effect w h e incoming d (DataOut room g) = data_out_effect w e incoming d room g
every_effect w h e incoming d (DataIn room g bytes address ep0 first last) = data_in_effect w e incoming d room g bytes address ep0 first last
every_effect w h e incoming d (Accept room g) = accept_effect w e incoming d room g
every_effect w h e incoming d (AcceptAddress room g address) = accept_address_effect w e incoming d room g address
every_effect w h e incoming d (Reject room g) = reject_effect w e incoming room g
every_effect w h e incoming d (TakeOut g out ep0 address) = take_out_effect w e incoming d g out ep0 address
every_effect w h e incoming d (TakeIn g) = take_in_effect w e incoming d g
every_effect w h e incoming d (Interrupt room) = interrupt_effect w e incoming room
every_effect w h e incoming d (Answer room reading) = answer_effect w e incoming d room reading
