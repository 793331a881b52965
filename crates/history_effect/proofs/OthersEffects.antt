-- What the calls that aren't on one slot do to a direction of a data endpoint, an interrupt's reading apart: a start and a change of
-- power cut it, the others leave it. None of them records a chain.
-- Assumes nothing.
use Rattle.std.specs.Prelude.{ℕ, ◌≤◌, ◌<◌, Bool, true, false, not, ◌&&◌, cond, List, [], length, leb, ltb, ◌≡◌, refl, Some}
use Rattle.state.specs.declared.State.{State}
use Rattle.state.specs.declared.Events.{Events}
use Rattle.state.specs.declared.Driver.{Driver}
use Rattle.state.specs.declared.EndpointAddress.{EndpointAddress}
use Rattle.state.specs.Fresh.{slot_at}
use Rattle.state.specs.Setters.{limit_of, with_slot}
use Rattle.state_slots.specs.Slots.{data_endpoint, slot_number, slot_of}
use Rattle.state_laws.specs.SlotLaws.{slot_range}
use Rattle.driver_start.specs.Start.{started_state, start_conditions, start_call}
use Rattle.bus_power_on.specs.PowerOn.{on_conditions, on_state, power_on_call}
use Rattle.bus_power_off.specs.PowerOff.{off_conditions, off_state, shut_ops, power_off_call}
use Rattle.bus_laws.specs.PowerKeeps.{reset_cut, off_cut}
use Rattle.bus_query.specs.Query.{query_conditions, stalled_call, enabled_call}
use Rattle.bus_events.specs.Raise.{raise_conditions, raise_call}
use Rattle.bus_events.specs.Poll.{poll_conditions, poll_call}
use Rattle.bus_wakeup.specs.Wakeup.{wakeup_conditions, wakeup_call}
use Rattle.regs_device.specs.Device.{power_on_ops}
use Rattle.regs_control.specs.Control.{ep0_stall_ops}
use Rattle.control_stage.specs.Stage.{ep0_unfit, servedb, staged_slot, begun, unanswered, in_stage}
use Rattle.control_setup.specs.Setup.{setup_conditions, setup_call}
use Rattle.control_out.specs.DataOut.{data_out_conditions, data_out_call}
use Rattle.control_in.specs.DataIn.{data_in_conditions, data_in_call}
use Rattle.control_accept.specs.Accept.{accept_ops, accept_conditions, accept_call, address_conditions, accept_address_call}
use Rattle.control_reject.specs.Reject.{reject_conditions, reject_call}
use Rattle.control_take.specs.Take.{doneb, idle_slot, take_in_conditions, take_in_call}
use Rattle.control_take_out.specs.TakeOut.{take_out_conditions, take_out_call}
use Rattle.interrupt_asks.specs.Settled.{settled}
use Rattle.interrupt_begin.specs.Begin.{interrupt_conditions, first_awaited, interrupt_call}
use Rattle.history_ops.specs.Recorded.{recorded}
use Rattle.history_ops.proofs.RecordedLaws.{silent_none}
use Rattle.history_ops.proofs.DeviceOps.{power_on_silent}
use Rattle.history_ops.proofs.BusOps.{shut_silent}
use Rattle.history_ops.proofs.CallOps.{raise_quiet, poll_quiet, wakeup_quiet, stalled_quiet, enabled_quiet, interrupt_quiet, setup_call_quiet, take_in_quiet, take_out_quiet, data_out_quiet, data_in_quiet, accept_call_quiet, accept_address_quiet, reject_quiet}
use Rattle.usbss.specs.Call.{World, Start, PowerOn, PowerOff, IsStalled, IsEnabled, Raise, Poll, Wakeup, Setup, DataOut, DataIn, Accept, AcceptAddress, Reject, TakeOut, TakeIn, Interrupt}
use Rattle.usbss.specs.Step.{step}
use Rattle.history_effect.specs.Seen.{Cuts, only, seen}
use Rattle.history_effect.specs.Effect.{EffectAs, Effect}
use Rattle.history_effect.proofs.DataSlots.{ep0_stored, settled_slot, started_cut}
use Rattle.history_effect.proofs.UnlessEffects.{passing, cutting, unless_does, unless_passes}

module _ (w : World) (e : ℕ) (incoming : Bool) where
  abbrev s : State
  s = w.state

  abbrev v : Events
  v = w.events

  abbrev i : ℕ
  i = slot_number e incoming

  -- ---- the calls that leave every slot

  pub is_stalled_effect : (at : EndpointAddress) → Effect e incoming w (IsStalled at)
  unfolding step seen stalled_call
  is_stalled_effect at = unless_passes s v e incoming (query_conditions s v) _ (stalled_quiet s v at.index at.incoming).silent refl

  pub is_enabled_effect : (at : EndpointAddress) → Effect e incoming w (IsEnabled at)
  unfolding step seen enabled_call
  is_enabled_effect at = unless_passes s v e incoming (query_conditions s v) _ (enabled_quiet s v at.index at.incoming).silent refl

  pub raise_effect : (event : ℕ) → Effect e incoming w (Raise event)
  unfolding step seen raise_call
  raise_effect event = unless_passes s v e incoming (raise_conditions s v event) _ (raise_quiet s v event).silent refl

  pub poll_effect : Effect e incoming w Poll
  unfolding step seen poll_call
  poll_effect = unless_passes s v e incoming (poll_conditions s v) _ (poll_quiet s v).silent refl

  pub wakeup_effect : (room : ℕ) → Effect e incoming w (Wakeup room)
  unfolding step seen wakeup_call
  wakeup_effect room = unless_passes s v e incoming (wakeup_conditions room s v) _ (wakeup_quiet room s v).silent refl

  pub setup_effect : Effect e incoming w Setup
  unfolding step seen setup_call
  setup_effect = unless_passes s v e incoming (setup_conditions s v) _ (setup_call_quiet s v).silent refl

  pub interrupt_effect : (room : ℕ) → Effect e incoming w (Interrupt room)
  unfolding step seen interrupt_call
  interrupt_effect room =
      unless_passes s v e incoming (interrupt_conditions room s v) (settled s v (first_awaited s.powered) []) (interrupt_quiet room s v).silent
      (settled_slot s v (first_awaited s.powered) [] i)

  pub reject_effect : (room g : ℕ) → Effect e incoming w (Reject room g)
  unfolding step seen reject_call
  reject_effect room g = unless_passes s v e incoming (reject_conditions room s v) _ (reject_quiet room s v g).silent (go (servedb s g))
    where
      go : (b : Bool) → slot_of (cond b (begun s v ep0_stall_ops []) (unanswered s v)).state e incoming ≡ slot_of s e incoming
      go true = refl
      go false = refl

  -- ---- the stages, which are in endpoint 0's slots

  module _ (d : data_endpoint e ≡ true) where
    abbrev range : (2 ≤ i) × (i < 16)
    range = slot_range e incoming d

    pub data_out_effect : (room g : ℕ) → Effect e incoming w (DataOut room g)
    unfolding step seen data_out_call
    data_out_effect room g =
        unless_passes s v e incoming (data_out_conditions room s v g) _ (data_out_quiet room s v g).silent (ep0_stored s e incoming d 0 (staged_slot (slot_at s 0)) refl)

    pub data_in_effect : (room g : ℕ) (bytes : List ℕ) (address ep0 : ℕ) (first last : Bool) → Effect e incoming w (DataIn room g bytes address ep0 first last)
    unfolding step seen data_in_call
    data_in_effect room g bytes address ep0 first last =
        unless_passes s v e incoming (data_in_conditions room s v g (length bytes) (ep0_unfit s address ep0)) _
        (data_in_quiet room s v g bytes address ep0 first last).silent (ep0_stored s e incoming d 1 (staged_slot (slot_at s 1)) refl)

    pub accept_effect : (room g : ℕ) → Effect e incoming w (Accept room g)
    unfolding step seen accept_call
    accept_effect room g = unless_passes s v e incoming (accept_conditions room s v g) _ (accept_call_quiet room s v g).silent (ep0_stored s e incoming d 1 (staged_slot (slot_at s 1)) refl)

    pub accept_address_effect : (room g address : ℕ) → Effect e incoming w (AcceptAddress room g address)
    unfolding step seen accept_address_call
    accept_address_effect room g address =
        unless_passes s v e incoming (address_conditions room s v g address) _ (accept_address_quiet room s v g address).silent (go (leb address 127))
      where
        go : (b : Bool) → slot_of (cond b (begun (in_stage s true (Some address)) v accept_ops []) (unanswered s v)).state e incoming ≡ slot_of s e incoming
        go true = ep0_stored s e incoming d 1 (staged_slot (slot_at s 1)) refl
        go false = refl

    taken : (k : ℕ) → ltb k 2 ≡ true → (b : Bool) → slot_of (cond b (with_slot s k (idle_slot (slot_at s k))) s) e incoming ≡ slot_of s e incoming
    taken k low true = ep0_stored s e incoming d k (idle_slot (slot_at s k)) low
    taken k low false = refl

    pub take_out_effect : (g out : ℕ) (ep0 : List ℕ) (address : ℕ) → Effect e incoming w (TakeOut g out ep0 address)
    unfolding step seen take_out_call
    take_out_effect g out ep0 address =
        unless_passes s v e incoming (take_out_conditions s v g (ep0_unfit s address (length ep0))) _ (take_out_quiet s v g out ep0 address).silent
        (taken 0 refl (doneb (slot_at s 0).phase))

    pub take_in_effect : (g : ℕ) → Effect e incoming w (TakeIn g)
    unfolding step seen take_in_call
    take_in_effect g = unless_passes s v e incoming (take_in_conditions s v g) _ (take_in_quiet s v g).silent (taken 1 refl (doneb (slot_at s 1).phase))

    -- ---- the calls that cut

    pub start_effect : (driver : Driver) (size : ℕ) → Effect e incoming w (Start driver size)
    unfolding step seen start_call
    start_effect driver size =
        unless_does s v e incoming (λ b. only b Cuts) refl (start_conditions s v driver size) _
        (cutting (limit_of s) incoming (slot_of s e incoming) (slot_of (started_state s driver) e incoming) (recorded incoming e []) (silent_none incoming e)
        (started_cut s driver i range.0 range.1))

    pub power_off_effect : (room : ℕ) → Effect e incoming w (PowerOff room)
    unfolding step seen power_off_call
    power_off_effect room =
        unless_does s v e incoming (λ b. only b Cuts) refl (off_conditions room s v) _
        (cutting (limit_of s) incoming (slot_of s e incoming) (slot_of (off_state s) e incoming) (recorded incoming e (shut_ops s.powered))
        (shut_silent s.powered incoming e) (off_cut s i range.0 range.1))

    -- a device that is on already stays as it is
    pub power_on_effect : (room revision : ℕ) → Effect e incoming w (PowerOn room revision)
    unfolding step seen power_on_call
    power_on_effect room revision =
        unless_does s v e incoming (λ b. only (b && not s.powered) Cuts) refl (on_conditions room s v revision) _ (go s.powered)
      where
        go : (b : Bool)
            → EffectAs (limit_of s) incoming (slot_of s e incoming) (slot_of (cond b s (on_state s revision)) e incoming)
            (recorded incoming e (cond b [] (power_on_ops revision s.ep0_address))) (only (not b) Cuts)
        go true = passing (limit_of s) incoming (slot_of s e incoming) (slot_of s e incoming) (recorded incoming e []) (silent_none incoming e) refl
        go false =
            cutting (limit_of s) incoming (slot_of s e incoming) (slot_of (on_state s revision) e incoming)
            (recorded incoming e (power_on_ops revision s.ep0_address)) (power_on_silent revision s.ep0_address incoming e) (reset_cut s i range.0 range.1)
