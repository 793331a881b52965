-- What each call's operations do, refused or not: a begin records its first chain, and no other call but a reading records one;
-- the address goes to 0 where power comes or goes, in one step, and no other call but a reading changes it.
-- Assumes nothing.
use Rattle.std.specs.Prelude.{ℕ, Bool, true, false, cond, List, [], ◌≡◌, refl, leb, Some, Ok, Err, Result}
use Rattle.ops.specs.Ops.{Op}
use Rattle.state.specs.declared.State.{State}
use Rattle.state.specs.declared.Events.{Events}
use Rattle.state.specs.declared.Driver.{Driver}
use Rattle.state.specs.declared.Refusal.{Refusal}
use Rattle.state.specs.Setters.{limit_of}
use Rattle.state.specs.Refusals.{first_refusal}
use Rattle.state_slots.specs.Slots.{busyb, slot_of}
use Rattle.state_slots.specs.Waking.{no_wakes}
use Rattle.state_call.specs.Outcome.{Outcome, or_else}
use Rattle.driver_start.specs.Start.{start_conditions, start_call}
use Rattle.transfer_chain.specs.Chains.{next_chain}
use Rattle.transfer_piece.specs.declared.Piece.{Piece}
use Rattle.transfer_begin.specs.Begin.{begin_conditions, begun_at, begun_state, begun_ops, begin_call}
use Rattle.transfer_take.specs.Take.{take_conditions, take_call}
use Rattle.transfer_abandon.specs.Abandon.{abandon_conditions, abandon_call}
use Rattle.bus_endpoint.specs.declared.Order.{Order}
use Rattle.bus_order.specs.Order.{order_conditions, order_call}
use Rattle.bus_events.specs.Raise.{raise_conditions, raise_call}
use Rattle.bus_events.specs.Poll.{poll_conditions, poll_call}
use Rattle.bus_query.specs.Query.{query_conditions, query_call, stalledb, enabledb, stalled_call, enabled_call}
use Rattle.regs_device.specs.Device.{power_on_ops}
use Rattle.bus_power_on.specs.PowerOn.{on_conditions, power_on_call}
use Rattle.bus_wakeup.specs.Wakeup.{wakeup_conditions, wakeup_call}
use Rattle.bus_power_off.specs.PowerOff.{off_conditions, power_off_call}
use Rattle.control_stage.specs.Stage.{servedb, begun, unanswered, in_stage}
use Rattle.control_setup.specs.Setup.{setup_conditions, setup_call}
use Rattle.control_out.specs.DataOut.{data_out_conditions, data_out_call}
use Rattle.control_in.specs.DataIn.{next_sequence, data_in_call}
use Rattle.regs_control.specs.Control.{ep0_stall_ops}
use Rattle.control_accept.specs.Accept.{accept_ops, accept_conditions, accept_call, address_conditions, accept_address_call}
use Rattle.control_reject.specs.Reject.{reject_conditions, reject_call}
use Rattle.control_take.specs.Take.{take_in_conditions, take_in_call}
use Rattle.control_take_out.specs.TakeOut.{take_out_call}
use Rattle.endpoint_choice.specs.declared.Asked.{Asked}
use Rattle.endpoint_choice.specs.Choice.{send_piece, send_begins, receive_piece}
use Rattle.endpoint_answer.specs.declared.Move.{Move}
use Rattle.endpoint_answer.specs.declared.Move.TheVariants as move
use Rattle.endpoint_send.specs.Send.{send_conditions, send_copies, send_made, send_call}
use Rattle.endpoint_sent.specs.Sent.{sent_call}
use Rattle.endpoint_receive.specs.Receive.{receive_conditions, receive_call}
use Rattle.endpoint_received.specs.Received.{received_call}
use Rattle.interrupt_asks.specs.SettledLaws.{settled_ops}
use Rattle.interrupt_asks.specs.Settled.{settled}
use Rattle.interrupt_begin.specs.Begin.{interrupt_conditions, first_awaited, interrupt_call}
use Rattle.history_ops.specs.Recorded.{none, recorded, Silent, handed}
use Rattle.history_ops.specs.Held.{Moves, Keeps}
use Rattle.history_ops.specs.Touched.{Quiet}
use Rattle.history_ops.proofs.RecordedLaws.{silent_none, silent_cond}
use Rattle.history_ops.proofs.HeldLaws.{stays_none, keeps_none, keeps_cond, moves_still, moves_cond}
use Rattle.history_ops.proofs.TouchedLaws.{quiet_none}
use Rattle.history_ops.proofs.EndpointOps.{abort_busy_quiet}
use Rattle.history_ops.proofs.LinkOps.{ux_exit_quiet}
use Rattle.history_ops.proofs.ControlOps.{ep0_rx_ready_quiet, ep0_tx_ready_quiet, ep0_stall_quiet}
use Rattle.history_ops.proofs.DeviceOps.{power_on_silent, power_on_moves}
use Rattle.history_ops.proofs.TransferOps.{begun_recorded, begun_keeps}
use Rattle.history_ops.proofs.BusOps.{made_quiet, shut_silent, shut_moves}
use Rattle.history_ops.proofs.Ep0Ops.{accept_quiet}
use Rattle.history_ops.proofs.CallLaws.{unless_recorded, unless_moves, unless_silent, unless_keeps, unless_quiet}

-- ---- transfers

module _ (room : ℕ) (s : State) (v : Events) (i : ℕ) (way : Bool) (p : Piece) (long unfit : Bool) where
  pub begin_recorded : (incoming : Bool) (e : ℕ)
      → recorded incoming e (begin_call room s v i way p long unfit).ops
      ≡ or_else (first_refusal (begin_conditions room s v i way p long unfit)) (λ r. none)
      (handed i way (Some (next_chain (limit_of s) way (begun_at s i way p))) incoming e)
  unfolding begin_call
  begin_recorded incoming e =
      rw (← begun_recorded s i way p incoming e) (unless_recorded Err (first_refusal (begin_conditions room s v i way p long unfit)) s v _ incoming e)

  pub begin_keeps : Keeps (begin_call room s v i way p long unfit).ops
  unfolding begin_call
  begin_keeps = unless_keeps Err (first_refusal (begin_conditions room s v i way p long unfit)) s v _ (begun_keeps s i way p)

module _ (s : State) (v : Events) where
  pub take_quiet : (e : ℕ) (incoming unfit : Bool) (most : ℕ) → Quiet (take_call s v e incoming unfit most).ops
  unfolding take_call
  take_quiet e incoming unfit most = unless_quiet Err (first_refusal (take_conditions s v e incoming unfit)) s v _ quiet_none

  pub abandon_quiet : (room e : ℕ) (incoming : Bool) → Quiet (abandon_call room s v e incoming).ops
  unfolding abandon_call
  abandon_quiet room e incoming =
      unless_quiet Err (first_refusal (abandon_conditions room s v e)) s v _ (abort_busy_quiet e incoming (busyb (slot_of s e incoming).phase))

-- ---- sends and receives

module _ (room : ℕ) (s : State) (v : Events) (i : ℕ) (k : Asked) where
  -- what a send's piece begins
  abbrev sending : Bool → List Op
  sending b = cond b (begun_ops s i true (send_piece (slot_of s i true) k)) []

  sending_ops : (bytes : List ℕ) → (send_made s v i k bytes).ops ≡ sending (send_begins (slot_of s i true) k)
  sending_ops bytes = go (send_begins (slot_of s i true) k)
    where
      go : (b : Bool)
          → (cond {A = Outcome (Result Move Refusal)} b
          (record {
            answer = Ok (move.Begun (send_piece (slot_of s i true) k).length);
            state = begun_state s i true (send_piece (slot_of s i true) k);
            events = v;
            ops = begun_ops s i true (send_piece (slot_of s i true) k);
            wakes = no_wakes;
            copied = send_copies (slot_of s i true) k bytes;
          })
          (record { answer = Ok (move.Ended k.length); state = s; events = v; ops = []; wakes = no_wakes; copied = [] })).ops
          ≡ sending b
      go true = refl
      go false = refl

  -- a send of nothing begins none
  pub send_recorded : (bytes : List ℕ) (own_address own_size : ℕ) (incoming : Bool) (e : ℕ)
      → recorded incoming e (send_call room s v i k bytes own_address own_size).ops
      ≡ or_else (first_refusal (send_conditions room s v i k own_address own_size)) (λ r. none)
      (cond (send_begins (slot_of s i true) k) (handed i true (Some (next_chain (limit_of s) true (begun_at s i true (send_piece (slot_of s i true) k)))) incoming e)
      none)
  unfolding send_call
  send_recorded bytes own_address own_size incoming e =
      rw (← made (send_begins (slot_of s i true) k), ← sending_ops bytes)
      (unless_recorded Err (first_refusal (send_conditions room s v i k own_address own_size)) s v (send_made s v i k bytes) incoming e)
    where
      made : (b : Bool) → recorded incoming e (sending b)
          ≡ cond b (handed i true (Some (next_chain (limit_of s) true (begun_at s i true (send_piece (slot_of s i true) k)))) incoming e) none
      made true = begun_recorded s i true (send_piece (slot_of s i true) k) incoming e
      made false = silent_none incoming e

  pub send_keeps : (bytes : List ℕ) (own_address own_size : ℕ) → Keeps (send_call room s v i k bytes own_address own_size).ops
  unfolding send_call
  send_keeps bytes own_address own_size =
      unless_keeps Err (first_refusal (send_conditions room s v i k own_address own_size)) s v (send_made s v i k bytes)
      (rw (sending_ops bytes) (keeps_cond (send_begins (slot_of s i true) k) (begun_ops s i true (send_piece (slot_of s i true) k)) []
      (begun_keeps s i true (send_piece (slot_of s i true) k)) keeps_none))

  pub receive_recorded : (own_address own_size : ℕ) (incoming : Bool) (e : ℕ)
      → recorded incoming e (receive_call room s v i k own_address own_size).ops
      ≡ or_else (first_refusal (receive_conditions room s v i k own_address own_size)) (λ r. none)
      (handed i false (Some (next_chain (limit_of s) false (begun_at s i false (receive_piece (slot_of s i false) k)))) incoming e)
  unfolding receive_call
  receive_recorded own_address own_size incoming e =
      rw (← begun_recorded s i false (receive_piece (slot_of s i false) k) incoming e)
      (unless_recorded Err (first_refusal (receive_conditions room s v i k own_address own_size)) s v _ incoming e)

  pub receive_keeps : (own_address own_size : ℕ) → Keeps (receive_call room s v i k own_address own_size).ops
  unfolding receive_call
  receive_keeps own_address own_size =
      unless_keeps Err (first_refusal (receive_conditions room s v i k own_address own_size)) s v _ (begun_keeps s i false (receive_piece (slot_of s i false) k))

module _ (s : State) (v : Events) (e : ℕ) (k : Asked) where
  pub sent_quiet : (own_address own_size : ℕ) → Quiet (sent_call s v e k own_address own_size).ops
  unfolding sent_call
  sent_quiet own_address own_size = quiet_none

  pub received_quiet : (own : List ℕ) (own_address : ℕ) → Quiet (received_call s v e k own own_address).ops
  unfolding received_call
  received_quiet own own_address = quiet_none

-- ---- the device

module _ (s : State) (v : Events) where
  pub start_quiet : (d : Driver) (size : ℕ) → Quiet (start_call s v d size).ops
  unfolding start_call
  start_quiet d size = unless_quiet Err (first_refusal (start_conditions s v d size)) s v _ quiet_none

  pub raise_quiet : (event : ℕ) → Quiet (raise_call s v event).ops
  unfolding raise_call
  raise_quiet event = unless_quiet Err (first_refusal (raise_conditions s v event)) s v _ quiet_none

  pub poll_quiet : Quiet (poll_call s v).ops
  unfolding poll_call
  poll_quiet = unless_quiet Err (first_refusal (poll_conditions s v)) s v _ quiet_none

  query_quiet : (b : Bool) → Quiet (query_call s v b).ops
  query_quiet b = unless_quiet Err (first_refusal (query_conditions s v)) s v _ quiet_none

  pub stalled_quiet : (e : ℕ) (incoming : Bool) → Quiet (stalled_call s v e incoming).ops
  unfolding stalled_call
  stalled_quiet e incoming = query_quiet (stalledb s e incoming)

  pub enabled_quiet : (e : ℕ) (incoming : Bool) → Quiet (enabled_call s v e incoming).ops
  unfolding enabled_call
  enabled_quiet e incoming = query_quiet (enabledb s e incoming)

module _ (room : ℕ) (s : State) (v : Events) where
  pub order_quiet : (e : ℕ) (incoming : Bool) (o : Order) → Quiet (order_call room s v e incoming o).ops
  unfolding order_call
  order_quiet e incoming o = unless_quiet Err (first_refusal (order_conditions room s v)) s v _ (made_quiet s.powered e incoming o (slot_of s e incoming))

  -- only what comes up resets the address
  pub power_on_call_silent : (revision : ℕ) → Silent (power_on_call room s v revision).ops
  unfolding power_on_call
  power_on_call_silent revision =
      unless_silent Err (first_refusal (on_conditions room s v revision)) s v _
      (silent_cond s.powered [] (power_on_ops revision s.ep0_address) silent_none (power_on_silent revision s.ep0_address))

  pub power_on_call_moves : (revision a : ℕ)
      → Moves a (or_else (first_refusal (on_conditions room s v revision)) (λ r. a) (cond s.powered a 0)) (power_on_call room s v revision).ops
  unfolding power_on_call
  power_on_call_moves revision a =
      unless_moves Err (first_refusal (on_conditions room s v revision)) s v _ a (cond s.powered a 0)
      (moves_cond s.powered [] (power_on_ops revision s.ep0_address) (moves_still (stays_none a)) (power_on_moves a revision s.ep0_address))

  -- and what goes down
  pub power_off_call_silent : Silent (power_off_call room s v).ops
  unfolding power_off_call
  power_off_call_silent = unless_silent Err (first_refusal (off_conditions room s v)) s v _ (shut_silent s.powered)

  pub power_off_call_moves : (a : ℕ) → Moves a (or_else (first_refusal (off_conditions room s v)) (λ r. a) (cond s.powered 0 a)) (power_off_call room s v).ops
  unfolding power_off_call
  power_off_call_moves a = unless_moves Err (first_refusal (off_conditions room s v)) s v _ a (cond s.powered 0 a) (shut_moves a s.powered)

  pub wakeup_quiet : Quiet (wakeup_call room s v).ops
  unfolding wakeup_call
  wakeup_quiet = unless_quiet Err (first_refusal (wakeup_conditions room s v)) s v _ ux_exit_quiet

  pub interrupt_quiet : Quiet (interrupt_call room s v).ops
  unfolding interrupt_call
  interrupt_quiet =
      unless_quiet Err (first_refusal (interrupt_conditions room s v)) s v (settled s v (first_awaited s.powered) [])
      (rw (← settled_ops s v (first_awaited s.powered) []) quiet_none)

-- ---- control transfers

module _ (s : State) (v : Events) where
  pub setup_call_quiet : Quiet (setup_call s v).ops
  unfolding setup_call
  setup_call_quiet = unless_quiet Err (first_refusal (setup_conditions s v)) s v _ quiet_none

  pub take_in_quiet : (generation : ℕ) → Quiet (take_in_call s v generation).ops
  unfolding take_in_call
  take_in_quiet generation = unless_quiet Err (first_refusal (take_in_conditions s v generation)) s v _ quiet_none

  pub take_out_quiet : (generation room : ℕ) (ep0 : List ℕ) (address : ℕ) → Quiet (take_out_call s v generation room ep0 address).ops
  unfolding take_out_call
  take_out_quiet generation room ep0 address = unless_quiet Err _ s v _ quiet_none

module _ (room : ℕ) (s : State) (v : Events) (generation : ℕ) where
  pub data_out_quiet : Quiet (data_out_call room s v generation).ops
  unfolding data_out_call
  data_out_quiet = unless_quiet Err (first_refusal (data_out_conditions room s v generation)) s v _ ep0_rx_ready_quiet

  pub data_in_quiet : (bytes : List ℕ) (address size : ℕ) (first last : Bool) → Quiet (data_in_call room s v generation bytes address size first last).ops
  unfolding data_in_call
  data_in_quiet bytes address size first last = unless_quiet Err _ s v _ (ep0_tx_ready_quiet (next_sequence first s.tx_seq) _)

  pub accept_call_quiet : Quiet (accept_call room s v generation).ops
  unfolding accept_call
  accept_call_quiet = unless_quiet Err (first_refusal (accept_conditions room s v generation)) s v _ accept_quiet

  -- an address accepted waits; no register has it yet
  pub accept_address_quiet : (address : ℕ) → Quiet (accept_address_call room s v generation address).ops
  unfolding accept_address_call
  accept_address_quiet address = unless_quiet Err (first_refusal (address_conditions room s v generation address)) s v _ (go (leb address 127))
    where
      go : (b : Bool) → Quiet (cond b (begun (in_stage s true (Some address)) v accept_ops []) (unanswered s v)).ops
      go true = accept_quiet
      go false = quiet_none

  pub reject_quiet : Quiet (reject_call room s v generation).ops
  unfolding reject_call
  reject_quiet = unless_quiet Err (first_refusal (reject_conditions room s v)) s v _ (go (servedb s generation))
    where
      go : (b : Bool) → Quiet (cond b (begun s v ep0_stall_ops []) (unanswered s v)).ops
      go true = ep0_stall_quiet
      go false = quiet_none
