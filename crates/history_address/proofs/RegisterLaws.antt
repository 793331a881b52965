-- Each call, refused or not, takes `dev_addr` to what the call's bearing says of the address that waits in the state, in one step.
-- Assumes nothing.
use Rattle.std.specs.Prelude.{ℕ, Bool, true, false, ◌&&◌, not, cond, List, length, leb, ◌≡◌, refl, Option, Ok, Err, Result}
use Rattle.ops.specs.Ops.{Op}
use Rattle.state.specs.declared.Awaited.{Awaited}
use Rattle.state.specs.declared.Reading.{Reading}
use Rattle.state.specs.declared.Refusal.{Refusal}
use Rattle.state.specs.declared.State.{State}
use Rattle.state.specs.declared.Events.{Events}
use Rattle.state.specs.Awaiting.{awaiting_number, awaitingb}
use Rattle.state.specs.Refusals.{Check}
use Rattle.state_call.specs.Outcome.{Outcome, or_else, unless}
use Rattle.bus_power_on.specs.PowerOn.{power_on_call}
use Rattle.bus_power_off.specs.PowerOff.{power_off_call}
use Rattle.endpoint_choice.specs.Choice.{asked_of}
use Rattle.interrupt_asks.specs.Settled.{settled_at, settled}
use Rattle.interrupt_readings.specs.Matched.{Matched, matched_as}
use Rattle.interrupt_readings.specs.Heard.{heard_link}
use Rattle.interrupt_followers.specs.Followers.{heard_transfer}
use Rattle.interrupt.specs.Interrupt.{link_before, link_settled, transfer_settled, answered, answer_call}
use Rattle.usbss.specs.Call.{World, Call, Start, PowerOn, PowerOff, Ordered, IsStalled, IsEnabled, Raise, Poll, Wakeup, Begin, Take, Abandon, Send, Sent, Receive, Received, Setup, DataOut, DataIn, Accept, AcceptAddress, Reject, TakeOut, TakeIn, Interrupt, Answer}
use Rattle.usbss.specs.Step.{step}
use Rattle.history_ops.specs.Held.{Moves, due}
use Rattle.history_ops.specs.Readings.{ends_status, resets_bus}
use Rattle.history_ops.proofs.HeldLaws.{moves_to, moves_still}
use Rattle.history_ops.proofs.CallOps.{begin_keeps, take_quiet, abandon_quiet, send_keeps, receive_keeps, sent_quiet, received_quiet, start_quiet, raise_quiet, poll_quiet, wakeup_quiet, stalled_quiet, enabled_quiet, order_quiet, power_on_call_moves, power_off_call_moves, interrupt_quiet, setup_call_quiet, take_in_quiet, take_out_quiet, data_out_quiet, data_in_quiet, accept_call_quiet, accept_address_quiet, reject_quiet}
use Rattle.history_ops.proofs.AnswerOps.{answer_moves}
use Rattle.history_rows.specs.Memory.{memory_of, accepted}
use Rattle.history_address.specs.Address.{Bearing, Waits, Forgets, Applies, Resets, Off, holds_behind, only, armed, brings_setup, told_by, bearing}

-- ---- a call by what its tests come to

module _ {A : Type 0} (c : Check) (s : State) (v : Events) (o : Outcome (Result A Refusal)) (f : Result A Refusal → Bearing) (p : Option ℕ) (a : ℕ) where
  -- behind a refused one the register holds what it held
  by_check : (k : ℕ) → ((r : Refusal) → a ≡ holds_behind (f (Err r)) p a) → k ≡ holds_behind (f o.answer) p a
      → or_else c (λ r. a) k ≡ holds_behind (f (unless Err c s v o).answer) p a
  unfolding or_else
  by_check k refused made = go c
    where
      go : (d : Check) → or_else d (λ r. a) k ≡ holds_behind (f (unless Err d s v o).answer) p a
      go (Ok u) = made
      go (Err r) = refused r

module _ (p : Option ℕ) (a : ℕ) where
  -- what leaves the register, leaves it also where it isn't told
  left : (b : Bool) (x : Bearing) → a ≡ holds_behind x p a → a ≡ holds_behind (only b x) p a
  left true x h = h
  left false x h = refl

  on_held : (powered : Bool) → cond powered a 0 ≡ holds_behind (only (not powered) Resets) p a
  on_held true = refl
  on_held false = refl

  off_held : (powered : Bool) → cond powered 0 a ≡ holds_behind (only powered Off) p a
  off_held true = refl
  off_held false = refl

  told_held : (resets ends setup : Bool) → cond resets 0 (cond ends (due p a) a) ≡ holds_behind (cond resets Resets (cond ends Applies (only setup Forgets))) p a
  told_held true ends setup = refl
  told_held false true setup = refl
  told_held false false true = refl
  told_held false false false = refl

-- ---- a reading

module _ (s : State) (v : Events) where
  -- one that is taken is answered without a refusal
  answered_accepted : (m : Matched) → accepted (answered s v m).answer ≡ true
  unfolding settled
  answered_accepted m = go (leb (awaiting_number s.awaited.next) 6)
    where
      taken : (t : State) (u : Events) (a : Awaited) (ops : List Op) → accepted (settled t u a ops).answer ≡ true
      taken t u a ops = each (awaitingb a.next)
        where
          each : (b : Bool) → accepted (settled_at b t u a ops).answer ≡ true
          each true = refl
          each false = refl

      go : (b : Bool) → accepted (cond b (link_settled s (heard_link s.ep0_address s.revision s.awaited (link_before s v) m)) (transfer_settled v (heard_transfer s m))).answer ≡ true
      go true = let h = heard_link s.ep0_address s.revision s.awaited (link_before s v) m in taken _ _ h.awaited h.ops
      go false = let h = heard_transfer s m in taken h.state v h.awaited h.ops

  answer_holds : (room : ℕ) (r : Reading) (a : ℕ)
      → Moves a (holds_behind (only (accepted (answer_call room s v r).answer) (told_by s.revision s.awaited (matched_as s.awaited.next r))) s.address a)
      (answer_call room s v r).ops
  unfolding answer_call
  answer_holds room r a =
      let m = matched_as s.awaited.next r in
      moves_to (answer_moves room s v r a)
      (by_check _ s v (answered s v m) (λ q. only (accepted q) (told_by s.revision s.awaited m)) s.address a _ (λ q. refl)
      (rw (answered_accepted m) (told_held s.address a (resets_bus s.revision s.awaited m) (ends_status m) (brings_setup m))))

-- ---- every call

-- A call takes `dev_addr` from what it held before to what the call's bearing makes of that.
pub register_step : (w : World) (c : Call) (a : ℕ) → Moves a (holds_behind (bearing (memory_of w.state) c (step w c).answer) w.state.address a) (step w c).ops
unfolding step bearing power_on_call power_off_call
register_step w (Start driver size) a = moves_still ((start_quiet w.state w.events driver size).keeps a)
register_step w (PowerOn room revision) a =
    moves_to (power_on_call_moves room w.state w.events revision a)
    (by_check _ w.state w.events _ (λ q. only (accepted q && not w.state.powered) Resets) w.state.address a _ (λ r. refl) (on_held w.state.address a w.state.powered))
register_step w (PowerOff room) a =
    moves_to (power_off_call_moves room w.state w.events a)
    (by_check _ w.state w.events _ (λ q. only (accepted q && w.state.powered) Off) w.state.address a _ (λ r. refl) (off_held w.state.address a w.state.powered))
register_step w (Ordered room at order) a = moves_still ((order_quiet room w.state w.events at.index at.incoming order).keeps a)
register_step w (IsStalled at) a = moves_still ((stalled_quiet w.state w.events at.index at.incoming).keeps a)
register_step w (IsEnabled at) a = moves_still ((enabled_quiet w.state w.events at.index at.incoming).keeps a)
register_step w (Raise event) a = moves_still ((raise_quiet w.state w.events event).keeps a)
register_step w Poll a = moves_still ((poll_quiet w.state w.events).keeps a)
register_step w (Wakeup room) a = moves_still ((wakeup_quiet room w.state w.events).keeps a)
register_step w (Begin room at piece) a = moves_still (begin_keeps room w.state w.events at.index at.incoming piece false false a)
register_step w (Take at) a = moves_still ((take_quiet w.state w.events at.index at.incoming false _).keeps a)
register_step w (Abandon room at) a = moves_still ((abandon_quiet w.state w.events room at.index at.incoming).keeps a)
register_step w (Send room e request bytes own) a = moves_still (send_keeps room w.state w.events e (asked_of request (length bytes)) bytes request.own_address own a)
register_step w (Sent e request bytes own) a = moves_still ((sent_quiet w.state w.events e (asked_of request bytes) request.own_address own).keeps a)
register_step w (Receive room e request bytes own) a = moves_still (receive_keeps room w.state w.events e (asked_of request bytes) request.own_address own a)
register_step w (Received e request bytes own) a = moves_still ((received_quiet w.state w.events e (asked_of request bytes) own request.own_address).keeps a)
register_step w Setup a = moves_still ((setup_call_quiet w.state w.events).keeps a)
register_step w (DataOut room g) a = moves_still ((data_out_quiet room w.state w.events g).keeps a)
register_step w (DataIn room g bytes address ep0 first last) a = moves_still ((data_in_quiet room w.state w.events g bytes address ep0 first last).keeps a)
register_step w (Accept room g) a =
    moves_to (moves_still ((accept_call_quiet room w.state w.events g).keeps a)) (left w.state.address a (armed (step w (Accept room g)).answer) Forgets refl)
register_step w (AcceptAddress room g address) a =
    moves_to (moves_still ((accept_address_quiet room w.state w.events g address).keeps a))
    (left w.state.address a (armed (step w (AcceptAddress room g address)).answer) (Waits address) refl)
register_step w (Reject room g) a = moves_still ((reject_quiet room w.state w.events g).keeps a)
register_step w (TakeOut g out ep0 address) a = moves_still ((take_out_quiet w.state w.events g out ep0 address).keeps a)
register_step w (TakeIn g) a = moves_still ((take_in_quiet w.state w.events g).keeps a)
register_step w (Interrupt room) a = moves_still ((interrupt_quiet room w.state w.events).keeps a)
register_step w (Answer room reading) a = answer_holds w.state w.events room reading a
