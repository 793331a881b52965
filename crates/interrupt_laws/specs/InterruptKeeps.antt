-- An interrupt's calls keep a state sound, and the account of every data slot.
-- Assumes nothing.
use Rattle.std.specs.Prelude.{ℕ, not, ◌&&◌, ◌||◌, ◌≡◌, eqb, leb, Err, Option, Some, None}
use Rattle.std.proofs.Math.Bool.{Bool, true, false, cond}
use mathlib.Core.List.{List, []}
use Rattle.std.proofs.Math.Path.{refl}
use Rattle.std.proofs.Common.{arith, le-leb}
use Rattle.std.proofs.lemmas.Bool.{eqb-false}
use Rattle.base.specs.EachLaws.{and_both, implied}
use Rattle.ops.specs.Numbers as number
use Rattle.ops.specs.Ops.{Op}
use Rattle.regs_control.specs.Control.{status_others_ops}
use Rattle.regs_link.specs.Link.{link_ack_ops}
use Rattle.state.specs.declared.LinkFlags.{LinkFlags}
use Rattle.state.specs.declared.LinkState.{LinkState}
use Rattle.state.specs.declared.LinkState.TheVariants as link
use Rattle.state.specs.declared.TransferStatus.{TransferStatus}
use Rattle.state.specs.declared.Slot.{Slot}
use Rattle.state.specs.declared.Awaiting.{Awaiting}
use Rattle.state.specs.declared.Awaiting.TheVariants as awaiting
use Rattle.state.specs.declared.Awaited.{Awaited}
use Rattle.state.specs.declared.Reading.{Reading}
use Rattle.state.specs.declared.State.{State}
use Rattle.state.specs.declared.Events.{Events}
use Rattle.state.specs.Awaiting.{awaiting_number, awaitingb, chain_readingb}
use Rattle.state.specs.Fresh.{nothing_awaited, slot_at}
use Rattle.state.specs.Setters.{with_slot, with_sequence, with_stage}
use Rattle.state_slots.specs.Slots.{busyb}
use Rattle.state_slots.specs.Completing.{done_slot, completed_slot, complete}
use Rattle.state_events.specs.declared.Event.{Event}
use Rattle.state_events.specs.declared.Event.TheVariants as event
use Rattle.state_events.specs.Bytes.{events_soundb}
use Rattle.state_events.specs.Events.{event_number, raise_event}
use Rattle.state_sound.specs.Sound.{soundb}
use Rattle.state_sound.proofs.FactLaws.{own_facts}
use Rattle.state_laws.specs.EventsLaws.{raise_sound}
use Rattle.state_call.specs.OutcomeLaws.{passed}
use Rattle.transfer_report.specs.Report.{report_state, report_ops}
use Rattle.transfer_laws.specs.ReportKeeps.{report_keeps_sound, report_keeps_account}
use Rattle.bus_reset.specs.Reset.{control_reset, bus_reset_state}
use Rattle.control_report.specs.Ep0.{setup_ops, setup_received, status_ops, status_done, received_slot, length_ops, length_received, status_follows, sequence_ops, packet_sent}
use Rattle.control_laws.specs.KeptLaws.{KeepsAll, KeepsWorld, call_keeps, all_same, all_either, all_events, all_link, all_wake, all_ended, all_awaited, all_control, all_stage, all_ep0, all_complete, all_control_reset, all_bus_reset}
use Rattle.interrupt_link.specs.declared.LinkEffect.{LinkEffect}
use Rattle.interrupt_link.specs.Actions.{raise_if, awake, resumed, trained, suspends, link_change, changed, term_gone, link_reset}
use Rattle.interrupt_asks.specs.Turns.{Heard}
use Rattle.interrupt_asks.specs.Asking.{asked, behind_timeout, behind_message, behind_sent, behind_change}
use Rattle.interrupt_asks.specs.Settled.{settled_at, settled}
use Rattle.interrupt_transfer.specs.Transfers.{Turned, over, asking, chain_asked, last_asked, ep0_reading, endpoint_turn, status_turn}
use Rattle.interrupt_readings.specs.Matched.{Matched, matched_as, link_flags, capability, term_status, message, warm_status}
use Rattle.interrupt_readings.specs.Heard.{seeing, from_change, status_heard, capability_due, heard_link}
use Rattle.interrupt_followers.specs.Followers.{heard_transfer}
use Rattle.interrupt_begin.specs.Begin.{interrupt_conditions, first_awaited, interrupt_call}
use Rattle.interrupt.specs.Interrupt.{answer_conditions, link_before, link_flags_of, link_after, link_settled, answered, answer_call}
use Rattle.interrupt_laws.specs.ReadingLaws.{EachReading, each_reading, answered_at, tested_reading}

-- ---- the events

abbrev SoundEvents : Events → Type 0
SoundEvents u = events_soundb u.events ≡ true

event_raised : (u : Events) (e : Event) → SoundEvents u → SoundEvents (raise_event u e)
event_raised u event.PowerDetected h = raise_sound u.events (event_number event.PowerDetected) h
event_raised u event.Reset h = raise_sound u.events (event_number event.Reset) h
event_raised u event.Suspend h = raise_sound u.events (event_number event.Suspend) h
event_raised u event.Resume h = raise_sound u.events (event_number event.Resume) h

event_raised_if : (due : Bool) (u : Events) (e : Event) → SoundEvents u → SoundEvents (raise_if due u e)
event_raised_if true u e h = event_raised u e h
event_raised_if false u e h = h

effect_either : (b : Bool) (f g : LinkEffect) → SoundEvents f.events → SoundEvents g.events → SoundEvents (cond b f g).events
effect_either true f g h k = h
effect_either false f g h k = k

change_events : (l : LinkState) (f : LinkEffect) → SoundEvents f.events → SoundEvents (link_change l f).events
change_events link.U0 f h =
    effect_either f.reset_seen (cond f.suspended (resumed f) f) (trained f) (effect_either f.suspended (resumed f) f (event_raised f.events event.Resume h) h)
    (event_raised f.events event.Reset h)
change_events link.U1 f h = h
change_events link.U2 f h = h
change_events link.U3 f h = event_raised_if (suspends f) f.events event.Suspend h
change_events link.DISABLED f h = h
change_events link.RXDET f h = event_raised_if f.reset_seen f.events event.Suspend h
change_events link.RECOVERY f h = effect_either f.low_power (awake f) f h h
change_events link.HOTRST f h = event_raised f.events event.Reset h
change_events link.OTHER f h = h

changed_events : (flag : Bool) (l : LinkState) (f : LinkEffect) → SoundEvents f.events → SoundEvents (changed flag l f).events
changed_events flag l f h = effect_either flag (link_change l f) f (change_events l f h) h

-- ---- what is awaited behind the link's readings is of no chain

plain_either : (b : Bool) (x y : Option Awaiting) → chain_readingb x ≡ false → chain_readingb y ≡ false → chain_readingb (cond b x y) ≡ false
plain_either true x y h k = h
plain_either false x y h k = k

plain_message : (f : LinkFlags) → chain_readingb (behind_message f) ≡ false
plain_message f =
    plain_either f.link_if_rx_lmp_tout None (behind_timeout f) refl
    (plain_either f.link_if_warm_rst (Some awaiting.WarmResetStatus) (Some awaiting.TransferStatus) refl refl)

plain_sent : (f : LinkFlags) → chain_readingb (behind_sent f) ≡ false
plain_sent f = plain_either f.link_if_rx_lmp (Some awaiting.MessageWord) (behind_message f) refl (plain_message f)

plain_change : (f : LinkFlags) → chain_readingb (behind_change f) ≡ false
plain_change f = plain_either f.link_if_term_pres (Some awaiting.TermPresStatus) (behind_sent f) refl (plain_sent f)

-- ---- what is kept where a reading is accepted

ended_all : (s t : State) (v : Events) (ops : List Op) → KeepsAll s t v → KeepsAll s (settled t v nothing_awaited ops).state (settled t v nothing_awaited ops).events
unfolding settled
ended_all s t v ops k = all_ended s t v k

module _ (s : State) (v : Events) (h : soundb s v ≡ true) (on : s.powered ≡ true) where
  abbrev Settles : State → Events → Awaited → List Op → Type 0
  Settles t u a ops = KeepsAll s (settled t u a ops).state (settled t u a ops).events

  -- a reading is awaited, or the interrupt has ended
  settles : (t : State) (u : Events) (a : Awaited) (ops : List Op) → KeepsAll s t u → t.powered ≡ true
      → (not (chain_readingb a.next) || (leb 1 a.endpoint && leb a.endpoint 7)) ≡ true → Settles t u a ops
  unfolding settled
  settles t u a ops k power chain = go (awaitingb a.next)
    where
      go : (b : Bool) → KeepsAll s (settled_at b t u a ops).state (settled_at b t u a ops).events
      go true = all_awaited s t u k a power chain
      go false = all_ended s t u k

  ends : (t : State) (ops : List Op) → KeepsAll s t v → Settles t v nothing_awaited ops
  ends t ops k = ended_all s t v ops k

  asks : (a : Awaited) (ops : List Op) → (not (chain_readingb a.next) || (leb 1 a.endpoint && leb a.endpoint 7)) ≡ true → Settles s v a ops
  asks a ops chain = settles s v a ops (all_same s v h) on chain

  link_settles : (x : Heard LinkEffect) → SoundEvents x.effect.events → chain_readingb x.awaited.next ≡ false
      → KeepsAll s (link_settled s x).state (link_settled s x).events
  link_settles x sound plain =
      settles (link_after s x.effect) x.effect.events x.awaited x.ops
      (all_link s (cond x.effect.resets (bus_reset_state s) s) x.effect.events
      (all_events s _ v (all_either x.effect.resets s (bus_reset_state s) s v (all_bus_reset s s v (all_same s v h)) (all_same s v h)) x.effect.events sound)
      (link_flags_of x.effect))
      (power x.effect.resets) (rw plain)
    where
      power : (b : Bool) → (cond b (bus_reset_state s) s).powered ≡ true
      power true = on
      power false = on

  before : SoundEvents (link_before s v).events
  before = (own_facts s v h).apart

  status_settles : (l : LinkState) → let x = status_heard s.ep0_address s.revision s.awaited (link_before s v) l in
      KeepsAll s (link_settled s x).state (link_settled s x).events
  status_settles l = go (capability_due s.revision s.awaited)
    where
      a : Awaited
      a = seeing s.awaited l

      due : Heard LinkEffect
      due = record { effect = link_before s v; awaited = asked a (Some awaiting.PortCapability); ops = link_ack_ops number.link_if_rx_set_fc }

      rest : Heard LinkEffect
      rest = from_change s.ep0_address a l (link_before s v) []

      go : (b : Bool) → KeepsAll s (link_settled s (cond b due rest)).state (link_settled s (cond b due rest)).events
      go true = link_settles due before refl
      go false = link_settles rest (changed_events s.awaited.flags.link_if_state_chg l (link_before s v) before) (plain_change s.awaited.flags)

  reported_all : (e : ℕ) (incoming : Bool) (packets last : ℕ) → KeepsAll s (report_state s e incoming packets last) v
  reported_all e incoming packets last =
      record { sound = report_keeps_sound s v e incoming packets last h; account = λ i l b. report_keeps_account s e incoming packets last i }

  -- the endpoint that is remembered for a chain is one of 1 to 7
  endpoint_settles : (e : ℕ) (incoming : Bool) → Settles (endpoint_turn s e incoming).state v (endpoint_turn s e incoming).awaited (endpoint_turn s e incoming).ops
  endpoint_settles e incoming = go (eqb e 0) refl (leb e 7) refl incoming
    where
      turn : Bool → Bool → Bool → Turned
      turn b c d = cond b (asking s (asked s.awaited (Some (ep0_reading d))) []) (cond c (cond d (over (report_state s e true 0 0) (report_ops s e true 0 0)) (asking s (chain_asked s.awaited e) [])) (over s []))

      go : (b : Bool) → eqb e 0 ≡ b → (c : Bool) → leb e 7 ≡ c → (d : Bool) → Settles (turn b c d).state v (turn b c d).awaited (turn b c d).ops
      go true p c q true = asks (asked s.awaited (Some awaiting.Ep0Sequence)) [] refl
      go true p c q false = asks (asked s.awaited (Some awaiting.Ep0Length)) [] refl
      go false p true q true = ends (report_state s e true 0 0) (report_ops s e true 0 0) (reported_all e true 0 0)
      go false p true q false = asks (chain_asked s.awaited e) [] (and_both (leb 1 e) (leb e 7) (le-leb 1 e (omega (arith, eqb-false e 0 p))) q)
      go false p false q d = ends s [] (all_same s v h)

  -- the address that waited waits no longer
  status_done_lem : KeepsAll s (status_done s) v
  status_done_lem = all_complete s (with_stage s s.in_last None) v (all_stage s s v (all_same s v h) s.in_last None refl) 1 refl

  transfer_settles : (t : TransferStatus) → Settles (status_turn s t).state v (status_turn s t).awaited (status_turn s t).ops
  unfolding status_turn
  transfer_settles t = go t.udif_status t.udif_setup t.uif_transfer
    where
      turn : Bool → Bool → Bool → Turned
      turn a b c =
          cond a (over (status_done s) (status_ops s.address))
          (cond b (asking s (asked s.awaited (Some awaiting.SetupBytes)) setup_ops)
          (cond c (endpoint_turn s t.ep_id t.ep_dir) (over s (status_others_ops t.uif_itp t.uif_rx_ping t.uif_fifo_txov t.uif_fifo_rxov))))

      go : (a b c : Bool) → Settles (turn a b c).state v (turn a b c).awaited (turn a b c).ops
      go true b c = ends (status_done s) _ status_done_lem
      go false true c = asks (asked s.awaited (Some awaiting.SetupBytes)) setup_ops refl
      go false false true = endpoint_settles t.ep_id t.ep_dir
      go false false false = ends s _ (all_same s v h)

  setup_received_lem : (b : List ℕ) → KeepsAll s (setup_received s b) v
  setup_received_lem b =
      let k = all_control_reset s s v (all_same s v h) in
      let o = own_facts (control_reset s) v k.sound in
      all_control s (control_reset s) v k _ o.address o.sequence

  length_received_lem : (n : ℕ) → KeepsAll s (length_received s n) v
  length_received_lem n =
      all_wake s (with_slot s 0 (completed_slot x)) v (all_ep0 s s v (all_same s v h) 0 (completed_slot x) refl (same (busyb x.phase))) _
    where
      x : Slot
      x = received_slot n (slot_at s 0)

      same : (b : Bool) → (cond b (done_slot x) x).config ≡ (slot_at s 0).config
      same true = refl
      same false = refl

  packet_sent_lem : (q : ℕ) → leb q 31 ≡ true → KeepsAll s (packet_sent s q) v
  packet_sent_lem q b =
      let k : KeepsAll s (with_sequence s q) v = all_control s s v (all_same s v h) _ (own_facts s v h).address b in
      all_either (status_follows s) s (with_sequence s q) (complete (with_sequence s q) 1) v k (all_complete s (with_sequence s q) v k 1 refl)

  abbrev heard : Matched → Heard LinkEffect
  heard m = heard_link s.ep0_address s.revision s.awaited (link_before s v) m

  -- each of the twelve, the awaited one being in place n
  each_settles : EachReading (λ n m. awaiting_number s.awaited.next ≡ n → KeepsAll s (answered_at s v n m).state (answered_at s v n m).events)
  unfolding heard_link heard_transfer
  each_settles =
      record {
        on_flags = λ f e. link_settles (heard (link_flags f)) before refl;
        on_status = λ r e. status_settles r.link_state;
        on_capability = λ b e. link_settles (heard (capability b)) (changed_events s.awaited.flags.link_if_state_chg s.awaited.link_state (link_before s v) before) (plain_change s.awaited.flags);
        on_term = λ r e. link_settles (heard (term_status r))
            (effect_either r.link_rx_term_pres (link_before s v) (term_gone (link_before s v)) before (event_raised_if s.reset_seen v event.Suspend before))
            (plain_sent s.awaited.flags);
        on_message = λ w e. link_settles (heard (message w)) before (plain_message s.awaited.flags);
        on_warm = λ r e. link_settles (heard (warm_status r)) (effect_either r.link_rx_warm_rst (link_reset (link_before s v)) (link_before s v) (event_raised v event.Reset before) before) refl;
        on_transfer = λ t e. transfer_settles t;
        on_setup = λ b e. ends (setup_received s b) [] (setup_received_lem b);
        on_bytes = λ l e. ends (length_received s l) length_ops (length_received_lem l);
        on_sequence = λ q b e. ends (packet_sent s q) (sequence_ops (status_follows s)) (packet_sent_lem q b);
        on_packets = λ p e. asks (last_asked s.awaited p) [] (rw e at (own_facts s v h).chain);
        on_last = λ l e. ends (report_state s s.awaited.endpoint false s.awaited.packets l) (report_ops s s.awaited.endpoint false s.awaited.packets l) (reported_all s.awaited.endpoint false s.awaited.packets l);
      }

-- ---- the calls

module _ (room : ℕ) (s : State) (v : Events) where
  -- A reading's call keeps what 26 doesn't refuse, and the account of every data slot.
  pub answer_keeps : (r : Reading) → KeepsWorld s v (answer_call room s v r)
  unfolding answer_call
  answer_keeps r =
      call_keeps Err (answer_conditions room s v r) s v (answered s v (matched_as s.awaited.next r)) (λ n. (tested_reading room s v r n).sound)
      (λ h n. let t = tested_reading room s v r n in
      each_reading (λ i m. awaiting_number s.awaited.next ≡ i → KeepsAll s (answered_at s v i m).state (answered_at s v i m).events)
      (each_settles s v h (implied (awaitingb s.awaited.next) s.powered t.under_way (own_facts s v h).awaited)) s.awaited.next r t.matches t.range refl)

  -- So does the call that begins.
  pub interrupt_keeps : KeepsWorld s v (interrupt_call room s v)
  unfolding interrupt_call
  interrupt_keeps =
      call_keeps Err (interrupt_conditions room s v) s v (settled s v (first_awaited s.powered) []) (λ n. (passed room (soundb s v) s.awaited.next [] n).1.0)
      (λ h n. go h s.powered refl)
    where
      go : soundb s v ≡ true → (b : Bool) → s.powered ≡ b → KeepsAll s (settled s v (first_awaited b) []).state (settled s v (first_awaited b) []).events
      go h true p = asks s v h p (first_awaited true) [] refl
      go h false p = ended_all s s v [] (all_same s v h)
