-- A report's interrupt, where it is accepted, comes to the report: the link's readings record nothing and change nothing.
-- Assumes nothing.
use Rattle.std.specs.Prelude.{ℕ, ◌≤◌, Bool, true, false, not, ◌&&◌, ◌||◌, cond, List, [], ◌++◌, ◌≡◌, refl, leb, nat_le, Ok, Option, Some, Result}
use Rattle.std.proofs.Common.{ap, ◌∙◌, arith, leb-true, le-leb, ne_eqb}
use Rattle.std.proofs.Math.Bool.{or-true, and-false}
use Rattle.std.proofs.lemmas.List.Edits.{sets}
use Rattle.base.specs.EachLaws.{and_left, and_right}
use Rattle.ops.specs.Ops.{Op, flat}
use Rattle.state.specs.declared.State.{State}
use Rattle.state.specs.declared.Events.{Events}
use Rattle.state.specs.declared.Awaiting.{Awaiting}
use Rattle.state.specs.declared.Awaiting.TheVariants as awaiting
use Rattle.state.specs.declared.Awaited.{Awaited}
use Rattle.state.specs.declared.Reading.{Reading}
use Rattle.state.specs.declared.Reading.TheVariants as reading
use Rattle.state.specs.declared.Refusal.{Refusal}
use Rattle.state.specs.Awaiting.{awaitingb, chain_readingb}
use Rattle.state.specs.Fresh.{nothing_awaited}
use Rattle.state.specs.Numbers.{reading_in_range}
use Rattle.state.specs.Refusals.{first_refusal}
use Rattle.state.specs.Setters.{with_awaited, limit_of}
use Rattle.state_slots.specs.Slots.{slot_number, slot_of}
use Rattle.state_slots.specs.Waking.{no_wakes}
use Rattle.state_sound.specs.Sound.{soundb}
use Rattle.state_laws.specs.SetterLaws.{awaited_sound}
use Rattle.state_call.specs.Outcome.{Outcome}
use Rattle.state_call.specs.OutcomeLaws.{or_fits}
use Rattle.transfer_window.specs.Window.{out_window}
use Rattle.regs_endpoint.specs.Endpoint.{chain_ack_ops}
use Rattle.transfer_step.specs.Step.{report_step}
use Rattle.transfer_step.specs.declared.Step.{Step}
use Rattle.transfer_step.specs.declared.Step.TheVariants.{Ignored, GoesOn, Completes}
use Rattle.transfer_report.specs.Report.{state_after, ops_after, report_state, report_ops}
use Rattle.interrupt_asks.specs.declared.InterruptResult.{InterruptResult}
use Rattle.interrupt_asks.specs.Asking.{asked}
use Rattle.interrupt_asks.specs.Settled.{settled}
use Rattle.interrupt_begin.specs.Begin.{interrupt_conditions, interrupt_call}
use Rattle.interrupt_transfer.specs.Transfers.{over, asking, chain_asked, last_asked, status_turn}
use Rattle.interrupt_readings.specs.Matched.{matched_as, matchesb}
use Rattle.interrupt_readings.specs.Heard.{flagged, heard_link}
use Rattle.interrupt_followers.specs.Followers.{heard_transfer}
use Rattle.interrupt.specs.Interrupt.{answer_conditions, answered, answer_call, transfer_settled}
use Rattle.usbss.specs.Call.{Interrupt, Answer}
use Rattle.usbss.specs.Step.{world, step}
use Rattle.tool_reports.specs.Reported.{result_of, begun, list_begun, heard, list_heard, no_flag, link_up, quiet, list_quiet, transfer_status, told, chained, list_chained, reported, list_reported}
use Rattle.tool_reports.specs.Plain.{Reportable, ended_report, Plain}

-- what a report leaves hangs on no reading that was awaited before
left : (s : State) (v : Events) (a : Awaited) (i : ℕ) (incoming : Bool) (ops : List Op) (f : Step)
    → settled (state_after (with_awaited s a) i incoming f) v nothing_awaited ops ≡ settled (state_after s i incoming f) v nothing_awaited ops
unfolding settled
left s v a i incoming ops Ignored = refl
left s v a i incoming ops (GoesOn x) = refl
left s v a i incoming ops (Completes x) = refl

-- nor does what it writes
written : (s : State) (a : Awaited) (e : ℕ) (incoming : Bool) (f : Step) → ops_after (with_awaited s a) e incoming f ≡ ops_after s e incoming f
unfolding out_window
written s a e incoming Ignored = refl
written s a e true (GoesOn x) = refl
written s a e false (GoesOn x) = refl
written s a e incoming (Completes x) = refl

module _ (s : State) (v : Events) (e packets last : ℕ) (q : Reportable s v e packets last) where
  -- a call that awaits another reading, and has changed nothing else
  abbrev asks : Awaited → Outcome (Result (Option Awaiting) Refusal)
  asks a = record { answer = Ok a.next; state = with_awaited s a; events = v; ops = []; wakes = no_wakes; copied = [] }

  seven : e ≤ 7
  seven = leb-true e 7 (and_right (nat_le 1 e) (nat_le e 7) q.endpoint)

  some : 1 ≤ e
  some = leb-true 1 e (and_left (nat_le 1 e) (nat_le e 7) q.endpoint)

  -- whatever is awaited meanwhile, the state stays sound
  still : (a : Awaited) → (not (chain_readingb a.next) || (leb 1 a.endpoint && leb a.endpoint 7)) ≡ true → soundb (with_awaited s a) v ≡ true
  still a h = awaited_sound s v a q.sound (rw (q.power) (or-true (not (awaitingb a.next)))) h

  -- so the reading that is awaited is accepted
  accepted : (a : Awaited) (r : Reading) → soundb (with_awaited s a) v ≡ true → matchesb a.next r ≡ true → reading_in_range r ≡ true
      → step (world (with_awaited s a) v) (Answer 640 r) ≡ answered (with_awaited s a) v (matched_as a.next r)
  unfolding step answer_call
  accepted a r h m k = or_fits (first_refusal (answer_conditions 640 (with_awaited s a) v r)) _ _ (rw (h, m, k) refl)

  abbrev flags_due : Awaited
  flags_due = asked nothing_awaited (Some awaiting.LinkFlags)

  abbrev status_due : Awaited
  status_due = flagged nothing_awaited.flags

  abbrev transfer_due : Awaited
  transfer_due = asked status_due (Some awaiting.TransferStatus)

  abbrev packets_due : Awaited
  packets_due = chain_asked transfer_due e

  abbrev last_due : Awaited
  last_due = last_asked packets_due packets

  begins : step (world s v) (Interrupt 640) ≡ asks flags_due
  unfolding step interrupt_call settled
  begins = or_fits (first_refusal (interrupt_conditions 640 s v)) _ _ (rw (q.sound, q.free) refl) ∙ rw (q.power) refl

  flags_heard : step (world (with_awaited s flags_due) v) (Answer 640 no_flag) ≡ asks status_due
  unfolding heard_link settled
  flags_heard = accepted flags_due no_flag (still flags_due refl) refl refl

  -- without a flag no revision asks for the port capability
  status_heard : step (world (with_awaited s status_due) v) (Answer 640 link_up) ≡ asks transfer_due
  unfolding heard_link settled
  status_heard = accepted status_due link_up (still status_due refl) refl refl ∙ rw (and-false (leb 3 s.revision)) refl

  begun_is : begun s v ≡ result_of (asks flags_due)
  unfolding begun
  begun_is = ap result_of begins

  -- a reading behind such a call, and the list that it leaves
  heard_as : (a : Awaited) (r : Reading) (before : InterruptResult) (o : Outcome (Result (Option Awaiting) Refusal)) → before ≡ result_of (asks a)
      → step (world (with_awaited s a) v) (Answer 640 r) ≡ o → heard r before ≡ result_of o
  unfolding heard
  heard_as a r before o p h = rw (p) (ap result_of h)

  list_as : (a : Awaited) (r : Reading) (before : InterruptResult) (o : Outcome (Result (Option Awaiting) Refusal)) (l : List ℕ) → before ≡ result_of (asks a)
      → step (world (with_awaited s a) v) (Answer 640 r) ≡ o → list_heard r before l ≡ sets l 0 (flat o.ops)
  unfolding list_heard
  list_as a r before o l p h = rw (p) (ap (λ (u : Outcome (Result (Option Awaiting) Refusal)). sets l 0 (flat u.ops)) h)

  flagged_is : heard no_flag (begun s v) ≡ result_of (asks status_due)
  flagged_is = heard_as flags_due no_flag (begun s v) (asks status_due) begun_is flags_heard

  quiet_is : quiet (begun s v) ≡ result_of (asks transfer_due)
  quiet_is = heard_as status_due link_up (heard no_flag (begun s v)) (asks transfer_due) flagged_is status_heard

  -- the link's calls write nothing
  unwritten : (l : List ℕ) → list_quiet (begun s v) (list_begun s v l) ≡ l
  unfolding list_begun
  unwritten l =
      list_as status_due link_up (heard no_flag (begun s v)) (asks transfer_due) _ flagged_is status_heard
      ∙ (list_as flags_due no_flag (begun s v) (asks status_due) _ begun_is flags_heard ∙ ap (λ (u : Outcome (Result (Option Awaiting) Refusal)). sets l 0 (flat u.ops)) begins)

  -- the transfer status of the endpoint
  turned : (a : Awaited) (incoming : Bool)
      → status_turn (with_awaited s a) (transfer_status e incoming) ≡ cond incoming (over (report_state (with_awaited s a) e true 0 0) (report_ops (with_awaited s a) e true 0 0)) (asking (with_awaited s a) (chain_asked a e) [])
  unfolding status_turn
  turned a incoming = rw (ne_eqb e 0 (λ z. omega (arith, z, some)), le-leb e 7 seven) refl

  status_accepted : (incoming : Bool)
      → step (world (with_awaited s transfer_due) v) (Answer 640 (reading.TransferStatus (transfer_status e incoming))) ≡ transfer_settled v (status_turn (with_awaited s transfer_due) (transfer_status e incoming))
  unfolding heard_transfer
  status_accepted incoming =
      accepted transfer_due (reading.TransferStatus (transfer_status e incoming)) (still transfer_due refl) refl (le-leb e 15 (omega (arith, seven)))

  -- the report of a state that awaits something is the state's own, once it has ended
  reports : (a : Awaited) (incoming : Bool) (p n : ℕ)
      → settled (report_state (with_awaited s a) e incoming p n) v nothing_awaited (report_ops (with_awaited s a) e incoming p n) ≡ ended_report s v e incoming p n
  unfolding report_state report_ops settled
  reports a incoming p n =
      let f = report_step (limit_of s) incoming p n (slot_of s e incoming) in
      let i = slot_number e incoming in
      ap (λ ops. settled (state_after (with_awaited s a) i incoming f) v nothing_awaited (chain_ack_ops e incoming ++ ops)) (written s a e incoming f)
      ∙ left s v a i incoming (chain_ack_ops e incoming ++ ops_after s e incoming f) f

  in_told : step (world (with_awaited s transfer_due) v) (Answer 640 (reading.TransferStatus (transfer_status e true))) ≡ ended_report s v e true packets last
  unfolding report_state report_ops
  in_told = status_accepted true ∙ (ap (transfer_settled v) (turned transfer_due true) ∙ reports transfer_due true 0 0)

  out_told : step (world (with_awaited s transfer_due) v) (Answer 640 (reading.TransferStatus (transfer_status e false))) ≡ asks packets_due
  unfolding settled
  out_told = status_accepted false ∙ ap (transfer_settled v) (turned transfer_due false)

  packets_told : step (world (with_awaited s packets_due) v) (Answer 640 (reading.ChainPackets packets)) ≡ asks last_due
  unfolding heard_transfer settled
  packets_told = accepted packets_due (reading.ChainPackets packets) (still packets_due q.endpoint) refl q.count

  last_told : step (world (with_awaited s last_due) v) (Answer 640 (reading.LastLength last)) ≡ ended_report s v e false packets last
  unfolding heard_transfer
  last_told = accepted last_due (reading.LastLength last) (still last_due q.endpoint) refl q.size ∙ reports last_due false packets last

  told_is : told e false (quiet (begun s v)) ≡ result_of (asks packets_due)
  told_is = heard_as transfer_due _ (quiet (begun s v)) (asks packets_due) quiet_is out_told

  counted_is : heard (reading.ChainPackets packets) (told e false (quiet (begun s v))) ≡ result_of (asks last_due)
  counted_is = heard_as packets_due _ (told e false (quiet (begun s v))) (asks last_due) told_is packets_told

  reported_is : (incoming : Bool) → reported s v e incoming packets last ≡ result_of (ended_report s v e incoming packets last)
  unfolding chained
  reported_is true = heard_as transfer_due _ (quiet (begun s v)) (ended_report s v e true packets last) quiet_is in_told
  reported_is false = heard_as last_due _ _ (ended_report s v e false packets last) counted_is last_told

  list_is : (incoming : Bool) (l : List ℕ) → list_reported s v e incoming packets last l ≡ sets l 0 (flat (report_ops s e incoming packets last))
  unfolding list_chained
  list_is true l =
      list_as transfer_due _ (quiet (begun s v)) (ended_report s v e true packets last) _ quiet_is in_told
      ∙ ap (λ k. sets k 0 (flat (report_ops s e true packets last))) (unwritten l)
  list_is false l =
      list_as last_due _ _ (ended_report s v e false packets last) _ counted_is last_told
      ∙ ap (λ k. sets k 0 (flat (report_ops s e false packets last)))
      (list_as packets_due _ (told e false (quiet (begun s v))) (asks last_due) _ told_is packets_told
      ∙ (list_as transfer_due _ (quiet (begun s v)) (asks packets_due) _ quiet_is out_told ∙ unwritten l))

  pub plain : (incoming : Bool) (l : List ℕ) (r : InterruptResult) (l' : List ℕ) → r ≡ reported s v e incoming packets last → l' ≡ list_reported s v e incoming packets last l
      → Plain s v e incoming packets last l r l'
  plain incoming l r l' p h = record { result = p ∙ reported_is incoming; list = h ∙ list_is incoming l }
