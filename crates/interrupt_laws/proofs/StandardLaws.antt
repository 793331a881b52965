-- Messages and sequence numbers are as USB 3.2 has them.
-- Assumes nothing.
use Rattle.std.specs.Prelude.{ℕ, zero, suc, ◌+◌, ◌/◌, ◌%◌, ◌^◌, ◌≤◌, ◌<◌, Bool, true, false, ◌&&◌, cond, List, [], ◌++◌, ◌≡◌, eqb, ltb, length, Ok, Err}
use Rattle.std.proofs.Math.Path.{refl}
use Rattle.std.proofs.Common.{sym, subst, arith, eqb-true, ne_eqb}
use Rattle.ops.specs.Ops.{Op}
use Rattle.regs_control.specs.Control.{ep0_tx_ready_ops}
use Rattle.regs_link.specs.Link.{link_power_allow_ops, tx_port_cap_ops, tx_port_cfg_res_ops, tx_cap_vld_ops, u2_timer_ops}
use Rattle.state.specs.declared.State.{State}
use Rattle.state.specs.declared.Events.{Events}
use Rattle.state.specs.declared.Reading.TheVariants as reading
use Rattle.state.specs.Fresh.{slot_at}
use Rattle.state.specs.Refusals.{first_refusal}
use Rattle.state.specs.Setters.{with_sequence}
use Rattle.state_slots.specs.Slots.{busyb}
use Rattle.state_slots.specs.Completing.{complete_at}
use Rattle.state_call.specs.OutcomeLaws.{accepted, keeps}
use Rattle.control_report.specs.Ep0.{status_follows, packet_sent}
use Rattle.control_stage.specs.Stage.{ep0_unfit}
use Rattle.control_in.specs.DataIn.{next_sequence, data_in_conditions, data_in_call}
use Rattle.interrupt_asks.specs.Asking.{behind_message_ops}
use Rattle.interrupt_asks.specs.Settled.{settled}
use Rattle.interrupt_asks.specs.SettledLaws.{settled_ops}
use Rattle.interrupt_readings.specs.Heard.{heard_link}
use Rattle.interrupt_readings.specs.Matched.{matched_as}
use Rattle.interrupt_followers.specs.Followers.{heard_transfer}
use Rattle.interrupt.specs.Interrupt.{answer_conditions, answered, answer_call}
use Rattle.interrupt_laws.specs.ReadingLaws.{sequence_place, message_place, tested_reading}
use Rattle.interrupt_link.specs.Actions.{lmp_subtype, message_ops}
use Rattle.interrupt_laws.specs.Standard.{lmp_word0, lmp_type, subtype_of, forces_accept, lmp_action, packet_sequence, ReportsBack}

-- ---- messages

-- what is written, by subtype, timeout and whether low power is allowed
abbrev written : ℕ → ℕ → ℕ → Bool → List Op
written revision n timeout allow =
    cond (eqb n 4) tx_port_cap_ops
    (cond (eqb n 5) tx_port_cfg_res_ops
    (cond (eqb n 6) tx_cap_vld_ops
    (cond (eqb n 2) (u2_timer_ops timeout)
    (cond (eqb n 1 && ltb revision 3) (link_power_allow_ops allow) []))))

written_action : (revision n own : ℕ) → written revision n (own % 256) (forces_accept own) ≡ lmp_action revision (subtype_of n) own
written_action revision n own = go (eqb n 1) refl (eqb n 2) refl (eqb n 4) refl (eqb n 5) refl (eqb n 6) refl
  where
    here : (k : ℕ) → eqb n k ≡ true → written revision k (own % 256) (forces_accept own) ≡ lmp_action revision (subtype_of k) own
        → written revision n (own % 256) (forces_accept own) ≡ lmp_action revision (subtype_of n) own
    here k e h = subst (λ (i : ℕ). written revision i (own % 256) (forces_accept own) ≡ lmp_action revision (subtype_of i) own) (sym (eqb-true n k e)) h

    go : (a : Bool) → eqb n 1 ≡ a → (b : Bool) → eqb n 2 ≡ b → (c : Bool) → eqb n 4 ≡ c → (d : Bool) → eqb n 5 ≡ d → (f : Bool) → eqb n 6 ≡ f
        → written revision n (own % 256) (forces_accept own) ≡ lmp_action revision (subtype_of n) own
    go true p b q c r d t f u = here 1 p refl
    go false p true q c r d t f u = here 2 q refl
    go false p false q true r d t f u = here 4 r refl
    go false p false q false r true t f u = here 5 t refl
    go false p false q false r false t true u = here 6 u refl
    go false p false q false r false t false u = rw (p, q, r, t, u)

module _ (kind subtype own : ℕ) (k : kind < 32) (l : subtype < 16) where
  pub subtype_of_word : lmp_subtype (lmp_word0 kind subtype own) ≡ subtype
  subtype_of_word = omega (arith, k, l)

  timeout_of_word : lmp_word0 kind subtype own / 2 ^ 9 % 2 ^ 8 ≡ own % 256
  timeout_of_word = omega (arith, k, l)

  function_of_word : lmp_word0 kind subtype own / 2 ^ 10 % 2 ≡ own / 2 % 2
  function_of_word = omega (arith, k, l)

  -- A message is answered by its subtype, whatever type stands before it: the Rust doesn't look at the type.
  pub answered_by_subtype : (revision : ℕ) → message_ops revision (lmp_word0 kind subtype own) ≡ lmp_action revision (subtype_of subtype) own
  answered_by_subtype revision = rw (subtype_of_word, timeout_of_word, function_of_word) (written_action revision subtype own)

-- So a link management packet is answered as the standard has it, with each of the sixteen subtypes and whatever field.
pub packet_answered : (revision subtype own : ℕ) → subtype < 16 → message_ops revision (lmp_word0 lmp_type subtype own) ≡ lmp_action revision (subtype_of subtype) own
packet_answered revision subtype own l = answered_by_subtype lmp_type subtype own (omega arith) l revision

-- A call with a word, where it is accepted, writes that, and then what the other flags call for: an acknowledgement, or the link
-- taken down by a message that timed out.
pub message_call : (room : ℕ) (s : State) (v : Events) (w : ℕ) → first_refusal (answer_conditions room s v (reading.MessageWord w)) ≡ Ok tt
    → (answer_call room s v (reading.MessageWord w)).ops ≡ message_ops s.revision w ++ behind_message_ops s.awaited.flags
unfolding answer_call heard_link
message_call room s v w e =
    let k = accepted Err (answer_conditions room s v (reading.MessageWord w)) s v (answered s v (matched_as s.awaited.next (reading.MessageWord w))) e in
    rw (k.1, message_place s.awaited.next w (tested_reading room s v (reading.MessageWord w) k.0).matches) (sym (settled_ops _ _ _ _))

-- ---- sequence numbers

-- always five bits
pub sequence_small : (first : Bool) (q : ℕ) → next_sequence first q < 32
sequence_small true q = omega arith
sequence_small false q = omega arith

-- 0 of the first packet; then the one before and 1 more, from 31 to 0
pub sequence_first : (q : ℕ) → next_sequence true q ≡ 0
sequence_first q = refl

pub sequence_further : (q : ℕ) → next_sequence false q ≡ (q + 1) % 32
sequence_further q = refl

-- Packet number k of a stage has the number k % 32, if the reports of those before it gave back what was sent.
pub sent_under : (n : ℕ) (held : ℕ → ℕ) → ReportsBack n held → (k : ℕ) → k ≤ n → next_sequence (eqb k 0) (held k) ≡ packet_sequence k
sent_under n held r zero l = refl
sent_under n held r (suc k) l =
    rw (ne_eqb (suc k) 0 (λ q. omega (arith, q)), r.back k (omega (arith, l)), sent_under n held r k (omega (arith, l))) (omega arith)

-- An accepted IN stage sends under that number, by what the state holds;
module _ (room : ℕ) (s : State) (v : Events) (generation : ℕ) (bytes : List ℕ) (address size : ℕ) (first last : Bool) where
  pub stage_sends : first_refusal (data_in_conditions room s v generation (length bytes) (ep0_unfit s address size)) ≡ Ok tt
      → (data_in_call room s v generation bytes address size first last).ops ≡ ep0_tx_ready_ops (next_sequence first s.tx_seq) (length bytes)
  unfolding data_in_call
  stage_sends e = rw (accepted Err (data_in_conditions room s v generation (length bytes) (ep0_unfit s address size)) s v _ e).1

  -- it leaves what the state holds,
  pub stage_leaves : (data_in_call room s v generation bytes address size first last).state.tx_seq ≡ s.tx_seq
  unfolding data_in_call
  stage_leaves =
      keeps (λ (t : State) (u : Events). t.tx_seq ≡ s.tx_seq) Err (data_in_conditions room s v generation (length bytes) (ep0_unfit s address size)) s v _ refl (λ n. refl)

-- which becomes what the report says, once that is accepted.
packet_holds : (s : State) (q : ℕ) → (packet_sent s q).tx_seq ≡ q
packet_holds s q = go (status_follows s) (busyb (slot_at (with_sequence s q) 1).phase)
  where
    go : (b c : Bool) → (cond b (with_sequence s q) (complete_at c (with_sequence s q) 1)).tx_seq ≡ q
    go true c = refl
    go false true = refl
    go false false = refl

pub report_holds : (room : ℕ) (s : State) (v : Events) (q : ℕ) → first_refusal (answer_conditions room s v (reading.Ep0Sequence q)) ≡ Ok tt
    → (answer_call room s v (reading.Ep0Sequence q)).state.tx_seq ≡ q
unfolding answer_call heard_transfer settled
report_holds room s v q e =
    let k = accepted Err (answer_conditions room s v (reading.Ep0Sequence q)) s v (answered s v (matched_as s.awaited.next (reading.Ep0Sequence q))) e in
    rw (k.1, sequence_place s.awaited.next q (tested_reading room s v (reading.Ep0Sequence q) k.0).matches) (packet_holds s q)
