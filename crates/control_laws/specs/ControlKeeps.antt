-- The calls of control transfers keep a state sound, and the account of every data slot. No address above 127 is ever
-- made to wait.
-- Assumes nothing.
use Rattle.std.specs.Prelude.{ℕ, Bool, cond, List, [], ◌≡◌, leb, ltb, length, Option, Some, None, Err}
use Rattle.std.proofs.Math.Bool.{true, false}
use Rattle.std.proofs.Math.Path.{refl}
use Rattle.state.specs.declared.State.{State}
use Rattle.state.specs.declared.Events.{Events}
use Rattle.state.specs.Refusals.{Condition, NoneDue}
use Rattle.state.specs.Fresh.{slot_at}
use Rattle.state.specs.Setters.{with_slot}
use Rattle.regs_control.specs.Control.{ep0_stall_ops}
use Rattle.state_sound.specs.Clauses.{address_fits}
use Rattle.state_sound.specs.Sound.{soundb}
use Rattle.state_sound.proofs.FactLaws.{own_facts}
use Rattle.state_call.specs.Turn.{admitted, in_turn}
use Rattle.state_call.specs.OutcomeLaws.{passed, passed_turn}
use Rattle.control_stage.specs.Stage.{ep0_unfit, servedb, staged_slot, begun, unanswered, in_stage}
use Rattle.control_out.specs.DataOut.{data_out_conditions, data_out_call}
use Rattle.control_in.specs.DataIn.{data_in_conditions, data_in_call}
use Rattle.control_accept.specs.Accept.{accept_ops, accept_conditions, accept_call, address_conditions, accept_address_call}
use Rattle.control_reject.specs.Reject.{reject_conditions, reject_call}
use Rattle.control_setup.specs.Setup.{setup_conditions, setup_call}
use Rattle.control_take.specs.Take.{doneb, idle_slot, take_in_conditions, take_in_call}
use Rattle.control_take_out.specs.TakeOut.{take_out_conditions, take_out_call}
use Rattle.control_laws.specs.KeptLaws.{KeepsAll, KeepsWorld, call_keeps, all_same, all_either, all_control, all_stage, all_ep0}

-- ---- what a call does where it is accepted

module _ (s : State) (v : Events) (h : soundb s v ≡ true) where
  staged : (last : Bool) (address : Option ℕ) → address_fits address ≡ true → KeepsAll s (in_stage s last address) v
  staged last address ha =
      all_stage s (with_slot s 1 (staged_slot (slot_at s 1))) v (all_ep0 s s v (all_same s v h) 1 (staged_slot (slot_at s 1)) refl refl) last address ha

  -- an address above 127 isn't stored
  addressed : (address : ℕ) (b : Bool) → leb address 127 ≡ b
      → KeepsAll s (cond b (begun (in_stage s true (Some address)) v accept_ops []) (unanswered s v)).state (cond b (begun (in_stage s true (Some address)) v accept_ops []) (unanswered s v)).events
  addressed address true e = staged true (Some address) e
  addressed address false e = all_same s v h

  rejected : (b : Bool) → KeepsAll s (cond b (begun s v ep0_stall_ops []) (unanswered s v)).state (cond b (begun s v ep0_stall_ops []) (unanswered s v)).events
  rejected true = all_same s v h
  rejected false = all_same s v h

  idled : (i : ℕ) → ltb i 2 ≡ true → KeepsAll s (cond (doneb (slot_at s i).phase) (with_slot s i (idle_slot (slot_at s i))) s) v
  idled i d =
      all_either (doneb (slot_at s i).phase) s (with_slot s i (idle_slot (slot_at s i))) s v (all_ep0 s s v (all_same s v h) i (idle_slot (slot_at s i)) d refl) (all_same s v h)

-- ---- the calls

module _ (s : State) (v : Events) where
  listed : (room : ℕ) (own : List Condition) → NoneDue (admitted room s v own) → soundb s v ≡ true
  listed room own n = (passed room (soundb s v) s.awaited.next own n).1.0

  unlisted : (own : List Condition) → NoneDue (in_turn s v own) → soundb s v ≡ true
  unlisted own n = (passed_turn (soundb s v) s.awaited.next own n).0

  pub data_out_keeps : (room generation : ℕ) → KeepsWorld s v (data_out_call room s v generation)
  unfolding data_out_call
  data_out_keeps room generation =
      call_keeps Err (data_out_conditions room s v generation) s v _ (listed room _) (λ h n. all_ep0 s s v (all_same s v h) 0 (staged_slot (slot_at s 0)) refl refl)

  pub data_in_keeps : (room generation : ℕ) (bytes : List ℕ) (address size : ℕ) (first last : Bool)
      → KeepsWorld s v (data_in_call room s v generation bytes address size first last)
  unfolding data_in_call
  data_in_keeps room generation bytes address size first last =
      call_keeps Err (data_in_conditions room s v generation (length bytes) (ep0_unfit s address size)) s v _ (listed room _)
      (λ h n. staged s v h last s.address (own_facts s v h).address)

  pub accept_keeps : (room generation : ℕ) → KeepsWorld s v (accept_call room s v generation)
  unfolding accept_call
  accept_keeps room generation = call_keeps Err (accept_conditions room s v generation) s v _ (listed room _) (λ h n. staged s v h true None refl)

  pub accept_address_keeps : (room generation address : ℕ) → KeepsWorld s v (accept_address_call room s v generation address)
  unfolding accept_address_call
  accept_address_keeps room generation address =
      call_keeps Err (address_conditions room s v generation address) s v _ (listed room _) (λ h n. addressed s v h address (leb address 127) refl)

  pub reject_keeps : (room generation : ℕ) → KeepsWorld s v (reject_call room s v generation)
  unfolding reject_call
  reject_keeps room generation = call_keeps Err (reject_conditions room s v) s v _ (listed room _) (λ h n. rejected s v h (servedb s generation))

  pub setup_keeps : KeepsWorld s v (setup_call s v)
  unfolding setup_call
  setup_keeps =
      call_keeps Err (setup_conditions s v) s v _ (unlisted _) (λ h n. let o = own_facts s v h in all_control s s v (all_same s v h) _ o.address o.sequence)

  pub take_in_keeps : (generation : ℕ) → KeepsWorld s v (take_in_call s v generation)
  unfolding take_in_call
  take_in_keeps generation = call_keeps Err (take_in_conditions s v generation) s v _ (unlisted _) (λ h n. idled s v h 1 refl)

  pub take_out_keeps : (generation room : ℕ) (ep0 : List ℕ) (address : ℕ) → KeepsWorld s v (take_out_call s v generation room ep0 address)
  unfolding take_out_call
  take_out_keeps generation room ep0 address =
      call_keeps Err (take_out_conditions s v generation (ep0_unfit s address (length ep0))) s v _ (unlisted _) (λ h n. idled s v h 0 refl)
