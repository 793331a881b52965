-- Take and abandon keep the state sound and each slot's account right.
-- Assumes nothing.
use Rattle.std.specs.Prelude.{ℕ, Bool, true, false, cond, ◌≡◌, Err}
use Rattle.std.proofs.Common.{arith}
use Rattle.state.specs.declared.Slot.{Slot}
use Rattle.state.specs.declared.State.{State}
use Rattle.state.specs.declared.Events.{Events}
use Rattle.state.specs.Fresh.{slot_at}
use Rattle.state.specs.Refusals.{NoneDue}
use Rattle.state.specs.RefusalsLaws.{not_due}
use Rattle.state_slots.specs.Slots.{idleb, busyb, slot_number, slot_of}
use Rattle.state_slots.specs.Tally.{SameDifference}
use Rattle.state_laws.specs.TallyLaws.{unmoved_difference, forgotten_keeps, keeps_difference, stored_difference}
use Rattle.state_sound.specs.Sound.{soundb, slotb}
use Rattle.state_sound.proofs.FactLaws.{one_slot_kept, idled_sound}
use Rattle.state_call.specs.OutcomeLaws.{keeps, passed_turn}
use Rattle.transfer_take.specs.Take.{take_own, take_conditions, taken_slot, take_leaves, take_call}
use Rattle.transfer_abandon.specs.Abandon.{abandon_conditions, abandoned_slot, abandon_call}

-- a slot that is taken or abandoned is idle, or as it was
left_sound : (p : Bool) (i : ℕ) (x : Slot) → slotb p i x ≡ true → slotb p i (take_leaves x) ≡ true
left_sound p i x h = go (busyb x.phase)
  where
    go : (b : Bool) → slotb p i (cond b x (taken_slot x)) ≡ true
    go true = h
    go false = idled_sound p p i x x.enabled x.stalled _ h (λ d f. f.known)

-- A take keeps what 26 doesn't refuse.
pub take_keeps_sound : (s : State) (v : Events) (e : ℕ) (incoming unfit : Bool) (most : ℕ) → soundb s v ≡ true
    → soundb (take_call s v e incoming unfit most).state (take_call s v e incoming unfit most).events ≡ true
unfolding take_call
take_keeps_sound s v e incoming unfit most h =
    keeps (λ t u. soundb t u ≡ true) Err (take_conditions s v e incoming unfit) s v _ h
    (λ n. one_slot_kept s v (slot_number e incoming) (take_leaves (slot_of s e incoming)) h (left_sound s.powered (slot_number e incoming) (slot_of s e incoming)))

-- So does an abandon.
pub abandon_keeps_sound : (room : ℕ) (s : State) (v : Events) (e : ℕ) (incoming : Bool) → soundb s v ≡ true
    → soundb (abandon_call room s v e incoming).state (abandon_call room s v e incoming).events ≡ true
unfolding abandon_call
abandon_keeps_sound room s v e incoming h =
    keeps (λ t u. soundb t u ≡ true) Err (abandon_conditions room s v e) s v _ h
    (λ n. let x = slot_of s e incoming in
    one_slot_kept s v (slot_number e incoming) (abandoned_slot x) h (λ k. idled_sound s.powered s.powered (slot_number e incoming) x x.enabled x.stalled _ k (λ d f. f.known)))

-- a take that is accepted finds a transfer in hand
pub take_in_hand : (s : State) (v : Events) (e : ℕ) (incoming unfit : Bool) → NoneDue (take_conditions s v e incoming unfit) → idleb (slot_of s e incoming).phase ≡ false
take_in_hand s v e incoming unfit n =
    let k = passed_turn (soundb s v) s.awaited.next (take_own e unfit (slot_of s e incoming)) n in
    (not_due (not_due k.1.1).1).0

-- one more finished, one fewer in hand
taken_difference : (x : Slot) → idleb x.phase ≡ false → SameDifference x (take_leaves x)
taken_difference x e = go (busyb x.phase)
  where
    go : (b : Bool) → SameDifference x (cond b x (taken_slot x))
    go true = unmoved_difference x
    go false = record { difference = rw e (omega arith) }

-- A take alters no slot's difference.
pub take_keeps_account : (s : State) (v : Events) (e : ℕ) (incoming unfit : Bool) (most j : ℕ) → SameDifference (slot_at s j) (slot_at (take_call s v e incoming unfit most).state j)
unfolding take_call
take_keeps_account s v e incoming unfit most j =
    keeps (λ t u. SameDifference (slot_at s j) (slot_at t j)) Err (take_conditions s v e incoming unfit) s v _ (unmoved_difference (slot_at s j))
    (λ n. stored_difference s (slot_number e incoming) (take_leaves (slot_of s e incoming)) (taken_difference (slot_of s e incoming) (take_in_hand s v e incoming unfit n)) j)

-- An abandon alters no slot's difference.
pub abandon_keeps_account : (room : ℕ) (s : State) (v : Events) (e : ℕ) (incoming : Bool) (j : ℕ) → SameDifference (slot_at s j) (slot_at (abandon_call room s v e incoming).state j)
unfolding abandon_call
abandon_keeps_account room s v e incoming j =
    keeps (λ t u. SameDifference (slot_at s j) (slot_at t j)) Err (abandon_conditions room s v e) s v _ (unmoved_difference (slot_at s j))
    (λ n. let x = slot_of s e incoming in stored_difference s (slot_number e incoming) (abandoned_slot x) (keeps_difference x (abandoned_slot x) (forgotten_keeps x x.enabled x.stalled)) j)
