-- Resets and power changes keep the state sound and the account of every data slot, and cut what the slots have in hand.
-- Assumes nothing.
use Rattle.std.specs.Prelude.{ℕ, ◌≤◌, ◌<◌, Bool, true, false, not, cond, ◌≡◌, refl, leb, ltb, get_or, Err}
use Rattle.std.proofs.Math.Bool.{or-true}
use Rattle.std.proofs.Common.{sym, ◌∙◌, le-leb}
use Rattle.base.specs.Each.{change}
use Rattle.base.specs.EachLaws.{changed_at, change_beyond, true_not_false}
use Rattle.state.specs.declared.Slot.{Slot}
use Rattle.state.specs.declared.State.{State}
use Rattle.state.specs.declared.Events.{Events}
use Rattle.state.specs.Fresh.{fresh_slot, slot_at}
use Rattle.state.specs.Awaiting.{awaitingb}
use Rattle.state_slots.specs.Slots.{reset_slot, off_slot}
use Rattle.state_slots.specs.Tally.{KeepsAccount}
use Rattle.state_laws.specs.TallyLaws.{forgotten_keeps, unmoved}
use Rattle.state_sound.specs.Sound.{soundb, slotb}
use Rattle.state_sound.proofs.FactLaws.{slot_sound, own_facts, own_is, sound_is, idled_sound, fresh_slot_sound}
use Rattle.state_call.specs.OutcomeLaws.{keeps, passed}
use Rattle.state_laws.specs.SlotLaws.{Cut, forgotten_cut, fresh_cut}
use Rattle.bus_reset.specs.Reset.{ep0_slot, control_reset, bus_reset_state}
use Rattle.bus_reset.specs.ResetLaws.{slot_reset, reset_both}
use Rattle.bus_power_off.specs.PowerOff.{off_conditions, off_state, power_off_call}
use Rattle.bus_power_on.specs.PowerOn.{on_conditions, on_state, power_on_call}

-- a way to reset the slots of endpoint 0 and to switch the others off
module _ (f : ℕ → Slot → Slot) (on : ℕ → Bool) (is : (i : ℕ) (x : Slot) → f i x ≡ reset_slot x (leb 2 i) (on i)) (data_off : (i : ℕ) → ltb i 2 ≡ false → on i ≡ false) where
  slot_kept : (s : State) (v : Events) (powered : Bool) → soundb s v ≡ true → (i : ℕ) → i < 16 → slotb powered i (get_or (change f 16 s.endpoints) i fresh_slot) ≡ true
  slot_kept s v powered h i b =
      changed_at (λ (y : Slot). slotb powered i y ≡ true) f 16 s.endpoints i fresh_slot b
      (rw (is i (slot_at s i))
      (idled_sound s.powered powered i (slot_at s i) (on i) false _ (slot_sound s v h i b)
      -- only endpoint 0's slots can be on behind it
      (λ d g q. absurd (true_not_false (sym q ∙ data_off i d)))))
      (λ (q : slot_at s i ≡ fresh_slot). fresh_slot_sound powered i)

  slot_account : (s : State) (i : ℕ) → 2 ≤ i → i < 16 → KeepsAccount (slot_at s i) (get_or (change f 16 s.endpoints) i fresh_slot)
  slot_account s i h b =
      changed_at (KeepsAccount (slot_at s i)) f 16 s.endpoints i fresh_slot b
      (rw (is i (slot_at s i), le-leb 2 i h) (forgotten_keeps (slot_at s i) (on i) false))
      (λ (q : slot_at s i ≡ fresh_slot). rw q (unmoved fresh_slot))

reset_kept : (s : State) (v : Events) (powered : Bool) → soundb s v ≡ true → (i : ℕ) → i < 16 → slotb powered i (slot_at (bus_reset_state s) i) ≡ true
reset_kept s v powered h i b = rw (reset_both s.endpoints) (slot_kept slot_reset (λ k. ltb k 2) (λ k x. refl) (λ k d. d) s v powered h i b)

reset_account : (s : State) (i : ℕ) → 2 ≤ i → i < 16 → KeepsAccount (slot_at s i) (slot_at (bus_reset_state s) i)
reset_account s i h b = rw (reset_both s.endpoints) (slot_account slot_reset (λ k. ltb k 2) (λ k x. refl) (λ k d. d) s i h b)

off_kept : (s : State) (v : Events) (powered : Bool) → soundb s v ≡ true → (i : ℕ) → i < 16 → slotb powered i (slot_at (off_state s) i) ≡ true
off_kept s v powered h i b = slot_kept off_slot (λ k. false) (λ k x. refl) (λ k d. refl) s v powered h i b

-- What 26 doesn't refuse, no reset makes refusable.
pub bus_reset_keeps_sound : (s : State) (v : Events) → soundb s v ≡ true → soundb (bus_reset_state s) v ≡ true
bus_reset_keeps_sound s v h =
    let o = own_facts s v h in
    sound_is (bus_reset_state s) v (reset_kept s v s.powered h)
    (own_is (bus_reset_state s) v (record { memory = o.memory; apart = o.apart; address = refl; sequence = o.sequence; awaited = o.awaited; chain = o.chain }))

-- It leaves begun as it is, and counts what it cuts.
pub bus_reset_keeps_account : (s : State) (i : ℕ) → 2 ≤ i → i < 16 → KeepsAccount (slot_at s i) (slot_at (bus_reset_state s) i)
bus_reset_keeps_account s i h b = reset_account s i h b

-- Behind it each data slot is cut, as behind power-off.
pub reset_cut : (s : State) (i : ℕ) → 2 ≤ i → i < 16 → Cut (slot_at s i) (slot_at (bus_reset_state s) i)
reset_cut s i h b =
    rw (reset_both s.endpoints)
    (changed_at (Cut (slot_at s i)) slot_reset 16 s.endpoints i fresh_slot b (rw (le-leb 2 i h) (forgotten_cut (slot_at s i) (ltb i 2) false)) (fresh_cut (slot_at s i)))

pub off_cut : (s : State) (i : ℕ) → 2 ≤ i → i < 16 → Cut (slot_at s i) (slot_at (off_state s) i)
off_cut s i h b =
    changed_at (Cut (slot_at s i)) off_slot 16 s.endpoints i fresh_slot b (rw (le-leb 2 i h) (forgotten_cut (slot_at s i) false false)) (fresh_cut (slot_at s i))

-- The control reset leaves the data slots.
pub control_reset_apart : (s : State) (i : ℕ) → 2 ≤ i → slot_at (control_reset s) i ≡ slot_at s i
control_reset_apart s i h = change_beyond ep0_slot 2 s.endpoints i fresh_slot h

either : (P : State → Type 0) (b : Bool) (s t : State) → P s → P t → P (cond b s t)
either P true s t hs ht = hs
either P false s t hs ht = ht

on_sound : (s : State) (v : Events) (revision : ℕ) → soundb s v ≡ true → soundb (on_state s revision) v ≡ true
on_sound s v revision h =
    let o = own_facts s v h in
    sound_is (on_state s revision) v (reset_kept s v true h)
    (own_is (on_state s revision) v (record { memory = o.memory; apart = o.apart; address = refl; sequence = o.sequence; awaited = or-true (not (awaitingb s.awaited.next)); chain = o.chain }))

off_sound : (s : State) (v : Events) → soundb s v ≡ true → awaitingb s.awaited.next ≡ false → soundb (off_state s) v ≡ true
off_sound s v h calm =
    let o = own_facts s v h in
    sound_is (off_state s) v (off_kept s v false h)
    (own_is (off_state s) v (record { memory = o.memory; apart = o.apart; address = o.address; sequence = o.sequence; awaited = rw calm; chain = o.chain }))

-- What 26 doesn't refuse, no power change makes refusable.
pub power_on_keeps_sound : (room : ℕ) (s : State) (v : Events) (revision : ℕ) → soundb s v ≡ true
    → soundb (power_on_call room s v revision).state (power_on_call room s v revision).events ≡ true
unfolding power_on_call
power_on_keeps_sound room s v revision h =
    keeps (λ t u. soundb t u ≡ true) Err (on_conditions room s v revision) s v _ h
    (λ n. either (λ (t : State). soundb t v ≡ true) s.powered s (on_state s revision) h (on_sound s v revision h))

pub power_off_keeps_sound : (room : ℕ) (s : State) (v : Events) → soundb s v ≡ true → soundb (power_off_call room s v).state (power_off_call room s v).events ≡ true
unfolding power_off_call
power_off_keeps_sound room s v h =
    keeps (λ t u. soundb t u ≡ true) Err (off_conditions room s v) s v _ h
    (λ n. off_sound s v h (passed room (soundb s v) s.awaited.next _ n).1.1.0)

-- They leave begun as it is, and count what they cut.
pub power_on_keeps_account : (room : ℕ) (s : State) (v : Events) (revision i : ℕ) → 2 ≤ i → i < 16
    → KeepsAccount (slot_at s i) (slot_at (power_on_call room s v revision).state i)
unfolding power_on_call
power_on_keeps_account room s v revision i h b =
    keeps (λ t u. KeepsAccount (slot_at s i) (slot_at t i)) Err (on_conditions room s v revision) s v _ (unmoved (slot_at s i))
    (λ n. either (λ (t : State). KeepsAccount (slot_at s i) (slot_at t i)) s.powered s (on_state s revision) (unmoved (slot_at s i)) (reset_account s i h b))

pub power_off_keeps_account : (room : ℕ) (s : State) (v : Events) (i : ℕ) → 2 ≤ i → i < 16 → KeepsAccount (slot_at s i) (slot_at (power_off_call room s v).state i)
unfolding power_off_call
power_off_keeps_account room s v i h b =
    keeps (λ t u. KeepsAccount (slot_at s i) (slot_at t i)) Err (off_conditions room s v) s v _ (unmoved (slot_at s i))
    (λ n. slot_account off_slot (λ k. false) (λ k x. refl) (λ k d. refl) s i h b)
