-- A start keeps the state sound.
-- Assumes nothing.
use Rattle.std.specs.Prelude.{ℕ, ◌<◌, ◌≤◌, Bool, true, false, ◌&&◌, ◌||◌, ◌≡◌, refl, eqb, leb, Err}
use Rattle.std.proofs.Math.Bool.{or-true}
use Rattle.std.proofs.Common.{◌∙◌, arith, le-leb}
use Rattle.state.specs.declared.Slot.{Slot}
use Rattle.state.specs.declared.State.{State}
use Rattle.state.specs.declared.Events.{Events}
use Rattle.state.specs.declared.Driver.{Driver}
use Rattle.state.specs.Fresh.{fresh_slot, slot_at, allocation_at}
use Rattle.state_slots.specs.Tally.{KeepsAccount}
use Rattle.state_laws.specs.TallyLaws.{reset_keeps, unmoved}
use Rattle.state.specs.Awaiting.{awaitingb}
use Rattle.state.specs.Refusals.{NoneDue}
use Rattle.base.specs.EachLaws.{and_left, and_right, changed_at}
use Rattle.state_events.specs.Bytes.{power}
use Rattle.state_sound.specs.Clauses.{ep0, in_ram}
use Rattle.state_sound.specs.Sound.{soundb, slotb, useb, configb, transferb, ownb, driver_soundb}
use Rattle.state_sound.proofs.SoundLaws.{slot_parts}
use Rattle.state_sound.proofs.FactLaws.{in_ram_is, DriverFacts, driver_facts, off_sound, slot_sound, fresh_slot_sound, own_facts, own_is, sound_is}
use Rattle.state_call.specs.OutcomeLaws.{keeps, passed_turn}
use Rattle.driver_start.specs.Start.{started_slot, started_slots, started_state, start_own, start_conditions, start_call}

-- what a start that is accepted has
pub record AcceptedStart (s : State) (e : Events) (d : Driver) : Type 0 where
  pub sound : soundb s e ≡ true
  pub driver : DriverFacts d
  pub calm : awaitingb s.awaited.next ≡ false

pub accepted_start : (s : State) (v : Events) (d : Driver) (size : ℕ) → NoneDue (start_conditions s v d size) → AcceptedStart s v d
accepted_start s v d size n =
    let k = passed_turn (soundb s v && driver_soundb d) s.awaited.next (start_own size) n in
    record {
      sound = and_left (soundb s v) (driver_soundb d) k.0;
      driver = driver_facts d (and_right (soundb s v) (driver_soundb d) k.0);
      calm = k.1.0;
    }

-- a sound slot's progress lies within its length, EP0's apart
progress_within : (p : Bool) (i : ℕ) (x : Slot) → slotb p i x ≡ true → (ep0 i || leb x.transfer.progress x.transfer.length) ≡ true
unfolding transferb
progress_within p i x h =
    let t : transferb i x ≡ true = and_right (useb p i x && configb i x.config) (transferb i x) (slot_parts p i x ∙ h) in
    and_left (ep0 i || leb x.transfer.progress x.transfer.length) _ t

slot_kept : (s : State) (e : Events) (d : Driver) → AcceptedStart s e d → (i : ℕ) → i < 16 → slotb false i (slot_at (started_state s d) i) ≡ true
unfolding started_slots
slot_kept s e d a i h =
    changed_at (λ (y : Slot). slotb false i y ≡ true) (started_slot d) 16 s.endpoints i fresh_slot h
    (off_sound false i (allocation_at d i) x.transfer _ (a.driver.configs i h) (progress_within s.powered i x (slot_sound s e a.sound i h)))
    (λ (q : slot_at s i ≡ fresh_slot). fresh_slot_sound false i)
  where
    x : Slot
    x = slot_at s i

own_kept : (s : State) (e : Events) (d : Driver) → AcceptedStart s e d → ownb (started_state s d) (record { events = power }) ≡ true
own_kept s e d a =
    let f = a.driver in
    let o = own_facts s e a.sound in
    let memory : in_ram d.memory 512 ≡ true = in_ram_is d.memory 512 (record { low = f.ram.low; high = omega (arith, f.ram.high, f.ep0, f.room) }) in
    own_is (started_state s d) (record { events = power })
    (record {
      memory = rw memory (or-true (eqb d.memory 0));
      apart = refl;
      address = o.address;
      sequence = o.sequence;
      awaited = rw a.calm;
      chain = o.chain;
    })

-- What 26 doesn't refuse, no start makes refusable.
pub start_keeps_sound : (s : State) (v : Events) (d : Driver) (size : ℕ) → soundb s v ≡ true → soundb (start_call s v d size).state (start_call s v d size).events ≡ true
unfolding start_call
start_keeps_sound s v d size h =
    keeps (λ t u. soundb t u ≡ true) Err (start_conditions s v d size) s v _ h
    (λ n. let a = accepted_start s v d size n in sound_is (started_state s d) (record { events = power }) (slot_kept s v d a) (own_kept s v d a))

started_account : (d : Driver) (i : ℕ) (x : Slot) → 2 ≤ i → KeepsAccount x (started_slot d i x)
started_account d i x h = rw (le-leb 2 i h) (let k = reset_keeps x false in record { begun = k.begun; same = k.same })

-- A start leaves begun as it is, and counts what it cuts.
pub start_keeps_account : (s : State) (v : Events) (d : Driver) (size i : ℕ) → 2 ≤ i → i < 16 → KeepsAccount (slot_at s i) (slot_at (start_call s v d size).state i)
unfolding start_call started_slots
start_keeps_account s v d size i h b =
    keeps (λ t u. KeepsAccount (slot_at s i) (slot_at t i)) Err (start_conditions s v d size) s v _ (unmoved (slot_at s i))
    (λ n. changed_at (KeepsAccount (slot_at s i)) (started_slot d) 16 s.endpoints i fresh_slot b (started_account d i (slot_at s i) h)
    (λ (q : slot_at s i ≡ fresh_slot). rw q (unmoved fresh_slot)))
