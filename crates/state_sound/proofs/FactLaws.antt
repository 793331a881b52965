-- What soundness comes to, as facts to reason with.
-- Assumes nothing.
use Rattle.std.specs.Prelude.{ℕ, ◌+◌, ◌*◌, ◌%◌, ◌≤◌, ◌<◌, Bool, true, false, ◌&&◌, ◌||◌, not, ◌≡◌, refl, eqb, leb, ltb, Option, None}
use Rattle.std.proofs.Math.Bool.{or-true, and-true}
use Rattle.std.proofs.Common.{sym, ◌∙◌, leb-true, ltb-true, eqb-true, le-leb, lt-ltb, eq-eqb, ne_eqb, arith}
use Rattle.std.proofs.lemmas.Bool.{eqb-false, not-true, not-false}
use Rattle.state.specs.declared.EndpointConfig.{EndpointConfig}
use Rattle.state.specs.declared.Phase.{Phase}
use Rattle.state.specs.declared.Phase.TheVariants.{Idle}
use Rattle.state.specs.declared.Transfer.{Transfer}
use Rattle.state.specs.declared.Tally.{Tally}
use Rattle.state.specs.declared.Slot.{Slot}
use Rattle.state.specs.declared.State.{State}
use Rattle.state.specs.declared.Events.{Events}
use Rattle.state.specs.declared.Driver.{Driver}
use Rattle.state_slots.specs.Slots.{idleb, busyb, slot_number, changed_slot, configured, slot_size}
use Rattle.state_slots.specs.StoredLaws.{stored_slot}
use Rattle.state.specs.Awaiting.{awaitingb, chain_readingb}
use Rattle.state_events.specs.Bytes.{events_soundb}
use Rattle.state.specs.Fresh.{fresh_slot, slot_at, allocation_at}
use Rattle.state.specs.Setters.{with_slot}
use Rattle.base.specs.EachLaws.{every_at, every_make, and_left, and_right, and_both, implied, true_not_false}
use Rattle.state_sound.specs.Clauses.{in_ram, aligned, multiple, is_in, ep0, address_fits}
use Rattle.state_sound.specs.Sound.{configb, useb, transferb, outb, busy_clausesb, slotb, slotsb, ownb, soundb, memoryb, allocationsb, driver_soundb}
use Rattle.state_sound.proofs.SoundLaws.{slot_parts, transfer_busy, transfer_calm, sound_parts, driver_parts}

pub record InRam (address length : ℕ) : Type 0 where
  pub low : 0x200A0000 ≤ address
  pub high : address + length ≤ 0x20180000

pub in_ram_lem : (a n : ℕ) → in_ram a n ≡ true → InRam a n
in_ram_lem a n h = record { low = leb-true _ _ (and_left (leb 0x200A0000 a) (leb (a + n) 0x20180000) h); high = leb-true _ _ (and_right (leb 0x200A0000 a) (leb (a + n) 0x20180000) h) }

pub in_ram_is : (a n : ℕ) → InRam a n → in_ram a n ≡ true
in_ram_is a n h = and_both (leb 0x200A0000 a) (leb (a + n) 0x20180000) (le-leb _ _ h.low) (le-leb _ _ h.high)

pub record DriverFacts (d : Driver) : Type 0 where
  pub ram : InRam d.memory d.capacity
  pub even : d.memory % 4 ≡ 0
  pub ep0 : 512 ≤ d.used
  pub room : d.used ≤ d.capacity
  pub configs : (i : ℕ) → i < 16 → configb i (allocation_at d i) ≡ true

pub driver_facts : (d : Driver) → driver_soundb d ≡ true → DriverFacts d
unfolding memoryb allocationsb
driver_facts d h =
    let m = d.memory in
    let k = d.capacity in
    let u = d.used in
    let parts = driver_parts d ∙ h in
    let memory = and_right (allocationsb d 16) (memoryb m k u) parts in
    let after1 = and_right (in_ram m k) _ memory in
    let after2 = and_right (leb 512 k) _ after1 in
    let after3 = and_right (aligned m) _ after2 in
    let after4 = and_right (leb 512 u) _ after3 in
    record {
      ram = in_ram_lem m k (and_left (in_ram m k) _ memory);
      even = eqb-true _ _ (and_left (aligned m) _ after2);
      ep0 = leb-true _ _ (and_left (leb 512 u) _ after3);
      room = leb-true _ _ (and_left (leb u k) true after4);
      configs = λ i l. every_at _ 16 i (and_left (allocationsb d 16) (memoryb m k u) parts) l;
    }

pub driver_is : (d : Driver) → DriverFacts d → driver_soundb d ≡ true
unfolding memoryb allocationsb
driver_is d f =
    let m = d.memory in
    let k = d.capacity in
    let u = d.used in
    let enough : 512 ≤ k = omega (arith, f.ep0, f.room) in
    sym (driver_parts d)
    ∙ and_both (allocationsb d 16) (memoryb m k u) (every_make _ 16 f.configs)
    (and_both (in_ram m k) _ (in_ram_is m k f.ram)
    (and_both (leb 512 k) _ (le-leb _ _ enough)
    (and_both (aligned m) _ (eq-eqb _ _ f.even)
    (and_both (leb 512 u) _ (le-leb _ _ f.ep0) (and_both (leb u k) true (le-leb _ _ f.room) refl)))))

-- a slot that is off, with no transfer in hand, is sound where its configuration and its progress are
pub off_sound : (powered : Bool) (i : ℕ) (o : Option EndpointConfig) (t : Transfer) (y : Tally) → configb i o ≡ true
    → (ep0 i || leb t.progress t.length) ≡ true
    → slotb powered i (record { enabled = false; stalled = false; phase = Idle; config = o; transfer = t; tally = y }) ≡ true
unfolding useb transferb
off_sound powered i o t y hk ht = go (ltb i 2) refl
  where
    off : Slot
    off = record { enabled = false; stalled = false; phase = Idle; config = o; transfer = t; tally = y }

    parts : useb powered i off ≡ true → transferb i off ≡ true → slotb powered i off ≡ true
    parts hu hm = sym (slot_parts powered i off) ∙ and_both (useb powered i off && configb i o) (transferb i off) (and_both (useb powered i off) (configb i o) hu hk) hm

    go : (b : Bool) → ltb i 2 ≡ b → slotb powered i off ≡ true
    go true e = parts (rw e) (rw e)
    go false e = parts (rw e) (sym (transfer_calm i off e refl) ∙ (rw e at ht))

pub fresh_slot_sound : (powered : Bool) (i : ℕ) → slotb powered i fresh_slot ≡ true
unfolding configb
fresh_slot_sound powered i = off_sound powered i None fresh_slot.transfer fresh_slot.tally refl (or-true (ep0 i))

-- each slot of a sound state is sound, and so is the rest of it
pub slot_sound : (s : State) (e : Events) → soundb s e ≡ true → (i : ℕ) → i < 16 → slotb s.powered i (slot_at s i) ≡ true
unfolding slotsb
slot_sound s e h i b = every_at (λ k. slotb s.powered k (slot_at s k)) 16 i (and_left (slotsb s 16) (ownb s e) (sound_parts s e ∙ h)) b

pub own_sound : (s : State) (e : Events) → soundb s e ≡ true → ownb s e ≡ true
own_sound s e h = and_right (slotsb s 16) (ownb s e) (sound_parts s e ∙ h)

-- what a sound state has beside its slots
pub record OwnFacts (s : State) (e : Events) : Type 0 where
  pub memory : (eqb s.ep0_address 0 || in_ram s.ep0_address 512) ≡ true
  pub apart : events_soundb e.events ≡ true
  pub address : (address_fits s.address) ≡ true
  pub sequence : leb s.tx_seq 31 ≡ true
  pub awaited : (not (awaitingb s.awaited.next) || s.powered) ≡ true
  pub chain : (not (chain_readingb s.awaited.next) || (leb 1 s.awaited.endpoint && leb s.awaited.endpoint 7)) ≡ true

pub own_facts : (s : State) (e : Events) → soundb s e ≡ true → OwnFacts s e
unfolding ownb
own_facts s e h =
    let own = own_sound s e h in
    let after1 = and_right (eqb s.ep0_address 0 || in_ram s.ep0_address 512) _ own in
    let after2 = and_right (events_soundb e.events) _ after1 in
    let after3 = and_right (address_fits s.address) _ after2 in
    let after4 = and_right (leb s.tx_seq 31) _ after3 in
    let after5 = and_right (not (awaitingb s.awaited.next) || s.powered) _ after4 in
    record {
      memory = and_left (eqb s.ep0_address 0 || in_ram s.ep0_address 512) _ own;
      apart = and_left (events_soundb e.events) _ after1;
      address = and_left (address_fits s.address) _ after2;
      sequence = and_left (leb s.tx_seq 31) _ after3;
      awaited = and_left (not (awaitingb s.awaited.next) || s.powered) _ after4;
      chain = and_left (not (chain_readingb s.awaited.next) || (leb 1 s.awaited.endpoint && leb s.awaited.endpoint 7)) true after5;
    }

pub own_is : (s : State) (e : Events) → OwnFacts s e → ownb s e ≡ true
unfolding ownb
own_is s e o = rw (o.memory, o.apart, o.address, o.sequence, o.awaited, o.chain)

pub sound_is : (s : State) (e : Events) → ((i : ℕ) → i < 16 → slotb s.powered i (slot_at s i) ≡ true) → ownb s e ≡ true → soundb s e ≡ true
unfolding slotsb
sound_is s e h o = sym (sound_parts s e) ∙ and_both (slotsb s 16) (ownb s e) (every_make (λ k. slotb s.powered k (slot_at s k)) 16 h) o

-- A state stays sound where a slot is stored that is sound if the one in its place was; no slot has a number from 16 on.
pub one_slot_kept : (s : State) (e : Events) (i : ℕ) (x : Slot) → soundb s e ≡ true → (slotb s.powered i (slot_at s i) ≡ true → slotb s.powered i x ≡ true)
    → soundb (with_slot s i x) e ≡ true
unfolding ownb
one_slot_kept s e i x h hx =
    sound_is (with_slot s i x) e (λ j b. stored_slot (λ k y. k < 16 → slotb s.powered k y ≡ true) s i x (λ l. hx (slot_sound s e h i l)) j (slot_sound s e h j) b) (own_sound s e h)

-- so it does where the one stored is sound
pub one_slot_sound : (s : State) (e : Events) (i : ℕ) (x : Slot) → soundb s e ≡ true → slotb s.powered i x ≡ true → soundb (with_slot s i x) e ≡ true
one_slot_sound s e i x h hx = one_slot_kept s e i x h (λ was. hx)

-- what a transfer in hand needs of its slot
pub record Ready (powered : Bool) (x : Slot) : Type 0 where
  pub on : powered ≡ true
  pub enabled : x.enabled ≡ true
  pub free : x.stalled ≡ false

-- a slot of IN has an odd number, one of OUT an even one
pub in_slot : (e : ℕ) → is_in (slot_number e true) ≡ true
in_slot e = let odd : (e * 2 + 1) % 2 ≡ 1 = omega arith in eq-eqb _ _ odd

pub out_slot : (e : ℕ) → is_in (slot_number e false) ≡ false
out_slot e = let even : (e * 2 + 0) % 2 ≡ 0 = omega arith in rw even

-- a busy transfer of OUT: whole packets have come, and whole packets are missing
pub record OutFacts (m : ℕ) (t : Transfer) : Type 0 where
  pub size : 0 < m
  pub whole : t.length % m ≡ 0
  pub come : t.progress % m ≡ 0
  pub missing : t.progress < t.length

-- a busy transfer of slot i
pub record BusyFacts (i m : ℕ) (t : Transfer) : Type 0 where
  pub ram : InRam t.address t.length
  pub even : t.address % 4 ≡ 0
  pub out : is_in i ≡ false → OutFacts m t

-- what 26 asks of a data slot
pub record SlotFacts (powered : Bool) (i : ℕ) (x : Slot) : Type 0 where
  pub known : x.enabled ≡ true → configured x.config ≡ true
  pub ready : idleb x.phase ≡ false → Ready powered x
  pub config : configb i x.config ≡ true
  pub within : x.transfer.progress ≤ x.transfer.length
  pub busy : busyb x.phase ≡ true → BusyFacts i (slot_size x) x.transfer

or_right : (a b : Bool) → a ≡ false → (a || b) ≡ true → b ≡ true
or_right a b e h = rw e at h

or_make : (a b : Bool) → (a ≡ false → b ≡ true) → (a || b) ≡ true
or_make true b f = refl
or_make false b f = f refl

-- a multiple, as facts and back
pub multiple_facts : (n m : ℕ) → multiple n m ≡ true → (0 < m) × (n % m ≡ 0)
multiple_facts n m h = (ltb-true _ _ (and_left (ltb 0 m) (eqb (n % m) 0) h), eqb-true _ _ (and_right (ltb 0 m) (eqb (n % m) 0) h))

multiple_is : (n m : ℕ) → 0 < m → n % m ≡ 0 → multiple n m ≡ true
multiple_is n m h e = and_both (ltb 0 m) (eqb (n % m) 0) (lt-ltb _ _ h) (eq-eqb _ _ e)

out_facts : (m : ℕ) (t : Transfer) → t.progress ≤ t.length → outb t.progress t.length m ≡ true → OutFacts m t
unfolding outb
out_facts m t w h =
    let p = t.progress in
    let l = t.length in
    let all = and_left (ltb 0 l && multiple l m) (not (eqb p l) && multiple p m) h in
    let past = and_right (ltb 0 l && multiple l m) (not (eqb p l) && multiple p m) h in
    let whole = multiple_facts l m (and_right (ltb 0 l) (multiple l m) all) in
    let other = eqb-false p l (not-true (eqb p l) (and_left (not (eqb p l)) (multiple p m) past)) in
    record {
      size = whole.0;
      whole = whole.1;
      come = (multiple_facts p m (and_right (not (eqb p l)) (multiple p m) past)).1;
      missing = omega (arith, w, other);
    }

out_is : (m : ℕ) (t : Transfer) → OutFacts m t → outb t.progress t.length m ≡ true
unfolding outb
out_is m t f =
    let p = t.progress in
    let l = t.length in
    let some : 0 < l = omega (arith, f.missing) in
    and_both (ltb 0 l && multiple l m) (not (eqb p l) && multiple p m)
    (and_both (ltb 0 l) (multiple l m) (lt-ltb _ _ some) (multiple_is l m f.size f.whole))
    (and_both (not (eqb p l)) (multiple p m) (rw (ne_eqb p l (λ q. omega (arith, f.missing, q)))) (multiple_is p m f.size f.come))

busy_facts : (i : ℕ) (x : Slot) → x.transfer.progress ≤ x.transfer.length → busy_clausesb i x ≡ true → BusyFacts i (slot_size x) x.transfer
unfolding busy_clausesb
busy_facts i x w h =
    let t = x.transfer in
    let m = slot_size x in
    let o = outb t.progress t.length m in
    let rest = and_right (in_ram t.address t.length) (aligned t.address && (is_in i || o)) h in
    record {
      ram = in_ram_lem _ _ (and_left (in_ram t.address t.length) (aligned t.address && (is_in i || o)) h);
      even = eqb-true _ _ (and_left (aligned t.address) (is_in i || o) rest);
      out = λ q. out_facts m t w (or_right (is_in i) o q (and_right (aligned t.address) (is_in i || o) rest));
    }

busy_is : (i : ℕ) (x : Slot) → BusyFacts i (slot_size x) x.transfer → busy_clausesb i x ≡ true
unfolding busy_clausesb
busy_is i x f =
    let t = x.transfer in
    let m = slot_size x in
    let o = outb t.progress t.length m in
    and_both (in_ram t.address t.length) (aligned t.address && (is_in i || o)) (in_ram_is _ _ f.ram)
    (and_both (aligned t.address) (is_in i || o) (eq-eqb _ _ f.even) (or_make (is_in i) o (λ q. out_is m t (f.out q))))

transfer_facts : (i : ℕ) (x : Slot) → ltb i 2 ≡ false → transferb i x ≡ true
    → (x.transfer.progress ≤ x.transfer.length) × (busyb x.phase ≡ true → BusyFacts i (slot_size x) x.transfer)
unfolding transferb
transfer_facts i x d h =
    let within = leb x.transfer.progress x.transfer.length in
    let w : x.transfer.progress ≤ x.transfer.length = leb-true _ _ (or_right (ltb i 2) within d (and_left (ltb i 2 || within) _ h)) in
    (w, λ b. busy_facts i x w (and_right within (busy_clausesb i x) (transfer_busy i x d b ∙ h)))

transfer_is : (i : ℕ) (x : Slot) → ltb i 2 ≡ false → x.transfer.progress ≤ x.transfer.length
    → (busyb x.phase ≡ true → BusyFacts i (slot_size x) x.transfer) → transferb i x ≡ true
transfer_is i x d w f = go (busyb x.phase) refl
  where
    within : leb x.transfer.progress x.transfer.length ≡ true
    within = le-leb _ _ w

    go : (b : Bool) → busyb x.phase ≡ b → transferb i x ≡ true
    go true e = sym (transfer_busy i x d e) ∙ and_both (leb x.transfer.progress x.transfer.length) (busy_clausesb i x) within (busy_is i x (f e))
    go false e = sym (transfer_calm i x d e) ∙ within

use_facts : (p : Bool) (i : ℕ) (x : Slot) → ltb i 2 ≡ false → useb p i x ≡ true
    → (x.enabled ≡ true → configured x.config ≡ true) × (idleb x.phase ≡ false → Ready p x)
unfolding useb
use_facts p i x d h =
    let idle = idleb x.phase in
    let u1 : ((not x.enabled || configured x.config) && ((idle || p) && ((idle || x.enabled) && ((idle || not x.stalled) && true)))) ≡ true = rw d at h in
    let u2 = and_right (not x.enabled || configured x.config) _ u1 in
    let u3 = and_right (idle || p) _ u2 in
    let u4 = and_right (idle || x.enabled) _ u3 in (
      λ e. implied x.enabled (configured x.config) e (and_left (not x.enabled || configured x.config) _ u1),
      λ e. record {
        on = or_right idle p e (and_left (idle || p) _ u2);
        enabled = or_right idle x.enabled e (and_left (idle || x.enabled) _ u3);
        free = not-true _ (or_right idle (not x.stalled) e (and_left (idle || not x.stalled) true u4));
      },
    )

use_is : (p : Bool) (i : ℕ) (x : Slot) → ltb i 2 ≡ false → (x.enabled ≡ true → configured x.config ≡ true) → (idleb x.phase ≡ false → Ready p x) → useb p i x ≡ true
unfolding useb
use_is p i x d k r =
    let idle = idleb x.phase in
    rw d
    (and_both (not x.enabled || configured x.config) _ (or_make (not x.enabled) (configured x.config) (λ e. k (not-false _ e)))
    (and_both (idle || p) _ (or_make idle p (λ e. (r e).on))
    (and_both (idle || x.enabled) _ (or_make idle x.enabled (λ e. (r e).enabled))
    (and_both (idle || not x.stalled) true (or_make idle (not x.stalled) (λ e. rw (r e).free)) refl))))

-- a data slot's clauses as facts, and back
pub slot_facts : (p : Bool) (i : ℕ) (x : Slot) → ltb i 2 ≡ false → slotb p i x ≡ true → SlotFacts p i x
slot_facts p i x d h =
    let k = configb i x.config in
    let parts = slot_parts p i x ∙ h in
    let front = and_left (useb p i x && k) (transferb i x) parts in
    let used = use_facts p i x d (and_left (useb p i x) k front) in
    let moved = transfer_facts i x d (and_right (useb p i x && k) (transferb i x) parts) in
    record { known = used.0; ready = used.1; config = and_right (useb p i x) k front; within = moved.0; busy = moved.1 }

pub slot_is : (p : Bool) (i : ℕ) (x : Slot) → ltb i 2 ≡ false → SlotFacts p i x → slotb p i x ≡ true
slot_is p i x d f =
    let k = configb i x.config in
    sym (slot_parts p i x)
    ∙ and_both (useb p i x && k) (transferb i x) (and_both (useb p i x) k (use_is p i x d f.known f.ready) f.config) (transfer_is i x d f.within f.busy)

-- of endpoint 0's slots only their configuration is asked
pub ep0_slot_lem : (p : Bool) (i : ℕ) (x : Slot) → ltb i 2 ≡ true → slotb p i x ≡ configb i x.config
unfolding useb transferb
ep0_slot_lem p i x d =
    let k = configb i x.config in
    let used : useb p i x ≡ true = rw d in
    let moved : transferb i x ≡ true = rw d in
    sym (slot_parts p i x) ∙ rw (used, moved, and-true k)

-- what a data slot's new phase and transfer need
pub record Moves (powered : Bool) (i : ℕ) (x : Slot) (phase : Phase) (t : Transfer) : Type 0 where
  pub ready : idleb phase ≡ false → Ready powered x
  pub within : t.progress ≤ t.length
  pub busy : busyb phase ≡ true → BusyFacts i (slot_size x) t

-- A sound slot that keeps its configuration and orders is sound where its new phase and transfer are; endpoint 0's always.
pub changed_sound : (p : Bool) (i : ℕ) (x : Slot) (phase : Phase) (t : Transfer) (y : Tally) → slotb p i x ≡ true
    → (ltb i 2 ≡ false → SlotFacts p i x → Moves p i x phase t) → slotb p i (changed_slot x phase t y) ≡ true
changed_sound p i x phase t y h moves = go (ltb i 2) refl
  where
    go : (b : Bool) → ltb i 2 ≡ b → slotb p i (changed_slot x phase t y) ≡ true
    go true d = ep0_slot_lem p i (changed_slot x phase t y) d ∙ sym (ep0_slot_lem p i x d) ∙ h
    go false d =
        let f = slot_facts p i x d h in
        let n = moves d f in
        let r = n.ready in
        slot_is p i (changed_slot x phase t y) d
        (record {
          known = f.known;
          ready = λ e. record { on = (r e).on; enabled = (r e).enabled; free = (r e).free };
          config = f.config;
          within = n.within;
          busy = n.busy;
        })

-- A sound slot that is made idle is sound, under any power and stall, where it isn't enabled without configuration.
pub idled_sound : (p q : Bool) (i : ℕ) (x : Slot) (enabled stalled : Bool) (y : Tally) → slotb p i x ≡ true
    → (ltb i 2 ≡ false → SlotFacts p i x → enabled ≡ true → configured x.config ≡ true)
    → slotb q i (record x { enabled = enabled; stalled = stalled; phase = Idle; tally = y }) ≡ true
idled_sound p q i x enabled stalled y h known = go (ltb i 2) refl
  where
    idled : Slot
    idled = record x { enabled = enabled; stalled = stalled; phase = Idle; tally = y }

    go : (b : Bool) → ltb i 2 ≡ b → slotb q i idled ≡ true
    go true d = ep0_slot_lem q i idled d ∙ sym (ep0_slot_lem p i x d) ∙ h
    go false d =
        let f = slot_facts p i x d h in
        slot_is q i idled d
        (record {
          known = known d f;
          ready = λ e. absurd (true_not_false e);
          config = f.config;
          within = f.within;
          busy = λ e. absurd (true_not_false (sym e));
        })

-- other events that are sound stand beside a sound state
pub events_sound : (s : State) (v u : Events) → soundb s v ≡ true → events_soundb u.events ≡ true → soundb s u ≡ true
events_sound s v u h e =
    let o = own_facts s v h in
    sound_is s u (slot_sound s v h) (own_is s u (record { memory = o.memory; apart = e; address = o.address; sequence = o.sequence; awaited = o.awaited; chain = o.chain }))
