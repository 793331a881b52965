-- Soundness by parts: of a configuration, a slot, a state and a driver.
-- Assumes nothing.
use Rattle.std.specs.Prelude.{ℕ, ◌+◌, ◌*◌, ◌%◌, ◌<◌, ◌≤◌, Bool, true, false, ◌&&◌, ◌||◌, not, eqb, leb, ltb, ◌++◌, map, ◌≡◌, refl, Option, Some, None}
use Rattle.std.proofs.Math.Nat.{mod_self, mul-mod_left}
use Rattle.std.proofs.Common.{mul-le-mul_right, arith, eq-eqb, lt-ltb, ltb-true, ap, sym, ◌∙◌}
use Rattle.std.proofs.Math.Bool.{and-true, and-false, or-true, or-false}
use Rattle.state.specs.declared.EndpointConfig.{EndpointConfig}
use Rattle.state.specs.declared.Slot.{Slot}
use Rattle.state.specs.declared.State.{State}
use Rattle.state.specs.declared.Events.{Events}
use Rattle.state.specs.declared.Driver.{Driver}
use Rattle.state.specs.Fresh.{slot_at, allocation_at}
use Rattle.state.specs.declared.Phase.{Phase}
use Rattle.state.specs.declared.Phase.TheVariants.{Idle, Busy, Done}
use Rattle.state_slots.specs.Slots.{idleb, busyb, slot_number, ready, configured, slot_size}
use Rattle.base.specs.Each.{all_true}
use Rattle.base.specs.EachLaws.{every_all, every_at, all_append, true_not_false}
use Rattle.state_sound.specs.Clauses.{config_clauses, use_clauses, transfer_clauses, slot_clauses, state_clauses, of_slots, memory_clauses, of_allocations, in_ram, aligned, multiple, whole_packets, packet_size, is_in, if_any}
use Rattle.state_sound.specs.Sound.{soundb, driver_soundb, configb, useb, transferb, outb, busy_clausesb, slotb, ownb, memoryb, slotsb, allocationsb, Configured}

-- a buffer for one packet, or for a burst of b + 1, holds whole ones
whole : (n m : ℕ) → n % m ≡ 0 → (ltb 0 m ≡ true → 0 < n) → ltb 0 m ≡ whole_packets n m
whole n m h some = go (ltb 0 m) refl
  where
    go : (b : Bool) → ltb 0 m ≡ b → b ≡ (ltb 0 n && (b && eqb (n % m) 0))
    go true e = rw (lt-ltb 0 n (some e), eq-eqb (n % m) 0 h)
    go false e = sym (and-false (ltb 0 n))

pub whole_packet : (n m : ℕ) → n ≡ m → ltb 0 m ≡ whole_packets n m
whole_packet n m h = whole n m (rw h (mod_self m)) (λ e. omega (arith, ltb-true 0 m e))

pub whole_burst : (n m b : ℕ) → n ≡ (b + 1) * m → ltb 0 m ≡ whole_packets n m
whole_burst n m b h = whole n m (rw h (mul-mod_left (b + 1) m)) some
  where
    some : ltb 0 m ≡ true → 0 < n
    some e =
        let one : 1 * m ≤ (b + 1) * m = mul-le-mul_right m (omega arith) in
        omega (arith, one, ltb-true 0 m e)

pub burst_fits_lem : (m b : ℕ) → m < 65536 → b < 256 → (b + 1) * m < 4294967296
burst_fits_lem m b h k =
    let most : (b + 1) * m ≤ 256 * m = mul-le-mul_right m (omega (arith, k)) in
    omega (arith, most, h)

-- a configuration whose other clauses are met is sound where its buffer holds whole packets
last_clause : (a b c w : Bool) → ((a && (b && c)) && w) ≡ (a && (b && (c && (w && true))))
last_clause true true true w = sym (and-true w)
last_clause true true false w = refl
last_clause true false c w = refl
last_clause false b c w = refl

pub config_last : (i : ℕ) (k : EndpointConfig) (inside even t : Bool) → eqb (slot_number k.endpoint.index k.endpoint.incoming) i ≡ true
    → inside ≡ in_ram k.buffer.address k.buffer.size → even ≡ aligned k.buffer.address → (packet_size k.max_packet_size && (inside && even)) ≡ t
    → (t && whole_packets k.buffer.size k.max_packet_size) ≡ configb i (Some k)
unfolding configb
config_last i k inside even t n e f h =
    rw (← h, n, e, f)
    (last_clause
    (packet_size k.max_packet_size)
    (in_ram k.buffer.address k.buffer.size)
    (aligned k.buffer.address)
    (whole_packets k.buffer.size k.max_packet_size))

pub config_other : (i : ℕ) (k : EndpointConfig) → eqb (slot_number k.endpoint.index k.endpoint.incoming) i ≡ false → false ≡ configb i (Some k)
unfolding configb
config_other i k h = rw h

-- where there is none, there is nothing to hold
pub config_none : (i : ℕ) → true ≡ configb i None
unfolding configb
config_none i = refl

-- a slot is sound where its use, its configuration and its transfer are
pub slot_parts : (p : Bool) (i : ℕ) (x : Slot) → ((useb p i x && configb i x.config) && transferb i x) ≡ slotb p i x
unfolding useb configb transferb slotb
slot_parts p i x =
    let used = map (λ (c : ℕ → Slot → Bool). c i x) (use_clauses p) in
    let config = map (λ (c : ℕ → EndpointConfig → Bool). if_any (c i) x.config) config_clauses in
    let moved = map (λ (c : ℕ → Slot → Bool). c i x) transfer_clauses in
    sym (all_append (used ++ config) moved ∙ ap (λ (b : Bool). b && all_true moved) (all_append used config))

or_over_and : (a b c d : Bool) → (a || (b && (c && d))) ≡ ((a || b) && ((a || c) && ((a || d) && true)))
or_over_and true b c d = refl
or_over_and false b c d = ap (λ (t : Bool). b && (c && t)) (sym (and-true d))

-- the clauses of a data slot's transfer, while it is busy and while not
pub transfer_busy : (i : ℕ) (x : Slot) → ltb i 2 ≡ false → busyb x.phase ≡ true
    → (leb x.transfer.progress x.transfer.length && busy_clausesb i x) ≡ transferb i x
unfolding transferb busy_clausesb outb
transfer_busy i x h b =
    let l = x.transfer.length in
    let p = x.transfer.progress in
    let m = slot_size x in
    rw (h, b, or_over_and (is_in i) (whole_packets l m) (not (eqb p l)) (multiple p m))

pub transfer_calm : (i : ℕ) (x : Slot) → ltb i 2 ≡ false → busyb x.phase ≡ false
    → leb x.transfer.progress x.transfer.length ≡ transferb i x
unfolding transferb
transfer_calm i x h b = rw (h, b, and-true (leb x.transfer.progress x.transfer.length))

-- what a slot is by its ways out: a wrong configuration,
pub slot_misconfigured : (p : Bool) (i : ℕ) (x : Slot) → configb i x.config ≡ false → false ≡ slotb p i x
slot_misconfigured p i x h = rw (h, and-false (useb p i x)) at (slot_parts p i x)

-- endpoint 0, which has nothing else to meet,
use_ep0 : (p : Bool) (i : ℕ) (x : Slot) → ltb i 2 ≡ true → useb p i x ≡ true
unfolding useb
use_ep0 p i x e = rw e

transfer_ep0 : (i : ℕ) (x : Slot) → ltb i 2 ≡ true → transferb i x ≡ true
unfolding transferb
transfer_ep0 i x e = rw e

pub slot_ep0 : (p : Bool) (i : ℕ) (x : Slot) → configb i x.config ≡ true → ltb i 2 ≡ true → true ≡ slotb p i x
slot_ep0 p i x h e = rw (h, use_ep0 p i x e, transfer_ep0 i x e) at (slot_parts p i x)

-- a transfer past its end,
transfer_over : (i : ℕ) (x : Slot) → ltb i 2 ≡ false → leb x.transfer.progress x.transfer.length ≡ false → transferb i x ≡ false
unfolding transferb
transfer_over i x d l = rw (d, l)

pub slot_over : (p : Bool) (i : ℕ) (x : Slot) → ltb i 2 ≡ false → leb x.transfer.progress x.transfer.length ≡ false → false ≡ slotb p i x
slot_over p i x d l = rw (transfer_over i x d l, and-false (useb p i x && configb i x.config)) at (slot_parts p i x)

idle_calm : (phase : Phase) → idleb phase ≡ true → busyb phase ≡ false
idle_calm Idle h = refl
idle_calm Busy h = absurd (true_not_false (sym h))
idle_calm Done h = absurd (true_not_false (sym h))

busy_in_hand : (phase : Phase) → busyb phase ≡ true → idleb phase ≡ false
busy_in_hand Idle h = absurd (true_not_false (sym h))
busy_in_hand Busy h = refl
busy_in_hand Done h = absurd (true_not_false (sym h))

in_hand_lem : (p e q : Bool) → ((not e || true) && (p && (e && (q && true)))) ≡ ((p && e) && q)
in_hand_lem true true q = and-true q
in_hand_lem true false q = refl
in_hand_lem false true q = refl
in_hand_lem false false q = refl

module _ (p : Bool) (i : ℕ) (x : Slot) (k : Configured i x) where
  used : (u : Bool) → u ≡ useb p i x → busyb x.phase ≡ false → u ≡ slotb p i x
  used u e b = sym (and-true u) ∙ sym (and-true (u && true)) ∙ (rw (← e, k.fits, sym (transfer_calm i x k.data_slot b) ∙ k.within) at (slot_parts p i x))

  use_idle : idleb x.phase ≡ true → true ≡ useb p i x
  unfolding useb
  use_idle q = rw (k.data_slot, q, k.has) (sym (rw (or-true (not x.enabled))))

  use_in_hand : idleb x.phase ≡ false → ready p x ≡ useb p i x
  unfolding useb
  use_in_hand q = rw (k.data_slot, q, k.has) (sym (in_hand_lem p x.enabled _))

  pub slot_idle : idleb x.phase ≡ true → true ≡ slotb p i x
  slot_idle q = used true (use_idle q) (idle_calm x.phase q)

  pub slot_done : idleb x.phase ≡ false → busyb x.phase ≡ false → ready p x ≡ true → true ≡ slotb p i x
  slot_done q b r = used true (sym r ∙ use_in_hand q) b

  pub slot_unready : idleb x.phase ≡ false → ready p x ≡ false → false ≡ slotb p i x
  slot_unready q r = rw (← use_in_hand q, r) at (slot_parts p i x)

  pub slot_busy : busyb x.phase ≡ true → ready p x ≡ true → busy_clausesb i x ≡ slotb p i x
  slot_busy b r = rw (← use_in_hand (busy_in_hand x.phase b), r, k.fits, ← transfer_busy i x k.data_slot b, k.within) at (slot_parts p i x)

-- and one that isn't
pub unconfigured : (i : ℕ) (o : Option EndpointConfig) → configured o ≡ false → configb i o ≡ true
unfolding configb
unconfigured i None h = refl
unconfigured i (Some k) h = absurd (true_not_false h)

unused_idle : (p : Bool) (i : ℕ) (x : Slot) → configured x.config ≡ false → ltb i 2 ≡ false → idleb x.phase ≡ true → useb p i x ≡ not x.enabled
unfolding useb
unused_idle p i x k d q = rw (d, q, k, or-false (not x.enabled)) (and-true (not x.enabled))

unused_in_hand : (p : Bool) (i : ℕ) (x : Slot) → configured x.config ≡ false → ltb i 2 ≡ false → idleb x.phase ≡ false → useb p i x ≡ false
unfolding useb
unused_in_hand p i x k d q = rw (d, q, k) (none x.enabled p (not x.stalled))
  where
    none : (e p q : Bool) → ((not e || false) && (p && (e && (q && true)))) ≡ false
    none true p q = refl
    none false true q = refl
    none false false q = refl

pub slot_unused : (p : Bool) (i : ℕ) (x : Slot) → configured x.config ≡ false → ltb i 2 ≡ false
    → ((idleb x.phase && not x.enabled) && leb x.transfer.progress x.transfer.length) ≡ slotb p i x
slot_unused p i x k d = go (idleb x.phase) refl
  where
    go : (b : Bool) → idleb x.phase ≡ b → ((b && not x.enabled) && leb x.transfer.progress x.transfer.length) ≡ slotb p i x
    go true q =
        ap (λ (u : Bool). u && leb x.transfer.progress x.transfer.length) (sym (and-true (not x.enabled)))
        ∙ (rw (unused_idle p i x k d q, unconfigured i x.config k, ← transfer_calm i x d (idle_calm x.phase q)) at (slot_parts p i x))
    go false q = rw (unused_in_hand p i x k d q) at (slot_parts p i x)

-- clauses by slots are slots by clauses
pub sound_parts : (s : State) (e : Events) → (slotsb s 16 && ownb s e) ≡ soundb s e
unfolding soundb slotsb slotb ownb
sound_parts s e =
    sym
    (all_append (map (of_slots s) (slot_clauses s.powered)) (state_clauses s e)
    ∙ ap (λ (b : Bool). b && ownb s e) (sym (every_all (map (λ (c : ℕ → Slot → Bool) i. c i (slot_at s i)) (slot_clauses s.powered)) 16)))

-- a state is unsound where one slot is, or what is its own
slots_bad : (s : State) (i : ℕ) → i < 16 → slotb s.powered i (slot_at s i) ≡ false → (t : Bool) → slotsb s 16 ≡ t → t ≡ false
unfolding slotsb
slots_bad s i b h false q = refl
slots_bad s i b h true q = absurd (true_not_false (sym (every_at (λ j. slotb s.powered j (slot_at s j)) 16 i q b) ∙ h))

pub sound_bad_slot : (s : State) (e : Events) (i : ℕ) → i < 16 → slotb s.powered i (slot_at s i) ≡ false → false ≡ soundb s e
sound_bad_slot s e i b h = rw (slots_bad s i b h (slotsb s 16) refl) at (sound_parts s e)

pub sound_bad_own : (s : State) (e : Events) → ownb s e ≡ false → false ≡ soundb s e
sound_bad_own s e h = rw (h, and-false (slotsb s 16)) at (sound_parts s e)

pub sound_all : (s : State) (e : Events) → slotsb s 16 ≡ true → ownb s e ≡ true → true ≡ soundb s e
sound_all s e h o = rw (h, o) at (sound_parts s e)

-- sound where the rest is: the slots decide
pub sound_slots : (s : State) (e : Events) → ownb s e ≡ true → slotsb s 16 ≡ soundb s e
sound_slots s e h = rw (h, and-true (slotsb s 16)) at (sound_parts s e)

pub driver_parts : (d : Driver) → (allocationsb d 16 && memoryb d.memory d.capacity d.used) ≡ driver_soundb d
unfolding driver_soundb allocationsb configb memoryb
driver_parts d =
    sym
    (all_append (map (of_allocations d) config_clauses) (memory_clauses d.memory d.capacity d.used)
    ∙ ap (λ (b : Bool). b && memoryb d.memory d.capacity d.used)
    (sym (every_all (map (λ (c : ℕ → EndpointConfig → Bool) i. if_any (c i) (allocation_at d i)) config_clauses) 16)))
