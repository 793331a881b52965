-- A sound state with another group of fields.
-- Assumes nothing.
use Rattle.std.specs.Prelude.{ℕ, ◌<◌, Bool, true, not, ◌&&◌, ◌||◌, List, ◌≡◌, refl, eqb, leb, ltb, get_or, set, Option, Some, None}
use Rattle.std.proofs.Common.{sym, ◌∙◌, leb-true}
use Rattle.base.specs.EachLaws.{and_left, and_right, true_not_false}
use Rattle.state.specs.declared.EndpointConfig.{EndpointConfig}
use Rattle.state.specs.declared.Slot.{Slot}
use Rattle.state.specs.declared.Awaited.{Awaited}
use Rattle.state.specs.declared.State.{State}
use Rattle.state.specs.declared.Events.{Events}
use Rattle.state.specs.Fresh.{fresh_slot, slot_at}
use Rattle.state.specs.Setters.{Link, Control, power_of, link_of, control_of, state_of, with_slots, with_link, with_control, with_wake, with_awaited}
use Rattle.state.specs.Awaiting.{awaitingb, chain_readingb}
use Rattle.state_slots.specs.Slots.{slot_number, configured, size_of, slot_size}
use Rattle.state_slots.specs.StoredLaws.{stored_slot}
use Rattle.state_slots.specs.Completing.{ended_state}
use Rattle.state_sound.specs.Clauses.{address_fits}
use Rattle.state_sound.specs.Sound.{soundb, slotb, configb}
use Rattle.state_sound.proofs.FactLaws.{SlotFacts, slot_sound, own_facts, own_is, sound_is, ep0_slot_lem}

-- power stays; slots, control and what is awaited are to be sound
pub rebuilt_sound : (s : State) (v : Events) (slots : List Slot) (l : Link) (c : Control) (wake : ℕ) (a : Awaited) → soundb s v ≡ true
    → ((i : ℕ) → i < 16 → slotb s.powered i (get_or slots i fresh_slot) ≡ true)
    → address_fits c.address ≡ true → leb c.sequence 31 ≡ true → (not (awaitingb a.next) || s.powered) ≡ true
    → (not (chain_readingb a.next) || (leb 1 a.endpoint && leb a.endpoint 7)) ≡ true
    → soundb (state_of slots (power_of s) l c wake a) v ≡ true
rebuilt_sound s v slots l c wake a h hs ha hq hw hc =
    let o = own_facts s v h in
    let t = state_of slots (power_of s) l c wake a in
    sound_is t v hs (own_is t v (record { memory = o.memory; apart = o.apart; address = ha; sequence = hq; awaited = hw; chain = hc }))

pub slots_sound : (s : State) (v : Events) (slots : List Slot) → soundb s v ≡ true → ((i : ℕ) → i < 16 → slotb s.powered i (get_or slots i fresh_slot) ≡ true)
    → soundb (with_slots s slots) v ≡ true
slots_sound s v slots h hs =
    let o = own_facts s v h in
    rebuilt_sound s v slots (link_of s) (control_of s) s.wake s.awaited h hs o.address o.sequence o.awaited o.chain

pub link_sound : (s : State) (v : Events) (l : Link) → soundb s v ≡ true → soundb (with_link s l) v ≡ true
link_sound s v l h =
    let o = own_facts s v h in
    rebuilt_sound s v s.endpoints l (control_of s) s.wake s.awaited h (slot_sound s v h) o.address o.sequence o.awaited o.chain

pub control_sound : (s : State) (v : Events) (c : Control) → soundb s v ≡ true → address_fits c.address ≡ true → leb c.sequence 31 ≡ true
    → soundb (with_control s c) v ≡ true
control_sound s v c h ha hq =
    let o = own_facts s v h in
    rebuilt_sound s v s.endpoints (link_of s) c s.wake s.awaited h (slot_sound s v h) ha hq o.awaited o.chain

pub wake_sound : (s : State) (v : Events) (wake : ℕ) → soundb s v ≡ true → soundb (with_wake s wake) v ≡ true
wake_sound s v wake h =
    let o = own_facts s v h in
    rebuilt_sound s v s.endpoints (link_of s) (control_of s) wake s.awaited h (slot_sound s v h) o.address o.sequence o.awaited o.chain

pub awaited_sound : (s : State) (v : Events) (a : Awaited) → soundb s v ≡ true → (not (awaitingb a.next) || s.powered) ≡ true
    → (not (chain_readingb a.next) || (leb 1 a.endpoint && leb a.endpoint 7)) ≡ true → soundb (with_awaited s a) v ≡ true
awaited_sound s v a h hw hc =
    let o = own_facts s v h in
    rebuilt_sound s v s.endpoints (link_of s) (control_of s) s.wake a h (slot_sound s v h) o.address o.sequence hw hc

-- the end of an interrupt
pub ended_sound : (s : State) (v : Events) → soundb s v ≡ true → soundb (ended_state s) v ≡ true
ended_sound s v h = awaited_sound (with_wake s 0) v _ (wake_sound s v 0 h) refl refl

-- a slot of endpoint 0 stored with its configuration
pub ep0_stored : (s : State) (p : Bool) (i : ℕ) (y : Slot) → ltb i 2 ≡ true → y.config ≡ (slot_at s i).config
    → ((j : ℕ) → j < 16 → slotb p j (slot_at s j) ≡ true) → (j : ℕ) → j < 16 → slotb p j (get_or (set s.endpoints i y) j fresh_slot) ≡ true
ep0_stored s p i y h e hs j b =
    stored_slot (λ k z. k < 16 → slotb p k z ≡ true) s i y (λ l. ep0_slot_lem p i y h ∙ rw e (sym (ep0_slot_lem p i (slot_at s i) h) ∙ hs i l)) j (hs j) b

-- a configuration has packets of a byte at least
config_size : (i : ℕ) (o : Option EndpointConfig) → configured o ≡ true → configb i o ≡ true → 0 < size_of o
unfolding configb
config_size i None q h = absurd (true_not_false (sym q))
config_size i (Some k) q h =
    let rest = and_right (eqb (slot_number k.endpoint.index k.endpoint.incoming) i) _ h in
    leb-true 1 _ (and_left (leb 1 k.max_packet_size) _ (and_left (leb 1 k.max_packet_size && leb k.max_packet_size 1024) _ rest))

-- so an enabled slot has
pub enabled_size : (p : Bool) (i : ℕ) (x : Slot) → SlotFacts p i x → x.enabled ≡ true → 0 < slot_size x
enabled_size p i x f on = config_size i x.config (f.known on) f.config
