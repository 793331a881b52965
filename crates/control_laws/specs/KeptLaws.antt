-- Steps that keep a state sound and the account of every data slot: one for each group of fields, and for the resets.
-- Assumes nothing.
use Rattle.std.specs.Prelude.{ℕ, ◌≤◌, ◌<◌, Bool, true, false, not, ◌&&◌, ◌||◌, cond, List, Option, ◌≡◌, refl, leb, ltb}
use Rattle.std.proofs.Math.Bool.{or-true}
use Rattle.std.proofs.Common.{sym, ◌∙◌, ltb-true, ltb-false}
use Rattle.base.specs.EachLaws.{changed_at}
use Rattle.state.specs.declared.Slot.{Slot}
use Rattle.state.specs.declared.Awaited.{Awaited}
use Rattle.state.specs.declared.State.{State}
use Rattle.state.specs.declared.Events.{Events}
use Rattle.state.specs.declared.Refusal.{Refusal}
use Rattle.state.specs.Refusals.{Condition, first_refusal, NoneDue}
use Rattle.state.specs.Fresh.{fresh_slot, slot_at}
use Rattle.state.specs.Awaiting.{awaitingb, chain_readingb}
use Rattle.state.specs.Setters.{Link, Control, with_slot, with_link, with_control, with_wake, with_awaited, with_stage}
use Rattle.state_slots.specs.Slots.{busyb}
use Rattle.state_slots.specs.Completing.{done_slot, complete_at, complete, ended_state}
use Rattle.state_slots.specs.Tally.{SameDifference}
use Rattle.state_events.specs.Bytes.{events_soundb}
use Rattle.state_sound.specs.Clauses.{address_fits}
use Rattle.state_sound.specs.Sound.{soundb, slotb}
use Rattle.state_sound.proofs.FactLaws.{own_facts, slot_sound, events_sound, ep0_slot_lem, fresh_slot_sound}
use Rattle.state_laws.specs.SetterLaws.{slots_sound, link_sound, control_sound, wake_sound, awaited_sound, ended_sound, ep0_stored}
use Rattle.state_laws.specs.SlotLaws.{ep0_apart}
use Rattle.state_laws.specs.TallyLaws.{keeps_difference, unmoved_difference, difference_then}
use Rattle.state_call.specs.Outcome.{Outcome, unless}
use Rattle.state_call.specs.OutcomeLaws.{keeps}
use Rattle.bus_reset.specs.Reset.{ep0_slot, control_reset, bus_reset_state}
use Rattle.bus_laws.specs.PowerKeeps.{bus_reset_keeps_sound, bus_reset_keeps_account, control_reset_apart}

-- s has become t, beside the events u
pub record KeepsAll (s t : State) (u : Events) : Type 0 where
  pub sound : soundb t u ≡ true
  pub account : (i : ℕ) → 2 ≤ i → i < 16 → SameDifference (slot_at s i) (slot_at t i)

pub all_same : (s : State) (v : Events) → soundb s v ≡ true → KeepsAll s s v
all_same s v h = record { sound = h; account = λ i l b. unmoved_difference (slot_at s i) }

pub all_either : (b : Bool) (s t u : State) (v : Events) → KeepsAll s t v → KeepsAll s u v → KeepsAll s (cond b t u) v
all_either true s t u v h k = h
all_either false s t u v h k = k

-- a further step from t
module _ (s t : State) (v : Events) (k : KeepsAll s t v) where
  pub all_events : (u : Events) → events_soundb u.events ≡ true → KeepsAll s t u
  all_events u e = record { sound = events_sound t v u k.sound e; account = k.account }

  pub all_link : (l : Link) → KeepsAll s (with_link t l) v
  all_link l = record { sound = link_sound t v l k.sound; account = k.account }

  pub all_wake : (wake : ℕ) → KeepsAll s (with_wake t wake) v
  all_wake wake = record { sound = wake_sound t v wake k.sound; account = k.account }

  pub all_ended : KeepsAll s (ended_state t) v
  all_ended = record { sound = ended_sound t v k.sound; account = k.account }

  pub all_awaited : (a : Awaited) → t.powered ≡ true → (not (chain_readingb a.next) || (leb 1 a.endpoint && leb a.endpoint 7)) ≡ true → KeepsAll s (with_awaited t a) v
  all_awaited a on chain = record { sound = awaited_sound t v a k.sound (rw (on, or-true (not (awaitingb a.next)))) chain; account = k.account }

  -- an address that waits is 127 at most, a sequence number 31
  pub all_control : (c : Control) → address_fits c.address ≡ true → leb c.sequence 31 ≡ true → KeepsAll s (with_control t c) v
  all_control c ha hq = record { sound = control_sound t v c k.sound ha hq; account = k.account }

  pub all_stage : (last : Bool) (address : Option ℕ) → address_fits address ≡ true → KeepsAll s (with_stage t last address) v
  all_stage last address ha = all_control _ ha (own_facts t v k.sound).sequence

  -- endpoint 0's slots have no account, and nothing but their configuration is tested
  pub all_ep0 : (i : ℕ) (y : Slot) → ltb i 2 ≡ true → y.config ≡ (slot_at t i).config → KeepsAll s (with_slot t i y) v
  all_ep0 i y h e =
      record {
        sound = slots_sound t v _ k.sound (ep0_stored t t.powered i y h e (slot_sound t v k.sound));
        account = λ j l b. rw (ep0_apart t.endpoints i y h j l) (k.account j l b);
      }

  pub all_complete : (i : ℕ) → ltb i 2 ≡ true → KeepsAll s (complete t i) v
  all_complete i h = go (busyb (slot_at t i).phase)
    where
      go : (b : Bool) → KeepsAll s (complete_at b t i) v
      go true = let n = all_ep0 i (done_slot (slot_at t i)) h refl in record { sound = wake_sound _ v _ n.sound; account = n.account }
      go false = k

  -- the control transfer's end leaves the data slots
  pub all_control_reset : KeepsAll s (control_reset t) v
  all_control_reset =
      let o = own_facts t v k.sound in
      record {
        sound = wake_sound _ v _ (control_sound _ v _ (slots_sound t v _ k.sound slots) refl o.sequence);
        account = λ i l b. rw (control_reset_apart t i l) (k.account i l b);
      }
    where
      slots : (i : ℕ) → i < 16 → slotb t.powered i (slot_at (control_reset t) i) ≡ true
      slots i b = go (ltb i 2) refl
        where
          go : (c : Bool) → ltb i 2 ≡ c → slotb t.powered i (slot_at (control_reset t) i) ≡ true
          go true e =
              changed_at (λ (y : Slot). slotb t.powered i y ≡ true) ep0_slot 2 t.endpoints i fresh_slot (ltb-true _ _ e)
              (ep0_slot_lem t.powered i (ep0_slot i (slot_at t i)) e ∙ (sym (ep0_slot_lem t.powered i (slot_at t i) e) ∙ slot_sound t v k.sound i b))
              (λ q. fresh_slot_sound t.powered i)
          go false e = rw (control_reset_apart t i (ltb-false _ _ e)) (slot_sound t v k.sound i b)

  pub all_bus_reset : KeepsAll s (bus_reset_state t) v
  all_bus_reset =
      record {
        sound = bus_reset_keeps_sound t v k.sound;
        account = λ i l b. difference_then (slot_at s i) (slot_at t i) (slot_at (bus_reset_state t) i) (k.account i l b)
            (keeps_difference (slot_at t i) (slot_at (bus_reset_state t) i) (bus_reset_keeps_account t i l b));
      }

-- What a call keeps: a sound state stays sound, and no data slot's difference is altered, whatever the state is.
pub record KeepsWorld {A : Type 0} (s : State) (v : Events) (o : Outcome A) : Type 0 where
  pub sound : soundb s v ≡ true → soundb o.state o.events ≡ true
  pub account : (i : ℕ) → 2 ≤ i → i < 16 → SameDifference (slot_at s i) (slot_at o.state i)

-- a call that refuses an unsound state, by what it does where it is accepted
pub call_keeps : {A : Type 0} (refused : Refusal → A) (conditions : List Condition) (s : State) (v : Events) (o : Outcome A) → (NoneDue conditions → soundb s v ≡ true)
    → (soundb s v ≡ true → NoneDue conditions → KeepsAll s o.state o.events) → KeepsWorld s v (unless refused (first_refusal conditions) s v o)
call_keeps refused conditions s v o good made =
    record {
      sound = λ h. keeps (λ t u. soundb t u ≡ true) refused conditions s v o h (λ n. (made h n).sound);
      account = λ i l b. keeps (λ t u. SameDifference (slot_at s i) (slot_at t i)) refused conditions s v o (unmoved_difference (slot_at s i)) (λ n. (made (good n) n).account i l b);
    }
