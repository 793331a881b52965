-- What holds of every call: a refused one changes nothing, and an accepted one had none of its conditions due.
-- Assumes nothing.
use Rattle.std.specs.Prelude.{ℕ, ◌≤◌, Bool, true, false, not, List, [], ◌≡◌, Option, Ok, Err}
use Rattle.std.proofs.Math.Path.{refl}
use Rattle.std.proofs.Common.{ltb-false}
use Rattle.std.proofs.lemmas.Bool.{not-false}
use Rattle.base.specs.EachLaws.{set_own}
use Rattle.ops.specs.Ops.{list_numbers}
use Rattle.state.specs.declared.Awaiting.{Awaiting}
use Rattle.state.specs.declared.State.{State}
use Rattle.state.specs.declared.Events.{Events}
use Rattle.state.specs.declared.Refusal.{Refusal}
use Rattle.state.specs.Awaiting.{awaitingb}
use Rattle.state.specs.Refusals.{Check, Condition, refuse_if, first_refusal, NoneDue}
use Rattle.state.specs.RefusalsLaws.{none_due, not_due}
use Rattle.state.specs.declared.Refusal.TheVariants.{NoDataEndpoint}
use Rattle.state.specs.declared.Slot.{Slot}
use Rattle.state.specs.Fresh.{fresh_slot, slot_at}
use Rattle.state.specs.Setters.{with_slot}
use Rattle.state_slots.specs.Slots.{slot_number, slot_place, slot_of, data_endpoint}
use Rattle.state_slots.specs.SlotsLaws.{data_place}
use Rattle.state_slots.specs.Waking.{no_wakes}
use Rattle.state_sound.specs.Sound.{soundb}
use Rattle.state_call.specs.Turn.{turn_of, admitted_of, admitted, reading_in}
use Rattle.state_call.specs.Outcome.{Outcome, or_else, refusal, unless}

-- by what the tests come to
pub or_fits : {B : Type 0} (c : Check) (f : Refusal → B) (b : B) → c ≡ Ok tt → or_else c f b ≡ b
unfolding or_else
or_fits c f b e = rw e

pub or_refused : {B : Type 0} (c : Check) (f : Refusal → B) (b : B) (r : Refusal) → c ≡ Err r → or_else c f b ≡ f r
unfolding or_else
or_refused c f b r e = rw e

-- what holds of either side holds of the choice
pub or_either : {B : Type 0} (P : B → Type 0) (c : Check) (f : Refusal → B) (b : B) → ((r : Refusal) → c ≡ Err r → P (f r)) → (c ≡ Ok tt → P b) → P (or_else c f b)
unfolding or_else
or_either P (Ok u) f b other made = made refl
or_either P (Err r) f b other made = other r refl

pub or_same : {B : Type 0} (c : Check) (b : B) → or_else c (λ r. b) b ≡ b
unfolding or_else
or_same (Ok u) b = refl
or_same (Err r) b = refl

-- a part of the choice is the choice of the parts
pub or_part : {B C : Type 0} (g : B → C) (c : Check) (f : Refusal → B) (b : B) → g (or_else c f b) ≡ or_else c (λ r. g (f r)) (g b)
unfolding or_else
or_part g (Ok u) f b = refl
or_part g (Err r) f b = refl

-- A refused call changes nothing.
pub refused_same : {A : Type 0} (refused : Refusal → A) (conditions : List Condition) (s : State) (v : Events) (o : Outcome A) (r : Refusal) → first_refusal conditions ≡ Err r
    → unless refused (first_refusal conditions) s v o ≡ refusal (refused r) s v
refused_same refused conditions s v o r e = or_refused (first_refusal conditions) _ o r e

-- An accepted call had none of its conditions due.
pub accepted : {A : Type 0} (refused : Refusal → A) (conditions : List Condition) (s : State) (v : Events) (o : Outcome A) → first_refusal conditions ≡ Ok tt
    → NoneDue conditions × (unless refused (first_refusal conditions) s v o ≡ o)
accepted refused conditions s v o e = (none_due conditions e, or_fits (first_refusal conditions) _ o e)

-- So what holds of a world, and of the one that an accepted call leaves, holds behind every call.
pub keeps : {A : Type 0} (P : State → Events → Type 0) (refused : Refusal → A) (conditions : List Condition) (s : State) (v : Events) (o : Outcome A) → P s v
    → (NoneDue conditions → P o.state o.events)
    → P (unless refused (first_refusal conditions) s v o).state (unless refused (first_refusal conditions) s v o).events
keeps {A} P refused conditions s v o before made =
    or_either {B = Outcome A} (λ u. P u.state u.events) (first_refusal conditions) (λ r. refusal (refused r) s v) o (λ r e. before) (λ e. made (none_due conditions e))

-- what the shared conditions say of a call that passed them
pub passed_turn : (good : Bool) (next : Option Awaiting) (own : List Condition) → NoneDue (turn_of good next own) → (good ≡ true) × ((awaitingb next ≡ false) × NoneDue own)
passed_turn good next own n =
    let n1 = not_due n in
    let n2 = not_due n1.1 in
    (not-false good n1.0, (n2.0, n2.1))

pub passed : (room : ℕ) (good : Bool) (next : Option Awaiting) (own : List Condition) → NoneDue (admitted_of room good next own)
    → (list_numbers ≤ room) × ((good ≡ true) × ((awaitingb next ≡ false) × NoneDue own))
passed room good next own n =
    let n1 = not_due n in
    (ltb-false _ _ n1.0, passed_turn good next own n1.1)

pub passed_reading : (room : ℕ) (s : State) (v : Events) (matches : Bool) (own : List Condition) → NoneDue (reading_in room s v matches own)
    → (list_numbers ≤ room) × ((soundb s v ≡ true) × ((matches ≡ true) × NoneDue own))
passed_reading room s v matches own n =
    let n1 = not_due n in
    let n2 = not_due n1.1 in
    let n3 = not_due n2.1 in
    (ltb-false _ _ n1.0, (not-false _ n2.0, (not-false matches n3.0, n3.1)))

-- a call that fits was lent enough
pub lent_room : (room : ℕ) (good : Bool) (next : Option Awaiting) (own : List Condition) → first_refusal (admitted_of room good next own) ≡ Ok tt → list_numbers ≤ room
lent_room room good next own e = (passed room good next own (none_due (admitted_of room good next own) e)).0

pub admitted_room : (room : ℕ) (s : State) (v : Events) (own : List Condition) → first_refusal (admitted room s v own) ≡ Ok tt → list_numbers ≤ room
admitted_room room s v own e = lent_room room (soundb s v) s.awaited.next own e

-- the parts of a call
module _ {A : Type 0} (refused : Refusal → A) (c : Check) (s : State) (v : Events) (o : Outcome A) where
  pub call_answer : (unless refused c s v o).answer ≡ or_else c refused o.answer
  call_answer = or_part {B = Outcome A} (λ u. u.answer) c (λ r. refusal (refused r) s v) o

  pub call_state : (unless refused c s v o).state ≡ or_else c (λ r. s) o.state
  call_state = or_part {B = Outcome A} (λ u. u.state) c (λ r. refusal (refused r) s v) o

  pub call_ops : (unless refused c s v o).ops ≡ or_else c (λ r. []) o.ops
  call_ops = or_part {B = Outcome A} (λ u. u.ops) c (λ r. refusal (refused r) s v) o

  pub call_wakes : (unless refused c s v o).wakes ≡ or_else c (λ r. no_wakes) o.wakes
  call_wakes = or_part {B = Outcome A} (λ u. u.wakes) c (λ r. refusal (refused r) s v) o

  pub call_copied : (unless refused c s v o).copied ≡ or_else c (λ r. []) o.copied
  call_copied = or_part {B = Outcome A} (λ u. u.copied) c (λ r. refusal (refused r) s v) o

  -- of one that is refused, and of one that isn't
  pub parts_refused : (r : Refusal) → c ≡ Err r
      → (refused r ≡ (unless refused c s v o).answer) × ((s ≡ (unless refused c s v o).state) × (([] ≡ (unless refused c s v o).ops) × (no_wakes ≡ (unless refused c s v o).wakes)))
  unfolding or_else
  parts_refused r e = rw e (refl, (refl, (refl, refl)))

  pub parts_made : c ≡ Ok tt
      → (o.answer ≡ (unless refused c s v o).answer) × ((o.state ≡ (unless refused c s v o).state) × ((o.ops ≡ (unless refused c s v o).ops) × (o.wakes ≡ (unless refused c s v o).wakes)))
  unfolding or_else
  parts_made e = rw e (refl, (refl, (refl, refl)))

  pub copied_refused : (r : Refusal) → c ≡ Err r → [] ≡ (unless refused c s v o).copied
  unfolding or_else
  copied_refused r e = rw e

  pub copied_made : c ≡ Ok tt → o.copied ≡ (unless refused c s v o).copied
  unfolding or_else
  copied_made e = rw e

-- A call on one endpoint looks at what stands in its place. One without a slot there is refused by 7, or what stands
-- there is left as it was.
module _ (s : State) (e : ℕ) (incoming : Bool) where
  pub reached : (further : Slot → Check) → refuse_if (not (data_endpoint e)) NoDataEndpoint (further (slot_at s (slot_place e incoming))) ≡ refuse_if (not (data_endpoint e)) NoDataEndpoint (further (slot_of s e incoming))
  reached further = go (data_endpoint e) refl
    where
      go : (b : Bool) → data_endpoint e ≡ b
          → refuse_if (not b) NoDataEndpoint (further (slot_at s (slot_place e incoming))) ≡ refuse_if (not b) NoDataEndpoint (further (slot_of s e incoming))
      go true d = rw (data_place e incoming d)
      go false d = refl

  pub stored : (c : Check) (f : Slot → Slot) → (c ≡ Ok tt → data_endpoint e ≡ true)
      → with_slot s (slot_place e incoming) (or_else c (λ r. slot_at s (slot_place e incoming)) (f (slot_at s (slot_place e incoming)))) ≡ or_else c (λ r. s) (with_slot s (slot_number e incoming) (f (slot_of s e incoming)))
  unfolding or_else
  stored (Ok u) f d = rw (data_place e incoming (d refl))
  stored (Err r) f d = rw (set_own s.endpoints (slot_place e incoming) fresh_slot)

  pub told : {B : Type 0} (c : Check) (refused : Refusal → B) (f : Slot → B) → (c ≡ Ok tt → data_endpoint e ≡ true)
      → or_else c refused (f (slot_at s (slot_place e incoming))) ≡ or_else c refused (f (slot_of s e incoming))
  unfolding or_else
  told (Ok u) refused f d = rw (data_place e incoming (d refl))
  told (Err r) refused f d = refl
