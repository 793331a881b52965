-- A take that was asked by what stands in its endpoint's place.
-- Assumes nothing.
use Rattle.std.specs.Prelude.{ℕ, Bool, ◌≡◌, Err, Option, Result}
use Rattle.std.proofs.Math.Bool.{true, false, not}
use Rattle.std.proofs.Math.Path.{refl}
use Rattle.state.specs.declared.Slot.{Slot}
use Rattle.state.specs.declared.State.{State}
use Rattle.state.specs.declared.Events.{Events}
use Rattle.state.specs.declared.Refusal.{Refusal}
use Rattle.state.specs.declared.Refusal.TheVariants.{Unsound, OutOfTurn, NoDataEndpoint}
use Rattle.state.specs.Fresh.{slot_at}
use Rattle.state.specs.Awaiting.{awaitingb}
use Rattle.state_slots.specs.Slots.{slot_place, slot_of, data_endpoint}
use Rattle.state_slots.specs.SlotsLaws.{data_place}
use Rattle.state_sound.specs.Sound.{soundb}
use Rattle.state_call.specs.Outcome.{Outcome, or_else}
use Rattle.transfer_take.specs.Take.{take_call}

module _ (s : State) (v : Events) (e : ℕ) (incoming : Bool) (unfit : Slot → Bool) (most : Slot → ℕ) where
  abbrev pub take_by : Slot → Outcome (Result (Option ℕ) Refusal)
  take_by x = take_call s v e incoming (unfit x) (most x)

  -- what a caller makes of the answer by f, and the rest, is the same for two slots
  abbrev Same : {B : Type 0} → (Slot → Result (Option ℕ) Refusal → B) → Slot → Slot → Type 0
  Same f x y = (f x (take_by x).answer ≡ f y (take_by y).answer) × (((take_by x).state ≡ (take_by y).state) × ((take_by x).wakes ≡ (take_by y).wakes))

  -- An endpoint without a slot is refused, whatever stands in its place; another's place is its slot.
  pub take_place : {B : Type 0} (f : Slot → (Result (Option ℕ) Refusal) → B) → ((x y : Slot) (r : Refusal) → f x (Err r) ≡ f y (Err r))
      → Same f (slot_at s (slot_place e incoming)) (slot_of s e incoming)
  unfolding take_call or_else
  take_place {B} f agree = go (data_endpoint e) refl
    where
      refused : (a b : Bool) → not (soundb s v) ≡ a → awaitingb s.awaited.next ≡ b → data_endpoint e ≡ false → Same f (slot_at s (slot_place e incoming)) (slot_of s e incoming)
      refused true b p q d = rw p (agree _ _ Unsound, (refl, refl))
      refused false true p q d = rw (p, q) (agree _ _ OutOfTurn, (refl, refl))
      refused false false p q d = rw (p, q, d) (agree _ _ NoDataEndpoint, (refl, refl))

      go : (d : Bool) → data_endpoint e ≡ d → Same f (slot_at s (slot_place e incoming)) (slot_of s e incoming)
      go true d = rw (data_place e incoming d) (refl, (refl, refl))
      go false d = refused (not (soundb s v)) (awaitingb s.awaited.next) refl refl d
