-- The effect of a call by what its tests come to: a refused one leaves the slot and records no chain.
-- Assumes nothing.
use Rattle.std.specs.Prelude.{ℕ, Bool, false, List, [], ◌≡◌, refl, Err, Result}
use Rattle.state.specs.declared.Slot.{Slot}
use Rattle.state.specs.declared.State.{State}
use Rattle.state.specs.declared.Events.{Events}
use Rattle.state.specs.declared.Refusal.{Refusal}
use Rattle.state.specs.Refusals.{Condition, first_refusal}
use Rattle.state.specs.Setters.{limit_of}
use Rattle.state_slots.specs.Slots.{slot_of}
use Rattle.state_call.specs.Outcome.{Outcome, refusal, unless}
use Rattle.state_call.specs.OutcomeLaws.{or_either, keeps}
use Rattle.state_laws.specs.SlotLaws.{Cut}
use Rattle.history_ops.specs.Recorded.{Recorded, none, recorded, Silent}
use Rattle.history_ops.proofs.RecordedLaws.{silent_none}
use Rattle.history_rows.specs.Memory.{accepted}
use Rattle.history_effect.specs.Seen.{Seen, Cuts, Nothing}
use Rattle.history_effect.specs.Effect.{EffectAs}

-- ---- two of the effects by their parts

module _ (limit : ℕ) (incoming : Bool) (x y : Slot) (chains : Recorded) where
  pub passing : chains ≡ none → y ≡ x → EffectAs limit incoming x y chains Nothing
  unfolding EffectAs
  passing h k = record { silent = h; same = k }

  pub cutting : chains ≡ none → Cut x y → EffectAs limit incoming x y chains Cuts
  unfolding EffectAs
  cutting h k = record { silent = h; cut = k }

-- ---- a call

module _ (s : State) (v : Events) (e : ℕ) (incoming : Bool) where
  -- one that is seen as `told b`, where b is whether it is accepted
  abbrev pub Does : {A : Type 0} → (Bool → Seen) → Outcome (Result A Refusal) → Type 0
  Does told o =
      EffectAs (limit_of s) incoming (slot_of s e incoming) (slot_of o.state e incoming) (recorded incoming e o.ops) (told (accepted o.answer))

  refused : (told : Bool → Seen) → told false ≡ Nothing
      → EffectAs (limit_of s) incoming (slot_of s e incoming) (slot_of s e incoming) (recorded incoming e []) (told false)
  refused told h = rw h (passing (limit_of s) incoming (slot_of s e incoming) (slot_of s e incoming) (recorded incoming e []) (silent_none incoming e) refl)

  -- refused it is seen as nothing
  pub unless_does : {A : Type 0} (told : Bool → Seen) → told false ≡ Nothing → (conditions : List Condition) (o : Outcome (Result A Refusal))
      → Does told o → Does told (unless Err (first_refusal conditions) s v o)
  unless_does {A} told h conditions o made =
      or_either {B = Outcome (Result A Refusal)} (Does told) (first_refusal conditions) (λ r. refusal (Err r) s v) o (λ r q. refused told h) (λ q. made)

  -- one that records no chain, and leaves the slot where it is accepted
  pub unless_passes : {A : Type 0} (conditions : List Condition) (o : Outcome (Result A Refusal)) → Silent (unless Err (first_refusal conditions) s v o).ops
      → slot_of o.state e incoming ≡ slot_of s e incoming → Does (λ b. Nothing) (unless Err (first_refusal conditions) s v o)
  unless_passes conditions o silent same =
      passing (limit_of s) incoming (slot_of s e incoming) _ _ (silent incoming e)
      (keeps (λ t u. slot_of t e incoming ≡ slot_of s e incoming) Err conditions s v o refl (λ n. same))
