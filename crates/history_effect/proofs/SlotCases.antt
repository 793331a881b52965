-- A call on one slot: what it does there by what its tests come to, and that it does nothing to another.
-- Assumes nothing.
use Rattle.std.specs.Prelude.{ℕ, Bool, true, false, List, ◌≡◌, refl, eqb, Ok, Err, Result}
use Rattle.std.proofs.Common.{sym, subst, ◌∙◌, eqb-true}
use Rattle.std.proofs.lemmas.Bool.{eq-eqb}
use Rattle.base.specs.EachLaws.{and_left, and_right, true_not_false}
use Rattle.ops.specs.Ops.{Op}
use Rattle.state.specs.declared.State.{State}
use Rattle.state.specs.declared.Events.{Events}
use Rattle.state.specs.declared.Slot.{Slot}
use Rattle.state.specs.declared.Refusal.{Refusal}
use Rattle.state.specs.Refusals.{Check}
use Rattle.state.specs.Setters.{with_slot, limit_of}
use Rattle.state_slots.specs.Slots.{data_endpoint, slot_number, slot_of}
use Rattle.state_call.specs.Outcome.{Outcome, or_else, unless}
use Rattle.state_laws.specs.SlotLaws.{slots_apart, stored_there}
use Rattle.history_ops.specs.Recorded.{recorded, same_way, same_slot}
use Rattle.history_ops.proofs.RecordedLaws.{silent_none}
use Rattle.history_rows.specs.Memory.{accepted}
use Rattle.history_effect.specs.Seen.{Seen, only, own}
use Rattle.history_effect.specs.Effect.{Passing, EffectAs}

-- ---- one slot and another

same_is : (a b : Bool) → same_way a b ≡ true → a ≡ b
same_is true true h = refl
same_is true false h = absurd (true_not_false (sym h))
same_is false true h = absurd (true_not_false (sym h))
same_is false false h = refl

same_self : (a : Bool) → same_way a a ≡ true
same_self true = refl
same_self false = refl

pub this_slot : (i : ℕ) (way : Bool) (e : ℕ) (incoming : Bool) → same_slot i way e incoming ≡ true → (i ≡ e) × (way ≡ incoming)
this_slot i way e incoming h =
    (eqb-true i e (and_left (eqb i e) (same_way way incoming) h), same_is way incoming (and_right (eqb i e) (same_way way incoming) h))

other_slot : (i : ℕ) (way : Bool) (e : ℕ) (incoming : Bool) → same_slot i way e incoming ≡ false → slot_number e incoming ≡ slot_number i way → ⊥
other_slot i way e incoming h q =
    let a = slots_apart e i incoming way q in
    true_not_false (sym (rw (a.0, a.1, eq-eqb i i refl, same_self way)) ∙ h)

-- what is stored in one isn't seen in another
pub stored_other : (s : State) (i : ℕ) (way : Bool) (y : Slot) (e : ℕ) (incoming : Bool) → same_slot i way e incoming ≡ false
    → slot_of (with_slot s (slot_number i way) y) e incoming ≡ slot_of s e incoming
stored_other s i way y e incoming h = stored_there s (slot_number i way) (slot_number e incoming) y (other_slot i way e incoming h)

-- ---- a call on the direction `way` of endpoint i

-- from the state s to t, as one direction of an endpoint sees it
abbrev pub At : State → State → List Op → Seen → ℕ → Bool → Type 0
At s t ops k e incoming = EffectAs (limit_of s) incoming (slot_of s e incoming) (slot_of t e incoming) (recorded incoming e ops) k

-- it passes others by
abbrev pub Others : State → State → List Op → ℕ → Bool → Type 0
Others s t ops i way =
    (e : ℕ) (incoming : Bool) → same_slot i way e incoming ≡ false → Passing (slot_of s e incoming) (slot_of t e incoming) (recorded incoming e ops)

module _ (s t : State) (ops : List Op) (i : ℕ) (way : Bool) (k : Seen) where
  pub on_slot : (data_endpoint i ≡ true → At s t ops k i way) → Others s t ops i way → (e : ℕ) (incoming : Bool) → data_endpoint e ≡ true
      → At s t ops (own e incoming i way k) e incoming
  unfolding EffectAs
  on_slot here others e incoming d = go (same_slot i way e incoming) refl
    where
      go : (b : Bool) → same_slot i way e incoming ≡ b → At s t ops (only b k) e incoming
      go true q =
          let a = this_slot i way e incoming q in
          subst (At s t ops k e) a.1 (subst (λ j. At s t ops k j way) a.0 (here (rw (a.0) d)))
      go false q = others e incoming q

-- a refused call does nothing
module _ {A : Type 0} (c : Check) (s : State) (v : Events) (o : Outcome (Result A Refusal)) where
  pub by_check : (k : Seen) (i : ℕ) (way : Bool) → (c ≡ Ok tt → At s o.state o.ops (only (accepted o.answer) k) i way)
      → At s (unless Err c s v o).state (unless Err c s v o).ops (only (accepted (unless Err c s v o).answer) k) i way
  unfolding EffectAs or_else
  by_check k i way made = go c made
    where
      go : (d : Check) → (d ≡ Ok tt → At s o.state o.ops (only (accepted o.answer) k) i way)
          → At s (unless Err d s v o).state (unless Err d s v o).ops (only (accepted (unless Err d s v o).answer) k) i way
      go (Ok u) f = f refl
      go (Err r) f = record { silent = silent_none way i; same = refl }

  pub others_by_check : (i : ℕ) (way : Bool) → Others s o.state o.ops i way → Others s (unless Err c s v o).state (unless Err c s v o).ops i way
  unfolding or_else
  others_by_check i way made = go c
    where
      go : (d : Check) → Others s (unless Err d s v o).state (unless Err d s v o).ops i way
      go (Ok u) e incoming h = made e incoming h
      go (Err r) e incoming h = record { silent = silent_none incoming e; same = refl }

  -- both
  pub call_effect : (k : Seen) (i : ℕ) (way : Bool) → (c ≡ Ok tt → data_endpoint i ≡ true → At s o.state o.ops (only (accepted o.answer) k) i way)
      → Others s o.state o.ops i way → (e : ℕ) (incoming : Bool) → data_endpoint e ≡ true
      → At s (unless Err c s v o).state (unless Err c s v o).ops (own e incoming i way (only (accepted (unless Err c s v o).answer) k)) e incoming
  call_effect k i way made others =
      on_slot s (unless Err c s v o).state (unless Err c s v o).ops i way (only (accepted (unless Err c s v o).answer) k) (λ d. by_check k i way (λ q. made q d))
      (others_by_check i way others)
