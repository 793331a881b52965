-- A slot completed by itself is completed in the state.
-- Assumes nothing.
use Rattle.std.specs.Prelude.{◌≡◌, ℕ, Bool, true, false, cond, refl}
use Rattle.base.specs.EachLaws.{set_own}
use Rattle.state.specs.declared.State.{State}
use Rattle.state.specs.Fresh.{fresh_slot, slot_at}
use Rattle.state.specs.Setters.{with_slot, with_wake}
use Rattle.state_slots.specs.Slots.{busyb}
use Rattle.state_slots.specs.Waking.{add_slot}
use Rattle.state_slots.specs.Completing.{waiter_of, done_slot, complete_at, complete, complete_as}

-- where the slot is what it was, that is the slot completed
pub complete_stored : (s : State) (i : ℕ) → complete_as s i (slot_at s i) ≡ complete s i
complete_stored s i = go (busyb (slot_at s i).phase)
  where
    go : (b : Bool) → with_wake (with_slot s i (cond b (done_slot (slot_at s i)) (slot_at s i))) (cond b (add_slot s.wake (waiter_of i)) s.wake) ≡ complete_at b s i
    go true = refl
    go false = rw (set_own s.endpoints i fresh_slot)
