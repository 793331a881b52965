-- How an interrupt's call ends, part by part, in both cases and whatever is awaited. `settled` has the case that fits.
-- Assumes nothing.
use Rattle.std.specs.Prelude.{Bool, true, false, cond, List, ◌≡◌, refl, None, Ok}
use Rattle.ops.specs.Ops.{Op}
use Rattle.state.specs.declared.Awaited.{Awaited}
use Rattle.state.specs.declared.State.{State}
use Rattle.state.specs.declared.Events.{Events}
use Rattle.state.specs.Fresh.{nothing_awaited}
use Rattle.state.specs.Setters.{with_wake, with_awaited}
use Rattle.state_slots.specs.Completing.{collected}
use Rattle.state_slots.specs.Waking.{no_wakes}
use Rattle.interrupt_asks.specs.Settled.{settled_at}

pub parts : (b : Bool) (s : State) (v : Events) (a : Awaited) (ops : List Op)
    → (cond b (Ok a.next) (Ok None) ≡ (settled_at b s v a ops).answer)
    × ((with_awaited (with_wake s (cond b s.wake 0)) (cond b a nothing_awaited) ≡ (settled_at b s v a ops).state)
    × ((v ≡ (settled_at b s v a ops).events)
    × ((ops ≡ (settled_at b s v a ops).ops) × (cond b no_wakes (collected v s.wake) ≡ (settled_at b s v a ops).wakes))))
parts true s v a ops = (refl, (refl, (refl, (refl, refl))))
parts false s v a ops = (refl, (refl, (refl, (refl, refl))))
