-- How an interrupt's call ends, part by part.
-- Assumes nothing.
use Rattle.std.specs.Prelude.{Bool, true, false, cond, List, [], ◌∷◌, ◌≡◌, refl, Option, Some, None, Ok}
use Rattle.ops.specs.Ops.{Op}
use Rattle.state.specs.declared.Awaiting.{Awaiting}
use Rattle.state.specs.declared.Awaiting.TheVariants as awaiting
use Rattle.state.specs.declared.Awaited.{Awaited}
use Rattle.state.specs.declared.State.{State}
use Rattle.state.specs.declared.Events.{Events}
use Rattle.state.specs.Awaiting.{awaiting_number, awaitingb}
use Rattle.state.specs.Fresh.{nothing_awaited}
use Rattle.state.specs.Setters.{with_wake, with_awaited}
use Rattle.state_slots.specs.Completing.{collected}
use Rattle.state_slots.specs.Waking.{no_wakes}
use Rattle.interrupt_asks.specs.Settled.{settled_at, settled, interrupt_numbers}

pub none_awaited : (next : Option Awaiting) → awaitingb next ≡ false → next ≡ None
none_awaited None e = refl
none_awaited (Some awaiting.LinkFlags) e = cc
none_awaited (Some awaiting.LinkStatus) e = cc
none_awaited (Some awaiting.PortCapability) e = cc
none_awaited (Some awaiting.TermPresStatus) e = cc
none_awaited (Some awaiting.MessageWord) e = cc
none_awaited (Some awaiting.WarmResetStatus) e = cc
none_awaited (Some awaiting.TransferStatus) e = cc
none_awaited (Some awaiting.SetupBytes) e = cc
none_awaited (Some awaiting.Ep0Length) e = cc
none_awaited (Some awaiting.Ep0Sequence) e = cc
none_awaited (Some awaiting.ChainPackets) e = cc
none_awaited (Some awaiting.LastLength) e = cc

parts : (b : Bool) (s : State) (v : Events) (a : Awaited) (ops : List Op) → awaitingb a.next ≡ b
    → (Ok a.next ≡ (settled_at b s v a ops).answer)
    × ((with_awaited (with_wake s (cond b s.wake 0)) (cond b a nothing_awaited) ≡ (settled_at b s v a ops).state)
    × ((v ≡ (settled_at b s v a ops).events)
    × ((ops ≡ (settled_at b s v a ops).ops) × (cond b no_wakes (collected v s.wake) ≡ (settled_at b s v a ops).wakes))))
parts true s v a ops e = (refl, (refl, (refl, (refl, refl))))
parts false s v a ops e = (rw (none_awaited a.next e), (refl, (refl, (refl, refl))))

pub settled_parts : (s : State) (v : Events) (a : Awaited) (ops : List Op)
    → (Ok a.next ≡ (settled s v a ops).answer)
    × ((with_awaited (with_wake s (cond (awaitingb a.next) s.wake 0)) (cond (awaitingb a.next) a nothing_awaited) ≡ (settled s v a ops).state)
    × ((v ≡ (settled s v a ops).events)
    × ((ops ≡ (settled s v a ops).ops) × (cond (awaitingb a.next) no_wakes (collected v s.wake) ≡ (settled s v a ops).wakes))))
unfolding settled
settled_parts s v a ops = parts (awaitingb a.next) s v a ops refl

-- what is written is what was handed in
pub settled_ops : (s : State) (v : Events) (a : Awaited) (ops : List Op) → ops ≡ (settled s v a ops).ops
settled_ops s v a ops = (settled_parts s v a ops).1.1.1.0

-- the numbers of the answer: 0, and the place of what is awaited
pub settled_numbers : (s : State) (v : Events) (a : Awaited) (ops : List Op) → interrupt_numbers (settled s v a ops).answer ≡ 0 ∷ awaiting_number a.next ∷ []
settled_numbers s v a ops = rw (← (settled_parts s v a ops).0)
