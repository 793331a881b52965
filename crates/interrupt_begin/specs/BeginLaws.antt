-- An interrupt begun, by its ways out.
-- Assumes nothing.
use Rattle.std.specs.Prelude.{ℕ, Bool, true, false, cond, [], ◌∷◌, ◌≡◌, refl, Ok, Err, Option, Some, None, Result}
use Rattle.std.proofs.Common.{◌∙◌}
use Rattle.state.specs.declared.Awaiting.{Awaiting}
use Rattle.state.specs.declared.Awaiting.TheVariants as awaiting
use Rattle.state.specs.declared.State.{State}
use Rattle.state.specs.declared.Events.{Events}
use Rattle.state.specs.declared.Refusal.{Refusal}
use Rattle.state.specs.Awaiting.{awaiting_number, awaitingb}
use Rattle.state.specs.Fresh.{nothing_awaited}
use Rattle.state.specs.Numbers.{refusal_number}
use Rattle.state.specs.Refusals.{first_refusal, Bound}
use Rattle.state.specs.RefusalsLaws.{bound}
use Rattle.state.specs.Setters.{with_wake, with_awaited}
use Rattle.state_slots.specs.Completing.{collected}
use Rattle.state_slots.specs.Waking.{no_wakes}
use Rattle.state_call.specs.Outcome.{Outcome, or_else, refusal}
use Rattle.state_call.specs.OutcomeLaws.{or_part}
use Rattle.interrupt_asks.specs.Settled.{interrupt_numbers}
use Rattle.interrupt_asks.specs.SettledLaws.{settled_parts, settled_numbers}
use Rattle.interrupt_begin.specs.Begin.{first_awaited, interrupt_conditions, interrupt_call, interrupt_says}

-- Each refusal is given exactly where it is the first that is due, and none where none is.
pub interrupt_bound : (room : ℕ) (s : State) (v : Events) → Bound (interrupt_conditions room s v) (first_refusal (interrupt_conditions room s v))
interrupt_bound room s v = bound (interrupt_conditions room s v)

module _ (room : ℕ) (s : State) (v : Events) where
  pub interrupt_refused : (q : Refusal) → first_refusal (interrupt_conditions room s v) ≡ Err q
      → (Err q ≡ (interrupt_call room s v).answer)
      × ((s ≡ (interrupt_call room s v).state) × ((v ≡ (interrupt_call room s v).events) × (([] ≡ (interrupt_call room s v).ops) × (no_wakes ≡ (interrupt_call room s v).wakes))))
  unfolding interrupt_call or_else
  interrupt_refused q e = rw e (refl, (refl, (refl, (refl, refl))))

  -- the first reading is awaited, or handling has ended
  pub interrupt_made : first_refusal (interrupt_conditions room s v) ≡ Ok tt
      → let a = first_awaited s.powered in
      (Ok a.next ≡ (interrupt_call room s v).answer)
      × ((with_awaited (with_wake s (cond (awaitingb a.next) s.wake 0)) (cond (awaitingb a.next) a nothing_awaited) ≡ (interrupt_call room s v).state)
      × ((v ≡ (interrupt_call room s v).events)
      × (([] ≡ (interrupt_call room s v).ops) × (cond (awaitingb a.next) no_wakes (collected v s.wake) ≡ (interrupt_call room s v).wakes))))
  unfolding interrupt_call or_else
  interrupt_made e = rw e (settled_parts s v (first_awaited s.powered) [])

-- with power a reading is awaited, the link's flags, without none
pub first_awaiting : (powered : Bool) → awaitingb (first_awaited powered).next ≡ powered
first_awaiting true = refl
first_awaiting false = refl

pub first_said : (powered : Bool) → (first_awaited powered).next ≡ cond powered (Some awaiting.LinkFlags) None
first_said true = refl
first_said false = refl

-- The numbers of an answer are the paper's.
pub interrupt_says_lem : (room : ℕ) (s : State) (v : Events) → interrupt_numbers (interrupt_call room s v).answer ≡ interrupt_says room s v
unfolding interrupt_call
interrupt_says_lem room s v =
    or_part (λ (o : Outcome (Result (Option Awaiting) Refusal)). interrupt_numbers o.answer) (first_refusal (interrupt_conditions room s v)) (λ r. refusal (Err r) s v) _
    ∙ rw (settled_numbers s v (first_awaited s.powered) []) (first_number s.powered)
  where
    first_number : (powered : Bool) → or_else (first_refusal (interrupt_conditions room s v)) (λ r. refusal_number r ∷ []) (0 ∷ awaiting_number (first_awaited powered).next ∷ [])
        ≡ or_else (first_refusal (interrupt_conditions room s v)) (λ r. refusal_number r ∷ []) (0 ∷ cond powered 1 0 ∷ [])
    first_number true = refl
    first_number false = refl
