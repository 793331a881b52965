-- What a function of the face says, leaves and writes, as a call's outcome has it: one form for each type of result. Raise and
-- poll are lent the events, which a clause beside the form has; where a function neither is lent them nor gives them back, the
-- outcome's are those of before (`events_stay`).
-- Assumes nothing.
use Rattle.std.specs.Prelude.{ℕ, ◌≡◌, List, Option, Result}
use Rattle.ops.specs.Wrote.{Wrote}
use Rattle.state.specs.declared.Refusal.{Refusal}
use Rattle.state.specs.declared.Awaiting.{Awaiting}
use Rattle.state_call.specs.declared.Listed.{Listed}
use Rattle.state_call.specs.declared.Answered.{Answered}
use Rattle.state_call.specs.declared.Said.{Said}
use Rattle.state_call.specs.Outcome.{Outcome}
use Rattle.driver_start.specs.declared.StartResult.{StartResult}
use Rattle.interrupt_asks.specs.declared.InterruptResult.{InterruptResult}

-- a call that leaves the state alone
pub record Says {A : Type 0} (o : Outcome (Result A Refusal)) (r : Said A) : Type 0 where
  pub answer : r.answer ≡ o.answer
  pub wakes : r.wakes ≡ o.wakes

-- a call without a list
pub record Leaves {A : Type 0} (o : Outcome (Result A Refusal)) (r : Answered A) : Type 0 where
  pub answer : r.answer ≡ o.answer
  pub state : r.state ≡ o.state
  pub wakes : r.wakes ≡ o.wakes

-- a call that is lent the numbers l, which are l' then
pub record Writes {A : Type 0} (o : Outcome (Result A Refusal)) (l : List ℕ) (r : Listed A) (l' : List ℕ) : Type 0 where
  pub answer : r.answer ≡ o.answer
  pub state : r.state ≡ o.state
  pub list : Wrote l 0 o.ops r.end l'
  pub wakes : r.wakes ≡ o.wakes

-- a start
pub record Starts (o : Outcome (Result Unit Refusal)) (r : StartResult) : Type 0 where
  pub answer : r.answer ≡ o.answer
  pub state : r.state ≡ o.state
  pub events : r.events ≡ o.events
  pub wakes : r.wakes ≡ o.wakes

-- a call of an interrupt
pub record Interrupts (o : Outcome (Result (Option Awaiting) Refusal)) (l : List ℕ) (r : InterruptResult) (l' : List ℕ) : Type 0 where
  pub answer : r.answer ≡ o.answer
  pub state : r.state ≡ o.state
  pub events : r.events ≡ o.events
  pub list : Wrote l 0 o.ops r.end l'
  pub wakes : r.wakes ≡ o.wakes
