-- What a call comes to, refused or not. Every call is one function to an `Outcome`, built by `unless`; its arguments are
-- the list's room, state, events and then its own.
-- Assumes nothing.
use Rattle.std.specs.Prelude.{ℕ, List, [], ◌++◌, length, drop, Ok, Err}
use Rattle.ops.specs.Ops.{Op}
use Rattle.state.specs.declared.State.{State}
use Rattle.state.specs.declared.Events.{Events}
use Rattle.state.specs.declared.Wakes.{Wakes}
use Rattle.state.specs.declared.Refusal.{Refusal}
use Rattle.state.specs.Refusals.{Check}
use Rattle.state_slots.specs.Waking.{no_wakes}

-- A is the call's own kind of answer; `copied` are the bytes that it stores in what it is lent for bytes: at the start, or,
-- of a receive, from where the caller stands
pub record Outcome (A : Type 0) : Type 0 where
  pub answer : A
  pub state : State
  pub events : Events
  pub ops : List Op
  pub wakes : Wakes
  pub copied : List ℕ

-- one of two, by what tests come to
unfoldable pub or_else : {B : Type 0} → Check → (Refusal → B) → B → B
or_else (Ok u) refused made = made
or_else (Err r) refused made = refused r

-- a refused call answers with its refusal, changes nothing, makes no operation, wakes nobody and copies nothing
abbrev pub refusal : {A : Type 0} → A → State → Events → Outcome A
refusal a s v = record { answer = a; state = s; events = v; ops = []; wakes = no_wakes; copied = [] }

-- a call by what its tests come to; `refused` makes an answer of a refusal
abbrev pub unless : {A : Type 0} → (Refusal → A) → Check → State → Events → Outcome A → Outcome A
unless refused check s v made = or_else check (λ r. refusal (refused r) s v) made

-- lent bytes after so many were stored at their start
abbrev pub front : List ℕ → List ℕ → List ℕ
front bytes l = bytes ++ drop (length bytes) l
