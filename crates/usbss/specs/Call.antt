-- The calls of the driver that stand on a state, with every argument, and what each answers. New and allocate, which have a
-- driver and no state, aren't among them.
-- Assumes nothing.
use Rattle.std.specs.Prelude.{ℕ, Bool, List, Option, Result}
use Rattle.state.specs.declared.State.{State}
use Rattle.state.specs.declared.Events.{Events}
use Rattle.state.specs.declared.Driver.{Driver}
use Rattle.state.specs.declared.EndpointAddress.{EndpointAddress}
use Rattle.state.specs.declared.Awaiting.{Awaiting}
use Rattle.state.specs.declared.Reading.{Reading}
use Rattle.state.specs.declared.Refusal.{Refusal}
use Rattle.state_events.specs.declared.Event.{Event}
use Rattle.transfer_piece.specs.declared.Piece.{Piece}
use Rattle.bus_endpoint.specs.declared.Order.{Order}
use Rattle.control_stage.specs.declared.Stage.{Stage}
use Rattle.control_setup.specs.declared.Fetched.{Fetched}
use Rattle.endpoint_choice.specs.declared.MoveRequest.{MoveRequest}
use Rattle.endpoint_answer.specs.declared.Move.{Move}

-- what a call is made on: the state, and the pending events beside it
pub record World : Type 0 where
  pub state : State
  pub events : Events

-- `room` is the length of the list that is lent; g the generation of a stage; e an endpoint's number
pub data Call : Type 0 where
  Start : (driver : Driver) (control_size : ℕ) → Call
  PowerOn : (room revision : ℕ) → Call
  PowerOff : (room : ℕ) → Call
  Ordered : (room : ℕ) (endpoint : EndpointAddress) (order : Order) → Call
  IsStalled : (endpoint : EndpointAddress) → Call
  IsEnabled : (endpoint : EndpointAddress) → Call
  Raise : (event : ℕ) → Call
  Poll : Call
  Wakeup : (room : ℕ) → Call
  Begin : (room : ℕ) (endpoint : EndpointAddress) (piece : Piece) → Call
  Take : (endpoint : EndpointAddress) → Call
  Abandon : (room : ℕ) (endpoint : EndpointAddress) → Call
  -- the caller's bytes, and how many the endpoint's own buffer has
  Send : (room e : ℕ) (request : MoveRequest) (bytes : List ℕ) (own : ℕ) → Call
  -- how many bytes each has
  Sent : (e : ℕ) (request : MoveRequest) (bytes own : ℕ) → Call
  Receive : (room e : ℕ) (request : MoveRequest) (bytes own : ℕ) → Call
  -- how many bytes the caller has room for, and those of the own buffer
  Received : (e : ℕ) (request : MoveRequest) (bytes : ℕ) (own : List ℕ) → Call
  Setup : Call
  DataOut : (room g : ℕ) → Call
  -- the caller's bytes; where EP0's buffer lies and how many bytes it has
  DataIn : (room g : ℕ) (bytes : List ℕ) (address ep0 : ℕ) (first last : Bool) → Call
  Accept : (room g : ℕ) → Call
  AcceptAddress : (room g address : ℕ) → Call
  Reject : (room g : ℕ) → Call
  -- how many bytes the caller has room for; EP0's buffer, and where it lies
  TakeOut : (g out : ℕ) (ep0 : List ℕ) (address : ℕ) → Call
  TakeIn : (g : ℕ) → Call
  Interrupt : (room : ℕ) → Call
  Answer : (room : ℕ) (reading : Reading) → Call

-- what a call gives where it isn't refused
abbrev pub Gives : Call → Type 0
Gives (Start driver size) = Unit
Gives (PowerOn room revision) = Unit
Gives (PowerOff room) = Unit
Gives (Ordered room endpoint order) = Unit
Gives (IsStalled endpoint) = Bool
Gives (IsEnabled endpoint) = Bool
Gives (Raise event) = Unit
Gives Poll = Option Event
Gives (Wakeup room) = Unit
Gives (Begin room endpoint piece) = Unit
Gives (Take endpoint) = Option ℕ
Gives (Abandon room endpoint) = ℕ
Gives (Send room e request bytes own) = Move
Gives (Sent e request bytes own) = Move
Gives (Receive room e request bytes own) = Move
Gives (Received e request bytes own) = Move
Gives Setup = Option Fetched
Gives (DataOut room g) = Stage
Gives (DataIn room g bytes address ep0 first last) = Stage
Gives (Accept room g) = Stage
Gives (AcceptAddress room g address) = Stage
Gives (Reject room g) = Stage
Gives (TakeOut g out ep0 address) = Option ℕ
Gives (TakeIn g) = Option ℕ
Gives (Interrupt room) = Option Awaiting
Gives (Answer room reading) = Option Awaiting

abbrev pub Answers : Call → Type 0
Answers c = Result (Gives c) Refusal
