-- What each function of the driver tests for, by the definition of its call: the conditions, and the refusals that they name.
-- Assumes nothing.
use Rattle.std.specs.Prelude.{ℕ, ◌≤◌, Bool, true, false, ◌&&◌, not, List, [], ◌∷◌, ◌++◌, ◌≡◌, length, nat_lt, Contains, Result, Ok, Err}
use Rattle.state.specs.declared.Slot.{Slot}
use Rattle.state.specs.declared.Driver.{Driver}
use Rattle.state.specs.declared.EndpointRequest.{EndpointRequest}
use Rattle.state.specs.declared.Refusal.{Refusal}
use Rattle.state.specs.declared.Refusal.TheVariants.{TooLong}
use Rattle.state.specs.Fresh.{slot_at}
use Rattle.state.specs.Refusals.{Check, Condition, ◌if◌, first_refusal}
use Rattle.state_slots.specs.Slots.{busyb, slot_of}
use Rattle.driver_new.specs.New.{new_conditions, new_result}
use Rattle.driver_allocate.specs.Allocate.{allocate_conditions, allocate_result}
use Rattle.driver_start.specs.Start.{start_conditions}
use Rattle.bus_endpoint.specs.declared.Order.{Order}
use Rattle.bus_endpoint.specs.declared.Order.TheVariants.{Stall, Enable}
use Rattle.bus_power_on.specs.PowerOn.{on_conditions}
use Rattle.bus_power_off.specs.PowerOff.{off_conditions}
use Rattle.bus_order.specs.Order.{order_conditions}
use Rattle.bus_query.specs.Query.{query_conditions}
use Rattle.bus_events.specs.Raise.{raise_conditions}
use Rattle.bus_events.specs.Poll.{poll_conditions}
use Rattle.bus_wakeup.specs.Wakeup.{wakeup_conditions}
use Rattle.transfer_begin.specs.Begin.{begin_conditions}
use Rattle.transfer_take.specs.Take.{take_conditions}
use Rattle.transfer_abandon.specs.Abandon.{abandon_conditions}
use Rattle.endpoint_choice.specs.Choice.{asked_of, own_unfit, any_length}
use Rattle.endpoint_send.specs.Send.{send_conditions}
use Rattle.endpoint_receive.specs.Receive.{receive_conditions}
use Rattle.endpoint_received.specs.Received.{receive_most}
use Rattle.control_stage.specs.Stage.{ep0_unfit}
use Rattle.control_setup.specs.Setup.{setup_conditions}
use Rattle.control_out.specs.DataOut.{data_out_conditions}
use Rattle.control_in.specs.DataIn.{data_in_conditions}
use Rattle.control_accept.specs.Accept.{accept_conditions, address_conditions}
use Rattle.control_reject.specs.Reject.{reject_conditions}
use Rattle.control_take.specs.Take.{doneb, take_in_conditions}
use Rattle.control_take_out.specs.TakeOut.{overflows, take_out_conditions}
use Rattle.interrupt_begin.specs.Begin.{interrupt_conditions}
use Rattle.interrupt.specs.Interrupt.{answer_conditions}
use Rattle.usbss.specs.Call.{World, Call, Start, PowerOn, PowerOff, Ordered, IsStalled, IsEnabled, Raise, Poll, Wakeup, Begin, Take, Abandon, Send, Sent, Receive, Received, Setup, DataOut, DataIn, Accept, AcceptAddress, Reject, TakeOut, TakeIn, Interrupt, Answer}
use Rattle.usbss.specs.Step.{step}
use Rattle.tool_refusals.specs.declared.Function.{Function}
use Rattle.tool_refusals.specs.declared.Function.TheVariants as function

-- each value stands in the list
abbrev pub Everything : {A : Type 0} → List A → Type 0
Everything {A} l = (x : A) → Contains l x

abbrev pub all_numbers : List ℕ
all_numbers = 1 ∷ 2 ∷ 3 ∷ 4 ∷ 5 ∷ 6 ∷ 7 ∷ 8 ∷ 9 ∷ 10 ∷ 11 ∷ 20 ∷ 21 ∷ 22 ∷ 23 ∷ 24 ∷ 25 ∷ 26 ∷ []

-- the function that makes a call
abbrev pub order_function : Order → Function
order_function (Stall stalled) = function.EndpointSetStalled
order_function (Enable enabled) = function.EndpointSetEnabled

abbrev pub function_of : Call → Function
function_of (Start driver size) = function.Start
function_of (PowerOn room revision) = function.PowerOn
function_of (PowerOff room) = function.PowerOff
function_of (Ordered room endpoint order) = order_function order
function_of (IsStalled endpoint) = function.IsStalled
function_of (IsEnabled endpoint) = function.IsEnabled
function_of (Raise event) = function.Raise
function_of Poll = function.Poll
function_of (Wakeup room) = function.Wakeup
function_of (Begin room endpoint piece) = function.Begin
function_of (Take endpoint) = function.Take
function_of (Abandon room endpoint) = function.Abandon
function_of (Send room e request bytes own) = function.Send
function_of (Sent e request bytes own) = function.Sent
function_of (Receive room e request bytes own) = function.Receive
function_of (Received e request bytes own) = function.Received
function_of Setup = function.Setup
function_of (DataOut room g) = function.DataOut
function_of (DataIn room g bytes address ep0 first last) = function.DataIn
function_of (Accept room g) = function.Accept
function_of (AcceptAddress room g address) = function.AcceptAddress
function_of (Reject room g) = function.Reject
function_of (TakeOut g out ep0 address) = function.TakeOut
function_of (TakeIn g) = function.TakeIn
function_of (Interrupt room) = function.Interrupt
function_of (Answer room reading) = function.Answer

-- A take looks at what came once its tests are passed: 9 where a transfer that is done, or a stage, has more than the caller
-- has room for.
abbrev pub came_conditions : Slot → ℕ → List Condition
came_conditions x most = TooLong if (not (busyb x.phase) && nat_lt most x.transfer.progress) ∷ []

abbrev pub stage_conditions : Slot → ℕ → List Condition
stage_conditions x room = TooLong if (doneb x.phase && overflows x.transfer.progress room) ∷ []

-- the conditions of a call, in the sequence of their tests: those of its own definition
abbrev pub conditions : World → Call → List Condition
conditions w (Start driver size) = start_conditions w.state w.events driver size
conditions w (PowerOn room revision) = on_conditions room w.state w.events revision
conditions w (PowerOff room) = off_conditions room w.state w.events
conditions w (Ordered room endpoint order) = order_conditions room w.state w.events
conditions w (IsStalled endpoint) = query_conditions w.state w.events
conditions w (IsEnabled endpoint) = query_conditions w.state w.events
conditions w (Raise event) = raise_conditions w.state w.events event
conditions w Poll = poll_conditions w.state w.events
conditions w (Wakeup room) = wakeup_conditions room w.state w.events
conditions w (Begin room endpoint piece) = begin_conditions room w.state w.events endpoint.index endpoint.incoming piece false false
conditions w (Take endpoint) =
    take_conditions w.state w.events endpoint.index endpoint.incoming false
    ++ came_conditions (slot_of w.state endpoint.index endpoint.incoming) any_length
conditions w (Abandon room endpoint) = abandon_conditions room w.state w.events endpoint.index
conditions w (Send room e request bytes own) = send_conditions room w.state w.events e (asked_of request (length bytes)) request.own_address own
conditions w (Sent e request bytes own) =
    take_conditions w.state w.events e true (own_unfit (slot_of w.state e true) request.own_address own)
    ++ came_conditions (slot_of w.state e true) any_length
conditions w (Receive room e request bytes own) = receive_conditions room w.state w.events e (asked_of request bytes) request.own_address own
conditions w (Received e request bytes own) =
    take_conditions w.state w.events e false (own_unfit (slot_of w.state e false) request.own_address (length own))
    ++ came_conditions (slot_of w.state e false) (receive_most (slot_of w.state e false) (asked_of request bytes) (length own))
conditions w Setup = setup_conditions w.state w.events
conditions w (DataOut room g) = data_out_conditions room w.state w.events g
conditions w (DataIn room g bytes address ep0 first last) = data_in_conditions room w.state w.events g (length bytes) (ep0_unfit w.state address ep0)
conditions w (Accept room g) = accept_conditions room w.state w.events g
conditions w (AcceptAddress room g address) = address_conditions room w.state w.events g address
conditions w (Reject room g) = reject_conditions room w.state w.events
conditions w (TakeOut g out ep0 address) =
    take_out_conditions w.state w.events g (ep0_unfit w.state address (length ep0)) ++ stage_conditions (slot_at w.state 0) out
conditions w (TakeIn g) = take_in_conditions w.state w.events g
conditions w (Interrupt room) = interrupt_conditions room w.state w.events
conditions w (Answer room reading) = answer_conditions room w.state w.events reading

-- The refusals that conditions name, each in its place. One whose condition never holds is left out.
pub data Named : List Condition → List Refusal → Type 0 where
  end : Named [] []
  named : {r : Refusal} {b : Bool} {ds : List Condition} {rs : List Refusal} → Named ds rs → Named ((r if b) ∷ ds) (r ∷ rs)
  never : {r : Refusal} {b : Bool} {ds : List Condition} {rs : List Refusal} → b ≡ false → Named ds rs → Named ((r if b) ∷ ds) rs

-- what an answer has for the tests
abbrev pub check_of : {A : Type 0} → Result A Refusal → Check
check_of (Ok a) = Ok tt
check_of (Err r) = Err r

-- An answer is the first of the conditions that is due, and these name the refusals rs.
pub record TestedFor {A : Type 0} (answer : Result A Refusal) (ds : List Condition) (rs : List Refusal) : Type 0 where
  pub first : check_of answer ≡ first_refusal ds
  pub names : Named ds rs

-- the bytes of each transfer are a number of 32 bits, as in every state of the code
abbrev pub Counted : World → Type 0
Counted w = (i : ℕ) → (slot_at w.state i).transfer.progress ≤ any_length

-- some call of a function is refused with r
pub data Refused (f : Function) (r : Refusal) : Type 0 where
  by_new : f ≡ function.New → (address length : ℕ) → check_of (new_result address length) ≡ Err r → Refused f r
  by_allocate : f ≡ function.Allocate → (d : Driver) (incoming : Bool) (q : EndpointRequest) → check_of (allocate_result d incoming q).answer ≡ Err r → Refused f r
  by_call : (w : World) (c : Call) → function_of c ≡ f → check_of (step w c).answer ≡ Err r → Refused f r

-- for each of several, some call is
pub data EachRefused (f : Function) : List Refusal → Type 0 where
  none : EachRefused f []
  more : {r : Refusal} {rs : List Refusal} → Refused f r → EachRefused f rs → EachRefused f (r ∷ rs)

-- A function tests for the refusals rs, in this sequence, whatever it is called with, and each of them is given.
pub record Tests (f : Function) (rs : List Refusal) : Type 0 where
  pub made : f ≡ function.New → (address length : ℕ) → TestedFor (new_result address length) (new_conditions address length) rs
  pub allocated : f ≡ function.Allocate → (d : Driver) (incoming : Bool) (r : EndpointRequest)
      → TestedFor (allocate_result d incoming r).answer (allocate_conditions d incoming r) rs
  pub called : (w : World) → Counted w → (c : Call) → function_of c ≡ f → TestedFor (step w c).answer (conditions w c) rs
  pub given : EachRefused f rs
