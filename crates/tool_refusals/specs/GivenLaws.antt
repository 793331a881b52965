-- Each refusal that a function tests for is given by some call of it.
-- Assumes nothing.
use Rattle.std.specs.Prelude.{ℕ, Bool, true, false, List, [], ◌∷◌, ◌++◌, ◌≡◌, refl, map, replicate, Option, Some, None, Err}
use Rattle.std.proofs.Common.{◌∙◌}
use Rattle.base.specs.Each.{every}
use Rattle.state.specs.declared.Awaiting.{Awaiting}
use Rattle.state.specs.declared.Awaiting.TheVariants as awaiting
use Rattle.state.specs.declared.Driver.{Driver}
use Rattle.state.specs.declared.EndpointAddress.{EndpointAddress}
use Rattle.state.specs.declared.EndpointRequest.{EndpointRequest}
use Rattle.state.specs.declared.EndpointType.{EndpointType}
use Rattle.state.specs.declared.EndpointType.TheVariants as kind
use Rattle.state.specs.declared.Events.{Events}
use Rattle.state.specs.declared.Phase.{Phase}
use Rattle.state.specs.declared.Phase.TheVariants.{Idle, Done}
use Rattle.state.specs.declared.Reading.TheVariants as reading
use Rattle.state.specs.declared.Refusal.{Refusal}
use Rattle.state.specs.declared.Slot.{Slot}
use Rattle.state.specs.declared.Transfer.{Transfer}
use Rattle.state.specs.Fresh.{fresh_slot, fresh_state, nothing_awaited}
use Rattle.state.specs.Refusals.{Check, first_refusal}
use Rattle.state.specs.Setters.{with_slot}
use Rattle.state_sound.specs.Sound.{soundb, driver_soundb}
use Rattle.driver_new.specs.New.{no_driver, new_driver}
use Rattle.driver_allocate.specs.Rules.{lowest}
use Rattle.driver_allocate.specs.Allocate.{allocate_conditions}
use Rattle.bus_endpoint.specs.declared.Order.TheVariants.{Stall, Enable}
use Rattle.transfer_piece.specs.Piece.{piece}
use Rattle.endpoint_choice.specs.declared.MoveRequest.{MoveRequest}
use Rattle.usbss.specs.Call.{World, Call, Start, PowerOn, PowerOff, Ordered, IsStalled, IsEnabled, Raise, Poll, Wakeup, Begin, Take, Abandon, Send, Sent, Receive, Received, Setup, DataOut, DataIn, Accept, AcceptAddress, Reject, TakeOut, TakeIn, Interrupt, Answer}
use Rattle.usbss.specs.Step.{world}
use Rattle.tool_refusals.specs.declared.Function.{Function}
use Rattle.tool_refusals.specs.declared.Function.TheVariants as function
use Rattle.tool_refusals.specs.Tested.{function_of, conditions, Refused, by_new, by_allocate, by_call, EachRefused, none, more}
use Rattle.tool_refusals.specs.NamedLaws.{listed}
use Rattle.tool_refusals.specs.FirstLaws.{new_first, allocate_first, each_first}

-- nothing is pending; SUSPEND and RESUME are, which no state is sound with
abbrev quiet : Events
quiet = record { events = 0 }

abbrev clashing : Events
clashing = record { events = 6 }

-- a device that was never started; one that is unsound; one that is on and awaits a reading
abbrev cold : World
cold = world fresh_state quiet

abbrev broken : World
broken = world fresh_state clashing

abbrev asking : Awaiting → World
asking a = world (record fresh_state { powered = true; awaited = record nothing_awaited { next = Some a } }) quiet

-- a device that is on, with packets of one byte on endpoint 1, each slot idle or done with a byte
abbrev one_byte : Transfer
one_byte = record { address = 0x200A0000; length = 1; progress = 1; zlp = false }

abbrev set_up : Bool → Phase → Slot
set_up incoming phase =
    record fresh_slot {
      enabled = true;
      phase = phase;
      config =
          Some
          (record {
            endpoint = record { index = 1; incoming = incoming };
            ep_type = kind.Interrupt;
            max_packet_size = 1;
            interval_ms = 1;
            max_burst = 0;
            buffer = record { address = 0x200A0000; size = 1 };
          });
      transfer = one_byte;
    }

abbrev on : Phase → World
on phase =
    world
    (with_slot (with_slot (with_slot (record fresh_state { powered = true }) 0 (record fresh_slot { phase = phase; transfer = one_byte })) 2 (set_up false phase)) 3 (set_up true phase))
    quiet

abbrev out_of : ℕ → EndpointAddress
out_of e = record { index = e; incoming = false }

-- a send or receive, with the own buffer said to lie at an address
abbrev moving : Bool → ℕ → MoveRequest
moving single own = record { single = single; needs_zlp = false; address = 0; own_address = own; position = 0 }

-- calls that are refused by what every call tests for: of one that is lent a list with so much room, and of one that isn't
abbrev lent_by : (ℕ → Call) → List (World × Call)
lent_by call = (cold, call 0) ∷ (broken, call 640) ∷ (asking awaiting.LinkFlags, call 640) ∷ []

abbrev unlent_by : Call → List (World × Call)
unlent_by call = (broken, call) ∷ (asking awaiting.LinkFlags, call) ∷ []

abbrev samples : Function → List (World × Call)
samples function.New = []
samples function.Allocate = []
samples function.Start = unlent_by (Start (new_driver 0x200A0000 512) 512) ++ (cold, Start (new_driver 0x200A0000 512) 0) ∷ []
samples function.PowerOn = lent_by (λ room. PowerOn room 0) ++ (cold, PowerOn 640 16) ∷ (cold, PowerOn 640 0) ∷ []
samples function.PowerOff = lent_by PowerOff
samples function.Wakeup = lent_by Wakeup ++ (cold, Wakeup 640) ∷ []
samples function.EndpointSetEnabled = lent_by (λ room. Ordered room (out_of 1) (Enable true))
samples function.EndpointSetStalled = lent_by (λ room. Ordered room (out_of 1) (Stall true))
samples function.IsEnabled = unlent_by (IsEnabled (out_of 1))
samples function.IsStalled = unlent_by (IsStalled (out_of 1))
samples function.Raise = unlent_by (Raise 1) ++ (cold, Raise 0) ∷ []
samples function.Poll = unlent_by Poll
samples function.Begin =
    lent_by (λ room. Begin room (out_of 1) (piece 0 0 false))
    ++ (cold, Begin 640 (out_of 0) (piece 0 0 false))
    ∷ (cold, Begin 640 (out_of 1) (piece 0 0 false))
    ∷ (on Done, Begin 640 (out_of 1) (piece 0 0 false))
    ∷ (on Idle, Begin 640 (out_of 1) (piece 0 0 false))
    ∷ []
samples function.Take = unlent_by (Take (out_of 1)) ++ (cold, Take (out_of 0)) ∷ (cold, Take (out_of 1)) ∷ []
samples function.Abandon = lent_by (λ room. Abandon room (out_of 1)) ++ (cold, Abandon 640 (out_of 0)) ∷ []
samples function.Send =
    lent_by (λ room. Send room 1 (moving true 0) [] 0)
    ++ (cold, Send 640 0 (moving true 0) [] 0)
    ∷ (on Idle, Send 640 1 (moving true 0) (0 ∷ 0 ∷ []) 0)
    ∷ (cold, Send 640 1 (moving true 0) [] 0)
    ∷ (on Done, Send 640 1 (moving true 0) [] 0)
    ∷ (on Idle, Send 640 1 (moving true 0) [] 0)
    ∷ []
samples function.Sent = unlent_by (Sent 1 (moving true 0) 0 0) ++ (cold, Sent 0 (moving true 0) 0 0) ∷ (cold, Sent 1 (moving true 0) 0 0) ∷ (on Done, Sent 1 (moving true 0) 0 0) ∷ []
samples function.Receive =
    lent_by (λ room. Receive room 1 (moving true 0) 0 0)
    ++ (cold, Receive 640 0 (moving true 0) 0 0)
    ∷ (cold, Receive 640 1 (moving true 0) 0 0)
    ∷ (on Done, Receive 640 1 (moving true 0) 0 0)
    ∷ (on Idle, Receive 640 1 (moving true 0) 0 0)
    ∷ []
samples function.Received =
    unlent_by (Received 1 (moving true 0) 0 [])
    ++ (cold, Received 0 (moving true 0) 0 [])
    ∷ (cold, Received 1 (moving true 0) 0 [])
    ∷ (on Done, Received 1 (moving true 0) 0 [])
    ∷ (on Done, Received 1 (moving true 0x200A0000) 0 (0 ∷ []))
    ∷ []
samples function.Setup = unlent_by Setup
samples function.DataOut = lent_by (λ room. DataOut room 0) ++ (cold, DataOut 640 0) ∷ []
samples function.DataIn =
    lent_by (λ room. DataIn room 0 [] 0 0 true true)
    ++ (cold, DataIn 640 0 (replicate 513 0) 0 0 true true)
    ∷ (cold, DataIn 640 0 [] 0 0 true true)
    ∷ (on Idle, DataIn 640 0 [] 0 0 true true)
    ∷ []
samples function.TakeOut = unlent_by (TakeOut 0 0 [] 0) ++ (cold, TakeOut 0 0 [] 0) ∷ (on Done, TakeOut 0 0 [] 0) ∷ (on Done, TakeOut 0 0 (replicate 512 0) 0) ∷ []
samples function.TakeIn = unlent_by (TakeIn 0) ++ (cold, TakeIn 0) ∷ []
samples function.Accept = lent_by (λ room. Accept room 0) ++ (cold, Accept 640 0) ∷ []
samples function.AcceptAddress = lent_by (λ room. AcceptAddress room 0 1) ++ (cold, AcceptAddress 640 0 1) ∷ []
samples function.Reject = lent_by (λ room. Reject room 0)
samples function.Interrupt = lent_by Interrupt
samples function.Answer =
    (cold, Answer 0 (reading.PortCapability true))
    ∷ (broken, Answer 640 (reading.PortCapability true))
    ∷ (cold, Answer 640 (reading.PortCapability true))
    ∷ (asking awaiting.Ep0Length, Answer 640 (reading.Ep0Length 513))
    ∷ []

-- what the samples come to, by their conditions
abbrev come_to : List (World × Call) → List Check
come_to ps = map (λ (p : World × Call). first_refusal (conditions p.0 p.1)) ps

abbrev are_of : List (World × Call) → List Function
are_of ps = map (λ (p : World × Call). function_of p.1) ps

shown : (f : Function) (ps : List (World × Call)) (rs : List Refusal) → come_to ps ≡ map Err rs → are_of ps ≡ map (λ (r : Refusal). f) rs → EachRefused f rs
shown f [] [] h k = none
shown f [] (r ∷ rs) h k = absurd (cc)
shown f (p ∷ ps) [] h k = absurd (cc)
shown f (p ∷ ps) (r ∷ rs) h k =
    let e : first_refusal (conditions p.0 p.1) ≡ Err r = cc in
    let o : function_of p.1 ≡ f = cc in
    let hs : come_to ps ≡ map Err rs = cc in
    let ks : are_of ps ≡ map (λ (q : Refusal). f) rs = cc in
    more (by_call p.0 p.1 o (each_first p.0 p.1 ∙ e)) (shown f ps rs hs ks)

-- a driver without room for more than endpoint 0, and requests of it
abbrev small : Driver
small = new_driver 0x200A0000 512

abbrev asked : Option EndpointAddress → EndpointType → ℕ → EndpointRequest
asked address ep_type burst = record { endpoint = address; ep_type = ep_type; max_packet_size = 1024; interval_ms = 0; max_burst = burst; max_streams = 0; mult = 0 }

new_given : EachRefused function.New (listed function.New)
new_given =
    more (by_new refl 0 0 (new_first 0 0))
    (more (by_new refl 0x200A0000 0 (new_first 0x200A0000 0)) none)

allocating : (d : Driver) (q : EndpointRequest) (r : Refusal) → first_refusal (allocate_conditions d false q) ≡ Err r → Refused function.Allocate r
allocating d q r e = by_allocate refl d false q (allocate_first d false q ∙ e)

allocate_given : EachRefused function.Allocate (listed function.Allocate)
unfolding every driver_soundb lowest
allocate_given =
    more (allocating no_driver (asked None kind.Bulk 0) _ refl)
    (more (allocating small (asked None kind.Control 0) _ refl)
    (more (allocating small (asked None kind.Bulk 16) _ refl)
    (more (allocating small (asked (Some (record { index = 1; incoming = true })) kind.Bulk 0) _ refl)
    (more (allocating small (asked (Some (out_of 0)) kind.Bulk 0) _ refl)
    (more (allocating small (asked None kind.Bulk 0) _ refl) none)))))

pub each_given : (f : Function) → EachRefused f (listed f)
unfolding every soundb driver_soundb
each_given function.New = new_given
each_given function.Allocate = allocate_given
each_given function.Start = shown function.Start (samples function.Start) (listed function.Start) refl refl
each_given function.PowerOn = shown function.PowerOn (samples function.PowerOn) (listed function.PowerOn) refl refl
each_given function.PowerOff = shown function.PowerOff (samples function.PowerOff) (listed function.PowerOff) refl refl
each_given function.Wakeup = shown function.Wakeup (samples function.Wakeup) (listed function.Wakeup) refl refl
each_given function.EndpointSetEnabled = shown function.EndpointSetEnabled (samples function.EndpointSetEnabled) (listed function.EndpointSetEnabled) refl refl
each_given function.EndpointSetStalled = shown function.EndpointSetStalled (samples function.EndpointSetStalled) (listed function.EndpointSetStalled) refl refl
each_given function.IsEnabled = shown function.IsEnabled (samples function.IsEnabled) (listed function.IsEnabled) refl refl
each_given function.IsStalled = shown function.IsStalled (samples function.IsStalled) (listed function.IsStalled) refl refl
each_given function.Raise = shown function.Raise (samples function.Raise) (listed function.Raise) refl refl
each_given function.Poll = shown function.Poll (samples function.Poll) (listed function.Poll) refl refl
each_given function.Begin = shown function.Begin (samples function.Begin) (listed function.Begin) refl refl
each_given function.Take = shown function.Take (samples function.Take) (listed function.Take) refl refl
each_given function.Abandon = shown function.Abandon (samples function.Abandon) (listed function.Abandon) refl refl
each_given function.Send = shown function.Send (samples function.Send) (listed function.Send) refl refl
each_given function.Sent = shown function.Sent (samples function.Sent) (listed function.Sent) refl refl
each_given function.Receive = shown function.Receive (samples function.Receive) (listed function.Receive) refl refl
each_given function.Received = shown function.Received (samples function.Received) (listed function.Received) refl refl
each_given function.Setup = shown function.Setup (samples function.Setup) (listed function.Setup) refl refl
each_given function.DataOut = shown function.DataOut (samples function.DataOut) (listed function.DataOut) refl refl
each_given function.DataIn = shown function.DataIn (samples function.DataIn) (listed function.DataIn) refl refl
each_given function.TakeOut = shown function.TakeOut (samples function.TakeOut) (listed function.TakeOut) refl refl
each_given function.TakeIn = shown function.TakeIn (samples function.TakeIn) (listed function.TakeIn) refl refl
each_given function.Accept = shown function.Accept (samples function.Accept) (listed function.Accept) refl refl
each_given function.AcceptAddress = shown function.AcceptAddress (samples function.AcceptAddress) (listed function.AcceptAddress) refl refl
each_given function.Reject = shown function.Reject (samples function.Reject) (listed function.Reject) refl refl
each_given function.Interrupt = shown function.Interrupt (samples function.Interrupt) (listed function.Interrupt) refl refl
each_given function.Answer = shown function.Answer (samples function.Answer) (listed function.Answer) refl refl
