-- The refusals that the conditions of each call name.
-- Assumes nothing.
use Rattle.std.specs.Prelude.{ℕ, ◌≤◌, Bool, true, false, ◌&&◌, List, [], ◌∷◌, ◌≡◌, refl, nat_lt}
use Rattle.std.proofs.lemmas.Bool.{le-ltb}
use Rattle.state.specs.declared.Refusal.{Refusal}
use Rattle.state.specs.declared.Refusal.TheVariants.{MemoryOutsideRam, MemoryTooSmall, UnfitPacketSize, UnfitBurst, WrongDirection, ControlPacketSize, NoDataEndpoint, UnfitBuffer, TooLong, ListTooShort, OutOfRange, NoFreeEndpoint, NoRoom, Disabled, InHand, OutOfTurn, NotSuspended, Unsound}
use Rattle.state.specs.Refusals.{◌if◌}
use Rattle.state_slots.specs.Slots.{slot_number}
use Rattle.endpoint_choice.specs.Choice.{any_length}
use Rattle.usbss.specs.Call.{World, Call, Start, PowerOn, PowerOff, Ordered, IsStalled, IsEnabled, Raise, Poll, Wakeup, Begin, Take, Abandon, Send, Sent, Receive, Received, Setup, DataOut, DataIn, Accept, AcceptAddress, Reject, TakeOut, TakeIn, Interrupt, Answer}
use Rattle.bus_endpoint.specs.declared.Order.TheVariants.{Stall, Enable}
use Rattle.tool_refusals.specs.declared.Function.{Function}
use Rattle.tool_refusals.specs.declared.Function.TheVariants as function
use Rattle.tool_refusals.specs.Tested.{function_of, conditions, Named, end, named, never, Counted}

-- what comes before a function's own: where it is lent a list, and where it isn't
abbrev lent : List Refusal → List Refusal
lent own = ListTooShort ∷ Unsound ∷ OutOfTurn ∷ own

abbrev unlent : List Refusal → List Refusal
unlent own = Unsound ∷ OutOfTurn ∷ own

-- the lists of the code
abbrev pub listed : Function → List Refusal
listed function.New = MemoryOutsideRam ∷ MemoryTooSmall ∷ []
listed function.Allocate = Unsound ∷ UnfitPacketSize ∷ UnfitBurst ∷ WrongDirection ∷ NoFreeEndpoint ∷ NoRoom ∷ []
listed function.Start = unlent (ControlPacketSize ∷ [])
listed function.PowerOn = lent (OutOfRange ∷ Disabled ∷ [])
listed function.PowerOff = lent []
listed function.Wakeup = lent (NotSuspended ∷ [])
listed function.EndpointSetEnabled = lent []
listed function.EndpointSetStalled = lent []
listed function.IsEnabled = unlent []
listed function.IsStalled = unlent []
listed function.Raise = unlent (OutOfRange ∷ [])
listed function.Poll = unlent []
listed function.Begin = lent (NoDataEndpoint ∷ Disabled ∷ InHand ∷ UnfitBuffer ∷ [])
listed function.Take = unlent (NoDataEndpoint ∷ Disabled ∷ [])
listed function.Abandon = lent (NoDataEndpoint ∷ [])
listed function.Send = lent (NoDataEndpoint ∷ TooLong ∷ Disabled ∷ InHand ∷ UnfitBuffer ∷ [])
listed function.Sent = unlent (NoDataEndpoint ∷ Disabled ∷ UnfitBuffer ∷ [])
listed function.Receive = lent (NoDataEndpoint ∷ Disabled ∷ InHand ∷ UnfitBuffer ∷ [])
listed function.Received = unlent (NoDataEndpoint ∷ Disabled ∷ UnfitBuffer ∷ TooLong ∷ [])
listed function.Setup = unlent []
listed function.DataOut = lent (Disabled ∷ [])
listed function.DataIn = lent (TooLong ∷ Disabled ∷ UnfitBuffer ∷ [])
listed function.TakeOut = unlent (Disabled ∷ UnfitBuffer ∷ TooLong ∷ [])
listed function.TakeIn = unlent (Disabled ∷ [])
listed function.Accept = lent (Disabled ∷ [])
listed function.AcceptAddress = lent (Disabled ∷ [])
listed function.Reject = lent []
listed function.Interrupt = lent []
listed function.Answer = lent (OutOfRange ∷ [])

-- 9 is never due where any number of bytes will do
any_fits : (b : Bool) (n : ℕ) → n ≤ any_length → (b && nat_lt any_length n) ≡ false
any_fits true n h = le-ltb any_length n h
any_fits false n h = refl

-- the last one
pub one : {r : Refusal} {b : Bool} → Named ((r if b) ∷ []) (r ∷ [])
one = named end

pub each_named : (w : World) → Counted w → (c : Call) → Named (conditions w c) (listed (function_of c))
each_named w k (Start driver size) = named (named one)
each_named w k (PowerOn room revision) = named (named (named (named one)))
each_named w k (PowerOff room) = named (named one)
each_named w k (Ordered room endpoint (Stall stalled)) = named (named one)
each_named w k (Ordered room endpoint (Enable enabled)) = named (named one)
each_named w k (IsStalled endpoint) = named one
each_named w k (IsEnabled endpoint) = named one
each_named w k (Raise event) = named (named one)
each_named w k Poll = named one
each_named w k (Wakeup room) = named (named (named one))
each_named w k (Begin room endpoint piece) = named (named (named (named (never refl (named (named one))))))
each_named w k (Take endpoint) = named (named (named (named (never refl (never (any_fits _ _ (k (slot_number endpoint.index endpoint.incoming))) end)))))
each_named w k (Abandon room endpoint) = named (named (named one))
each_named w k (Send room e request bytes own) = named (named (named (named (named (named (named one))))))
each_named w k (Sent e request bytes own) = named (named (named (named (named (never (any_fits _ _ (k (slot_number e true))) end)))))
each_named w k (Receive room e request bytes own) = named (named (named (named (never refl (named (named one))))))
each_named w k (Received e request bytes own) = named (named (named (named (named one))))
each_named w k Setup = named one
each_named w k (DataOut room g) = named (named (named one))
each_named w k (DataIn room g bytes address ep0 first last) = named (named (named (named (named one))))
each_named w k (Accept room g) = named (named (named one))
each_named w k (AcceptAddress room g address) = named (named (named one))
each_named w k (Reject room g) = named (named one)
each_named w k (TakeOut g out ep0 address) = named (named (named (named one)))
each_named w k (TakeIn g) = named (named (named (never refl end)))
each_named w k (Interrupt room) = named (named one)
each_named w k (Answer room reading) = named (named (named one))
