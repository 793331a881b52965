-- Every call of an interrupt, refused or not, asks for the reading that follows: in any world, and in each row of a list of calls.
-- Assumes nothing.
use Rattle.std.specs.Prelude.{Bool, true, false, refl, List, [], ◌∷◌, Option, Result}
use Rattle.std.proofs.Common.{sym, subst}
use Rattle.state.specs.declared.Awaiting.{Awaiting}
use Rattle.state.specs.declared.Refusal.{Refusal}
use Rattle.state.specs.declared.State.{State}
use Rattle.state.specs.declared.Events.{Events}
use Rattle.state_call.specs.Outcome.{Outcome}
use Rattle.state_call.specs.OutcomeLaws.{or_either}
use Rattle.interrupt_asks.specs.Settled.{settled}
use Rattle.interrupt_begin.specs.Begin.{first_awaited, interrupt_call}
use Rattle.interrupt.specs.Interrupt.{answer_call}
use Rattle.usbss.specs.Call.{World, Call, Start, PowerOn, PowerOff, Ordered, IsStalled, IsEnabled, Raise, Poll, Wakeup, Begin, Take, Abandon, Send, Sent, Receive, Received, Setup, DataOut, DataIn, Accept, AcceptAddress, Reject, TakeOut, TakeIn, Interrupt, Answer}
use Rattle.usbss.specs.Step.{step}
use Rattle.history_rows.specs.Rows.{left_by, rows}
use Rattle.history_rows.specs.Memory.{Memory, memory_of}
use Rattle.history_memory.specs.Sequence.{first_reading, follows}
use Rattle.history_memory.specs.Asked.{AsksFor, AsksNext, EachAsks}
use Rattle.history_memory.proofs.NotedLaws.{tested_leads}
use Rattle.history_memory.proofs.MemoryLaws.{memory_step}

-- the link's flags are asked first, of a device that is on
begun_asks : (b : Bool) (s : State) (v : Events) → AsksFor (first_reading b) (settled s v (first_awaited b) []).answer
unfolding settled
begun_asks true s v = refl
begun_asks false s v = refl

-- What an interrupt's call answers is the reading that follows what was remembered before it.
pub asks_step : (w : World) (c : Call) → AsksNext (memory_of w.state) c (step w c).answer
unfolding step AsksNext interrupt_call answer_call
asks_step w (Start driver size) = tt
asks_step w (PowerOn room revision) = tt
asks_step w (PowerOff room) = tt
asks_step w (Ordered room at order) = tt
asks_step w (IsStalled at) = tt
asks_step w (IsEnabled at) = tt
asks_step w (Raise event) = tt
asks_step w Poll = tt
asks_step w (Wakeup room) = tt
asks_step w (Begin room at piece) = tt
asks_step w (Take at) = tt
asks_step w (Abandon room at) = tt
asks_step w (Send room e request bytes own) = tt
asks_step w (Sent e request bytes own) = tt
asks_step w (Receive room e request bytes own) = tt
asks_step w (Received e request bytes own) = tt
asks_step w Setup = tt
asks_step w (DataOut room g) = tt
asks_step w (DataIn room g bytes address ep0 first last) = tt
asks_step w (Accept room g) = tt
asks_step w (AcceptAddress room g address) = tt
asks_step w (Reject room g) = tt
asks_step w (TakeOut g out ep0 address) = tt
asks_step w (TakeIn g) = tt
asks_step w (Interrupt room) =
    or_either {B = Outcome (Result (Option Awaiting) Refusal)} (λ u. AsksFor (first_reading w.state.powered) u.answer) _ _ _ (λ r h. tt) (λ h. begun_asks w.state.powered w.state w.events)
asks_step w (Answer room r) =
    let next = follows w.state.revision w.state.awaited r in
    or_either {B = Outcome (Result (Option Awaiting) Refusal)} (λ u. AsksFor next u.answer) _ _ _ (λ q h. tt)
    (λ h. subst (AsksFor next) (sym (tested_leads room w.state w.events r h).0) refl)

-- So does each call of a list: by the rows before it, whatever world they start in.
pub every_asks : (w : World) (cs : List Call) → EachAsks (memory_of w.state) (rows w cs)
unfolding EachAsks rows
every_asks w [] = tt
every_asks w (c ∷ cs) =
    let next = left_by (step w c) in
    (asks_step w c, subst (λ (m : Memory). EachAsks m (rows next cs)) (memory_step w c) (every_asks next cs))
